-- 01's example of a listing, its refusals and its empty input, and offsets below 0. Assumes nothing.
use Rattle.pages.specs.Pages.{layout_over, check_over}
use mathlib.Core.Path.{◌≡◌, refl, ap}
use mathlib.Core.List.{[], ◌∷◌, ◌++◌}
use Prim.Native.Nat.{◌<◌}
use native.Mathlib.Omega.{arith}
use lib.IntN.{negsuc}
use Rattle.names.specs.Ordering.{rising}
use Rattle.numbers.specs.Bytes.{Bytes}
use Rattle.answers.specs.Answers.{Answer}
use Rattle.std.specs.declared.result.Result.TheVariants.{Err}
use Rattle.answers.specs.declared.Refusal.TheVariants.{BadLayout, NotRising}
use Rattle.listing_text.specs.Ascii.{ascii}
use Rattle.listing_text.specs.Listing.{decimal, decimal_ℤ, tuple_text, name_text, line_text, header, book_text, refused_text, answer_text, check_input, listing}
use Rattle.listing_text.specs.Laws.{r0, r1, Cases}
use Rattle.listing_text.proofs.Digits.{digits_enough}

-- "For line 7 named r0 and line 12 named r1"
pub book : book_text (record { line = 7; name = r0 } ∷ record { line = 12; name = r1 } ∷ []) ≡ ascii "line depth name\n7 1 9.2.0.0\n12 2 9.2.0.0/6.1.0.0\n"
unfolding line_text name_text tuple_text decimal_ℤ decimal
book = refl

pub minus_one : tuple_text (record { position = 9; node = 1; sequence = 1; offset = negsuc 0 }) ≡ ascii "9.1.1.-1"
unfolding tuple_text decimal_ℤ decimal
minus_one = refl

pub largest : decimal 4294967295 ≡ ascii "4294967295"
largest = let h : 4294967295 < 10000000000 = omega arith in digits_enough 10 4294967295 h (omega arith)

pub least : decimal_ℤ (negsuc 2147483647) ≡ ascii "-2147483648"
unfolding decimal_ℤ
least = let h : 2147483648 < 10000000000 = omega arith in ap (λ (l : Bytes). ascii "-" ++ l) (digits_enough 10 2147483648 h (omega arith))

-- "Empty input gives the header"
pub empty : listing [] [] ≡ header
unfolding listing check_over layout_over rising
empty = refl

-- "A bad page gives only the line `refused 1` or `refused 2`"
pub refused_1 : (page rest : Bytes) → check_input page rest ≡ Err BadLayout → listing page rest ≡ ascii "refused 1\n"
unfolding listing refused_text decimal
refused_1 page rest e = ap (λ (a : Answer). answer_text a page) e

pub refused_2 : (page rest : Bytes) → check_input page rest ≡ Err NotRising → listing page rest ≡ ascii "refused 2\n"
unfolding listing refused_text decimal
refused_2 page rest e = ap (λ (a : Answer). answer_text a page) e

-- what specs/Laws.antt states
pub cases : Cases
cases = record {
  book = book;
  minus_one = minus_one;
  largest = largest;
  least = least;
  empty = empty;
  refused_1 = refused_1;
  refused_2 = refused_2;
}
