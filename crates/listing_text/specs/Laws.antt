-- 01's example of a listing and its other cases, and the listing of an input as a whole. Proved in proofs/Cases.antt: `cases`, and
-- proofs/Whole.antt: `listing_whole`.
use Rattle.std.specs.Prelude.{◌≡◌, [], ◌∷◌, ℕ, ◌*◌, pos, negsuc, take, drop}
use Rattle.names.specs.Ordering.{Row}
use Rattle.numbers.specs.Bytes.{Bytes}
use Rattle.slots.specs.Slots.{slot_size}
use Rattle.std.specs.declared.result.Result.TheVariants.{Err}
use Rattle.answers.specs.declared.Refusal.TheVariants.{BadLayout, NotRising}
use Rattle.pages.specs.Pages.{max_slots, check_page}
use Rattle.listing_text.specs.Ascii.{ascii}
use Rattle.listing_text.specs.Listing.{decimal, decimal_ℤ, tuple_text, book_text, header, answer_text, check_input, listing}

-- 01's "Log L: r0 = (9,2,0,0), r1 = (9,2,0,0)(6,1,0,0)"
abbrev pub r0 : Row
r0 = record { position = 9; node = 2; sequence = 0; offset = pos 0 } ∷ []

abbrev pub r1 : Row
r1 = record { position = 9; node = 2; sequence = 0; offset = pos 0 } ∷ record { position = 6; node = 1; sequence = 0; offset = pos 0 } ∷ []

pub record Cases : Type 0 where
  -- "For line 7 named r0 and line 12 named r1"
  pub book : book_text (record { line = 7; name = r0 } ∷ record { line = 12; name = r1 } ∷ []) ≡ ascii "line depth name\n7 1 9.2.0.0\n12 2 9.2.0.0/6.1.0.0\n"
  -- "a negative offset with `-`"
  pub minus_one : tuple_text (record { position = 9; node = 1; sequence = 1; offset = negsuc 0 }) ≡ ascii "9.1.1.-1"
  -- the largest u32 and the least i32
  pub largest : decimal 4294967295 ≡ ascii "4294967295"
  pub least : decimal_ℤ (negsuc 2147483647) ≡ ascii "-2147483648"
  -- "Empty input gives the header."
  pub empty : listing [] [] ≡ header
  -- "A bad page gives only the line `refused 1` or `refused 2`"
  pub refused_1 : (page rest : Bytes) → check_input page rest ≡ Err BadLayout → listing page rest ≡ ascii "refused 1\n"
  pub refused_2 : (page rest : Bytes) → check_input page rest ≡ Err NotRising → listing page rest ≡ ascii "refused 2\n"

-- 02, P8: "a page is at most 51,200 bytes"
abbrev pub page_size : ℕ
page_size = slot_size * max_slots

-- An input that is read in two parts, as many bytes as the largest page has and the rest, is listed as the whole input is checked.
abbrev pub WholeLaw : Type 0
WholeLaw = (s : Bytes) → listing (take page_size s) (drop page_size s) ≡ answer_text (check_page s) s
