-- The names of a page: they are names (`named`), with their last offset in the bytes (`named-at`); a name that is not as deep does not come
-- next (`not_next`). Assumes nothing.
use mathlib.Core.Path.{◌≡◌, sym, ap, ◌∙◌}
use mathlib.Core.List.{[]}
use mathlib.Core.Bool.{true, false}
use Prim.Native.Nat.{ℕ, ◌+◌, ◌-◌, ◌*◌, ◌<◌, ◌≤◌}
use native.Mathlib.Omega.{arith}
use lib.ListN.{length, get_or, length-map}
use Rattle.names.specs.Ordering.{Row}
use Rattle.names.specs.Names.{is_name}
use Rattle.names.proofs.Validity.{valid_name}
use Rattle.numbers.specs.Bytes.{Bytes, at32}
use Rattle.numbers.proofs.Bools.{never}
use Rattle.slots.specs.declared.Span.{Span}
use Rattle.slots.specs.Tuples.{tuple_size, row_at}
use Rattle.slots.proofs.RoundTrip.{name_long}
use Rattle.slots.proofs.TuplesInBytes.{length_tuples_at}
use Rattle.pages.specs.Pages.{slots_of, name_in, names_of, keeps_layout}
use Rattle.pages.proofs.RoundTrip.{page_names}
use Rattle.runs.specs.Runs.{is_next}
use Rattle.runs.proofs.RunNames.{next_length, next_is, name_at}

module _ (s : Bytes) (e : keeps_layout s ≡ true) (k : ℕ) (h : k < length (slots_of s)) where
  pub named : is_name (get_or (names_of s) k []) ≡ true
  named = valid_name (page_names s e k (omega (arith, length-map (slots_of s) name_in)))

  -- where it stands in the page
  module _ (x : Span) (f : row_at s x ≡ get_or (names_of s) k []) where
    pub named_there : is_name (row_at s x) ≡ true
    named_there = ap is_name f ∙ named

    pub named_long : 1 ≤ x.count
    named_long = omega (arith, name_long (row_at s x) named_there, length_tuples_at s x.at x.count)

    pub named_offset : at32 s (x.at + tuple_size * x.count - 4) ≤ 2147483646
    named_offset = (name_at s x.at x.count named_there).1

-- how deep the name is that stands at x
pub depth_is : (s : Bytes) (x : Span) (a : Row) → row_at s x ≡ a → x.count ≡ length a
depth_is s x a f = sym (length_tuples_at s x.at x.count) ∙ ap length f

pub not_next : (a b : Row) → ¬ (length a ≡ length b) → false ≡ is_next a b
not_next a b f = sym (never (is_next a b) (λ e. f (sym (next_length a) ∙ ap length (next_is a b e))))
