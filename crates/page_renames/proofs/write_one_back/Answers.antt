-- `page_renames::write_one_back` meets its contract. Assumes nothing.
use mathlib.Core.Path.{◌≡◌, refl, ◌∙◌, sym, ap, subst}
use mathlib.Core.List.{List, []}
use Prim.Native.Nat.{ℕ, ◌*◌}
use native.Mathlib.Omega.{arith}
use lib.ListN.{get_or}
use Rattle.names.specs.declared.Author.{Author}
use Rattle.names.specs.Ordering.{Row}
use Rattle.names.specs.Names.{fits}
use Rattle.numbers.specs.Bytes.{Bytes, put}
use Rattle.slots.specs.Slots.{slot_size, name_of, line_of, slot_of, slot_bytes}
use Rattle.pages.specs.Pages.{parts_of, names_of}
use Rattle.name_renames.specs.Renaming.{take_back}
use Rattle.one_name.specs.declared.Back.{Back}
use Rattle.one_name.specs.Backs.{shaped, Means, single}
use Rattle.page_renames.specs.Renames.{carry}
use Rattle.page_renames.proofs.BackPairs.{means}
use Rattle.page_renames.proofs.PageWalk.{slot_name, slot_keeps}
use Rattle.page_renames.proofs.write_one_back.Goals as goal

-- what was found of name i, of slot i
module _ (page : Bytes) (log : Bytes) (author : Author) (i : ℕ) {slots : List Bytes} (e : slots ≡ parts_of page) where
  abbrev slot : Bytes
  slot = get_or slots i []

  abbrev back : Row → Row
  back = take_back author (names_of log)

  of_slot : (b : Back) {x : Row} → x ≡ get_or (names_of page) i [] → Means x (names_of log) b (back x) → Means (name_of slot) (names_of log) b (back (name_of slot))
  of_slot b q m = subst (λ (a : Row). Means a (names_of log) b (back a)) (q ∙ sym (slot_name page i e)) m

  -- .. and written
  written : (b : Back) (o : Bytes) → shaped (name_of slot) (names_of log) b ≡ back (name_of slot) →
      put o (slot_size * i) (slot_bytes (record { line = line_of slot; name = shaped (name_of slot) (names_of log) b })) ≡ put o (slot_size * i) (slot_bytes (carry back (slot_of (get_or (parts_of page) i []))))
  written b o q =
      ap (λ (a : Row). put o (slot_size * i) (slot_bytes (record { line = line_of slot; name = a }))) q
      ∙ ap (λ (l : List Bytes). put o (slot_size * i) (slot_bytes (carry back (slot_of (get_or l i []))))) e

pub write_single-requires : goal.write_single-requires
write_single-requires c =
    let a = c.args in
    let e = c.as_chunks.ensures.front in
    let m = of_slot a.page.now a.log.now a.author a.i e (single c.alone_of-single.result) c.span_of-c.ensures.1 c.alone_of-single.ensures in
    let kept = slot_keeps a.page.now a.i e (omega (arith, c.as_chunks.ensures.front_len, c.requires.page_value.2)) c.requires.page_value.0 in
    (omega arith, kept, c.requires.page_value.1, m.0)

pub write_back-requires : goal.write_back-requires
write_back-requires c =
    let a = c.args in
    let f = take_back a.author (names_of a.log.now) in
    let e = c.as_chunks.ensures.front in
    let found = means a.log.now a.author c.requires.page_value.1 c.back_of-back.result c.back_of-back.ensures refl in
    let m = of_slot a.page.now a.log.now a.author a.i e c.back_of-back.result c.span_of-c.ensures.1 found in
    let kept = slot_keeps a.page.now a.i e (omega (arith, c.as_chunks.ensures.front_len, c.requires.page_value.2)) c.requires.page_value.0 in
    let fit = ap (λ (x : Row). fits (f x)) (slot_name a.page.now a.i e) ∙ c.requires.i_value.0 in
    (omega arith, kept, c.requires.page_value.1, m.0, ap fits m.1 ∙ fit)

pub returns-then-alone : goal.returns-then-alone
returns-then-alone c =
    let a = c.args in
    let page = a.page.now in
    let log = a.log.now in
    let e = c.as_chunks.ensures.front in
    let b = single c.alone_of-single.result in
    let m = of_slot page log a.author a.i e b c.span_of-c.ensures.1 c.alone_of-single.ensures in
    c.write_single.ensures ∙ written page log a.author a.i e b a.out.now m.1

pub returns-else-alone : goal.returns-else-alone
returns-else-alone c =
    let a = c.args in
    let page = a.page.now in
    let log = a.log.now in
    let e = c.as_chunks.ensures.front in
    let b = c.back_of-back.result in
    let found = means log a.author c.requires.page_value.1 b c.back_of-back.ensures refl in
    let m = of_slot page log a.author a.i e b c.span_of-c.ensures.1 found in
    c.write_back.ensures ∙ written page log a.author a.i e b a.out.now m.1
