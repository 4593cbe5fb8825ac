-- `form_edits::taken_out` meets its contract. Assumes nothing.
use mathlib.Core.Path.{◌≡◌, sym, ap, ◌∙◌, subst}
use mathlib.Core.Bool.{Bool, true, false, cond}
use Prim.Native.Nat.{ℕ, ◌≤◌}
use native.Mathlib.Omega.{arith}
use lib.Dec.{ltb}
use lib.ListN.{length, drop}
use Rattle.numbers.specs.Bytes.{Octets}
use Rattle.groups.specs.Forms.{group_stands}
use Rattle.forms.specs.declared.Block.{Block}
use Rattle.slots.specs.Tuples.{Within}
use Rattle.forms.specs.Blocks.{end_of}
use borrow.Author.Tests.{lt-ltb, le-ltb}
use Rattle.form_edits.specs.declared.Met.TheVariants.{Here}
use Rattle.form_edits.specs.Choices.{after_block, goes_on, part_by, close_by, vanish_by}
use Rattle.form_edits.specs.Edits.{next_in}
use Rattle.form_edits.proofs.Chosen.{Found, found, end_stands}
use Rattle.form_edits.proofs.Asked.{Bounds, preceded_stood, preceded_bounds, met_bounds, here_index, next_bounds, after_end, goes_some}
use Rattle.form_edits.proofs.taken_out.Goals as goal

pub leaves_parts-requires : goal.leaves_parts-requires
leaves_parts-requires c =
    let octets : Octets c.args.form.now = λ i. omega (arith, c.type_inv.form i) in
    let slot_octets : Octets c.args.slot.now = λ i. omega (arith, c.type_inv.slot i) in
    let reached : Found c.args.form.now c.args.slot.now octets slot_octets c.args.name c.requires.edited.0 c.args.block =
    subst (Found c.args.form.now c.args.slot.now octets slot_octets c.args.name c.requires.edited.0) (sym c.requires.edited.2)
    (found c.args.form.now c.args.slot.now octets slot_octets c.args.name c.requires.edited.0) in
    let bounds : Bounds c.args.form.now c.args.block =
    met_bounds c.args.form.now c.args.slot.now octets slot_octets c.args.name c.requires.edited.0 c.args.block reached (Here c.args.index) c.requires.slot_value
    (λ z. let w : ◌≡◌ {A = ℕ} 0 1 = cc in omega arith) in
    let v = bounds in
    let h = here_index c.args.form.now c.args.slot.now octets slot_octets c.args.name c.requires.edited.0 c.args.block reached c.args.index c.requires.slot_value in
    let a = v.few in
    let d = v.end in
    record {
      field_head_le_at = (v.start, omega arith);
      index_lt_count = (h, omega arith);
    }

pub returns-then-block-gt1 : goal.returns-then-block-gt1
returns-then-block-gt1 c =
    let s = c.args.form.now in
    let b = c.args.block in
    let f = c.args.before in
    let n = next_in s (end_of b) in
    c.leaves_parts.ensures
    ∙ sym (ap (λ (y : Bool). cond y (part_by b c.args.index) (cond (goes_on s f n) (close_by f n) (vanish_by b))) (lt-ltb 1 b.count (omega arith)))

pub end_of-end-requires : goal.end_of-end-requires
end_of-end-requires c =
    let octets : Octets c.args.form.now = λ i. omega (arith, c.type_inv.form i) in
    let slot_octets : Octets c.args.slot.now = λ i. omega (arith, c.type_inv.slot i) in
    let reached : Found c.args.form.now c.args.slot.now octets slot_octets c.args.name c.requires.edited.0 c.args.block =
    subst (Found c.args.form.now c.args.slot.now octets slot_octets c.args.name c.requires.edited.0) (sym c.requires.edited.2)
    (found c.args.form.now c.args.slot.now octets slot_octets c.args.name c.requires.edited.0) in
    let bounds : Bounds c.args.form.now c.args.block =
    met_bounds c.args.form.now c.args.slot.now octets slot_octets c.args.name c.requires.edited.0 c.args.block reached (Here c.args.index) c.requires.slot_value
    (λ z. let w : ◌≡◌ {A = ℕ} 0 1 = cc in omega arith) in
    let d = bounds.end in
    omega arith

pub block_by-next-requires : goal.block_by-next-requires
block_by-next-requires c =
    let octets : Octets c.args.form.now = λ i. omega (arith, c.type_inv.form i) in
    let slot_octets : Octets c.args.slot.now = λ i. omega (arith, c.type_inv.slot i) in
    let reached : Found c.args.form.now c.args.slot.now octets slot_octets c.args.name c.requires.edited.0 c.args.block =
    subst (Found c.args.form.now c.args.slot.now octets slot_octets c.args.name c.requires.edited.0) (sym c.requires.edited.2)
    (found c.args.form.now c.args.slot.now octets slot_octets c.args.name c.requires.edited.0) in
    let bounds : Bounds c.args.form.now c.args.block =
    met_bounds c.args.form.now c.args.slot.now octets slot_octets c.args.name c.requires.edited.0 c.args.block reached (Here c.args.index) c.requires.slot_value
    (λ z. let w : ◌≡◌ {A = ℕ} 0 1 = cc in omega arith) in
    let ended : after_block c.args.block ≡ end_of c.args.block = after_end c.args.form.now c.args.slot.now octets slot_octets c.args.name c.requires.edited.0 c.args.block reached bounds.some in
    let s = c.args.form.now in
    let b = c.args.block in
    let z = c.end_of-end.ensures ∙ sym ended in
    λ t.
    subst (λ (n : ℕ). (n ≤ length s) × (group_stands (drop n s) ≡ true)) (sym z)
    (end_stands s c.args.slot.now octets slot_octets c.args.name c.requires.edited.0 b reached (ap (λ (n : ℕ). ltb n (length s)) (sym z) ∙ t))

pub goes_on-requires : goal.goes_on-requires
goes_on-requires c =
    let octets : Octets c.args.form.now = λ i. omega (arith, c.type_inv.form i) in
    let slot_octets : Octets c.args.slot.now = λ i. omega (arith, c.type_inv.slot i) in
    let reached : Found c.args.form.now c.args.slot.now octets slot_octets c.args.name c.requires.edited.0 c.args.block =
    subst (Found c.args.form.now c.args.slot.now octets slot_octets c.args.name c.requires.edited.0) (sym c.requires.edited.2)
    (found c.args.form.now c.args.slot.now octets slot_octets c.args.name c.requires.edited.0) in
    let bounds : Bounds c.args.form.now c.args.block =
    met_bounds c.args.form.now c.args.slot.now octets slot_octets c.args.name c.requires.edited.0 c.args.block reached (Here c.args.index) c.requires.slot_value
    (λ z. let w : ◌≡◌ {A = ℕ} 0 1 = cc in omega arith) in
    let ended : after_block c.args.block ≡ end_of c.args.block = after_end c.args.form.now c.args.slot.now octets slot_octets c.args.name c.requires.edited.0 c.args.block reached bounds.some in
    let is_next_lem : c.block_by-next.result ≡ next_in c.args.form.now (end_of c.args.block) =
    c.block_by-next.ensures.value ∙ ap (next_in c.args.form.now) c.end_of-end.ensures in
    let after : 1 ≤ c.block_by-next.result.count → Bounds c.args.form.now c.block_by-next.result =
    let n = is_next_lem ∙ ap (next_in c.args.form.now) (sym ended) in
    λ l.
    subst (Bounds c.args.form.now) (sym n)
    (next_bounds c.args.form.now c.args.slot.now octets slot_octets c.args.name c.requires.edited.0 c.args.block reached (let m = ap (λ (x : Block). x.count) n in omega arith)) in
    let prior : 1 ≤ c.args.before.count → Bounds c.args.form.now c.args.before =
    λ l. subst (Bounds c.args.form.now) (sym c.requires.edited.1)
    (preceded_bounds c.args.form.now c.args.slot.now octets slot_octets c.args.name c.requires.edited.0 (let m = ap (λ (x : Block). x.count) c.requires.edited.1 in omega arith)) in
    let s = c.args.form.now in
    let w = preceded_stood s c.args.slot.now octets in
    record {
      within = (subst (λ (x : Block). Within s x.name) (sym c.requires.edited.1) w.0, λ l. (prior l).named, subst (λ (x : Block). x.count ≤ 65535) (sym c.requires.edited.1) (let n = w.2 in omega arith));
      within_2 = (c.block_by-next.ensures.stood.0, λ l. (after l).named);
    }

pub closes-requires : goal.closes-requires
closes-requires c =
    let octets : Octets c.args.form.now = λ i. omega (arith, c.type_inv.form i) in
    let slot_octets : Octets c.args.slot.now = λ i. omega (arith, c.type_inv.slot i) in
    let reached : Found c.args.form.now c.args.slot.now octets slot_octets c.args.name c.requires.edited.0 c.args.block =
    subst (Found c.args.form.now c.args.slot.now octets slot_octets c.args.name c.requires.edited.0) (sym c.requires.edited.2)
    (found c.args.form.now c.args.slot.now octets slot_octets c.args.name c.requires.edited.0) in
    let bounds : Bounds c.args.form.now c.args.block =
    met_bounds c.args.form.now c.args.slot.now octets slot_octets c.args.name c.requires.edited.0 c.args.block reached (Here c.args.index) c.requires.slot_value
    (λ z. let w : ◌≡◌ {A = ℕ} 0 1 = cc in omega arith) in
    let ended : after_block c.args.block ≡ end_of c.args.block = after_end c.args.form.now c.args.slot.now octets slot_octets c.args.name c.requires.edited.0 c.args.block reached bounds.some in
    let is_next_lem : c.block_by-next.result ≡ next_in c.args.form.now (end_of c.args.block) =
    c.block_by-next.ensures.value ∙ ap (next_in c.args.form.now) c.end_of-end.ensures in
    let after : 1 ≤ c.block_by-next.result.count → Bounds c.args.form.now c.block_by-next.result =
    let n = is_next_lem ∙ ap (next_in c.args.form.now) (sym ended) in
    λ l.
    subst (Bounds c.args.form.now) (sym n)
    (next_bounds c.args.form.now c.args.slot.now octets slot_octets c.args.name c.requires.edited.0 c.args.block reached (let m = ap (λ (x : Block). x.count) n in omega arith)) in
    let prior : 1 ≤ c.args.before.count → Bounds c.args.form.now c.args.before =
    λ l. subst (Bounds c.args.form.now) (sym c.requires.edited.1)
    (preceded_bounds c.args.form.now c.args.slot.now octets slot_octets c.args.name c.requires.edited.0 (let m = ap (λ (x : Block). x.count) c.requires.edited.1 in omega arith)) in
    let m = goes_some c.args.form.now c.args.before c.block_by-next.result (sym c.goes_on.ensures ∙ c.if-goes_on.true) in
    let v = prior m.0 in
    let w = after m.1 in
    let a = v.few in
    let b = w.few in
    let d = v.end in
    (omega arith, omega arith)

pub returns-then-goes_on : goal.returns-then-goes_on
returns-then-goes_on c =
    let is_next_lem : c.block_by-next.result ≡ next_in c.args.form.now (end_of c.args.block) =
    c.block_by-next.ensures.value ∙ ap (next_in c.args.form.now) c.end_of-end.ensures in
    let chosen : goes_on c.args.form.now c.args.before (next_in c.args.form.now (end_of c.args.block)) ≡ true =
    ap (goes_on c.args.form.now c.args.before) (sym is_next_lem) ∙ sym c.goes_on.ensures ∙ c.if-goes_on.true in
    let s = c.args.form.now in
    let b = c.args.block in
    let f = c.args.before in
    c.closes.ensures
    ∙ ap (close_by f) is_next_lem
    ∙ sym (ap (λ (z : Bool). cond z (part_by b c.args.index) (cond (goes_on s f (next_in s (end_of b))) (close_by f (next_in s (end_of b))) (vanish_by b))) (le-ltb 1 b.count (omega arith))
    ∙ ap (λ (z : Bool). cond z (close_by f (next_in s (end_of b))) (vanish_by b)) chosen)

pub vanishes-requires : goal.vanishes-requires
vanishes-requires c =
    let octets : Octets c.args.form.now = λ i. omega (arith, c.type_inv.form i) in
    let slot_octets : Octets c.args.slot.now = λ i. omega (arith, c.type_inv.slot i) in
    let reached : Found c.args.form.now c.args.slot.now octets slot_octets c.args.name c.requires.edited.0 c.args.block =
    subst (Found c.args.form.now c.args.slot.now octets slot_octets c.args.name c.requires.edited.0) (sym c.requires.edited.2)
    (found c.args.form.now c.args.slot.now octets slot_octets c.args.name c.requires.edited.0) in
    let bounds : Bounds c.args.form.now c.args.block =
    met_bounds c.args.form.now c.args.slot.now octets slot_octets c.args.name c.requires.edited.0 c.args.block reached (Here c.args.index) c.requires.slot_value
    (λ z. let w : ◌≡◌ {A = ℕ} 0 1 = cc in omega arith) in
    let v = bounds in
    let d = v.end in
    (v.start, omega arith)

pub returns : goal.returns
returns c =
    let is_next_lem : c.block_by-next.result ≡ next_in c.args.form.now (end_of c.args.block) =
    c.block_by-next.ensures.value ∙ ap (next_in c.args.form.now) c.end_of-end.ensures in
    let chosen : goes_on c.args.form.now c.args.before (next_in c.args.form.now (end_of c.args.block)) ≡ false =
    ap (goes_on c.args.form.now c.args.before) (sym is_next_lem) ∙ sym c.goes_on.ensures ∙ c.if-goes_on.false in
    let s = c.args.form.now in
    let b = c.args.block in
    let f = c.args.before in
    c.vanishes.ensures
    ∙ sym (ap (λ (z : Bool). cond z (part_by b c.args.index) (cond (goes_on s f (next_in s (end_of b))) (close_by f (next_in s (end_of b))) (vanish_by b))) (le-ltb 1 b.count (omega arith))
    ∙ ap (λ (z : Bool). cond z (close_by f (next_in s (end_of b))) (vanish_by b)) chosen)
