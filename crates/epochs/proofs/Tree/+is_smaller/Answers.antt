-- `epochs::Tree::is_smaller` meets its contract. Assumes nothing.
use Rattle.std.proofs.Common.{◌≡◌, sym, ap, ◌∙◌, true, false, ℕ, ◌+◌, ◌<◌, length, arith}
use Rattle.std.specs.Ordering.{is_lt}
use Rattle.epoch_tree.specs.Tables.{entries_in}
use Rattle.epoch_tree.specs.Tree.{parent_of, compare_keys}
use Rattle.epoch_tree.proofs.SmallerByParent.{smaller_or, tied, root_smaller, root_greater, by_keys, by_first_parent, by_second_parent}
use Rattle.epoch_tree.proofs.TableFacts.{table, parent_below}
use Rattle.epochs.proofs.Entries.{at_entry, length_in}
use Rattle.epochs.proofs.Tree.+is_smaller.Goals as goal

pub returns-then-i-j : goal.returns-then-i-j
returns-then-i-j t c = sym (tied c.args.tie (entries_in c.args.self.now.entries.now) c.args.i c.args.j c.if-i-j.true)

pub returns-then-i-lt1 : goal.returns-then-i-lt1
returns-then-i-lt1 t c =
    let r = entries_in c.args.self.now.entries.now in
    sym (root_smaller c.args.tie r (table r c.args.self.now.is_table) c.args.i c.args.j c.if-i-lt1.true c.if-i-j.false)

pub returns-then-j-lt1 : goal.returns-then-j-lt1
returns-then-j-lt1 t c =
    let r = entries_in c.args.self.now.entries.now in
    sym (root_greater c.args.tie r (table r c.args.self.now.is_table) c.args.i c.args.j c.if-i-lt1.false c.if-j-lt1.true)

pub returns-then-p-q : goal.returns-then-p-q
returns-then-p-q t c =
    let l = c.args.self.now.entries.now in
    let r = entries_in l in
    let i = c.args.i in
    let j = c.args.j in
    let n = length_in l in
    let a : i < length r = omega arith in
    let b : j < length r = omega arith in
    let same = sym c.parent-p.ensures ∙ c.if-p-q.true ∙ c.parent-q.ensures in
    let keys = by_keys c.args.tie r (table r c.args.self.now.is_table) i j a b c.if-i-lt1.false c.if-j-lt1.false c.if-i-j.false in
    c.is_below.ensures ∙ (λ z. is_lt (compare_keys (sym (at_entry l i) z) (sym (at_entry l j) z))) ∙ sym (keys same)

pub is_smaller-requires : goal.is_smaller-requires
is_smaller-requires t c =
    let r = entries_in c.args.self.now.entries.now in
    let i = c.args.i in
    let less = parent_below r (table r c.args.self.now.is_table) i c.if-i-lt1.false in
    let e : i + c.args.j ≡ t = c.decreases in
    let p = c.parent-p.ensures in
    (omega arith, (omega arith, c.requires.1))

pub returns-then-q-p : goal.returns-then-q-p
returns-then-q-p t c =
    let l = c.args.self.now.entries.now in
    let r = entries_in l in
    let i = c.args.i in
    let j = c.args.j in
    let p = c.parent-p.ensures in
    let q = c.parent-q.ensures in
    let n = length_in l in
    let a : i < length r = omega arith in
    let b : j < length r = omega arith in
    let less : parent_of r j < parent_of r i = omega arith in
    let up = by_first_parent c.args.tie r (table r c.args.self.now.is_table) i j a b c.if-i-lt1.false less in
    c.is_smaller.ensures ∙ ap (λ (k : ℕ). smaller_or false r k j) p ∙ sym up

pub is_smaller-requires-2 : goal.is_smaller-requires-2
is_smaller-requires-2 t c =
    let r = entries_in c.args.self.now.entries.now in
    let j = c.args.j in
    let less = parent_below r (table r c.args.self.now.is_table) j c.if-j-lt1.false in
    let e : c.args.i + j ≡ t = c.decreases in
    let q = c.parent-q.ensures in
    (omega arith, (c.requires.0, omega arith))

pub returns : goal.returns
returns t c =
    let l = c.args.self.now.entries.now in
    let r = entries_in l in
    let i = c.args.i in
    let j = c.args.j in
    let p = c.parent-p.ensures in
    let q = c.parent-q.ensures in
    let n = length_in l in
    let a : i < length r = omega arith in
    let b : j < length r = omega arith in
    let less : parent_of r i < parent_of r j = omega arith in
    let up = by_second_parent c.args.tie r (table r c.args.self.now.is_table) i j a b c.if-j-lt1.false less in
    c.is_smaller-2.ensures ∙ ap (smaller_or true r i) q ∙ sym up
