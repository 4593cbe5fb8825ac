-- `epochs::is_new` meets its contract. Assumes nothing.
use Rattle.std.proofs.Common.{◌≡◌, sym, ap, subst, ◌∙◌, not, ℕ, ◌+◌, ◌<◌, ◌≤◌, length, take, get_or, set, arith}
use Rattle.std.proofs.lemmas.List.{take-map}
use Rattle.epoch_tree.specs.Tables.{Entry, entry_at, entry_of, entries_in, listed}
use Rattle.names.specs.declared.Author.{Author}
use Rattle.epochs.specs.Calls.{entry_by}
use Rattle.epochs.specs.Pairs.{group_of, Under}
use Rattle.epochs.proofs.Entries.{at_entry, length_in}
use Rattle.epochs.proofs.LoopTurns.{listed_among, listed_pair, new_pair, under_same, under_raised}
use Rattle.epochs.proofs.is_new.Goals as goal

pub returns-then-tops-group-clause-value : goal.returns-then-tops-group-clause-value
returns-then-tops-group-clause-value c =
    let t = entries_in c.args.entries.now in
    let tops = c.args.tops.now in
    let i = c.args.i in
    let g = c.group_of-group.result in
    let here = at_entry c.args.entries.now i in
    let n = length_in c.args.entries.now in
    let q : c.sequence_of-sequence.result ≡ (entry_at t i).sequence = c.sequence_of-sequence.ensures ∙ ap (λ (e : Entry). e.sequence) (sym here) in
    let a : g ≡ group_of (entry_at t i).node = c.group_of-group.ensures.0 ∙ ap group_of (c.node_of-node.ensures ∙ ap (λ (e : Entry). e.node) (sym here)) in
    let above : get_or tops g 0 < (entry_at t i).sequence = omega arith in
    let over = subst (λ (x : ℕ). get_or tops x 0 < (entry_at t i).sequence) a above in
    ap not (sym (new_pair t i tops c.requires.1 (entry_at t i) (omega arith) over))

pub returns-then-tops-group-clause-under : goal.returns-then-tops-group-clause-under
returns-then-tops-group-clause-under c =
    let t = entries_in c.args.entries.now in
    let tops = c.args.tops.now in
    let i = c.args.i in
    let g = c.group_of-group.result in
    let here = at_entry c.args.entries.now i in
    let q : c.sequence_of-sequence.result ≡ (entry_at t i).sequence = c.sequence_of-sequence.ensures ∙ ap (λ (e : Entry). e.sequence) (sym here) in
    let a : g ≡ group_of (entry_at t i).node = c.group_of-group.ensures.0 ∙ ap group_of (c.node_of-node.ensures ∙ ap (λ (e : Entry). e.node) (sym here)) in
    let in_group : g < length tops = let b = c.group_of-group.ensures.1 in let l = c.told-tops in omega arith in
    let above : get_or tops g 0 < (entry_at t i).sequence = omega arith in
    subst (λ (s : ℕ). Under t (i + 1) (set tops g s)) (sym q) (under_raised t i tops c.requires.1 g a in_group above)

pub returns-clause-value : goal.returns-clause-value
returns-clause-value c =
    let l = c.args.entries.now in
    let i = c.args.i in
    let pair : Author = record { node = c.node_of-node.result; sequence = c.sequence_of-sequence.result } in
    let e : Entry = entry_by pair 0 0 in
    let here = sym (at_entry l i) in
    let node = c.node_of-node.ensures ∙ ap (λ (x : Entry). x.node) here in
    let sequence = c.sequence_of-sequence.ensures ∙ ap (λ (x : Entry). x.sequence) here in
    ap not (c.is_listed.ensures ∙ listed_among (take i l) e ∙ ap (listed e) (sym (take-map entry_of i l)) ∙ listed_pair e (entry_at (entries_in l) i) (take i (entries_in l)) node sequence)

pub returns-clause-under : goal.returns-clause-under
returns-clause-under c =
    let t = entries_in c.args.entries.now in
    let tops = c.args.tops.now in
    let i = c.args.i in
    let g = c.group_of-group.result in
    let here = at_entry c.args.entries.now i in
    let q : c.sequence_of-sequence.result ≡ (entry_at t i).sequence = c.sequence_of-sequence.ensures ∙ ap (λ (e : Entry). e.sequence) (sym here) in
    let a : g ≡ group_of (entry_at t i).node = c.group_of-group.ensures.0 ∙ ap group_of (c.node_of-node.ensures ∙ ap (λ (e : Entry). e.node) (sym here)) in
    let same : (entry_at t i).sequence ≤ get_or tops g 0 = omega arith in
    under_same t i tops c.requires.1 g a same
