-- `epochs::entries_ok` meets its contract. Assumes nothing.
use Rattle.std.proofs.Common.{◌≡◌, sym, ap, ◌∙◌, arith}
use Rattle.epoch_tree.specs.Tables.{Entry, entry_at, entries_in, is_first}
use Rattle.epoch_tree.proofs.TableFacts.{first_zero}
use Rattle.epochs.proofs.Entries.{at_entry, length_in}
use Rattle.epochs.proofs.LoopTurns.{keeps_turn, keeps_end}
use Rattle.epochs.proofs.entries_ok.Goals as goal

pub returns-then-not-first_ok : goal.returns-then-not-first_ok
returns-then-not-first_ok c =
    let bad = sym c.first_ok.ensures ∙ c.if-not-first_ok.true in
    simp (at_entry c.args.entries.now 0, bad)

pub loop-i-init : goal.loop-i-init
loop-i-init c =
    let t = entries_in c.args.entries.now in
    let first = ap is_first (at_entry c.args.entries.now 0) ∙ sym c.first_ok.ensures ∙ c.if-not-first_ok.false in
    let zero : (entry_at t 0).sequence ≡ 0 = ap (λ (e : Entry). e.sequence) (first_zero (entry_at t 0) first) in
    (simp first, λ k l. let e : k ≡ 0 = omega arith in rw e (omega arith))

pub returns-then-not-entry_ok : goal.returns-then-not-entry_ok
returns-then-not-entry_ok c =
    let t = entries_in c.args.entries.now in
    let n = length_in c.args.entries.now in
    let bad = sym c.if-not-entry_ok.true ∙ c.entry_ok.ensures.value in
    keeps_turn t c.loop-i.i (omega arith) bad ∙ c.loop-i.invariant.0

pub loop-i-preserved : goal.loop-i-preserved
loop-i-preserved c =
    let t = entries_in c.args.entries.now in
    let n = length_in c.args.entries.now in
    let ok = c.if-not-entry_ok.false in
    (keeps_turn t c.loop-i.i (omega arith) (sym ok ∙ c.entry_ok.ensures.value) ∙ c.loop-i.invariant.0, c.entry_ok.ensures.under ok)

pub returns : goal.returns
returns c =
    let n = length_in c.args.entries.now in
    keeps_end (entries_in c.args.entries.now) c.loop-i.i (omega arith) ∙ c.loop-i.invariant.0
