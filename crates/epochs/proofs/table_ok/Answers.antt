-- `epochs::table_ok` meets its contract. Assumes nothing.
use Rattle.std.proofs.Common.{sym, ap, ◌∙◌, eqb, ◌&&◌, drop, List}
use Rattle.numbers.specs.Bytes.{Bytes}
use Rattle.names.specs.Names.{within}
use Rattle.epoch_tree.specs.Tables.{max_entries, entries_in, entry_at, is_first, keeps_from}
use Rattle.epochs.proofs.LoopTurns.{tests}
use Rattle.epochs.proofs.table_ok.Goals as goal
use Rattle.epochs.proofs.table_ok.Goals.{then-is_empty, else-is_empty}

pub returns-then-size_ok : goal.returns-then-size_ok
returns-then-size_ok c = elim c.if-is_empty.branch [
  | then-is_empty w ↦
      let l = c.as_chunks.result.0.now in
      let rest = ap (λ n. eqb n 0) (sym c.as_chunks.ensures.back_len) ∙ sym c.is_empty.ensures ∙ w.if-is_empty.true in
      let size = ap (within 1 max_entries) (sym c.as_chunks.ensures.front_len) ∙ sym w.size_ok.ensures ∙ sym w.value-is ∙ c.if-size_ok.true in
      let all = ap (λ (b : List Bytes). is_first (entry_at (entries_in b) 0) && keeps_from (entries_in b) 1 (drop 1 (entries_in b))) c.as_chunks.ensures.front in
      simp (tests c.args.table.now, rest, size) (c.entries_ok.ensures ∙ all)
  | else-is_empty w ↦ absurd (let e = sym w.value-is ∙ c.if-size_ok.true in let f = w.if-is_empty.false in cc)
]

pub returns-else-size_ok : goal.returns-else-size_ok
returns-else-size_ok c = elim c.if-is_empty.branch [
  | then-is_empty w ↦
      let rest = ap (λ n. eqb n 0) (sym c.as_chunks.ensures.back_len) ∙ sym c.is_empty.ensures ∙ w.if-is_empty.true in
      let size = ap (within 1 max_entries) (sym c.as_chunks.ensures.front_len) ∙ sym w.size_ok.ensures ∙ sym w.value-is ∙ c.if-size_ok.false in
      simp (tests c.args.table.now, rest, size) c.if-size_ok.false
  | else-is_empty w ↦
      let rest = ap (λ n. eqb n 0) (sym c.as_chunks.ensures.back_len) ∙ sym c.is_empty.ensures ∙ w.if-is_empty.false in
      simp (tests c.args.table.now, rest) c.if-size_ok.false
]
