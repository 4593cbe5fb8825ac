-- `epochs::add` meets its contract. Assumes nothing.
use Rattle.std.proofs.Common.{◌≡◌, sym, ap, ◌∙◌, ◌+◌, length, arith}
use Rattle.std.specs.List.{list_any}
use Rattle.std.proofs.lemmas.Result.{err_from_is_err_and}
use Rattle.numbers.proofs.Put.{put_more}
use Rattle.answers.proofs.Outcomes.{refused, accepted}
use Rattle.std.specs.declared.result.Result.TheVariants.{Ok}
use Rattle.epoch_tree.specs.Tables.{entry_bytes, entry_of, same_pair}
use Rattle.epochs.specs.Calls.{entry_by}
use Rattle.epochs.proofs.Checks.{checked, unchecked}
use Rattle.epochs.proofs.LoopTurns.{listed_among}
use Rattle.epochs.proofs.AddOutcomes.{bad_table, no_epoch, no_author, no_count, listed_refused, full_refused, short_refused, done}
use Rattle.epochs.proofs.add.Goals as goal

pub returns-in_err-n : goal.returns-in_err-n
returns-in_err-n c =
    let bad = unchecked c.args.table.now _ (sym c.check_table.ensures ∙ c.in_err-n.was) in
    let told = err_from_is_err_and c.from_residual.result c.from_residual.ensures.1 in
    let both = refused _ _ c.args.out.now (bad_table c.args.table.now c.args.parent c.args.author c.args.count (length c.args.out.now) bad.0) in
    record { value = rw (told.1, told.2, bad.1) both.0; out_after = both.1 }

pub returns-then-n-parent : goal.returns-then-n-parent
returns-then-n-parent c =
    let kept = checked c.args.table.now _ (sym c.check_table.ensures ∙ c.in_ok-n.was) in
    let both = refused _ _ c.args.out.now (no_epoch c.args.table.now c.args.parent c.args.author c.args.count (length c.args.out.now) kept.0 (omega arith)) in
    record { value = both.0; out_after = both.1 }

pub returns-then-author-lt1 : goal.returns-then-author-lt1
returns-then-author-lt1 c =
    let kept = checked c.args.table.now _ (sym c.check_table.ensures ∙ c.in_ok-n.was) in
    let both = refused _ _ c.args.out.now (no_author c.args.table.now c.args.parent c.args.author c.args.count (length c.args.out.now) kept.0 (omega arith) c.if-author-lt1.true) in
    record { value = both.0; out_after = both.1 }

pub returns-then-not-count_ok : goal.returns-then-not-count_ok
returns-then-not-count_ok c =
    let kept = checked c.args.table.now _ (sym c.check_table.ensures ∙ c.in_ok-n.was) in
    let both = refused _ _ c.args.out.now (no_count c.args.table.now c.args.parent c.args.author c.args.count (length c.args.out.now) kept.0 (omega arith) c.if-author-lt1.false (sym c.count_ok.ensures ∙ c.if-not-count_ok.true)) in
    record { value = both.0; out_after = both.1 }

pub returns-then-is_listed : goal.returns-then-is_listed
returns-then-is_listed c =
    let kept = checked c.args.table.now _ (sym c.check_table.ensures ∙ c.in_ok-n.was) in
    let counted = sym c.count_ok.ensures ∙ c.if-not-count_ok.false in
    let e = entry_by c.args.author c.args.parent c.args.count in
    let among = ap (list_any (λ s. same_pair e (entry_of s))) (sym c.as_chunks.ensures.front) ∙ sym c.is_listed.ensures in
    let l = sym (listed_among _ e) ∙ among in
    let both = refused _ _ c.args.out.now (listed_refused c.args.table.now c.args.parent c.args.author c.args.count (length c.args.out.now) kept.0 (omega arith) c.if-author-lt1.false counted (l ∙ c.if-is_listed.true)) in
    record { value = both.0; out_after = both.1 }

pub returns-then-n-ge-ENTRIES : goal.returns-then-n-ge-ENTRIES
returns-then-n-ge-ENTRIES c =
    let kept = checked c.args.table.now _ (sym c.check_table.ensures ∙ c.in_ok-n.was) in
    let counted = sym c.count_ok.ensures ∙ c.if-not-count_ok.false in
    let e = entry_by c.args.author c.args.parent c.args.count in
    let among = ap (list_any (λ s. same_pair e (entry_of s))) (sym c.as_chunks.ensures.front) ∙ sym c.is_listed.ensures in
    let l = sym (listed_among _ e) ∙ among in
    let both = refused _ _ c.args.out.now (full_refused c.args.table.now c.args.parent c.args.author c.args.count (length c.args.out.now) kept.0 (omega arith) c.if-author-lt1.false counted (l ∙ c.if-is_listed.false) (omega arith)) in
    record { value = both.0; out_after = both.1 }

pub returns-then-out-table : goal.returns-then-out-table
returns-then-out-table c =
    let kept = checked c.args.table.now _ (sym c.check_table.ensures ∙ c.in_ok-n.was) in
    let counted = sym c.count_ok.ensures ∙ c.if-not-count_ok.false in
    let e = entry_by c.args.author c.args.parent c.args.count in
    let among = ap (list_any (λ s. same_pair e (entry_of s))) (sym c.as_chunks.ensures.front) ∙ sym c.is_listed.ensures in
    let l = sym (listed_among _ e) ∙ among in
    let both = refused _ _ c.args.out.now (short_refused c.args.table.now c.args.parent c.args.author c.args.count (length c.args.out.now) kept.0 (omega arith) c.if-author-lt1.false counted (l ∙ c.if-is_listed.false) (omega arith) c.if-out-table.true) in
    record { value = both.0; out_after = both.1 }

pub returns : goal.returns
returns c =
    let kept = checked c.args.table.now _ (sym c.check_table.ensures ∙ c.in_ok-n.was) in
    let counted = sym c.count_ok.ensures ∙ c.if-not-count_ok.false in
    let e = entry_by c.args.author c.args.parent c.args.count in
    let among = ap (list_any (λ s. same_pair e (entry_of s))) (sym c.as_chunks.ensures.front) ∙ sym c.is_listed.ensures in
    let l = sym (listed_among _ e) ∙ among in
    let table = c.args.table.now in
    let all = done c.args.table.now c.args.parent c.args.author c.args.count (length c.args.out.now) kept.0 (omega arith) c.if-author-lt1.false counted (l ∙ c.if-is_listed.false) (omega arith) in
    let outcome = all (λ i. (c.type_inv.table i).fits) c.if-out-table.false in
    let o = c.args.out.now in
    let z : length table ≡ 0 + length table = omega arith in
    let both = accepted _ _ _ o _ outcome (put_more o 0 (omega arith) table (entry_bytes e) c.copy.ensures z c.write_entry.ensures) in
    record { value = ap Ok (ap (λ n. n + 1) (sym kept.2)) ∙ both.0; out_after = both.1 }
