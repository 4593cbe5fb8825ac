-- `form_changes::cut_out` meets its contract. Assumes nothing.
use mathlib.Core.List.{[]}
use native.Mathlib.Omega.{arith}
use Rattle.form_changes.specs.Changes.{changed}
use Rattle.form_changes.proofs.ChangedBytes.{back_length, changed_length, cut_written, too_short, is_written}
use Rattle.form_changes.proofs.cut_out.Goals as goal

pub returns-then-out-size : goal.returns-then-out-size
returns-then-out-size c =
    let n = c.changed_size-size.ensures.0 in
    let both =
    too_short (changed c.args.form.now [] c.args.c) c.args.out.now (omega arith)
    in record { value = both.0; out_after = both.1 }

pub write_front-requires : goal.write_front-requires
write_front-requires c =
    let o = c.args.out.now in
    let s = c.args.form.now in
    let x = c.args.c in
    let l = changed_length s x c.requires [] in
    let n = c.changed_size-size.ensures.0 in
    (c.requires, omega arith)

pub write_back-requires : goal.write_back-requires
write_back-requires c =
    let o = c.args.out.now in
    let s = c.args.form.now in
    let x = c.args.c in
    let l = changed_length s x c.requires [] in
    let m = back_length s x c.requires in
    let n = c.changed_size-size.ensures.0 in
    let k = c.write_front.auto.out in
    (c.requires, omega arith)

pub returns : goal.returns
returns c =
    let o = c.args.out.now in
    let s = c.args.form.now in
    let x = c.args.c in
    let n = c.changed_size-size.ensures.0 in
    let both =
    is_written (changed s [] x) o c.write_back.new.out n (omega arith) (cut_written s x c.requires o c.write_front.ensures c.write_back.ensures)
    in record { value = both.0; out_after = both.1 }
