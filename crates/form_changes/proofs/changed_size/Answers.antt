-- `form_changes::changed_size` meets its contract. Assumes nothing.
use native.Mathlib.Omega.{arith}
use mathlib.Core.List.{[]}
use Rattle.form_changes.proofs.ChangedBytes.{head_in_length, changed_length}
use Rattle.form_changes.proofs.changed_size.Goals as goal

pub returns : goal.returns
returns c =
    let s = c.args.form.now in
    let x = c.args.c in
    let order = c.requires.order in
    let within = c.requires.within in
    let all = changed_length s x c.requires [] in
    let rest = head_in_length s x.rest in
    (omega arith, omega arith)
