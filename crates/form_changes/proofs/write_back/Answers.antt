-- `form_changes::write_back` meets its contract. Assumes nothing.
use mathlib.Core.Path.{ap, ◌∙◌}
use Prim.Native.Nat.{◌-◌}
use native.Mathlib.Omega.{arith}
use lib.ListN.{length, drop, length-drop}
use lib.Seq.{take_all}
use Rattle.numbers.specs.Bytes.{put}
use Rattle.numbers.proofs.Put.{put_more}
use Rattle.form_changes.specs.Changes.{head_in}
use Rattle.form_changes.proofs.ChangedBytes.{back_length}
use Rattle.form_changes.proofs.write_back.Goals as goal

pub returns : goal.returns
returns c =
    let o = c.args.out.now in
    let s = c.args.form.now in
    let x = c.args.c in
    let l = back_length s x c.requires.0 in
    let all = take_all (length s - x.to) (drop x.to s) (omega (arith, length-drop x.to s)) in
    put_more o c.args.p (omega arith) (head_in s x.rest) (drop x.to s) c.write_head-rest.ensures.out_after c.write_head-rest.ensures.value
    (c.copy_long.ensures ∙ ap (put c.write_head-rest.new.out c.write_head-rest.result) all)
