-- `form_changes::write_given` meets its contract. Assumes nothing.
use mathlib.Core.Path.{ap, ◌∙◌}
use Prim.Native.Nat.{ℕ}
use native.Mathlib.Omega.{arith}
use Rattle.numbers.specs.Bytes.{bytes32, put}
use Rattle.numbers.proofs.Put.{put_more}
use Rattle.slots.specs.Slots.{line_of}
use Rattle.form_changes.specs.Changes.{head_in}
use Rattle.form_changes.proofs.write_given.Goals as goal

pub returns : goal.returns
returns c =
    let o = c.args.out.now in
    let slot = c.args.slot.now in
    let h = head_in slot c.args.head in
    let at = c.write_head-line.ensures.value in
    let d = c.write_head-line.new.out in
    record {
      value = omega arith;
      out_after = put_more o c.args.p (omega arith) h (bytes32 (line_of slot)) c.write_head-line.ensures.out_after at (c.write_u32.ensures ∙ ap (λ (n : ℕ). put d c.write_head-line.result (bytes32 n)) c.read_u32.ensures);
    }
