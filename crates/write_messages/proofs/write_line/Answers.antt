-- `write_messages::write_line` meets its contract. Assumes nothing.
use mathlib.Core.Path.{refl, ◌∙◌, sym, ap}
use mathlib.Core.List.{◌∷◌}
use native.Mathlib.Omega.{arith}
use lib.ListN.{length}
use Rattle.numbers.specs.Bytes.{bytes16, bytes32, put}
use Rattle.numbers.proofs.Put.{put_more, put_none}
use Rattle.messages.specs.Messages.{line_tag, line_size}
use Rattle.write_messages.proofs.NamesIntoFields.{line_there, line_absent}
use Rattle.write_messages.proofs.write_line.Goals as goal

pub write_field_head-requires : goal.write_field_head-requires
write_field_head-requires c =
    let l = ap length (line_there c.args.kind c.args.line c.if-kind-eq-INSERT.true) in
    omega arith

pub write_u32-requires : goal.write_u32-requires
write_u32-requires c =
    let l = ap length (line_there c.args.kind c.args.line c.if-kind-eq-INSERT.true) in
    let k = c.write_field_head.auto.out in
    omega arith

pub returns-then-kind-eq-INSERT : goal.returns-then-kind-eq-INSERT
returns-then-kind-eq-INSERT c =
    let o = c.args.out.now in
    let p = c.args.p in
    let e = line_there c.args.kind c.args.line c.if-kind-eq-INSERT.true in
    let l = ap length e in
    let head = c.write_field_head.ensures in
    put_more o p (omega arith) (line_tag ∷ bytes16 line_size) (bytes32 c.args.line) head refl c.write_u32.ensures
    ∙ ap (put o p) (sym e)

pub returns-else-kind-eq-INSERT : goal.returns-else-kind-eq-INSERT
returns-else-kind-eq-INSERT c =
    let o = c.args.out.now in
    let p = c.args.p in
    put_none o p ∙ ap (put o p) (sym (line_absent c.args.kind c.args.line c.if-kind-eq-INSERT.false))
