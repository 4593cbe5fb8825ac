-- `write_messages::write_fields` meets its contract. Assumes nothing.
use mathlib.Core.Path.{◌≡◌, refl, ◌∙◌, sym, ap}
use mathlib.Core.List.{[], ◌∷◌, ◌++◌, flatten}
use Prim.Native.Nat.{◌+◌, ◌≤◌}
use native.Mathlib.Omega.{arith}
use lib.ListN.{length}
use Rattle.numbers.specs.Bytes.{put}
use Rattle.numbers.proofs.Put.{put_more}
use Rattle.pages.specs.Pages.{names_of}
use Rattle.fields.specs.Fields.{field_bytes}
use Rattle.messages.specs.Messages.{kind_tag, epoch_tag, author_tag, pair_bytes, line_fields}
use Rattle.messages.specs.Calls.{parts_given}
use Rattle.messages.proofs.ReadBack.{split}
use Rattle.messages.proofs.Longest.{message_length}
use Rattle.write_messages.proofs.NamesIntoFields.{fields_with}
use Rattle.write_messages.proofs.write_fields.Goals as goal

pub write_numbers-requires : goal.write_numbers-requires
write_numbers-requires c =
    let m = message_length (parts_given c.args.x c.args.names.now) in
    omega arith

pub write_names-end-requires : goal.write_names-end-requires
write_names-end-requires c =
    let m = message_length (parts_given c.args.x c.args.names.now) in
    omega arith

pub write_line-requires : goal.write_line-requires
write_line-requires c =
    let m = message_length (parts_given c.args.x c.args.names.now) in
    let e = c.write_names-end.ensures.value in
    omega arith

pub returns : goal.returns
returns c =
    let o = c.args.out.now in
    let x = c.args.x in
    let h : 0 ≤ length o = omega arith in
    let head = field_bytes kind_tag (x.kind ∷ []) ++ (field_bytes epoch_tag (pair_bytes x.epoch) ++ field_bytes author_tag (pair_bytes x.author)) in
    let names = fields_with (names_of c.args.names.now) in
    let d = put_more o 0 h head names c.write_numbers.ensures refl c.write_names-end.ensures.out_after in
    let end = c.write_names-end.ensures.value in
    let q : c.write_names-end.result ≡ 0 + length (head ++ names) = omega arith in
    put_more o 0 h (head ++ names) (flatten (line_fields x.kind x.line)) d q c.write_line.ensures
    ∙ ap (put o 0) (sym (split (parts_given x c.args.names.now)))
