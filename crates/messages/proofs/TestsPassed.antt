-- What the tests of a message's parts have found (`Good`), and of its bytes (`Framed`); and for those who ask the tests in another order,
-- those of the numbers (`ok_numbers`) and a law to move one test before another (`and_left`). Assumes nothing.
use mathlib.Core.Path.{◌≡◌, refl, sym}
use mathlib.Core.Bool.{Bool, true, false, ◌&&◌, and-false}
use Prim.Native.Nat.{◌≤◌}
use borrow.Author.Tests.{leb-true}
use lib.Dec.{leb}
use lib.ListN.{length, drop}
use Rattle.names.specs.Ordering.{rising}
use Rattle.names.specs.Names.{within}
use Rattle.numbers.proofs.Bools.{and_0, and_1}
use Rattle.numbers.specs.Bytes.{Bytes}
use Rattle.std.specs.List.{list_all}
use Rattle.fields.specs.Fields.{stands}
use Rattle.messages.specs.declared.Numbers.{Numbers}
use Rattle.name_fields.specs.NameFields.{name_fits}
use Rattle.messages.specs.Messages.{kind_tag, epoch_tag, author_tag, kind_size, pair_size, epoch_place, author_place, Parts, is_kind, is_epoch, is_author, most_names, is_line, is_message, kind_in, rest_in, parts_in, ends_as, framed, keeps_message}
use Rattle.fields.proofs.FieldInverse.{Standing, standing}

pub record Good (p : Parts) : Type 0 where
  pub kind : is_kind p.numbers.kind ≡ true
  pub epoch : is_epoch p.numbers.epoch ≡ true
  pub author : is_author p.numbers.author ≡ true
  pub named : list_all name_fits p.names ≡ true
  pub some : 1 ≤ length p.names
  pub few : length p.names ≤ most_names p.numbers.kind
  pub rise : rising p.names ≡ true
  pub line : is_line p.numbers.kind p.numbers.line ≡ true

pub good : (p : Parts) → is_message p ≡ true → Good p
unfolding is_message
good p h =
    let k = p.numbers.kind in
    let n = length p.names in
    let a = is_kind k in
    let b = is_epoch p.numbers.epoch in
    let c = is_author p.numbers.author in
    let d = list_all name_fits p.names in
    let e = within 1 (most_names k) n in
    let f = rising p.names in
    let g = is_line k p.numbers.line in
    let h₅ = and_0 (a && b && c && d && e && f) g h in
    let h₄ = and_0 (a && b && c && d && e) f h₅ in
    let h₃ = and_0 (a && b && c && d) e h₄ in
    let h₂ = and_0 (a && b && c) d h₃ in
    let h₁ = and_0 (a && b) c h₂ in
    let w = and_1 (a && b && c && d) e h₄ in
    record {
      kind = and_0 a b h₁;
      epoch = and_1 a b h₁;
      author = and_1 (a && b) c h₂;
      named = and_1 (a && b && c) d h₃;
      some = leb-true 1 n (and_0 (leb 1 n) (leb n (most_names k)) w);
      few = leb-true n (most_names k) (and_1 (leb 1 n) (leb n (most_names k)) w);
      rise = and_1 (a && b && c && d && e) f h₅;
      line = and_1 (a && b && c && d && e && f) g h;
    }

-- the numbers that can be said, whatever the names
abbrev pub ok_numbers : Numbers → Bool
ok_numbers x = is_kind x.kind && is_epoch x.epoch && is_author x.author && is_line x.kind x.line

pub and_left : (a b c : Bool) → a && (b && c) ≡ b && (a && c)
and_left true b c = refl
and_left false b c = sym (and-false b)

pub record Framed (s : Bytes) : Type 0 where
  pub kind : Standing kind_tag kind_size s
  pub epoch : Standing epoch_tag pair_size (drop epoch_place s)
  pub author : Standing author_tag pair_size (drop author_place s)
  pub end : ends_as (kind_in s) (rest_in s) ≡ true

module _ (s : Bytes) (h : keeps_message s ≡ true) where
  pub parts_message : is_message (parts_in s) ≡ true
  unfolding keeps_message
  parts_message = and_1 (framed s) (is_message (parts_in s)) h

  pub frame : Framed s
  unfolding keeps_message framed
  frame =
      let a = stands kind_tag kind_size s in
      let b = stands epoch_tag pair_size (drop epoch_place s) in
      let c = stands author_tag pair_size (drop author_place s) in
      let d = ends_as (kind_in s) (rest_in s) in
      let h₂ = and_0 (a && b && c && d) (is_message (parts_in s)) h in
      let h₁ = and_0 (a && b && c) d h₂ in
      let h₀ = and_0 (a && b) c h₁ in
      record {
        kind = standing kind_tag kind_size s (and_0 a b h₀);
        epoch = standing epoch_tag pair_size (drop epoch_place s) (and_1 a b h₀);
        author = standing author_tag pair_size (drop author_place s) (and_1 (a && b) c h₁);
        end = and_1 (a && b && c) d h₂;
      }
