-- What is written is bytes: `written_octets`, of any slots one after the other. So what holds of a page whose elements are bytes
-- holds of every page that an accepted call has written. Assumes nothing.
use mathlib.Core.Path.{◌≡◌}
use mathlib.Core.List.{List, [], ◌∷◌, flatten}
use mathlib.Core.Bool.{true, ◌&&◌}
use Prim.Native.Nat.{◌-◌, ◌*◌}
use native.Mathlib.Omega.{arith}
use borrow.Author.Tests.{leb-true}
use lib.Dec.{leb}
use lib.ListN.{length}
use Rattle.names.specs.Names.{limit, fits, is_name}
use Rattle.numbers.proofs.Bools.{and_0, and_1}
use Rattle.numbers.proofs.Octets.{AllBytes, nil, byte, all_octets, join, zeros, four}
use Rattle.numbers.specs.Bytes.{Octets}
use Rattle.std.specs.List.{list_all}
use Rattle.slots.specs.Tuples.{tuple_size}
use Rattle.slots.specs.Slots.{bytes_over, Slot, slot_bytes, is_slot}
use Rattle.slots.proofs.NameOctets.{name_all}
use Rattle.pages.specs.Pages.{pieces}
use Rattle.numbers.proofs.Lists.{flat, flat_none}

slot_all : (x : Slot) → is_slot x ≡ true → AllBytes (slot_bytes x)
unfolding bytes_over
slot_all x e =
    let a = leb x.line 4294967295 in
    let b = is_name x.name in
    let f = and_0 (a && b) (fits x.name) e in
    let n = and_1 a b f in
    let h = leb-true x.line 4294967295 (and_0 a b f) in
    let d = leb-true (length x.name) limit (and_1 (a && b) (fits x.name) e) in
    let front : AllBytes (length x.name ∷ 0 ∷ 0 ∷ 0 ∷ []) = byte (length x.name) (omega arith) (zeros 3) in
    join (join (join front (four x.line (omega arith))) (name_all x.name n)) (zeros (tuple_size * (limit - length x.name)))

written_all : (l : List Slot) → list_all is_slot l ≡ true → AllBytes (flatten (pieces l))
written_all [] e = rw flat_none nil
written_all (x ∷ l) e = rw (flat (slot_bytes x) (pieces l)) (join (slot_all x (and_0 (is_slot x) (list_all is_slot l) e)) (written_all l (and_1 (is_slot x) (list_all is_slot l) e)))

pub written_octets : (l : List Slot) → list_all is_slot l ≡ true → Octets (flatten (pieces l))
written_octets l e = all_octets (written_all l e)
