-- The decoder and the encoder of slots are inverse. proofs/RoundTrip.antt has that all of it holds (`laws`).
use Rattle.std.specs.Prelude.{◌≡◌, true, length}
use Rattle.numbers.specs.Bytes.{Bytes, Octets}
use Rattle.slots.specs.Slots.{Slot, slot_size, slot_of, keeps_slot, slot_bytes, is_slot}

pub record Laws : Type 0 where
  -- bytes that keep a slot's layout are the bytes of what they say, which is a slot
  pub bytes_back : (s : Bytes) → Octets s → keeps_slot s ≡ true → slot_bytes (slot_of s) ≡ s
  pub decoded : (s : Bytes) → Octets s → keeps_slot s ≡ true → is_slot (slot_of s) ≡ true
  -- what the bytes of a slot say is that slot, and they keep the layout, as long as a slot
  pub slot_back : (x : Slot) → is_slot x ≡ true → slot_of (slot_bytes x) ≡ x
  pub encoded : (x : Slot) → is_slot x ≡ true → keeps_slot (slot_bytes x) ≡ true
  pub long : (x : Slot) → is_slot x ≡ true → length (slot_bytes x) ≡ slot_size
