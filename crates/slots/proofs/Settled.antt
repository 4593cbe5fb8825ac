-- Each public function's promise settles its outcome: any two outcomes that the contract allows are equal. `Learnt` is what a
-- caller learns from the contract, of any arguments a, result r and parameters at exit s. Assumes nothing.
use Rattle.std.proofs.Common.{◌≡◌}
use Rattle.names.specs.Names.{row_of}
use Rattle.numbers.proofs.Settled.{one}
use Rattle.slots.proofs.read_tuple.Reads as read-tuple
use Rattle.slots.proofs.read_row.Reads as read-row
use Rattle.slots.proofs.depth_over.Reads as depth-over
use Rattle.slots.proofs.depth.Reads as depth
use Rattle.slots.proofs.read_line.Reads as read-line
use Rattle.slots.proofs.compare_rows.Reads as compare-rows
use Rattle.slots.proofs.compare_to_one.Reads as compare-to-one
use Rattle.slots.proofs.compare_slots.Reads as compare-slots
use Rattle.slots.proofs.is_name_at.Reads as is-name-at
use Rattle.slots.proofs.follows.Reads as follows
use Rattle.slots.proofs.look_after.Reads as look-after
use Rattle.slots.proofs.write_tuple.Reads as write-tuple
use Rattle.slots.proofs.write_row.Reads as write-row
use Rattle.slots.proofs.copy_row.Reads as copy-row
use Rattle.slots.proofs.write_slot.Reads as write-slot
use Rattle.slots.proofs.copy_long.Reads as copy-long
use Rattle.slots.proofs.copy_slot.Reads as copy-slot
use Rattle.slots.proofs.marker_at.Reads as marker-at
use Rattle.slots.proofs.write_head.Reads as write-head
use Rattle.slots.proofs.write_rest.Reads as write-rest

pub read_tuple_settled : (κs : _) (a : _) (r : _) (s : _) (r' : _) (s' : _) → read-tuple.Learnt κs a r s → read-tuple.Learnt κs a r' s' → r ≡ r'
read_tuple_settled κs a r s r' s' p q = one p q

pub read_row_settled : (κs : _) (a : _) (r : _) (s : _) (r' : _) (s' : _) → read-row.Learnt κs a r s → read-row.Learnt κs a r' s' → row_of r ≡ row_of r'
read_row_settled κs a r s r' s' p q = one p q

pub depth_over_settled : (κs : _) (a : _) (r : _) (s : _) (r' : _) (s' : _) → depth-over.Learnt κs a r s → depth-over.Learnt κs a r' s' → r ≡ r'
depth_over_settled κs a r s r' s' p q = one p q

pub depth_settled : (κs : _) (a : _) (r : _) (s : _) (r' : _) (s' : _) → depth.Learnt κs a r s → depth.Learnt κs a r' s' → r ≡ r'
depth_settled κs a r s r' s' p q = one p q

pub read_line_settled : (κs : _) (a : _) (r : _) (s : _) (r' : _) (s' : _) → read-line.Learnt κs a r s → read-line.Learnt κs a r' s' → r ≡ r'
read_line_settled κs a r s r' s' p q = one p q

pub compare_rows_settled : (κs : _) (a : _) (r : _) (s : _) (r' : _) (s' : _) → compare-rows.Learnt κs a r s → compare-rows.Learnt κs a r' s' → r ≡ r'
compare_rows_settled κs a r s r' s' p q = one p q

pub compare_to_one_settled : (κs : _) (a : _) (r : _) (s : _) (r' : _) (s' : _) → compare-to-one.Learnt κs a r s → compare-to-one.Learnt κs a r' s' → r ≡ r'
compare_to_one_settled κs a r s r' s' p q = one p q

pub compare_slots_settled : (κs : _) (a : _) (r : _) (s : _) (r' : _) (s' : _) → compare-slots.Learnt κs a r s → compare-slots.Learnt κs a r' s' → r ≡ r'
compare_slots_settled κs a r s r' s' p q = one p q

pub is_name_at_settled : (κs : _) (a : _) (r : _) (s : _) (r' : _) (s' : _) → is-name-at.Learnt κs a r s → is-name-at.Learnt κs a r' s' → r ≡ r'
is_name_at_settled κs a r s r' s' p q = one p q

pub follows_settled : (κs : _) (a : _) (r : _) (s : _) (r' : _) (s' : _) → follows.Learnt κs a r s → follows.Learnt κs a r' s' → r ≡ r'
follows_settled κs a r s r' s' p q = one p q

pub look_after_settled : (κs : _) (a : _) (r : _) (s : _) (r' : _) (s' : _) → look-after.Learnt κs a r s → look-after.Learnt κs a r' s' → r ≡ r'
look_after_settled κs a r s r' s' p q = one p q

pub write_tuple_settled : (κs : _) (a : _) (r : _) (s : _) (r' : _) (s' : _) → write-tuple.Learnt κs a r s → write-tuple.Learnt κs a r' s' → s.0.now ≡ s'.0.now
write_tuple_settled κs a r s r' s' p q = one p q

pub write_row_settled : (κs : _) (a : _) (r : _) (s : _) (r' : _) (s' : _) → write-row.Learnt κs a r s → write-row.Learnt κs a r' s' → s.0.now ≡ s'.0.now
write_row_settled κs a r s r' s' p q = one p q

pub copy_row_settled : (κs : _) (a : _) (r : _) (s : _) (r' : _) (s' : _) → copy-row.Learnt κs a r s → copy-row.Learnt κs a r' s' → s.0.now ≡ s'.0.now
copy_row_settled κs a r s r' s' p q = one p q

pub write_slot_settled : (κs : _) (a : _) (r : _) (s : _) (r' : _) (s' : _) → write-slot.Learnt κs a r s → write-slot.Learnt κs a r' s' → s.0.now ≡ s'.0.now
write_slot_settled κs a r s r' s' p q = one p q

pub copy_long_settled : (κs : _) (a : _) (r : _) (s : _) (r' : _) (s' : _) → copy-long.Learnt κs a r s → copy-long.Learnt κs a r' s' → s.0.now ≡ s'.0.now
copy_long_settled κs a r s r' s' p q = one p q

pub copy_slot_settled : (κs : _) (a : _) (r : _) (s : _) (r' : _) (s' : _) → copy-slot.Learnt κs a r s → copy-slot.Learnt κs a r' s' → s.0.now ≡ s'.0.now
copy_slot_settled κs a r s r' s' p q = one p q

pub marker_at_settled : (κs : _) (a : _) (r : _) (s : _) (r' : _) (s' : _) → marker-at.Learnt κs a r s → marker-at.Learnt κs a r' s' → r ≡ r'
marker_at_settled κs a r s r' s' p q = one p q

pub write_head_settled : (κs : _) (a : _) (r : _) (s : _) (r' : _) (s' : _) → write-head.Learnt κs a r s → write-head.Learnt κs a r' s' → s.0.now ≡ s'.0.now
write_head_settled κs a r s r' s' p q = one p q

pub write_rest_settled : (κs : _) (a : _) (r : _) (s : _) (r' : _) (s' : _) → write-rest.Learnt κs a r s → write-rest.Learnt κs a r' s' → s.0.now ≡ s'.0.now
write_rest_settled κs a r s r' s' p q = one p q
