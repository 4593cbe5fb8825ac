-- The laws of specs/Laws.antt hold. Assumes nothing.
use Rattle.pages.specs.Laws.{Laws}
use Rattle.pages.proofs.RoundTrip.{page_back, page_slots, slots_back, written_length, written_page}

pub laws : Laws
laws = record {
  bytes_back = page_back;
  decoded = page_slots;
  slots_back = slots_back;
  long = written_length;
  written = written_page;
}
