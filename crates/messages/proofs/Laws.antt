-- What holds of every message and of every call that reads or writes one (specs/Laws.antt): `laws`. Assumes nothing.
use mathlib.Core.Path.{sym, ap, ◌∙◌}
use Rattle.answers.specs.Answers.{Answer}
use Rattle.messages.specs.Messages.{message_bytes, numbers_in, parts_in, keeps_message}
use Rattle.messages.specs.Calls.{given_by}
use Rattle.messages.specs.Laws.{InverseLaws, LongestLaws, Laws}
use Rattle.messages.proofs.TestsPassed.{parts_message}
use Rattle.messages.proofs.ReadBack.{parts_back, written_message}
use Rattle.messages.proofs.WriteBack.{bytes_back, one_writing}
use Rattle.messages.proofs.WrittenOctets.{written_octets}
use Rattle.messages.proofs.Longest.{longest_is, no_longer_read, full, full_message, full_length}
use Rattle.messages.proofs.CallAnswers.{when_malformed, when_short, when_read, when_unwritable, when_too_long, when_written}
use Rattle.messages.proofs.CallsInverse.{slots_read, may_again, write_read, read_written, numbers_written, may_exactly}
use Rattle.messages.proofs.SlotsAreALog.{read_log}

inverse : InverseLaws
inverse = record {
  written_octets = written_octets;
  written_message = written_message;
  parts_back = parts_back;
  parts_message = parts_message;
  bytes_back = bytes_back;
  message_exactly = λ s k. (
    λ h. (parts_in s, parts_message s h, bytes_back s k h),
    λ v. sym (ap keeps_message v.2) ∙ written_message v.0 v.1,
  );
  one_writing = one_writing;
}

size : LongestLaws
size = record {
  longest_is = longest_is;
  no_longer = no_longer_read;
  one_as_long = (message_bytes full, written_octets full full_message, written_message full full_message, full_length);
}

pub laws : Laws
laws = record {
  inverse = inverse;
  size = size;
  read = λ s room. record {
    malformed = when_malformed s room;
    short = when_short s room;
    accepted = when_read s room;
    zeros_refused = λ r e. ap (λ (a : Answer). given_by a (numbers_in s)) e;
    numbers_accepted = λ n e. ap (λ (a : Answer). given_by a (numbers_in s)) e;
    slots = slots_read s room;
    log = read_log s room;
    may_again = may_again s room;
    write_read = write_read s room;
  };
  write = λ x slots room. record {
    malformed = when_unwritable x slots room;
    short = when_too_long x slots room;
    accepted = when_written x slots room;
    read_written = read_written x slots room;
    numbers_written = numbers_written x slots room;
  };
  may_exactly = may_exactly;
}
