-- The laws of specs/Laws.antt hold. Assumes nothing.
use Rattle.answers.specs.Answers.{refuse}
use Rattle.answers.specs.Laws.{Laws}
use Rattle.answers.proofs.Refusals.{failed, accepted_passes, refused_first}
use Rattle.answers.proofs.Outcomes.{refused_leaves, leaves_first, leaves_after, leaves_length}

pub laws : Laws
laws = record {
  accepted = accepted_passes;
  refused = refused_first;
  refuses = λ x tests f. failed refuse x tests f;
  left_alone = refused_leaves;
  from_the_start = leaves_first;
  nothing_after = leaves_after;
  same_length = leaves_length;
}
