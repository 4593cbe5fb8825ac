-- `grouping::write_form` meets its contract. Assumes nothing.
use mathlib.Core.Path.{sym}
use Prim.Native.Nat.{◌+◌, ◌*◌, ◌<◌, ◌≤◌}
use native.Mathlib.Omega.{arith}
use lib.ListN.{length}
use Rattle.slots.specs.Tuples.{row_at}
use Rattle.pages.specs.Pages.{slots_of}
use Rattle.pages.proofs.RoundTrip.{laid}
use Rattle.pages.proofs.SlotBySlot.{length_slots}
use Rattle.groups.specs.Groups.{line_size}
use Rattle.grouping.proofs.PageNames.{named_long, named_offset}
use Rattle.grouping.proofs.GroupsWritten.{grouping_first, grouping_end, grouping_size, head_fits, lines_fit, grouping_on}
use Rattle.grouping.proofs.write_form.Goals as goal

pub loop-k-init : goal.loop-k-init
loop-k-init c =
    let s = c.args.page.now in
    (sym (length_slots s), (laid s c.requires.0).few, grouping_first (slots_of s) c.args.out.now)

pub run_from-run-requires : goal.run_from-run-requires
run_from-run-requires c = (c.requires.0, omega arith)

pub write_head-p-requires : goal.write_head-p-requires
write_head-p-requires c =
    let s = c.args.page.now in
    let k = c.loop-k.k in
    let h : k < length (slots_of s) = omega arith in
    let run = c.run_from-run in
    let span = c.span_of in
    let offset = named_offset s c.requires.0 k h span.result span.ensures.1 in
    record {
      lies = (span.ensures.0, named_long s c.requires.0 k h span.result span.ensures.1, omega arith, omega arith);
      count_in_bounds = head_fits c.loop-k.invariant.2 h run.result run.ensures.0 run.ensures.2 (row_at s span.result) span.ensures.1 c.requires.1;
    }

pub write_lines-requires : goal.write_lines-requires
write_lines-requires c =
    let lines_there : c.write_head-p.result + line_size * c.run_from-run.result ≤ length c.write_head-p.new.out =
    let s = c.args.page.now in
    let h : c.loop-k.k < length (slots_of s) = omega arith in
    let run = c.run_from-run in
    let span = c.span_of in
    let head = c.write_head-p in
    lines_fit c.loop-k.invariant.2 h run.result run.ensures.0 run.ensures.2 (row_at s span.result) span.ensures.1 c.requires.1 head.new.out head.result head.ensures.value head.ensures.out_after in
    (c.run_from-run.ensures.2, lines_there)

pub overflow_add-p : goal.overflow_add-p
overflow_add-p c =
    let lines_there : c.write_head-p.result + line_size * c.run_from-run.result ≤ length c.write_head-p.new.out =
    let s = c.args.page.now in
    let h : c.loop-k.k < length (slots_of s) = omega arith in
    let run = c.run_from-run in
    let span = c.span_of in
    let head = c.write_head-p in
    lines_fit c.loop-k.invariant.2 h run.result run.ensures.0 run.ensures.2 (row_at s span.result) span.ensures.1 c.requires.1 head.new.out head.result head.ensures.value head.ensures.out_after in
    omega (arith, lines_there)

pub loop-k-preserved : goal.loop-k-preserved
loop-k-preserved c =
    let s = c.args.page.now in
    let h : c.loop-k.k < length (slots_of s) = omega arith in
    let run = c.run_from-run in
    let span = c.span_of in
    let head = c.write_head-p in
    let inv = c.loop-k.invariant in (
      inv.0,
      inv.1,
      grouping_on inv.2 h run.result run.ensures.0 run.ensures.2 (row_at s span.result) span.ensures.1 c.requires.1 head.new.out head.result head.ensures.value head.ensures.out_after
          c.write_lines.new.out c.write_lines.ensures,
    )

pub returns : goal.returns
returns c =
    record {
      value = grouping_size c.loop-k.invariant.2 (omega arith);
      out_after = grouping_end c.loop-k.invariant.2 (omega arith);
    }
