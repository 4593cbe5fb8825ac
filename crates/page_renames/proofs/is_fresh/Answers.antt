-- `page_renames::is_fresh` meets its contract. Assumes nothing.
use native.Mathlib.Omega.{arith}
use Rattle.slots.proofs.RoundTrip.{kept}
use Rattle.page_renames.proofs.Freshness.{other_node, same_node}
use Rattle.page_renames.proofs.is_fresh.Goals as goal

pub read_tuple-t-requires : goal.read_tuple-t-requires
read_tuple-t-requires c = omega (arith, (kept c.args.slot.now c.requires).long)

pub returns-then-t-author : goal.returns-then-t-author
returns-then-t-author c = other_node c.args.author c.args.slot.now c.requires c.read_tuple-t.ensures c.if-t-author.true

pub returns-else-t-author : goal.returns-else-t-author
returns-else-t-author c = same_node c.args.author c.args.slot.now c.requires c.read_tuple-t.ensures c.if-t-author.false
