-- `page_renames::is_clear` meets its contract. Assumes nothing.
use Rattle.one_name.proofs.CheckedLog.{logged}
use Rattle.page_renames.proofs.is_clear.Goals as goal

pub all_unmarked-requires : goal.all_unmarked-requires
all_unmarked-requires c = ((logged c.args.log.now c.requires.1).layout, c.shallowest-from.ensures.1)
