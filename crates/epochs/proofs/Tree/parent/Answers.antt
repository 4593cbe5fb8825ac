use Rattle.std.proofs.Common.{◌∙◌}
use Rattle.epochs.proofs.Entries.{parent_byte}
use Rattle.epochs.proofs.Tree.parent.Goals as goal

pub returns : goal.returns
returns c = c.from.ensures ∙ parent_byte c.args.self.now.entries.now c.args.k c.args.self.now.is_table c.requires
