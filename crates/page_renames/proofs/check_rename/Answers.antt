-- `page_renames::check_rename` meets its contract. Assumes nothing.
use Rattle.one_name.proofs.CheckedLog.{logged}
use Rattle.page_renames.proofs.Books.{all_asked}
use Rattle.page_renames.proofs.check_rename.Goals as goal

pub all_fresh-requires-else-not-all_fresh : goal.all_fresh-requires-else-not-all_fresh
all_fresh-requires-else-not-all_fresh c =
    let a = c.args in
    (logged a.log.now (all_asked a.page.now a.log.now a.author c.requires).logged).layout
