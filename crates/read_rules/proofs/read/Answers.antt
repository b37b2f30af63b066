-- `read_rules::read` meets its contract.
use borrow.Author.Rules.{rules}
use Rattle.file_tower.proofs.Laws.{fit_of}
use Rattle.read_rules.proofs.Ways.{tower_refused, book_read}
use Rattle.read_rules.proofs.read.Goals as goal

ruleset all = (rules, fit_of, tower_refused, book_read)

pub marks-requires : goal.marks-requires
marks-requires c = search (all, c.in_ok-read_tower.was)

pub returns : goal.returns
returns c = search (all, c.in_ok-read_tower.was)

pub returns-in_err-read_tower : goal.returns-in_err-read_tower
returns-in_err-read_tower c = search (all, c.in_err-read_tower.was)
