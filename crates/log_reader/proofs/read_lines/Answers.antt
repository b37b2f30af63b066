-- `log_reader::read_lines` meets its contract.
use borrow.Author.Rules.{rules}
use Rattle.log_course.proofs.Laws.{first_on_row, none_noted}
use Rattle.log_reader.proofs.Ways.{whole_log}
use Rattle.log_reader.proofs.read_lines.Goals as goal

pub follow_lines-followed-requires : goal.follow_lines-followed-requires
follow_lines-followed-requires c = record { rows_judgeable = search rules; noted = search none_noted; on_row = search first_on_row; log_bound = search rules }

pub returns : goal.returns
returns c = search whole_log
