-- `log_reader::read_log` meets its contract.
use borrow.Author.Rules.{rules}
use mathlib.Core.Path.{◌≡◌}
use Rattle.std.specs.Prelude.{Err}
use Rattle.checker_files.proofs.Laws.{sound_rows}
use Rattle.log_reader.proofs.Ways.{tests_reject, lines_read}
use Rattle.log_reader.proofs.read_log.Goals as goal

pub read_lines-requires : goal.read_lines-requires
read_lines-requires c = search (rules, sound_rows, c.in_ok-test_files.was)

pub returns-in_err-test_files : goal.returns-in_err-test_files
returns-in_err-test_files c =
    let stays : c.from_residual.result ≡ Err c.in_err-test_files.field-0.0 = search rules in
    search (rules, tests_reject, c.in_err-test_files.was)

pub returns : goal.returns
returns c = search (rules, lines_read, c.in_ok-test_files.was)
