-- `maker::make_files` meets its contract.
use borrow.Author.Rules.{rules}
use mathlib.Core.Path.{◌≡◌}
use Rattle.std.specs.Prelude.{Err}
use Rattle.file_tower.proofs.Laws.{fit_of, marks_few}
use Rattle.book_reader.proofs.BookHeld.{book_held, is_held}
use Rattle.maker.proofs.Ways.{tower_refused, book_refused, book_good}
use Rattle.maker.proofs.make_files.Goals as goal

pub returns-in_err-read_tower : goal.returns-in_err-read_tower
returns-in_err-read_tower c =
    let stays : c.from_residual.result ≡ Err c.in_err-read_tower.field-0.0 = search rules in
    search (tower_refused, c.in_err-read_tower.was)

pub marks-requires : goal.marks-requires
marks-requires c = search (fit_of, c.in_ok-read_tower.was)

pub read_lines-requires : goal.read_lines-requires
read_lines-requires c = (search rules, search (rules, marks_few, fit_of, c.in_ok-read_tower.was))

pub returns-in_err-read_lines : goal.returns-in_err-read_lines
returns-in_err-read_lines c =
    let fit = fit_of _ _ c.read_tower.ensures c.in_ok-read_tower.was in
    let stays : c.from_residual-in_err-read_lines.result ≡ Err c.in_err-read_lines.field-0.0 = search rules in
    book_refused _ _ _ _ _ fit c.marks.ensures _ _ _ c.read_lines.ensures c.in_err-read_lines.was stays

pub make_table-requires : goal.make_table-requires
make_table-requires c =
    let read = c.read_lines in
    let size = c.in_ok-read_lines.field-0 in
    let marked = c.marks.ensures in
    let fit = fit_of _ _ c.read_tower.ensures c.in_ok-read_tower.was in
    record {
      tower_with_book =
          record {
            fit = fit;
            held =
                is_held _ _ _ _ _ size.lines size.nodes read.ensures c.in_ok-read_lines.was (marks_few _ _ fit marked) read.auto.area
                c.requires.lent.nodes_room;
          };
      room = search rules;
    }

pub returns : goal.returns
returns c =
    let read = c.read_lines in
    let size = c.in_ok-read_lines.field-0 in
    let marked = c.marks.ensures in
    let fit = fit_of _ _ c.read_tower.ensures c.in_ok-read_tower.was in
    book_good _ _ _ _ _ fit marked _ _ c.make_table.ensures
    (book_held _ _ _ _ _ size.lines size.nodes read.ensures c.in_ok-read_lines.was (marks_few _ _ fit marked) read.auto.area
    c.requires.lent.nodes_room)
