-- The book that was read lies in its area.
use borrow.Author.Rules.{rules}
use Rattle.file_tower.proofs.Laws.{marks_few}
use Rattle.book_reader.proofs.BookHeld.{is_held}
use Rattle.pair_count.proofs.of_book.Goals as goal

pub read_lines-requires : goal.read_lines-requires
read_lines-requires c = (search rules, search (rules, marks_few))

pub search_here-requires : goal.search_here-requires
search_here-requires c =
    let read = c.read_lines in
    let size = c.in-Ok.field-0 in
    let few = marks_few _ _ c.requires.fit_tower c.marks.ensures in
    record {
      fit = c.requires.fit_tower;
      held = is_held _ _ _ _ _ size.lines size.nodes read.ensures c.in-Ok.is few read.auto.area c.requires.in_bounds;
    }
