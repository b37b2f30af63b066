-- `checker_runs::examine` meets its contract.
use borrow.Author.Rules.{rules}
use mathlib.Core.Path.{◌≡◌}
use Rattle.std.specs.Prelude.{Err}
use Rattle.base.specs.declared.Rejection.TheVariants as Rejected
use Rattle.file_tower.proofs.Laws.{fit_of, marks_few}
use Rattle.book_reader.proofs.BookHeld.{book_held}
use Rattle.checker_runs.specs.Examining.{Examined}
use Rattle.checker_runs.proofs.Ways.{tower_refused, book_refused, book_good}
use Rattle.checker_runs.proofs.examine.Goals as goal

pub marks-requires : goal.marks-requires
marks-requires c = search (fit_of, c.in_ok-read_tower.was)

pub read_lines-requires : goal.read_lines-requires
read_lines-requires c = let fit = fit_of _ _ c.read_tower.ensures (c.in_ok-read_tower.was {u = tt}) in (search rules, search (rules, marks_few, fit))

pub examine_table-requires : goal.examine_table-requires
examine_table-requires c =
    let read = c.read_lines in
    let marked = c.marks.ensures in
    let fit = fit_of _ _ c.read_tower.ensures (c.in_ok-read_tower.was {u = tt}) in
    let here = book_held c.marks.result c.args.text.now c.args.nodes.now c.read_lines.new.area _ c.in_ok-read_lines.field-0.lines c.in_ok-read_lines.field-0.nodes read.ensures (c.in_ok-read_lines.was {u = tt}) (marks_few _ _ fit marked) (search (rules, read.auto)) (search (rules, c.requires)) in
    record { tower_with_book = record { fit = fit; held = here.held }; pairs_area_in_bounds = search rules; index_area_in_bounds = search rules; graph_area_in_bounds = search rules; sets_area_in_bounds = search rules; room_area_in_bounds = search rules }

pub returns-in_err-read_tower : goal.returns-in_err-read_tower
returns-in_err-read_tower c =
    let stays : ◌≡◌ {A = Examined} c.from_residual.result (Err (Rejected.Refused c.in_err-read_tower.field-0.0)) = search rules in
    tower_refused _ _ _ _ _ _ _ _ c.read_tower.ensures (c.in_err-read_tower.was {u = tt}) stays

pub returns-in_err-read_lines : goal.returns-in_err-read_lines
returns-in_err-read_lines c =
    let fit = fit_of _ _ c.read_tower.ensures (c.in_ok-read_tower.was {u = tt}) in
    let stays : ◌≡◌ {A = Examined} c.from_residual-in_err-read_lines.result (Err (Rejected.Refused c.in_err-read_lines.field-0.0)) = search rules in
    book_refused _ _ _ _ _ _ fit c.marks.ensures _ _ _ c.read_lines.ensures (c.in_err-read_lines.was {u = tt}) stays

pub returns : goal.returns
returns c =
    let read = c.read_lines in
    let marked = c.marks.ensures in
    let fit = fit_of _ _ c.read_tower.ensures (c.in_ok-read_tower.was {u = tt}) in
    book_good _ _ _ _ _ _ fit marked _ c.examine_table.ensures (book_held c.marks.result c.args.text.now c.args.nodes.now c.read_lines.new.area _ c.in_ok-read_lines.field-0.lines c.in_ok-read_lines.field-0.nodes read.ensures (c.in_ok-read_lines.was {u = tt}) (marks_few _ _ fit marked) (search (rules, read.auto)) (search (rules, c.requires)))
