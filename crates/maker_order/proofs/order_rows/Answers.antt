-- `maker_order::order_rows` meets its contract.
use borrow.Author.Rules.{rules}
use Rattle.maker_order.proofs.Ways.{no_rows, first_row, ordered}
use Rattle.maker_order.proofs.order_rows.Goals as goal

ruleset all = (rules, no_rows, first_row, ordered)

pub clear_marks-requires : goal.clear_marks-requires
clear_marks-requires c = search all

pub meet-first-requires : goal.meet-first-requires
meet-first-requires c = search all

pub expand_all-requires : goal.expand_all-requires
expand_all-requires c = record { flagged_graph = search all; rows_numbered = search all; first_value = first_row _ _ _ _ c.meet-first.ensures }

pub shape_of-area : goal.shape_of-area
shape_of-area c = search all

pub returns : goal.returns
returns c = search all
