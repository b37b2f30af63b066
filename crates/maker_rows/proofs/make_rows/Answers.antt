-- `maker_rows::make_rows` meets its contract.
use borrow.Author.Rules.{rules}
use borrow.Author.Tests.{not-true, not-false}
use Rattle.maker_rows.proofs.Ways.{flags_enough, met_safe, no_table, rows_made}
use Rattle.maker_rows.proofs.make_rows.Goals as goal

ruleset all = (rules, not-true, not-false, flags_enough, met_safe, no_table, rows_made)

pub remove-requires : goal.remove-requires
remove-requires c = record { fit_tower = search all; holds_graph = search all; removal_size_in_bounds = search (rules, flags_enough) }

pub first_safe-requires : goal.first_safe-requires
first_safe-requires c = search all

pub shape_of-flags-then-not-first_safe : goal.shape_of-flags-then-not-first_safe
shape_of-flags-then-not-first_safe c = search all

pub returns-then-not-first_safe : goal.returns-then-not-first_safe
returns-then-not-first_safe c = search all

pub write_safe-requires : goal.write_safe-requires
write_safe-requires c = met_safe _ _ _ _ _ _ _ _ c.requires c.remove.ensures (search rules) c.first_safe.ensures (search (rules, not-true, not-false))

pub returns : goal.returns
returns c = rows_made _ _ _ _ _ _ _ _ c.requires c.remove.ensures c.first_safe.ensures _ _ _ (search (rules, not-true, not-false)) c.write_safe.ensures
