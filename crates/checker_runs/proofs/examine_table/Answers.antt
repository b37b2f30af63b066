-- `checker_runs::examine_table` meets its contract.
use borrow.Author.Rules.{rules}
use mathlib.Core.Path.{◌≡◌}
use Rattle.std.specs.Prelude.{Err}
use Rattle.checker_runs.specs.Examining.{Examined}
use Rattle.checker_runs.proofs.Ways.{runs_walkable, runs_searched, table_rejects, runs_decide}
use Rattle.checker_runs.proofs.examine_table.Goals as goal

pub explore-found-requires : goal.explore-found-requires
explore-found-requires c = record { walkable = search (runs_walkable, c.in_ok-test_table.was); entries_size_in_bounds = search rules; index_size_in_bounds = search rules; graph_size_in_bounds = search rules; sets_size_in_bounds = search rules; room_size_in_bounds = search rules }

pub examine_found-requires : goal.examine_found-requires
examine_found-requires c = record { fit_tower = search c.requires; searched = runs_searched _ _ _ _ _ c.explore-found.ensures }

pub returns : goal.returns
returns c = runs_decide _ _ _ _ _ c.test_table.ensures _ _ c.explore-found.ensures c.examine_found.ensures (c.in_ok-test_table.was {u = tt})

pub returns-in_err-test_table : goal.returns-in_err-test_table
returns-in_err-test_table c =
    let stays : ◌≡◌ {A = Examined} c.from_residual.result (Err c.in_err-test_table.field-0.0) = search rules in
    table_rejects _ _ _ _ _ c.test_table.ensures _ _ (c.in_err-test_table.was {u = tt}) stays
