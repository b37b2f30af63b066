-- `maker::make_table` meets its contract.
use borrow.Author.Rules.{rules}
use mathlib.Core.Path.{◌≡◌}
use Rattle.std.specs.Prelude.{Err}
use Rattle.pair_trial.proofs.Walking.{tower_walkable}
use Rattle.maker.proofs.Ways.{search_refused, pairs_met, few_enough}
use Rattle.maker.proofs.make_table.Goals as goal

pub explore-requires : goal.explore-requires
explore-requires c = record { walkable = search tower_walkable; entries_size_in_bounds = search rules; index_size_in_bounds = search rules; graph_size_in_bounds = search rules; sets_size_in_bounds = search rules; room_size_in_bounds = search rules }

pub make_rows-requires : goal.make_rows-requires
make_rows-requires c = search (rules, pairs_met, c.explore.ensures, c.in_ok-n.was, c.requires)

pub returns-in_err-n : goal.returns-in_err-n
returns-in_err-n c =
    let stays : c.from_residual.result ≡ Err c.in_err-n.field-0.0 = search rules in
    search (search_refused, c.explore.ensures, c.in_err-n.was)

pub returns : goal.returns
returns c = search (few_enough, c.make_rows.ensures, c.explore.ensures, c.in_ok-n.was)
