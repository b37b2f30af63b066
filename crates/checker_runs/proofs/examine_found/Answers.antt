-- `checker_runs::examine_found` meets its contract.
use borrow.Author.Rules.{rules}
use mathlib.Core.Path.{◌≡◌}
use Rattle.std.specs.Prelude.{Err}
use Rattle.base.specs.declared.Rejection.TheVariants as Rejected
use Rattle.checker_runs.specs.Examining.{Examined}
use Rattle.checker_runs.proofs.Ways.{graph_there, ended_refused, ended_met}
use Rattle.checker_runs.proofs.examine_found.Goals as goal

pub examine_steps-requires : goal.examine_steps-requires
examine_steps-requires c = record { fit_tower = search rules; holds_graph = search (graph_there, c.in_ok-found.was) }

pub returns : goal.returns
returns c = ended_met _ _ _ _ _ c.examine_steps.ensures (c.in_ok-found.was {u = tt})

pub returns-in_err-found : goal.returns-in_err-found
returns-in_err-found c =
    let stays : ◌≡◌ {A = Examined} c.from_residual.result (Err (Rejected.Refused c.in_err-found.field-0.0)) = search rules in
    ended_refused _ _ _ _ _ (c.in_err-found.was {u = tt}) stays
