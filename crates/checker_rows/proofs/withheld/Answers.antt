-- `checker_rows::withheld` meets its contract.
use borrow.Author.Rules.{rules}
use Rattle.checker_rows.proofs.Ways.{has_header, state_inside, withheld_ours, withheld_not_enabled, withheld_no_step, withheld_allowed}
use Rattle.checker_rows.proofs.withheld.Goals as goal

ruleset all = (rules, has_header, state_inside, withheld_ours, withheld_not_enabled, withheld_no_step, withheld_allowed)

pub kind-requires : goal.kind-requires
kind-requires c = search all

pub controllable-requires : goal.controllable-requires
controllable-requires c = search all

pub returns-then-controllable : goal.returns-then-controllable
returns-then-controllable c = search all

pub row_state-requires : goal.row_state-requires
row_state-requires c = search all

pub returns : goal.returns
returns c = search all

pub target-requires : goal.target-requires
target-requires c = search all

pub returns-then-is_none : goal.returns-then-is_none
returns-then-is_none c = search all
