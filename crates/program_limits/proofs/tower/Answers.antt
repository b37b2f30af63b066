-- `program_limits::tower` meets its contract.
use borrow.Author.Rules.{rules}
use Rattle.logic.specs.Tower.{narrow, most_actions}
use Rattle.program_limits.specs.Longest.{longest_tower}
use Rattle.program_limits.proofs.tower.Goals as goal

pub returns : goal.returns
unfolding longest_tower narrow most_actions
returns c = search rules
