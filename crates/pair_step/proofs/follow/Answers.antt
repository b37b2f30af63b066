-- `pair_step::follow` meets its contract.
use borrow.Author.Rules.{rules}
use Rattle.pair_step.proofs.Entering.{state_inside}
use Rattle.pair_step.proofs.Following.{follow_not, follow_goes}
use Rattle.pair_step.proofs.follow.Goals as goal

ruleset all = (rules, state_inside, follow_not, follow_goes)

pub number-x-requires : goal.number-x-requires
number-x-requires c = record { i_bound = search all; entries_size_in_bounds = search all }

pub lead-requires : goal.lead-requires
lead-requires c = record { searching = search rules; a_bound = search rules; a_value = search (rules, follow_goes) }

pub enum_told-1 : goal.enum_told-1
enum_told-1 c = search all

pub shape_of-index : goal.shape_of-index
shape_of-index c = search all

pub returns-in-None : goal.returns-in-None
returns-in-None c = search all
