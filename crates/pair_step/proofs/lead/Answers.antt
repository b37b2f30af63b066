-- `pair_step::lead` meets its contract.
use borrow.Author.Rules.{rules}
use Rattle.pair_step.proofs.Repeating.{moves_written, lead_again}
use Rattle.pair_step.proofs.lead.Goals as goal

ruleset all = (rules, moves_written, lead_again)

pub led_before-requires : goal.led_before-requires
led_before-requires c = search all

pub returns-in-Some : goal.returns-in-Some
returns-in-Some c = search all

pub look_up-requires : goal.look_up-requires
look_up-requires c = record { searching = search rules; a_bound = search rules; a_value = search rules }
