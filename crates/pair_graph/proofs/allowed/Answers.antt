-- `pair_graph::allowed` meets its contract.
use borrow.Author.Rules.{rules}
use borrow.Author.Tests.{not-true, not-false}
use Rattle.pair_graph.proofs.Moves.{led_low, led_below, led_removed, led_safe}
use Rattle.pair_graph.proofs.allowed.Goals as goal

ruleset all = (rules, not-true, not-false, led_low, led_below, led_removed, led_safe)

pub move_number-m-requires : goal.move_number-m-requires
move_number-m-requires c = search all

pub returns-then-m-lt-FIRST_PAIR : goal.returns-then-m-lt-FIRST_PAIR
returns-then-m-lt-FIRST_PAIR c = search all

pub is_safe-requires : goal.is_safe-requires
is_safe-requires c = search all

pub returns-then-not-is_safe : goal.returns-then-not-is_safe
returns-then-not-is_safe c = search all

pub returns : goal.returns
returns c = search all
