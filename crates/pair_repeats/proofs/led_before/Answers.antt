use borrow.Author.Rules.{rules}
use Rattle.pair_repeats.proofs.Ways.{before_found}
use Rattle.pair_repeats.proofs.led_before.Goals as goal

ruleset all = (rules, before_found)

pub loop-b-init : goal.loop-b-init
loop-b-init c = search all

pub move_alike-requires : goal.move_alike-requires
move_alike-requires c = record { moves_written = search all; b_lt_a = search all }

pub returns-in-Some : goal.returns-in-Some
returns-in-Some c = search all

pub loop-b-preserved : goal.loop-b-preserved
loop-b-preserved c = search all

pub returns : goal.returns
returns c = search all
