-- `pair_sets::follow` meets its contract.
use borrow.Author.Rules.{rules}
use borrow.Author.Tests.{not-true, not-false}
use Rattle.pair_sets.proofs.Ways.{first_fits, parts_apart, follow_room, follow_broken, follow_whole}
use Rattle.pair_sets.proofs.follow.Goals as goal

ruleset all = (rules, not-true, not-false, first_fits, parts_apart, follow_room, follow_broken, follow_whole)

pub overflow_mul-from : goal.overflow_mul-from
overflow_mul-from c = search all

pub progressed-requires : goal.progressed-requires
progressed-requires c = record { held = search all; parts = search all }

pub returns-then-not-progressed : goal.returns-then-not-progressed
returns-then-not-progressed c = search all

pub returns : goal.returns
returns c = search all
