use Prim.Native.Nat.{◌-◌}
use lib.ListN.{length}
use Rattle.book_formula.specs.Parse.{Joins, by_or, by_and, left_at}
use Rattle.book_formula.proofs.+formula_readers.Given as goal

abbrev pub decreases-and_level : goal.decreases-and_level
decreases-and_level l = left_at l.s.now 8 l.at

abbrev pub decreases-bracketed : goal.decreases-bracketed
decreases-bracketed l = left_at l.s.now 1 l.at

abbrev pub decreases-led : goal.decreases-led
decreases-led l = left_at l.s.now 5 l.at

abbrev pub decreases-one_part : goal.decreases-one_part
decreases-one_part l = left_at l.s.now 8 l.at

abbrev pub decreases-or_level : goal.decreases-or_level
decreases-or_level l = left_at l.s.now 9 l.at

abbrev pub decreases-second_part : goal.decreases-second_part
decreases-second_part l = left_at l.s.now 8 l.at

abbrev pub decreases-two_parts : goal.decreases-two_parts
decreases-two_parts l = left_at l.s.now 8 l.at

abbrev pub decreases-unit : goal.decreases-unit
decreases-unit l = left_at l.s.now 7 l.at

abbrev pub decreases-within : goal.decreases-within
decreases-within l = left_at l.s.now 8 l.at

abbrev pub invariant-and_level-loop-behind : goal.invariant-and_level-loop-behind
invariant-and_level-loop-behind l = Joins by_and l.s l.at l.room l.initial.next l.initial.area l.next l.area

abbrev pub decreases-and_level-loop-behind : goal.decreases-and_level-loop-behind
decreases-and_level-loop-behind l = length l.s - l.next

abbrev pub invariant-or_level-loop-behind : goal.invariant-or_level-loop-behind
invariant-or_level-loop-behind l = Joins by_or l.s l.at l.room l.initial.next l.initial.area l.next l.area

abbrev pub decreases-or_level-loop-behind : goal.decreases-or_level-loop-behind
decreases-or_level-loop-behind l = length l.s - l.next
