-- `both_at`: by both parts.
use Rattle.why_judging.proofs.Parts.{first_inside, second_inside, and_holds, and_fails, or_holds, or_fails}
use borrow.Author.Rules.{rules}
use Rattle.why_judging.proofs.both_at.Goals as goal

ruleset all = (rules, first_inside, second_inside)

pub kept_at-first-requires : goal.kept_at-first-requires
kept_at-first-requires c = record { kept_size_in_bounds = search all; k_bound = search all; i_lt_position_room = search all }

pub kept_at-second-requires : goal.kept_at-second-requires
kept_at-second-requires c = record { kept_size_in_bounds = search all; k_bound = search all; i_lt_position_room = search all }

pub returns-then-first : goal.returns-then-first
returns-then-first c = search (rules, and_holds)

pub returns-else-first : goal.returns-else-first
returns-else-first c = search (rules, and_fails)

pub returns-then-first-2 : goal.returns-then-first-2
returns-then-first-2 c = search (rules, or_holds)

pub returns-else-first-2 : goal.returns-else-first-2
returns-else-first-2 c = search (rules, or_fails)
