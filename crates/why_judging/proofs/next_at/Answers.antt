-- `next_at`: by the length of the action, and by the part at the next position.
use Rattle.why_judging.proofs.Parts.{next_inside, next_fails, next_last, next_on}
use borrow.Author.Rules.{rules}
use Rattle.why_judging.proofs.next_at.Goals as goal

ruleset all = (rules, next_inside, next_fails, next_on)

pub returns-then-not-compares : goal.returns-then-not-compares
returns-then-not-compares c = search all

pub returns-then-i-n : goal.returns-then-i-n
returns-then-i-n c = search (rules, next_last)

pub kept_at-requires : goal.kept_at-requires
kept_at-requires c = record { kept_size_in_bounds = search rules; k_bound = search all; i_lt_position_room = search rules }

pub returns : goal.returns
returns c = search all
