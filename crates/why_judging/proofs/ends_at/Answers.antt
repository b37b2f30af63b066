-- `ends_at`: by both parts, and by what was seen.
use Rattle.why_judging.proofs.Rests.{step_short}
use Rattle.why_judging.proofs.Parts.{until_inside, ends_inside, waits_low, ends_before}
use borrow.Author.Rules.{rules}
use Rattle.why_judging.proofs.ends_at.Goals as goal

ruleset all = (rules, step_short, until_inside, ends_inside, waits_low, ends_before)

pub kept_at-first-requires : goal.kept_at-first-requires
kept_at-first-requires c = record { kept_size_in_bounds = search all; k_bound = search all; i_lt_position_room = search all }

pub kept_at-second-requires : goal.kept_at-second-requires
kept_at-second-requires c = record { kept_size_in_bounds = search all; k_bound = search all; i_lt_position_room = search all }

pub length_at-requires : goal.length_at-requires
length_at-requires c = search all

pub ends-requires : goal.ends-requires
ends-requires c = record { d_bound = search all; far_bound = search all }

pub returns : goal.returns
returns c = search all
