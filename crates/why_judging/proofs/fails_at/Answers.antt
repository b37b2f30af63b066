-- `fails_at`: by the part, and by what was seen.
use Rattle.why_judging.proofs.Rests.{step_short}
use Rattle.why_judging.proofs.Parts.{always_inside, waits_low, fails_before}
use borrow.Author.Rules.{rules}
use Rattle.why_judging.proofs.fails_at.Goals as goal

ruleset all = (rules, step_short, always_inside, waits_low, fails_before)

pub kept_at-part-requires : goal.kept_at-part-requires
kept_at-part-requires c = record { kept_size_in_bounds = search all; k_bound = search all; i_lt_position_room = search all }

pub length_at-requires : goal.length_at-requires
length_at-requires c = search all

pub fails-requires : goal.fails-requires
fails-requires c = record { d_bound = search all; far_bound = search all }

pub returns : goal.returns
returns c = search all
