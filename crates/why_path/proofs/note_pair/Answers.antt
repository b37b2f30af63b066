use mathlib.Core.Path.{refl}
use Rattle.why_path.proofs.Noting.{noting_pair, step_before, noting_step, noted_pair}
use borrow.Author.Rules.{rules}
use Rattle.why_path.proofs.note_pair.Goals as goal

ruleset all = (rules, step_before, noting_step, noted_pair)

pub loop-a-init : goal.loop-a-init
loop-a-init c = noting_pair _ _ _ _ _ _ (search rules) (search rules) refl

pub note_step-requires : goal.note_step-requires
note_step-requires c = record { holds_graph = search rules; ways_size_in_bounds = search rules; i_lt_n = search rules; a_lt_actions = search rules; steps_noted = search all }

pub loop-a-preserved : goal.loop-a-preserved
loop-a-preserved c = search all

pub shape_of-ways : goal.shape_of-ways
shape_of-ways c = search all

pub returns : goal.returns
returns c = search all
