use Rattle.why_path.proofs.Noting.{noting_all, pair_before, noting_more, noted_all}
use borrow.Author.Rules.{rules}
use Rattle.why_path.proofs.note_all.Goals as goal

ruleset all = (rules, noting_all, pair_before, noting_more, noted_all)

pub loop-i-init : goal.loop-i-init
loop-i-init c = search all

pub note_pair-requires : goal.note_pair-requires
note_pair-requires c = record { holds_graph = search rules; ways_size_in_bounds = search rules; i_lt_n = search rules; steps_noted = search all }

pub loop-i-preserved : goal.loop-i-preserved
loop-i-preserved c = search all

pub shape_of-ways : goal.shape_of-ways
shape_of-ways c = search all

pub returns : goal.returns
returns c = search all
