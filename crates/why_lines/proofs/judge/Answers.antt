-- The states are noted, the nodes are judged, and then the lines are looked at.
use borrow.Author.Rules.{rules}
use Rattle.why_lines.proofs.judge.Goals as goal

pub note_states-requires : goal.note_states-requires
note_states-requires c = let asked = c.requires in record { fit_tower = asked.run_given.fit; n_le_position_room = asked.run_given.few; n_in_bounds = asked.run_given.run_room; states_size_in_bounds = asked.states_size_in_bounds; run = asked.run_given.is }

pub judge_nodes-requires : goal.judge_nodes-requires
judge_nodes-requires c = let asked = c.requires in record { run_held = c.note_states.ensures.held; held = asked.run_given.held; marks_size_in_bounds = asked.marks_size_in_bounds; kept_size_in_bounds = asked.kept_size_in_bounds }

pub lowest-requires : goal.lowest-requires
lowest-requires c = let asked = c.requires in record {
  run_noted = c.note_states.ensures;
  lines_ready = record {
    some_position = asked.run_given.some_position;
    held = asked.run_given.held;
    room = search rules;
    all = c.judge_nodes.ensures;
  };
}
