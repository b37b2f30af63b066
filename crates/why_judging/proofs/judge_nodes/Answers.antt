-- `judge_nodes`: what the positions show is noted, and then the nodes are judged in order.
use borrow.Author.Rules.{rules}
use Rattle.why_judging.proofs.judge_nodes.Goals as goal

pub note_marks-requires : goal.note_marks-requires
note_marks-requires c = record { run_held = search rules; marks_size_in_bounds = search rules }

pub judge_in_order-requires : goal.judge_in_order-requires
judge_in_order-requires c = record { run_marked = search rules; held = search rules; kept_size_in_bounds = search rules }
