use borrow.Author.Rules.{rules}
use Rattle.area_bytes.proofs.Numbers.{cast_byte}
use Rattle.why_lines.proofs.Noting.{noting_first, noting_action, noting_next, noting_end}
use Rattle.why_lines.proofs.note_states.Goals as goal

ruleset all = (rules, cast_byte, noting_first, noting_action, noting_next, noting_end)

pub start-x-requires : goal.start-x-requires
start-x-requires c = search all

pub loop-i-init : goal.loop-i-init
loop-i-init c = search all

pub overflow_mul-i : goal.overflow_mul-i
overflow_mul-i c = search all

pub put_two_bytes-requires : goal.put_two_bytes-requires
put_two_bytes-requires c = search all

pub bounds-run-i : goal.bounds-run-i
bounds-run-i c = search all

pub overflow_cast-run : goal.overflow_cast-run
overflow_cast-run c = search all

pub next_state-x-requires : goal.next_state-x-requires
next_state-x-requires c = search all

pub loop-i-preserved : goal.loop-i-preserved
loop-i-preserved c = search all

pub shape_of-states : goal.shape_of-states
shape_of-states c = search all

pub returns : goal.returns
returns c = search all
