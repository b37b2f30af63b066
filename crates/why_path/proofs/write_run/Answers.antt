-- `why_path::write_run` meets its contract.
use native.Mathlib.Omega.{arith}
use Rattle.why_path.proofs.Noting.{action_fits}
use Rattle.why_path.proofs.Writing.{from_lower, run_too_long, run_written}
use borrow.Author.Rules.{rules}
use Rattle.why_path.proofs.write_run.Goals as goal

ruleset all = (rules, from_lower, action_fits, run_written)

pub note_all-requires : goal.note_all-requires
note_all-requires c = search all

pub way_length-size-requires : goal.way_length-size-requires
way_length-size-requires c = search all

pub shape_of-ways-then-list-size : goal.shape_of-ways-then-list-size
shape_of-ways-then-list-size c = search all

pub returns-then-list-size : goal.returns-then-list-size
returns-then-list-size c = run_too_long _ _ _ _ _ _ _ _ (search rules) c.way_length-size.ensures (omega (arith, c.if-list-size.true))

pub write_way-requires : goal.write_way-requires
write_way-requires c = record { from_lower = search all; i_lt_n = search rules; way_length = search rules; size_in_bounds = search rules }

pub overflow_cast-list : goal.overflow_cast-list
overflow_cast-list c = search all

pub bounds-list-size : goal.bounds-list-size
bounds-list-size c = omega arith

pub overflow_add-result : goal.overflow_add-result
overflow_add-result c = search all

pub shape_of-ways : goal.shape_of-ways
shape_of-ways c = search all

pub shape_of-list : goal.shape_of-list
shape_of-list c = search all

pub returns : goal.returns
returns c = search all
