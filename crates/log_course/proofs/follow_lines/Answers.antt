use borrow.Author.Rules.{rules}
use Rattle.log_course.proofs.Ways.{end_ahead, lines_start, row_there, noted_there, room_there, lines_end, lines_stop, tick_small, line_fits_word, at_falls, lines_more}
use Rattle.log_course.proofs.follow_lines.Goals as goal

ruleset all = (rules, lines_start)

pub loop-at-init : goal.loop-at-init
loop-at-init c = search all

pub next_line-requires : goal.next_line-requires
next_line-requires c = end_ahead _ _ _ c.last_end-end.ensures (search rules)

pub shape_of-known-in_default : goal.shape_of-known-in_default
shape_of-known-in_default c = search (rules, room_there)

pub returns-in_default : goal.returns-in_default
returns-in_default c = record { lines_followed = search (lines_stop, c.in_default.ensures); noted_2 = search (rules, noted_there) }

pub follow_line-so_far-requires : goal.follow_line-so_far-requires
follow_line-so_far-requires c = record { rows_judgeable = search rules; noted = search (rules, noted_there); on_row = search (rules, row_there); tick_le_most_tick = search (tick_small, c.in-Some.ensures) }

pub overflow_add-line : goal.overflow_add-line
overflow_add-line c = search (rules, line_fits_word, c.in-Some.ensures)

pub loop-at-smaller : goal.loop-at-smaller
loop-at-smaller c = search (at_falls, c.in-Some.ensures)

pub loop-at-preserved : goal.loop-at-preserved
loop-at-preserved c = search (lines_more, c.in-Some.ensures)

pub shape_of-known : goal.shape_of-known
shape_of-known c = search (rules, room_there)

pub returns : goal.returns
returns c = record { lines_followed = search lines_end; noted_2 = search (rules, noted_there) }
