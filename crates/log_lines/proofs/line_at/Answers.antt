use Rattle.log_lines.proofs.Ways.{ends_behind, tick_missing, tick_over, action_missing, line_read}
use borrow.Author.Rules.{rules}
use Rattle.log_lines.proofs.line_at.Goals as goal

ruleset all = (rules, ends_behind, tick_missing, tick_over, action_missing, line_read)

pub returns-in_err-tick : goal.returns-in_err-tick
returns-in_err-tick c = search all

pub returns-then-tick-gt-MOST_TICK : goal.returns-then-tick-gt-MOST_TICK
returns-then-tick-gt-MOST_TICK c = search all

pub action_at-requires : goal.action_at-requires
action_at-requires c = search all

pub returns-in_err-action : goal.returns-in_err-action
returns-in_err-action c = search all

pub returns : goal.returns
returns c = search all
