use Rattle.log_lines.proofs.Ways.{ended_otherwise, ended_so}
use borrow.Author.Rules.{rules}
use Rattle.log_lines.proofs.ended.Goals as goal

ruleset all = (rules, ended_otherwise, ended_so)

pub returns-then-log-next : goal.returns-then-log-next
returns-then-log-next c = search all

pub returns : goal.returns
returns c = search all
