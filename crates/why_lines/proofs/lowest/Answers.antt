use native.Mathlib.Omega.{arith}
use borrow.Author.Rules.{rules}
use Rattle.why_lines.proofs.Failing.{looking_first, looking_found, looking_next, looking_end}
use Rattle.why_lines.proofs.lowest.Goals as goal

ruleset all = (rules, looking_end)

pub loop-l-init : goal.loop-l-init
loop-l-init c = looking_first _ _ _ _ _ _ c.count-lines.ensures

pub line_fails-requires : goal.line_fails-requires
line_fails-requires c = let asked = c.requires in record { run_held = asked.run_noted.held; lines_ready = asked.lines_ready; l_bound = omega (arith, c.loop-l-test.true, c.loop-l.invariant.all) }

pub returns-in-Some : goal.returns-in-Some
returns-in-Some c = looking_found _ _ _ _ _ _ _ c.loop-l.invariant _ c.in-Some.ensures c.requires.run_noted c.loop-l-test.true

pub loop-l-preserved : goal.loop-l-preserved
loop-l-preserved c = looking_next _ _ _ _ _ _ _ c.loop-l.invariant c.in_default.ensures c.loop-l-test.true

pub returns : goal.returns
returns c = search all
