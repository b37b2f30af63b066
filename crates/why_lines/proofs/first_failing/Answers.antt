use borrow.Author.Rules.{rules}
use Rattle.why_lines.proofs.Failing.{so_far_first, so_far_found, so_far_next, so_far_end}
use Rattle.why_lines.proofs.first_failing.Goals as goal

ruleset all = (rules, so_far_first, so_far_next)

pub loop-i-init : goal.loop-i-init
loop-i-init c = search all

pub kept_at-requires : goal.kept_at-requires
kept_at-requires c = search all

pub returns-then-not-kept_at : goal.returns-then-not-kept_at
returns-then-not-kept_at c = so_far_found _ _ _ _ c.loop-i.invariant _ c.loop-i-test.true c.kept_at.ensures c.if-not-kept_at.true-raw

pub loop-i-preserved : goal.loop-i-preserved
loop-i-preserved c = search all

pub returns : goal.returns
returns c = so_far_end _ _ _ _ c.loop-i.invariant c.loop-i-test.false
