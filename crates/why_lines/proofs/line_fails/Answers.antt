-- An `always` line, a `start` line that is kept, and one that is not.
use borrow.Author.Rules.{rules}
use Rattle.why_lines.proofs.Failing.{line_there, line_low, fails_always, fails_never, fails_start}
use Rattle.why_lines.proofs.line_fails.Goals as goal

ruleset all = (rules, line_there, line_low)

pub formula-k-requires : goal.formula-k-requires
formula-k-requires c = search all

pub form-requires : goal.form-requires
form-requires c = search all

pub first_failing-requires : goal.first_failing-requires
first_failing-requires c = search all

pub returns-then-form-eq-ALWAYS : goal.returns-then-form-eq-ALWAYS
returns-then-form-eq-ALWAYS c = search (rules, fails_always)

pub kept_at-requires : goal.kept_at-requires
kept_at-requires c = search all

pub returns-then-kept_at : goal.returns-then-kept_at
returns-then-kept_at c = search (rules, fails_never)

pub returns : goal.returns
returns c = let asked = c.requires in
    fails_start _ _ _ _ _ _ _ _ _ asked.lines_ready asked.l_bound c.formula-k.ensures c.form.ensures _
    c.if-form-eq-ALWAYS.false c.kept_at.ensures c.if-kept_at.false
