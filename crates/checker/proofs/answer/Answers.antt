-- `checker::answer` meets its contract.
use borrow.Author.Rules.{rules}
use mathlib.Core.Path.{refl, ap, ◌∙◌}
use Rattle.std.specs.Prelude.{Ok}
use Rattle.checker.proofs.Ways.{answered}
use Rattle.checker.proofs.answer.Goals as goal

pub returns-in-None : goal.returns-in-None
returns-in-None c = answered _ _ _ (c.in_ok-found.was {u = tt} ∙ ap Ok c.in-None.is) refl

pub returns-in-Some : goal.returns-in-Some
returns-in-Some c = answered _ _ _ (c.in_ok-found.was {u = tt} ∙ ap Ok c.in-Some.is) refl

pub returns-in_err-found : goal.returns-in_err-found
returns-in_err-found c = search (rules, answered, c.in_err-found.was)
