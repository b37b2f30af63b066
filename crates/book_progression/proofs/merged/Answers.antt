-- `book_progression::merged` meets its contract, by the laws of Putting.
use borrow.Author.Rules.{rules}
use mathlib.Core.Path.{◌∙◌}
use Rattle.logic.proofs.Ordering.{max_longer, min_shorter}
use Rattle.book_progression.proofs.Putting.{merged_none, merged_always, merged_until, merged_other}
use Rattle.book_progression.proofs.merged.Goals as goal

pub returns-in_default : goal.returns-in_default
returns-in_default c = merged_none _ _ _ _ c.in_default.ensures c.requires.r_bound

pub returns-in-11 : goal.returns-in-11
returns-in-11 c = merged_always _ _ _ _ _ c.in-Some.ensures _ c.code.ensures _ (c.max.ensures ∙ max_longer _ _) c.in-11.is c.requires.r_bound (search rules)

pub returns-in-12 : goal.returns-in-12
returns-in-12 c = merged_until _ _ _ _ _ c.in-Some.ensures _ c.code.ensures _ (c.min.ensures ∙ min_shorter _ _) c.in-12.is c.requires.r_bound

pub returns-in_default-code : goal.returns-in_default-code
returns-in_default-code c = merged_other _ _ _ _ _ c.in-Some.ensures _ c.code.ensures (search rules) (search rules) c.requires.r_bound
