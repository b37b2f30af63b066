-- Each return answers the follower's outcome once the tests before it are known.
use borrow.Author.Rules.{rules}
use borrow.Author.Tests.{not-true, not-false}
use Rattle.file_table.proofs.Laws.{holds_by, header_of}
use Rattle.follower.proofs.Ways.{promised, not_laid_out, row_outside, action_outside, followed, not_allowed}
use Rattle.follower.proofs.follow.Goals as goal

ruleset all = (rules, not-true, not-false, holds_by, header_of, promised, not_laid_out, row_outside, action_outside, followed, not_allowed)

pub laid_out-requires : goal.laid_out-requires
laid_out-requires c = search all

pub returns-then-not-laid_out : goal.returns-then-not-laid_out
returns-then-not-laid_out c = search all

pub rows-requires : goal.rows-requires
rows-requires c = search all

pub returns-then-rows-row : goal.returns-then-rows-row
returns-then-rows-row c = search all

pub actions-requires : goal.actions-requires
actions-requires c = search all

pub returns-then-actions-action : goal.returns-then-actions-action
returns-then-actions-action c = search all

pub step_to-requires : goal.step_to-requires
step_to-requires c = search all

pub returns : goal.returns
returns c = search all
