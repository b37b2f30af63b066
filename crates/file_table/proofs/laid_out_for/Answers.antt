-- The layout is tested first, then S, then A.
use borrow.Author.Tests.{not-true, not-false}
use borrow.Author.Rules.{rules}
use Rattle.file_table.proofs.Laws.{holds_by, header_of}
use Rattle.file_table.proofs.Ways.{not_laid_for, other_states, other_actions}
use Rattle.file_table.proofs.laid_out_for.Goals as goal

ruleset all = (rules, not-true, not-false, holds_by, header_of, not_laid_for, other_states, other_actions)

pub laid_out-requires : goal.laid_out-requires
laid_out-requires c = search all

pub returns-then-not-laid_out : goal.returns-then-not-laid_out
returns-then-not-laid_out c = search all

pub states-requires : goal.states-requires
states-requires c = search all

pub returns-then-states-s : goal.returns-then-states-s
returns-then-states-s c = search all

pub actions-requires : goal.actions-requires
actions-requires c = search all

pub returns : goal.returns
returns c = search all
