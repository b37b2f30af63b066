-- `pair_step::blocked_code` meets its contract.
use borrow.Author.Rules.{rules}
use Rattle.pair_step.proofs.Blocking.{blocked_enabled, blocked_not}
use Rattle.pair_step.proofs.blocked_code.Goals as goal

ruleset all = (rules, blocked_enabled, blocked_not)

pub is_enabled-requires : goal.is_enabled-requires
is_enabled-requires c = record { files = search all; x_bound = search all; a_bound = search all }

pub returns-then-is_enabled : goal.returns-then-is_enabled
returns-then-is_enabled c = search all

pub returns : goal.returns
returns c = search all
