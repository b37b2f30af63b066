-- `file_tower::fit::bad_action` meets its contract.
use borrow.Author.Rules.{rules}
use Rattle.file_tower.proofs.Ways.{action_length, action_kind}
use Rattle.file_tower.proofs.fit.bad_action.Goals as goal

ruleset all = (rules, action_length, action_kind)

pub length_of-requires : goal.length_of-requires
length_of-requires c = search all

pub returns-then-length_of-eq0 : goal.returns-then-length_of-eq0
returns-then-length_of-eq0 c = search all

pub kind_of-requires : goal.kind_of-requires
kind_of-requires c = search all

pub unknown-requires : goal.unknown-requires
unknown-requires c = search all

pub returns : goal.returns
returns c = search all
