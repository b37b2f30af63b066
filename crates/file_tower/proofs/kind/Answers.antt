-- `file_tower::kind` meets its contract.
use borrow.Author.Rules.{rules}
use Rattle.file_tower.proofs.Laws.{fit_sized, tower_kind}
use Rattle.file_tower.proofs.Ways.{action_within}
use Rattle.file_tower.proofs.kind.Goals as goal

ruleset all = (rules, fit_sized, action_within, tower_kind)

pub kind_of-requires : goal.kind_of-requires
kind_of-requires c = search all

pub returns : goal.returns
returns c = search all
