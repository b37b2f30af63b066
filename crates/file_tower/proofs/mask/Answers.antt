-- `file_tower::mask` meets its contract.
use borrow.Author.Rules.{rules}
use Rattle.file_tower.proofs.Laws.{fit_sized}
use Rattle.file_tower.proofs.Ways.{state_within}
use Rattle.file_tower.proofs.mask.Goals as goal

ruleset all = (rules, fit_sized, state_within)

pub mask_of-requires : goal.mask_of-requires
mask_of-requires c = search all

pub returns : goal.returns
returns c = search all
