-- `file_layout::layout_of` meets its contract.
use borrow.Author.Rules.{rules}
use Rattle.logic.specs.Tower.{layout_of}
use Rattle.file_layout.proofs.layout_of.Goals as goal

pub narrow-requires : goal.narrow-requires
unfolding layout_of
narrow-requires c = search rules

pub returns : goal.returns
unfolding layout_of
returns c = search rules
