-- `file_layout::narrow` meets its contract.
use mathlib.Core.Path.{refl}
use Rattle.logic.specs.Tower.{narrow}
use Rattle.file_layout.proofs.narrow.Goals as goal

pub returns : goal.returns
unfolding narrow
returns c = refl
