-- `file_layout::row_size` meets its contract.
use mathlib.Core.Path.{refl}
use borrow.Author.Rules.{rules}
use Rattle.logic.specs.TableFile.{row_size}
use Rattle.file_layout.proofs.row_size.Goals as goal

pub overflow_add-result : goal.overflow_add-result
unfolding row_size
overflow_add-result c = search rules

pub returns : goal.returns
unfolding row_size
returns c = refl
