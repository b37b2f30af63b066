-- A right header is whole, so that its numbers lie in the file.
use borrow.Author.Rules.{rules}
use Rattle.logic.specs.TableFile.{rows_at, step_size, steps_at}
use Rattle.reading.specs.TableReading.{step_place}
use Rattle.file_table.proofs.Laws.{inside}
use Rattle.file_table.proofs.rows.Goals as goal

pub two_bytes-requires : goal.two_bytes-requires
unfolding step_place rows_at step_size steps_at
two_bytes-requires c = omega inside

pub returns : goal.returns
unfolding step_place rows_at step_size steps_at
returns c = search rules
