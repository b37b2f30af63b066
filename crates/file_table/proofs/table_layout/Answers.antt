-- `file_table::table_layout` meets its contract.
use borrow.Author.Rules.{rules}
use Rattle.reading.specs.TableReading.{table_layout}
use Rattle.file_table.proofs.table_layout.Goals as goal

pub narrow-requires : goal.narrow-requires
unfolding table_layout
narrow-requires c = search rules

pub returns : goal.returns
unfolding table_layout
returns c = search rules
