-- `maker_file::write_header` meets its contract.
use Rattle.logic.specs.TableFile.{rows_at}
use Rattle.maker_file.proofs.Ways.{header_written}
use borrow.Author.Rules.{rules}
use Rattle.maker_file.proofs.write_header.Goals as goal

ruleset all = (rules, header_written)

pub row_at-requires : goal.row_at-requires
unfolding rows_at
row_at-requires c = search all

pub write_counts-requires : goal.write_counts-requires
unfolding rows_at
write_counts-requires c = search all

pub write_two_numbers-requires : goal.write_two_numbers-requires
unfolding rows_at
write_two_numbers-requires c = search all

pub shape_of-out : goal.shape_of-out
unfolding rows_at
shape_of-out c = search all

pub returns : goal.returns
unfolding rows_at
returns c = search all
