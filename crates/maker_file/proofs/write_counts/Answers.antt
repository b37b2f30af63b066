-- `maker_file::write_counts` meets its contract.
use Rattle.logic.specs.TableFile.{rows_at}
use Rattle.maker_file.proofs.Ways.{counts_written}
use borrow.Author.Rules.{rules}
use Rattle.maker_file.proofs.write_counts.Goals as goal

ruleset all = (rules, counts_written)

pub write_two_numbers-requires : goal.write_two_numbers-requires
unfolding rows_at
write_two_numbers-requires c = search all

pub write_two_numbers-requires-2 : goal.write_two_numbers-requires-2
unfolding rows_at
write_two_numbers-requires-2 c = search all

pub shape_of-out : goal.shape_of-out
unfolding rows_at
shape_of-out c = search all

pub returns : goal.returns
unfolding rows_at
returns c = search all
