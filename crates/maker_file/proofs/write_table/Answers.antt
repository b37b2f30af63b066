-- `maker_file::write_table` meets its contract.
use borrow.Author.Rules.{rules}
use Rattle.maker_file.proofs.Filling.{classes_given, laid_out, size_fits, steps_size_fits, writes_nothing, writes_file}
use Rattle.maker_file.proofs.write_table.Goals as goal

ruleset all = (rules, classes_given, laid_out, size_fits, steps_size_fits, writes_nothing, writes_file)

pub order_rows-rows-requires : goal.order_rows-rows-requires
order_rows-rows-requires c = search all

pub total_steps-total-requires : goal.total_steps-total-requires
total_steps-total-requires c = search all

pub row_at-steps_at-requires : goal.row_at-steps_at-requires
row_at-steps_at-requires c = search all

pub overflow_mul-total : goal.overflow_mul-total
overflow_mul-total c = search all

pub overflow_add-steps_at : goal.overflow_add-steps_at
overflow_add-steps_at c = search all

pub shape_of-classes-then-out-steps_at : goal.shape_of-classes-then-out-steps_at
shape_of-classes-then-out-steps_at c = search all

pub returns-then-out-steps_at : goal.returns-then-out-steps_at
returns-then-out-steps_at c = search all

pub write_file-requires : goal.write_file-requires
write_file-requires c = record { laid = search all; total_value = search all; short_numbers = search all; total_in_bounds = search all }

pub shape_of-classes : goal.shape_of-classes
shape_of-classes c = search all

pub shape_of-out : goal.shape_of-out
shape_of-out c = search all

pub returns : goal.returns
returns c = search all
