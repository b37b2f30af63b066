-- `maker_file::write_steps_of` meets its contract.
-- The invariant: to write the steps that are left is to write them all. The measure: how many actions are left.
use Prim.Native.Nat.{◌-◌}
use Rattle.maker_order.proofs.Rest.{rest}
use Rattle.maker_order.specs.Orders.{classes_part, order_of}
use Rattle.maker_file.proofs.Filling.{Filling}
use Rattle.maker_file.specs.Writing.{step_from, steps_in}
use Rattle.maker_file.proofs.write_steps_of.Given as goal

abbrev pub invariant-loop-a : goal.invariant-loop-a
invariant-loop-a l = Filling (rest (step_from l.graph l.flags (classes_part l.area) (order_of l.area l.rows) l.i) l.actions l.a) (steps_in l.graph l.flags (classes_part l.area) (order_of l.area l.rows) l.actions l.i) l.initial.out l.p l.out l.next
