-- `maker_file::write_steps` meets its contract.
-- The invariant: to write the steps that are left is to write them all. The measure: how many rows are left.
use Prim.Native.Nat.{◌-◌}
use Rattle.maker_file.proofs.Filling.{Packing}
use Rattle.maker_file.proofs.write_steps.Given as goal

abbrev pub invariant-loop-done : goal.invariant-loop-done
invariant-loop-done l = Packing l.graph l.flags l.area l.actions l.rows l.initial.out l.p l.out l.next l.done
