-- `maker_file::write_rows` meets its contract.
-- The invariant: to write the rows that are left is to write them all. The measure: how many are left.
use Prim.Native.Nat.{◌-◌}
use Rattle.maker_file.proofs.Filling.{ListingSteps}
use Rattle.maker_file.proofs.write_rows.Given as goal

abbrev pub invariant-loop-row : goal.invariant-loop-row
invariant-loop-row l = ListingSteps l.layout l.graph l.flags l.area l.actions l.rows l.initial.out l.out l.first l.row
