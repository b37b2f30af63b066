-- `maker_file::total_steps` meets its contract.
-- The invariant: the steps of the rows below the counter are counted. The measure: how many rows are left.
use Prim.Native.Nat.{◌-◌}
use Rattle.maker_file.proofs.Going.{Totalling}
use Rattle.maker_file.proofs.total_steps.Given as goal

abbrev pub invariant-loop-r : goal.invariant-loop-r
invariant-loop-r l = Totalling l.graph l.flags l.area l.actions l.rows l.total l.r
