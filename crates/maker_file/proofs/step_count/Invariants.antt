-- `maker_file::step_count` meets its contract.
-- The invariant: the actions below the counter are counted. The measure: how many are left.
use Prim.Native.Nat.{◌-◌}
use Rattle.maker_file.proofs.Going.{Counting}
use Rattle.maker_file.proofs.step_count.Given as goal

abbrev pub invariant-loop-a : goal.invariant-loop-a
invariant-loop-a l = Counting l.graph l.flags l.actions l.i l.count l.a
