-- `set_index::alternative_hash` meets its contract.
-- The invariant: h is the sum of the first k numbers of the alternative, and m the multiplier of the next. The measure: how many are left.
use Rattle.set_index.proofs.Ways.{HashingAlternative}
use Rattle.set_index.proofs.alternative_hash.Given as goal

abbrev pub invariant-loop-k : goal.invariant-loop-k
invariant-loop-k l = HashingAlternative l.entries l.s l.h l.m l.k
