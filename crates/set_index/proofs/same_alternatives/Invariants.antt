-- `set_index::same_alternatives` meets its contract.
-- The invariant: the alternatives passed are equal. The measure: how many are left.
use Rattle.set_index.proofs.Ways.{ComparingAlternatives}
use Rattle.set_index.proofs.same_alternatives.Given as goal

abbrev pub invariant-loop-k : goal.invariant-loop-k
invariant-loop-k l = ComparingAlternatives l.entries l.s l.t l.count l.k
