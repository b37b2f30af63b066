-- `alternative_bytes::copy` meets its contract, by the laws of Ways.
use Rattle.alternative_bytes.proofs.Ways.{SameByte, Filling}
use Rattle.alternative_bytes.proofs.copy.Given as goal

abbrev pub invariant-loop-k : goal.invariant-loop-k
invariant-loop-k l = Filling (SameByte l.area l.p) l.initial.room l.to l.n l.room l.k
