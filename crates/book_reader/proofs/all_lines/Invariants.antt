-- `book_reader::all_lines` meets its contract; each need follows by the laws of its way.
use Prim.Native.Nat.{◌-◌}
use lib.ListN.{length}
use Rattle.book_reader.specs.Lines.{Coming}
use Rattle.book_reader.proofs.all_lines.Given as goal

abbrev pub invariant-loop-at : goal.invariant-loop-at
invariant-loop-at l = Coming l.marks l.text l.at l.lines l.initial.area l.area

abbrev pub decreases-loop-at : goal.decreases-loop-at
decreases-loop-at l = length l.text - l.at
