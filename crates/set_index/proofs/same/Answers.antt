-- `set_index::same` meets its contract.
use Rattle.set_index.proofs.Ways.{numbers_differ, counts_differ, counts_same, own_inside, other_inside}
use Rattle.set_index.proofs.same.Goals as goal

pub returns-then-number : goal.returns-then-number
returns-then-number c = search numbers_differ

pub returns-then-first-t : goal.returns-then-first-t
returns-then-first-t c = search counts_differ

pub same_alternatives-requires-clause-count_bound : goal.same_alternatives-requires-clause-count_bound
same_alternatives-requires-clause-count_bound c = search own_inside

pub same_alternatives-requires-clause-count_bound_2 : goal.same_alternatives-requires-clause-count_bound_2
same_alternatives-requires-clause-count_bound_2 c =
    let asked = c.requires in
    other_inside _ _ _ _ _ _ asked.headed c.first-t.ensures c.first-2.ensures c.if-first-t.false asked.j_le_i

pub returns : goal.returns
returns c = search counts_same
