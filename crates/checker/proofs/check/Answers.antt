-- `checker::check` meets its contract.
use borrow.Author.Tests.{not-true, not-false}
use Rattle.search_areas.proofs.Laws.{room_there}
use Rattle.checker.proofs.Ways.{too_short, checked_all}
use Rattle.checker.proofs.check.Goals as goal

pub returns-then-not-long_enough : goal.returns-then-not-long_enough
returns-then-not-long_enough c = search (too_short, not-true, c.if-not-long_enough.true-raw, c.long_enough.ensures)

pub examine-found-requires : goal.examine-found-requires
examine-found-requires c = room_there _ _ _ _ _ _ _ c.long_enough.ensures (search (not-false, c.if-not-long_enough.false-raw))

pub returns : goal.returns
returns c = let kept = c.examine-found.auto in
    checked_all _ _ _ _ _ _ _ _ _ _ c.long_enough.ensures _ _ _ _ _ _ _ _ _ _ _ _ _ _ (search (not-false, c.if-not-long_enough.false-raw))
    c.answer.ensures c.examine-found.ensures c.clear.ensures
    kept.nodes kept.pairs kept.index kept.graph kept.sets kept.room
