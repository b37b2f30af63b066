-- `why::show` meets its contract.
use borrow.Author.Rules.{rules}
use borrow.Author.Tests.{not-true, not-false}
use Rattle.search_areas.proofs.Laws.{room_there}
use Rattle.why.proofs.Ways.{too_short_areas, explained_all}
use Rattle.why.proofs.show.Goals as goal

pub returns-then-not-long_enough : goal.returns-then-not-long_enough
returns-then-not-long_enough c = search (too_short_areas, not-true, c.if-not-long_enough.true-raw, c.long_enough.ensures)

pub show_files-answer-requires : goal.show_files-answer-requires
show_files-answer-requires c = room_there _ _ _ _ _ _ _ c.long_enough.ensures (search (not-false, c.if-not-long_enough.false-raw))

pub returns : goal.returns
returns c = search (
  explained_all,
  not-false,
  c.clear.ensures,
  c.show_files-answer.ensures,
  c.show_files-answer.auto.nodes,
  c.show_files-answer.auto.pairs,
  c.show_files-answer.auto.index,
  c.show_files-answer.auto.graph,
  c.show_files-answer.auto.sets,
  c.show_files-answer.auto.room,
  c.if-not-long_enough.false-raw,
  c.long_enough.ensures,
)
