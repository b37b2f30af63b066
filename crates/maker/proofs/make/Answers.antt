-- `maker::make` meets its contract.
use borrow.Author.Tests.{not-true, not-false}
use Rattle.maker_areas.proofs.Laws.{room_there}
use Rattle.maker.proofs.Ways.{too_short, kept_on, made_all}
use Rattle.maker.proofs.make.Goals as goal

pub returns-then-not-long_enough : goal.returns-then-not-long_enough
returns-then-not-long_enough c = search (too_short, not-true, c.if-not-long_enough.true-raw, c.long_enough.ensures)

pub make_files-answer-requires : goal.make_files-answer-requires
make_files-answer-requires c = room_there _ _ _ _ _ _ _ _ _ c.long_enough.ensures (search (not-false, c.if-not-long_enough.false-raw))

pub shape_of-out : goal.shape_of-out
shape_of-out c = search c.make_files-answer.auto

pub shape_of-nodes : goal.shape_of-nodes
shape_of-nodes c = search (kept_on, c.clear.auto.nodes, c.make_files-answer.auto.nodes)

pub shape_of-pairs : goal.shape_of-pairs
shape_of-pairs c = search (kept_on, c.clear.auto.pairs, c.make_files-answer.auto.pairs)

pub shape_of-index : goal.shape_of-index
shape_of-index c = search (kept_on, c.clear.auto.index, c.make_files-answer.auto.index)

pub shape_of-graph : goal.shape_of-graph
shape_of-graph c = search (kept_on, c.clear.auto.graph, c.make_files-answer.auto.graph)

pub shape_of-sets : goal.shape_of-sets
shape_of-sets c = search (kept_on, c.clear.auto.sets, c.make_files-answer.auto.sets)

pub shape_of-room : goal.shape_of-room
shape_of-room c = search (kept_on, c.clear.auto.room, c.make_files-answer.auto.room)

pub shape_of-flags : goal.shape_of-flags
shape_of-flags c = search (kept_on, c.clear.auto.flags, c.make_files-answer.auto.flags)

pub shape_of-classes : goal.shape_of-classes
shape_of-classes c = search (kept_on, c.clear.auto.classes, c.make_files-answer.auto.classes)

pub returns : goal.returns
returns c = search (
  made_all,
  not-false,
  c.clear.ensures,
  c.make_files-answer.ensures,
  c.make_files-answer.auto.nodes,
  c.make_files-answer.auto.pairs,
  c.make_files-answer.auto.index,
  c.make_files-answer.auto.graph,
  c.make_files-answer.auto.sets,
  c.make_files-answer.auto.room,
  c.make_files-answer.auto.flags,
  c.make_files-answer.auto.classes,
  c.if-not-long_enough.false-raw,
  c.long_enough.ensures,
)
