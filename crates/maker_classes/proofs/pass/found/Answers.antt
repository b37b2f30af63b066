use Rattle.maker_classes.proofs.Ways.{part_long, part_room, seek_start, seek_falls, seek_on, seek_hit, seek_end, seek_pair}
use borrow.Author.Rules.{rules}
use Rattle.maker_classes.proofs.pass.found.Goals as goal

ruleset all = (rules, part_long, part_room, seek_start, seek_falls, seek_on, seek_hit, seek_end, seek_pair)

pub slice_bounds-classes-end : goal.slice_bounds-classes-end
slice_bounds-classes-end c = search all

pub head-at-requires : goal.head-at-requires
head-at-requires c = search all

pub loop-at-init : goal.loop-at-init
loop-at-init c = search all

pub overflow_sub-k : goal.overflow_sub-k
overflow_sub-k c = search all

pub alike-requires : goal.alike-requires
alike-requires c = record { flagged_graph = search rules; i_lt_pairs = search seek_pair; j_lt_pairs = search rules; in_bounds = search part_room }

pub overflow_mul-k : goal.overflow_mul-k
overflow_mul-k c = search all

pub overflow_add-k : goal.overflow_add-k
overflow_add-k c = search all

pub two_bytes-requires : goal.two_bytes-requires
two_bytes-requires c = search all

pub returns-then-alike : goal.returns-then-alike
returns-then-alike c = search all

pub link-at-requires : goal.link-at-requires
link-at-requires c = search all

pub loop-at-smaller : goal.loop-at-smaller
loop-at-smaller c = search all

pub loop-at-preserved : goal.loop-at-preserved
loop-at-preserved c = search all

pub returns : goal.returns
returns c = search all
