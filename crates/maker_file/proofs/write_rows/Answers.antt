use borrow.Author.Rules.{rules}
use Rattle.maker_file.proofs.Filling.{listing_start, listing_more, listing_end, row_place}
use Rattle.maker_file.proofs.Going.{pair_below, pair_inside, totalling_fits}
use Rattle.maker_file.proofs.write_rows.Goals as goal

ruleset all = (rules, listing_start, listing_more, listing_end, row_place, pair_below, pair_inside, totalling_fits)

pub loop-row-init : goal.loop-row-init
loop-row-init c = search all

pub pair_of-i-requires : goal.pair_of-i-requires
pair_of-i-requires c = search all

pub step_count-count-requires : goal.step_count-count-requires
step_count-count-requires c = search all

pub row_at-requires : goal.row_at-requires
row_at-requires c = search all

pub state-requires : goal.state-requires
state-requires c = search all

pub write_row-requires : goal.write_row-requires
write_row-requires c = search all

pub overflow_add-first : goal.overflow_add-first
overflow_add-first c = search all

pub loop-row-preserved : goal.loop-row-preserved
loop-row-preserved c = search (listing_more, c.requires.laid, c.loop-row.invariant)

pub shape_of-out : goal.shape_of-out
shape_of-out c = search all

pub returns : goal.returns
returns c = search all
