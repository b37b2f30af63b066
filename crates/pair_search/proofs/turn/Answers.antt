-- `pair_search::turn` meets its contract.
use borrow.Author.Rules.{rules}
use Rattle.pair_search.proofs.Expanding.{narrow_spare, expand_narrow, turned_on}
use Rattle.pair_search.proofs.turn.Goals as goal

pub turn_wide-requires : goal.turn_wide-requires
turn_wide-requires c = record { turning = search rules; sets_size_in_bounds = search rules; room_size_in_bounds = search rules; wide_value = search rules }

pub expand-n-requires : goal.expand-n-requires
expand-n-requires c = expand_narrow _ _ _ _ _ _ _ _ _ _ _ c.requires.turning c.if-wide.false (search rules)

pub returns : goal.returns
returns c = turned_on _ _ _ _ _ _ _ _ _ _ _ c.expand-n.ensures (narrow_spare _ _ _ _ _ _ _ _ _ _ c.requires.turning c.if-wide.false)
