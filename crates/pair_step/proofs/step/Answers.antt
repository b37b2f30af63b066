-- `pair_step::step` meets its contract.
use borrow.Author.Rules.{rules}
use Rattle.pair_step.proofs.Following.{pair_room_below, move_room_below, step_done}
use Rattle.pair_step.proofs.step.Goals as goal

pub follow-way-requires : goal.follow-way-requires
follow-way-requires c = record { searching = search rules; a_bound = search rules }

pub put_move-requires : goal.put_move-requires
put_move-requires c = record { graph_size_in_bounds = search rules; i_lt_pair_room = search (rules, pair_room_below); a_lt_action_room = search (rules, move_room_below) }

pub returns : goal.returns
returns c = let asked = c.requires in
    let ready = asked.searching.turning in
    step_done _ _ _ _ _ _ _ _ _ _ _ _ c.follow-way.ensures c.put_move.ensures
    ready.right ready.world.files.search asked.a_bound ready.low ready.most ready.graph_room
