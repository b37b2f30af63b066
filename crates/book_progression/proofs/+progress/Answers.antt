-- `book_progression::progress` meets its contract, by the laws of Nodes and Progressing.
use Rattle.book_progression.proofs.Nodes.{first_node, until_node, second_node}
use Rattle.book_progression.proofs.Progressing.{progress_leaf, progress_until_ends, progress_until_late, progress_until_broken, progress_until, progress_and_broken, progress_and, progress_or_second_holds, progress_or_first, progress_or_first_holds, progress_or_second, first_ready, until_ready, second_ready, is_next}
use borrow.Author.Rules.{rules}
use Rattle.book_progression.proofs.+progress.Goals as goal

pub returns-then-code-le-WANTED : goal.returns-then-code-le-WANTED
returns-then-code-le-WANTED t c = c.stay_nested-at.ensures.says _ _ _ (search (rules, progress_leaf))

pub part_holds-requires : goal.part_holds-requires
part_holds-requires t c = second_node _ _ _ _ c.second-second.ensures c.code-code.ensures (search rules) c.stay_nested-at.ensures.ready.node

pub returns-then-part_holds : goal.returns-then-part_holds
returns-then-part_holds t c = c.stay_nested-at.ensures.says _ _ _ (search (rules, progress_until_ends))

pub returns-then-lt : goal.returns-then-lt
returns-then-lt t c = c.stay_nested-at.ensures.says _ _ _ (search (rules, progress_until_late))

pub fresh-requires : goal.fresh-requires
fresh-requires t c = until_node _ _ _ _ c.first-first.ensures c.code-code.ensures (search rules) c.stay_nested-at.ensures.ready.node

pub progress-requires : goal.progress-requires
progress-requires t c = until_ready _ _ _ _ _ _ c.first-first.ensures c.code-code.ensures (search rules) c.stay_nested-at.ensures.ready.node (search rules) (search rules) t (search rules)

pub returns-then-not-progress : goal.returns-then-not-progress
returns-then-not-progress t c = c.stay_nested-at.ensures.says _ _ _ (progress_until_broken _ _ _ _ _ _ _ c.code-code.ensures (search rules) _ _ c.second-second.ensures c.part_holds.ensures (search rules) (search rules) _ _ _ _ c.first-first.ensures c.fresh.ensures c.progress.ensures (search rules))

pub returns-then-code-eq-UNTIL : goal.returns-then-code-eq-UNTIL
returns-then-code-eq-UNTIL t c = c.stay_nested-at.ensures.says _ _ _ (progress_until _ _ _ _ _ _ _ c.code-code.ensures (search rules) _ _ c.second-second.ensures c.part_holds.ensures (search rules) (search rules) _ _ _ _ c.first-first.ensures c.fresh.ensures c.progress.ensures _ (search rules) c.stay.ensures)

pub progress_next-requires : goal.progress_next-requires
progress_next-requires t c = is_next _ _ _ _ _ c.code-code.ensures (search rules) c.stay_nested-at.ensures.other (search rules) c.stay_nested-at.ensures.ready

pub fresh-requires-then-code-eq-AND : goal.fresh-requires-then-code-eq-AND
fresh-requires-then-code-eq-AND t c = first_node _ _ _ _ c.first-first.ensures c.code-code.ensures (search rules) (search rules) c.stay_nested-at.ensures.ready.node

pub progress-requires-then-code-eq-AND : goal.progress-requires-then-code-eq-AND
progress-requires-then-code-eq-AND t c = first_ready _ _ _ _ _ _ c.first-first.ensures c.code-code.ensures (search rules) (search rules) c.stay_nested-at.ensures.ready.node (search rules) (search rules) t (search rules)

pub returns-then-not-progress-2 : goal.returns-then-not-progress-2
returns-then-not-progress-2 t c = c.stay_nested-at.ensures.says _ _ _ (progress_and_broken _ _ _ _ _ _ _ c.code-code.ensures (search rules) _ _ _ _ c.first-first.ensures c.fresh-then-code-eq-AND.ensures c.progress-then-code-eq-AND.ensures (search rules))

pub fresh-requires-then-code-eq-AND-2 : goal.fresh-requires-then-code-eq-AND-2
fresh-requires-then-code-eq-AND-2 t c = second_node _ _ _ _ c.second-second.ensures c.code-code.ensures (search rules) c.stay_nested-at.ensures.ready.node

pub progress-requires-then-code-eq-AND-2 : goal.progress-requires-then-code-eq-AND-2
progress-requires-then-code-eq-AND-2 t c = second_ready _ _ _ _ _ _ c.second-second.ensures c.code-code.ensures (search rules) c.stay_nested-at.ensures.ready.node (search rules) (search rules) t (search rules)

pub returns-then-code-eq-AND : goal.returns-then-code-eq-AND
returns-then-code-eq-AND t c = c.stay_nested-at.ensures.says _ _ _ (progress_and _ _ _ _ _ _ _ c.code-code.ensures (search rules) _ _ _ _ c.first-first.ensures c.fresh-then-code-eq-AND.ensures c.progress-then-code-eq-AND.ensures _ _ _ _ (search rules) c.second-second.ensures c.fresh-then-code-eq-AND-2.ensures c.progress-then-code-eq-AND-2.ensures)

pub part_holds-requires-then-code-eq-OR_FIRST_TIMED : goal.part_holds-requires-then-code-eq-OR_FIRST_TIMED
part_holds-requires-then-code-eq-OR_FIRST_TIMED t c = second_node _ _ _ _ c.second-second.ensures c.code-code.ensures (search rules) c.stay_nested-at.ensures.ready.node

pub returns-then-part_holds-2 : goal.returns-then-part_holds-2
returns-then-part_holds-2 t c = c.stay_nested-at.ensures.says _ _ _ (search (rules, progress_or_second_holds))

pub fresh-requires-then-code-eq-OR_FIRST_TIMED : goal.fresh-requires-then-code-eq-OR_FIRST_TIMED
fresh-requires-then-code-eq-OR_FIRST_TIMED t c = first_node _ _ _ _ c.first-first.ensures c.code-code.ensures (search rules) (search rules) c.stay_nested-at.ensures.ready.node

pub progress-requires-then-code-eq-OR_FIRST_TIMED : goal.progress-requires-then-code-eq-OR_FIRST_TIMED
progress-requires-then-code-eq-OR_FIRST_TIMED t c = first_ready _ _ _ _ _ _ c.first-first.ensures c.code-code.ensures (search rules) (search rules) c.stay_nested-at.ensures.ready.node (search rules) (search rules) t (search rules)

pub returns-then-code-eq-OR_FIRST_TIMED : goal.returns-then-code-eq-OR_FIRST_TIMED
returns-then-code-eq-OR_FIRST_TIMED t c = c.stay_nested-at.ensures.says _ _ _ (progress_or_first _ _ _ _ _ _ _ c.code-code.ensures (search rules) _ _ c.second-second.ensures c.part_holds-then-code-eq-OR_FIRST_TIMED.ensures _ _ _ _ (search rules) c.first-first.ensures c.fresh-then-code-eq-OR_FIRST_TIMED.ensures c.progress-then-code-eq-OR_FIRST_TIMED.ensures)

pub part_holds-requires-2 : goal.part_holds-requires-2
part_holds-requires-2 t c = first_node _ _ _ _ c.first-first.ensures c.code-code.ensures (search rules) (search rules) c.stay_nested-at.ensures.ready.node

pub returns-then-part_holds-3 : goal.returns-then-part_holds-3
returns-then-part_holds-3 t c = c.stay_nested-at.ensures.says _ _ _ (search (rules, progress_or_first_holds))

pub fresh-requires-2 : goal.fresh-requires-2
fresh-requires-2 t c = second_node _ _ _ _ c.second-second.ensures c.code-code.ensures (search rules) c.stay_nested-at.ensures.ready.node

pub progress-requires-2 : goal.progress-requires-2
progress-requires-2 t c = second_ready _ _ _ _ _ _ c.second-second.ensures c.code-code.ensures (search rules) c.stay_nested-at.ensures.ready.node (search rules) (search rules) t (search rules)

pub returns : goal.returns
returns t c = c.stay_nested-at.ensures.says _ _ _ (progress_or_second _ _ _ _ _ _ _ c.code-code.ensures (search rules) (search rules) (search rules) (search rules) _ _ c.first-first.ensures c.part_holds-2.ensures _ _ _ _ (search rules) c.second-second.ensures c.fresh-2.ensures c.progress-2.ensures)
