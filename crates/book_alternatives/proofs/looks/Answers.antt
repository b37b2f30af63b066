-- `book_alternatives::looks` meets its contract, by the laws of Looking.
use borrow.Author.Rules.{rules}
use Rattle.std.proofs.Common.{◌≤◌, arith}
use Rattle.book_progression.proofs.Nodes.{first_node, second_node}
use Rattle.book_alternatives.proofs.Looking.{looks_leaf_holds, looks_leaf_fails, looks_and, looks_always, looks_until_ends, looks_until_late, looks_until, looks_next, looks_next_fails, looks_or_both, looks_or_second_holds, looks_or_first, looks_or_first_holds, looks_or_second}
use Rattle.book_alternatives.proofs.looks.Goals as goal

pub returns-then-leaf_holds : goal.returns-then-leaf_holds
returns-then-leaf_holds c = search (rules, looks_leaf_holds)

pub returns-then-code-le-WANTED : goal.returns-then-code-le-WANTED
returns-then-code-le-WANTED c = search (rules, looks_leaf_fails)

pub returns-then-code-eq-AND : goal.returns-then-code-eq-AND
returns-then-code-eq-AND c = search (rules, looks_and)

pub returns-then-code-eq-ALWAYS : goal.returns-then-code-eq-ALWAYS
returns-then-code-eq-ALWAYS c = search (rules, looks_always)

pub part_holds-requires : goal.part_holds-requires
part_holds-requires c = second_node _ _ _ _ c.second-second.ensures c.code-code.ensures (search rules) (search rules)

pub returns-then-part_holds : goal.returns-then-part_holds
returns-then-part_holds c = search (rules, looks_until_ends)

pub returns-then-lt : goal.returns-then-lt
returns-then-lt c = search (rules, looks_until_late)

pub returns-then-code-eq-UNTIL : goal.returns-then-code-eq-UNTIL
returns-then-code-eq-UNTIL c = let early : c.args.d.0 ≤ c.args.r.0 = grind (arith, c.if-lt.ensures) in search (rules, looks_until)

pub returns-then-compares : goal.returns-then-compares
returns-then-compares c = search (rules, looks_next)

pub returns-then-code-ge-NO_MORE : goal.returns-then-code-ge-NO_MORE
returns-then-code-ge-NO_MORE c = search (rules, looks_next_fails)

pub is_timed-requires : goal.is_timed-requires
is_timed-requires c = second_node _ _ _ _ c.second-second.ensures c.code-code.ensures (search rules) (search rules)

pub returns-then-is_timed : goal.returns-then-is_timed
returns-then-is_timed c = search (rules, looks_or_both)

pub part_holds-requires-then-code-eq-OR_FIRST_TIMED : goal.part_holds-requires-then-code-eq-OR_FIRST_TIMED
part_holds-requires-then-code-eq-OR_FIRST_TIMED c = second_node _ _ _ _ c.second-second.ensures c.code-code.ensures (search rules) (search rules)

pub returns-then-part_holds-2 : goal.returns-then-part_holds-2
returns-then-part_holds-2 c = search (rules, looks_or_second_holds)

pub returns-then-code-eq-OR_FIRST_TIMED : goal.returns-then-code-eq-OR_FIRST_TIMED
returns-then-code-eq-OR_FIRST_TIMED c = search (rules, looks_or_first)

pub part_holds-requires-2 : goal.part_holds-requires-2
part_holds-requires-2 c = first_node _ _ _ _ c.first.ensures c.code-code.ensures (search rules) (search rules) (search rules)

pub returns-then-part_holds-3 : goal.returns-then-part_holds-3
returns-then-part_holds-3 c = search (rules, looks_or_first_holds)

pub returns : goal.returns
returns c = search (rules, looks_or_second)
