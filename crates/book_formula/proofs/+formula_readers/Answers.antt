-- The readers of formulas meet their contracts: the cycle of calls falls by the bytes left with a level number, and each goal follows by the laws of its way.
use native.Mathlib.Omega.{arith}
use Rattle.book_formula.specs.Parse.{by_or, by_and}
use Rattle.book_formula.proofs.Ways.{bracketed_bad, bracketed_read, first_bad, joins_bad, joins_end, joins_more, joins_start, led_fits, led_nothing, led_one, led_two, led_unbounded, led_within, less_bracket, less_first, less_joined, less_led, less_part, less_rest, less_second, less_turn, one_bad, one_put, second_bad, second_read, second_unclosed, second_undivided, two_bad, two_read, two_unopened, unit_false, unit_led, unit_marked, unit_negated, unit_open, unit_true, within_bad, within_read}
use borrow.Author.Rules.{rules}
use Rattle.book_formula.proofs.+formula_readers.Goals as goal

ruleset bracketed_ways = (rules, bracketed_bad, bracketed_read, less_bracket)

ruleset led_ways = (rules, led_nothing, led_unbounded, led_two, led_within, led_one, less_led, led_fits)

ruleset one_part_ways = (rules, one_bad, one_put, less_part)

ruleset within_ways = (rules, within_bad, within_read, less_part)

ruleset two_parts_ways = (rules, two_unopened, two_bad, two_read, less_first, less_rest)

ruleset second_part_ways = (rules, second_undivided, second_bad, second_unclosed, second_read, less_second)

ruleset unit_ways = (rules, unit_open, unit_negated, unit_marked, unit_true, unit_false, unit_led)

pub and_level-returns-in_err-next : goal.and_level-returns-in_err-next
and_level-returns-in_err-next t c = search (rules, first_bad by_and)

pub and_level-loop-behind-init : goal.and_level-loop-behind-init
and_level-loop-behind-init t c = search (rules, joins_start by_and)

pub and_level-unit-requires-in-Some : goal.and_level-unit-requires-in-Some
and_level-unit-requires-in-Some t c = (less_joined by_and _ _ _ _ _ _ _ _ _ _ c.skip.ensures c.in-Some.ensures c.loop-behind.invariant (search rules), omega (arith, c.loop-behind.invariant.long))

pub and_level-returns-in_err-next-2 : goal.and_level-returns-in_err-next-2
and_level-returns-in_err-next-2 t c = search (rules, joins_bad by_and)

pub and_level-loop-behind-smaller : goal.and_level-loop-behind-smaller
and_level-loop-behind-smaller t c = search (rules, less_turn by_and)

pub and_level-loop-behind-preserved : goal.and_level-loop-behind-preserved
and_level-loop-behind-preserved t c =
    joins_more by_and _ _ _ _ _ _ _ _ _ _ _ _ _ _ c.loop-behind.invariant c.in-Some.ensures c.skip.ensures c.last_node-first.ensures c.is_timed-timed.ensures c.in_ok-next-2.ensures c.and_node.ensures (omega (arith, c.and_node, c.unit-in-Some))

pub and_level-returns : goal.and_level-returns
and_level-returns t c = search (rules, joins_end by_and)

pub or_level-returns-in_err-next : goal.or_level-returns-in_err-next
or_level-returns-in_err-next t c = search (rules, first_bad by_or)

pub or_level-loop-behind-init : goal.or_level-loop-behind-init
or_level-loop-behind-init t c = search (rules, joins_start by_or)

pub or_level-and_level-requires-in-Some : goal.or_level-and_level-requires-in-Some
or_level-and_level-requires-in-Some t c = (less_joined by_or _ _ _ _ _ _ _ _ _ _ c.skip.ensures c.in-Some.ensures c.loop-behind.invariant (search rules), omega (arith, c.loop-behind.invariant.long))

pub or_level-returns-in_err-next-2 : goal.or_level-returns-in_err-next-2
or_level-returns-in_err-next-2 t c = search (rules, joins_bad by_or)

pub or_level-loop-behind-smaller : goal.or_level-loop-behind-smaller
or_level-loop-behind-smaller t c = search (rules, less_turn by_or)

pub or_level-loop-behind-preserved : goal.or_level-loop-behind-preserved
or_level-loop-behind-preserved t c =
    joins_more by_or _ _ _ _ _ _ _ _ _ _ _ _ _ _ c.loop-behind.invariant c.in-Some.ensures c.skip.ensures c.last_node-first.ensures c.is_timed-timed.ensures c.in_ok-next-2.ensures c.or_node.ensures (omega (arith, c.or_node, c.and_level-in-Some))

pub or_level-returns : goal.or_level-returns
or_level-returns t c = search (rules, joins_end by_or)

pub bracketed-or_level-requires : goal.bracketed-or_level-requires
bracketed-or_level-requires t c = search bracketed_ways

pub bracketed-returns-in_err-next : goal.bracketed-returns-in_err-next
bracketed-returns-in_err-next t c = search bracketed_ways

pub bracketed-returns : goal.bracketed-returns
bracketed-returns t c = search bracketed_ways

pub led-returns-in_err-row : goal.led-returns-in_err-row
led-returns-in_err-row t c = search led_ways

pub led-overflow_add-at : goal.led-overflow_add-at
led-overflow_add-at t c = search led_ways

pub led-returns-in_err-bound : goal.led-returns-in_err-bound
led-returns-in_err-bound t c = search led_ways

pub led-two_parts-requires : goal.led-two_parts-requires
led-two_parts-requires t c = search led_ways

pub led-returns-then-row-ne1 : goal.led-returns-then-row-ne1
led-returns-then-row-ne1 t c = search led_ways

pub led-within-requires : goal.led-within-requires
led-within-requires t c = search led_ways

pub led-returns-then-b-eq69 : goal.led-returns-then-b-eq69
led-returns-then-b-eq69 t c = search led_ways

pub led-one_part-requires : goal.led-one_part-requires
led-one_part-requires t c = search led_ways

pub led-returns : goal.led-returns
led-returns t c = search led_ways

pub one_part-unit-requires : goal.one_part-unit-requires
one_part-unit-requires t c = search one_part_ways

pub one_part-returns-in_err-next : goal.one_part-returns-in_err-next
one_part-returns-in_err-next t c = search one_part_ways

pub one_part-returns : goal.one_part-returns
one_part-returns t c = search one_part_ways

pub second_part-returns-in_err-comma : goal.second_part-returns-in_err-comma
second_part-returns-in_err-comma t c = search second_part_ways

pub second_part-or_level-requires : goal.second_part-or_level-requires
second_part-or_level-requires t c = search second_part_ways

pub second_part-returns-in_err-end : goal.second_part-returns-in_err-end
second_part-returns-in_err-end t c = search second_part_ways

pub second_part-returns-in_err-behind : goal.second_part-returns-in_err-behind
second_part-returns-in_err-behind t c = search second_part_ways

pub second_part-returns : goal.second_part-returns
second_part-returns t c = search second_part_ways

pub two_parts-returns-in_err-begin : goal.two_parts-returns-in_err-begin
two_parts-returns-in_err-begin t c = search two_parts_ways

pub two_parts-or_level-requires : goal.two_parts-or_level-requires
two_parts-or_level-requires t c = search two_parts_ways

pub two_parts-returns-in_err-middle : goal.two_parts-returns-in_err-middle
two_parts-returns-in_err-middle t c = search two_parts_ways

pub two_parts-second_part-requires : goal.two_parts-second_part-requires
two_parts-second_part-requires t c = search two_parts_ways

pub two_parts-returns : goal.two_parts-returns
two_parts-returns t c = search two_parts_ways

pub unit-returns-in-40 : goal.unit-returns-in-40
unit-returns-in-40 t c = search unit_ways

pub unit-returns-in-33 : goal.unit-returns-in-33
unit-returns-in-33 t c = search unit_ways

pub unit-returns-in-112 : goal.unit-returns-in-112
unit-returns-in-112 t c = search unit_ways

pub unit-returns-in-84 : goal.unit-returns-in-84
unit-returns-in-84 t c = search unit_ways

pub unit-returns-in-70 : goal.unit-returns-in-70
unit-returns-in-70 t c = search unit_ways

pub unit-returns-in_default : goal.unit-returns-in_default
unit-returns-in_default t c = search unit_ways

pub within-unit-requires : goal.within-unit-requires
within-unit-requires t c = search within_ways

pub within-returns-in_err-next : goal.within-returns-in_err-next
within-returns-in_err-next t c = search within_ways

pub within-returns : goal.within-returns
within-returns t c = search within_ways
