use Rattle.text_numerals.proofs.Laws.{spelling_start, spelling_more, numeral_stopped, numeral_full, said_fits, digit_fits, digit_inside, digit_from, stops_there, stops_behind}
use borrow.Author.Rules.{rules}
use Rattle.text_numerals.proofs.read.Goals as goal

ruleset all = (rules, spelling_start, numeral_stopped, numeral_full, said_fits, digit_fits, digit_inside, digit_from)

pub loop-n-init : goal.loop-n-init
loop-n-init g c = record { told = search all; ahead = λ h. h }

pub byte-b-requires : goal.byte-b-requires
byte-b-requires g c = λ inside. stops_there _ _ (c.loop-n.invariant.ahead (c.requires.stops inside))

pub returns-then-not-is_digit : goal.returns-then-not-is_digit
returns-then-not-is_digit g c = search all

pub overflow_mul-said : goal.overflow_mul-said
overflow_mul-said g c = search all

pub overflow_sub-b : goal.overflow_sub-b
overflow_sub-b g c = search all

pub overflow_add-said : goal.overflow_add-said
overflow_add-said g c = search all

pub overflow_add-next : goal.overflow_add-next
overflow_add-next g c = search all

pub loop-n-preserved : goal.loop-n-preserved
loop-n-preserved g c = record {
  told = search (rules, spelling_more);
  ahead = λ h. stops_behind _ _ _ _ (c.loop-n.invariant.ahead h) c.byte-b.ensures c.is_digit.ensures (search rules);
}

pub returns : goal.returns
returns g c = search all
