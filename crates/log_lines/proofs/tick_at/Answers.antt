use Rattle.log_lines.proofs.Ways.{ends_stops, field_missing, field_read, byte_there}
use borrow.Author.Rules.{rules}
use Rattle.log_lines.proofs.tick_at.Goals as goal

ruleset all = (rules, ends_stops, field_missing, field_read, byte_there)

pub numeral_inside-requires-clause-stops : goal.numeral_inside-requires-clause-stops
numeral_inside-requires-clause-stops c = search all

pub returns-in_err-numeral_inside : goal.returns-in_err-numeral_inside
returns-in_err-numeral_inside c = search all

pub ended-requires : goal.ended-requires
ended-requires c = search all

pub returns : goal.returns
returns c = search all
