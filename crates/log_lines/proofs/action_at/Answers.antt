use Rattle.log_lines.proofs.Ways.{ends_stops, field_missing, field_read, byte_there}
use borrow.Author.Rules.{rules}
use Rattle.log_lines.proofs.action_at.Goals as goal

ruleset all = (rules, ends_stops, field_missing, field_read, byte_there)

pub short_numeral-requires : goal.short_numeral-requires
short_numeral-requires c = search all

pub returns-in_err-short_numeral : goal.returns-in_err-short_numeral
returns-in_err-short_numeral c = search all

pub ended-requires : goal.ended-requires
ended-requires c = search all

pub returns : goal.returns
returns c = search all
