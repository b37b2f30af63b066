-- `program_listing::refusal` meets its contract.
use borrow.Author.Rules.{rules}
use Rattle.program_listing.proofs.Ways.{refusal_way}
use Rattle.program_listing.proofs.refusal.Goals as goal

ruleset all = (rules, refusal_way)

pub number-number-requires : goal.number-number-requires
number-number-requires c = search all

pub place-place-requires : goal.place-place-requires
place-place-requires c = search all

pub overflow_cast-number : goal.overflow_cast-number
overflow_cast-number c = search all

pub refused-requires : goal.refused-requires
refused-requires c = search all

pub returns : goal.returns
returns c = search all
