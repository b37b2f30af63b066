use borrow.Author.Rules.{rules}
use Rattle.set_bytes.proofs.Placing.{place_start, place_next, place_found, place_end}
use Rattle.book_progression.proofs.Nodes.{cast_byte}
use Rattle.set_bytes.proofs.Chosen.{number_fits, number_inside}
use Rattle.set_bytes.proofs.place_of.Goals as goal

ruleset all = (rules, place_start, place_next, place_found, place_end, cast_byte, number_fits, number_inside)

pub returns-then-comes_earlier : goal.returns-then-comes_earlier
returns-then-comes_earlier c = search all

pub loop-i-preserved : goal.loop-i-preserved
loop-i-preserved c = search all
