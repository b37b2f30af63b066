use borrow.Author.Rules.{rules}
use Rattle.book_alternatives.proofs.Widths.{none_start, none_more, two_timed_none, two_timed_some, node_there}
use Rattle.book_alternatives.proofs.two_timed.Goals as goal

ruleset all = (rules, none_start, none_more, two_timed_none, two_timed_some, node_there)

pub is_two_sided-requires : goal.is_two_sided-requires
is_two_sided-requires c = search all

pub returns : goal.returns
returns c = search all
