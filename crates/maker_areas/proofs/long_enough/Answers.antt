-- `maker_areas::long_enough` meets its contract.
use borrow.Author.Rules.{rules}
use borrow.Author.Tests.{not-true, not-false}
use Rattle.maker_areas.proofs.Laws.{short_lent, short_flags, classes_decide}
use Rattle.maker_areas.proofs.long_enough.Goals as goal

pub returns-then-not-long_enough : goal.returns-then-not-long_enough
returns-then-not-long_enough c = search (short_lent, not-true, rules)

pub returns-then-flags-lt-FLAGS_AREA : goal.returns-then-flags-lt-FLAGS_AREA
returns-then-flags-lt-FLAGS_AREA c = short_flags _ _ _ _ _ _ _ _ (search rules)

pub returns : goal.returns
returns c = search (classes_decide, not-false, rules)
