-- `book_alternatives::offer` meets its contract, by the laws of Offering and InPlace.
use mathlib.Core.Path.{refl}
use Rattle.book_alternatives.proofs.Offering.{fresh_few, part_second, part_first, part_node, part_inside, part_ready, stays_ready, second_is_node, second_part_ready, two_ready, offered_broken, offered_passes, offered_alone, offered_second, offered_first, offered_two}
use Rattle.book_alternatives.proofs.InPlace.{offered_one}
use borrow.Author.Rules.{rules}
use Rattle.book_alternatives.proofs.+offer.Goals as goal

pub returns-then-gives_one : goal.returns-then-gives_one
returns-then-gives_one t c = search (rules, offered_one)

pub fresh-requires : goal.fresh-requires
fresh-requires t c = part_node _ _ _ _ _ _ _ c.in-Part.ensures (part_second _ _ _ _ c.second-part.ensures refl) refl _ _ _ c.requires

pub alone-requires-clause-part_lt_n : goal.alone-requires-clause-part_lt_n
alone-requires-clause-part_lt_n t c = part_inside _ _ _ _ _ _ _ c.in-Part.ensures (part_second _ _ _ _ c.second-part.ensures refl) refl _ _ _ c.requires

pub alone-requires-clause-r_bound : goal.alone-requires-clause-r_bound
alone-requires-clause-r_bound t c = fresh_few _ _ _ c.fresh.ensures (part_node _ _ _ _ _ _ _ c.in-Part.ensures (part_second _ _ _ _ c.second-part.ensures refl) refl _ _ _ c.requires)

pub fresh-requires-in-Second : goal.fresh-requires-in-Second
fresh-requires-in-Second t c = part_node _ _ _ _ _ _ _ c.in-Second.ensures (part_second _ _ _ _ c.second-part-in-Second.ensures refl) refl _ _ _ c.requires

pub offer-one-requires : goal.offer-one-requires
offer-one-requires t c = part_ready _ _ _ _ _ _ _ c.in-Second.ensures (part_second _ _ _ _ c.second-part-in-Second.ensures refl) refl _ _ _ c.requires _ c.fresh-in-Second.ensures t (search rules)

pub stay-requires : goal.stay-requires
stay-requires t c = stays_ready _ _ _ _ _ _ _ _ _ c.in-Second.ensures _ (part_second _ _ _ _ c.second-part-in-Second.ensures refl) refl _ c.fresh-in-Second.ensures _ _ _ c.offer-one.ensures c.requires

pub fresh-requires-in-First : goal.fresh-requires-in-First
fresh-requires-in-First t c = part_node _ _ _ _ _ _ _ c.in-First.ensures (part_first _ _ _ _ c.first-part.ensures refl) refl _ _ _ c.requires

pub offer-one-requires-in-First : goal.offer-one-requires-in-First
offer-one-requires-in-First t c = part_ready _ _ _ _ _ _ _ c.in-First.ensures (part_first _ _ _ _ c.first-part.ensures refl) refl _ _ _ c.requires _ c.fresh-in-First.ensures t (search rules)

pub stay-requires-in-First : goal.stay-requires-in-First
stay-requires-in-First t c = stays_ready _ _ _ _ _ _ _ _ _ c.in-First.ensures _ (part_first _ _ _ _ c.first-part.ensures refl) refl _ c.fresh-in-First.ensures _ _ _ c.offer-one-in-First.ensures c.requires

pub fresh-requires-in-Both : goal.fresh-requires-in-Both
fresh-requires-in-Both t c = part_node _ _ _ _ _ _ _ c.in-Both.ensures (part_first _ _ _ _ c.first-first.ensures refl) refl _ _ _ c.requires

pub offer-one-requires-in-Both : goal.offer-one-requires-in-Both
offer-one-requires-in-Both t c = part_ready _ _ _ _ _ _ _ c.in-Both.ensures (part_first _ _ _ _ c.first-first.ensures refl) refl _ _ _ c.requires _ c.fresh-in-Both.ensures t (search rules)

pub fresh-requires-in-Both-2 : goal.fresh-requires-in-Both-2
fresh-requires-in-Both-2 t c = second_is_node _ _ _ _ _ _ _ _ _ c.in-Both.ensures _ (part_first _ _ _ _ c.first-first.ensures refl) refl _ c.fresh-in-Both.ensures _ _ _ c.offer-one-in-Both.ensures c.requires refl _ c.second-second.ensures

pub offer-two-requires : goal.offer-two-requires
offer-two-requires t c = second_part_ready _ _ _ _ _ _ _ _ _ c.in-Both.ensures _ (part_first _ _ _ _ c.first-first.ensures refl) refl _ c.fresh-in-Both.ensures _ _ _ c.offer-one-in-Both.ensures c.requires refl _ c.second-second.ensures _ c.fresh-in-Both-2.ensures t (search rules)

pub of_two-requires : goal.of_two-requires
of_two-requires t c = two_ready _ _ _ _ _ _ _ _ _ c.in-Both.ensures _ (part_first _ _ _ _ c.first-first.ensures refl) refl _ c.fresh-in-Both.ensures _ _ _ c.offer-one-in-Both.ensures c.requires refl _ c.second-second.ensures _ c.fresh-in-Both-2.ensures _ _ _ c.offer-two.ensures

pub returns-in-Broken : goal.returns-in-Broken
returns-in-Broken t c = offered_broken _ _ _ _ _ _ _ _ _ c.in-Broken.ensures _ _ c.tested.ensures refl

pub returns-in-Passes : goal.returns-in-Passes
returns-in-Passes t c = offered_passes _ _ _ _ _ _ _ _ _ c.in-Passes.ensures _ _ c.tested-in-Passes.ensures refl

pub returns-in-Part : goal.returns-in-Part
returns-in-Part t c = offered_alone _ _ _ _ _ _ _ _ _ c.in-Part.ensures _ (part_second _ _ _ _ c.second-part.ensures refl) refl _ c.fresh.ensures _ _ c.alone.ensures refl

pub returns-in-Second : goal.returns-in-Second
returns-in-Second t c = offered_second _ _ _ _ _ _ _ _ _ c.in-Second.ensures _ (part_second _ _ _ _ c.second-part-in-Second.ensures refl) refl _ c.fresh-in-Second.ensures _ _ _ c.offer-one.ensures c.requires _ _ _ c.stay.ensures refl

pub returns-in-First : goal.returns-in-First
returns-in-First t c = offered_first _ _ _ _ _ _ _ _ _ c.in-First.ensures _ (part_first _ _ _ _ c.first-part.ensures refl) refl _ c.fresh-in-First.ensures _ _ _ c.offer-one-in-First.ensures c.requires _ _ _ c.stay-in-First.ensures refl

pub returns-in-Both : goal.returns-in-Both
returns-in-Both t c = offered_two _ _ _ _ _ _ _ _ _ c.in-Both.ensures _ (part_first _ _ _ _ c.first-first.ensures refl) refl _ c.fresh-in-Both.ensures _ _ _ c.offer-one-in-Both.ensures c.requires refl _ c.second-second.ensures _ c.fresh-in-Both-2.ensures _ _ _ c.offer-two.ensures _ _ _ c.of_two.ensures
