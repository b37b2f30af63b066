-- A refusal that is known is known by its numbers.
use Prim.Native.Nat.{ℕ}
use mathlib.Core.Path.{◌≡◌, sym, ◌∙◌, ap}
use Rattle.base.specs.Answers.{refusal_number, refusal_place}
use Rattle.base.specs.declared.Refusal.{Refusal}

pub number_by : (r s : Refusal) (n : ℕ) → r ≡ s → n ≡ refusal_number s → n ≡ refusal_number r
number_by r s n e f = f ∙ ap refusal_number (sym e)

pub place_by : (r s : Refusal) (n : ℕ) → r ≡ s → n ≡ refusal_place s → n ≡ refusal_place r
place_by r s n e f = f ∙ ap refusal_place (sym e)
