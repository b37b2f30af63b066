-- From an answer that is known to how it is shown.
use Prim.Native.Nat.{ℕ}
use mathlib.Core.Path.{◌≡◌, sym, ◌∙◌, ap}
use Rattle.base.specs.Answers.{Said, row_of, letter_of, refusal_number, refusal_place, refusal_said, reason_said}
use Rattle.base.specs.declared.Reason.{Reason}
use Rattle.base.specs.declared.Refusal.{Refusal}
use Rattle.answer_numbers.specs.Shown.{shown}
use Rattle.answer_numbers.specs.declared.Answer.{Answer}

-- an answer without values
abbrev without_values : ℕ → ℕ → ℕ → Answer
without_values n l p = record { number = n; letter = l; place = p; first = 0; second = 0; third = 0 }

-- Number and place of a refusal show it.
pub refusal_shown : (r : Refusal) (n p : ℕ) → n ≡ refusal_number r → p ≡ refusal_place r → without_values n 0 p ≡ shown (refusal_said r)
unfolding shown refusal_said
refusal_shown r n p e f = rw (e, f)

-- Row and letter of a reason show it.
pub reason_shown : (q : Reason) (l p : ℕ) → l ≡ letter_of q → p ≡ row_of q → without_values 14 l p ≡ shown (reason_said q)
unfolding shown reason_said
reason_shown q l p e f = rw (e, f)

-- An answer is shown by what is said of the one that it is.
pub shown_by : {X : Type 0} (said : X → Said) (x y : X) (z : Answer) → x ≡ y → z ≡ shown (said y) → z ≡ shown (said x)
shown_by said x y z e g = g ∙ ap (λ w. shown (said w)) (sym e)
