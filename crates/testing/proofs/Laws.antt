-- From the tower reader's answer to how it is shown.
use mathlib.Core.Path.{◌≡◌, sym, ◌∙◌}
use Rattle.std.specs.Prelude.{Result}
use Rattle.base.specs.declared.Refusal.{Refusal}
use Rattle.answer_numbers.specs.Shown.{shown}
use Rattle.answer_numbers.specs.declared.Answer.{Answer}
use Rattle.answer_numbers.proofs.Laws.{shown_by}
use Rattle.testing.specs.Said.{tower_said}

pub tower_by : (o x outcome : Result (Unit {0}) Refusal) (z : Answer) → o ≡ outcome → o ≡ x → z ≡ shown (tower_said x) → z ≡ shown (tower_said outcome)
tower_by o x outcome z e f g = shown_by tower_said outcome x z (sym e ∙ f) g
