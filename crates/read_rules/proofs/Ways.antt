-- A law for each way through the code.
use Prim.Native.Nat.{ℕ, ◌≤◌}
use mathlib.Core.Path.{◌≡◌, sym, ◌∙◌}
use mathlib.Core.Bool.{true}
use mathlib.Core.List.{List, [], ◌∷◌}
use native.Mathlib.Omega.{arith}
use lib.ListN.{length}
use borrow.Author.Tests.{le-leb, le-ltb}
use Rattle.base.specs.Bytes.{long_enough}
use Rattle.base.specs.Answers.{◌if◌else◌, ◌then◌}
use Rattle.base.specs.Answers.{BookAnswer}
use Rattle.std.specs.Prelude.{Err}
use Rattle.base.specs.declared.Refusal.{Refusal}
use Rattle.logic.specs.Tower.{tower_of, most_marks}
use Rattle.reading.specs.TowerReading.{read_tower}
use Rattle.outcome.specs.Areas.{book_areas}
use Rattle.outcome.specs.ReadBook.{book_answer, book_under, read_outcome}
use Rattle.file_tower.specs.TowerRead.{tower_read}
use Rattle.std.specs.Prelude.{Ok}
use Rattle.base.specs.Answers.{Answer}
use Rattle.file_tower.proofs.Laws.{fit_bounds, fit_of, fit_gives, refused_of}
use Rattle.book_reader.specs.Lines.{Outcome}
use Rattle.read_rules.specs.Rules.{rules_answer}

-- The tower is refused.
pub tower_refused : (tower text : List ℕ) (t : Answer (Unit {0})) (why : Refusal) → t ≡ Err why → t ≡ tower_read (read_tower tower)
    → Err why ≡ rules_answer tower text
unfolding rules_answer book_answer ◌then◌
tower_refused tower text t why e f = sym (rw (refused_of tower t why f e))

-- The area is long enough, so that 15 never comes.
enough : (area : List ℕ) → length area ≡ 512 → long_enough book_areas (area ∷ []) ≡ true
unfolding long_enough book_areas
enough area e = rw (le-leb 512 (length area) (omega arith))

-- The book decides.
pub book_read : (tower text : List ℕ) (t : Answer (Unit {0})) (marks : ℕ) (r : BookAnswer) (area after : List ℕ) → Outcome r marks text area after
    → marks ≡ (tower_of tower).marks → t ≡ tower_read (read_tower tower) → t ≡ Ok tt → length area ≡ 512 → r ≡ rules_answer tower text
unfolding rules_answer read_outcome book_under ◌if◌else◌ ◌then◌ most_marks
book_read tower text t marks r area after outcome e f g size =
    (rw (enough area size, le-ltb 16 marks few) at outcome.answer) ∙ sym (rw (fit_gives tower t f g, ← e))
  where
    few : marks ≤ 16
    few = omega (arith, (fit_bounds (fit_of tower t f g)).marks_most)
