-- A law for each way through the code.
use Prim.Native.Nat.{ℕ, ◌+◌, ◌≤◌}
use mathlib.Core.Path.{◌≡◌, refl, sym, ◌∙◌, ap}
use mathlib.Core.Bool.{true}
use mathlib.Core.List.{List, [], ◌∷◌}
use native.Mathlib.Omega.{arith}
use lib.ListN.{length, take, drop, length-take}
use lib.Seq.{sets-eq, take_at, length-take-le}
use borrow.Author.Tests.{le-leb, le-ltb}
use Rattle.base.specs.Bytes.{long_enough, cleared}
use Rattle.base.specs.Answers.{Answer, ◌if◌else◌, ◌then◌}
use Rattle.std.specs.Prelude.{Err, Ok}
use Rattle.base.specs.Answers.{MakeAnswer}
use Rattle.reading.specs.TableReading.{laid_out}
use Rattle.outcome.specs.Areas.{make_areas, book_area, pairs_area, index_area, graph_area, sets_area, room_area, flags_area, classes_area}
use Rattle.outcome.specs.Make.{made_file, fitting, written, make_outcome}
use Rattle.maker.specs.Making.{Makes}
use Rattle.make_table.specs.Files.{made_answer, MadeFile}
use Rattle.make_table.proofs.MadeFiles.{made_known}

-- ---- make

-- The output has room for every file that is made.
room : (tower text : List ℕ) (most : ℕ) → most ≡ 52012 → (made_file tower text then λ file. fitting most file) ≡ made_file tower text
unfolding ◌then◌ fitting ◌if◌else◌
room tower text most e = go (made_file tower text) refl
  where
    go : (o : Answer (List ℕ)) → made_file tower text ≡ o → (o then λ file. fitting most file) ≡ o
    go (Err r) f = refl
    go (Ok file) f = rw (le-ltb most (length file) (omega (arith, (made_known tower text file f).short)))

-- The areas are long enough.
enough : (a b c d e f g h : List ℕ) → length a ≡ book_area → length b ≡ pairs_area → length c ≡ index_area → length d ≡ graph_area
    → length e ≡ sets_area → length f ≡ room_area → length g ≡ flags_area → length h ≡ classes_area
    → long_enough make_areas (a ∷ b ∷ c ∷ d ∷ e ∷ f ∷ g ∷ h ∷ []) ≡ true
unfolding long_enough make_areas
enough a b c d e f g h p q r s t u v w =
    rw (
      le-leb book_area (length a) (omega arith),
      le-leb pairs_area (length b) (omega arith),
      le-leb index_area (length c) (omega arith),
      le-leb graph_area (length d) (omega arith),
      le-leb sets_area (length e) (omega arith),
      le-leb room_area (length f) (omega arith),
      le-leb flags_area (length g) (omega arith),
      le-leb classes_area (length h) (omega arith),
    )

-- What is answered for a file.
answer_is : (o : Answer (List ℕ)) (out : List ℕ) (areas : List (List ℕ)) → (written o out areas).answer ≡ made_answer o
unfolding written made_answer
answer_is (Err r) out areas = refl
answer_is (Ok file) out areas = refl

-- What the output begins with.
output_begins : (o : Answer (List ℕ)) (file out : List ℕ) (areas : List (List ℕ)) → o ≡ Ok file → length file ≤ length out
    → take (length file) (written o out areas).output ≡ file
unfolding written
output_begins o file out areas e l =
    rw e (ap (take (length file)) (sets-eq file out 0 (omega arith)) ∙ take_at file (drop (0 + length file) out) (length file) refl)

-- The outcome is that of the file.
outcome_is : (tower text out : List ℕ) (areas : List (List ℕ)) → long_enough make_areas areas ≡ true → length out ≡ 52012
    → make_outcome tower text out areas ≡ written (made_file tower text) out (cleared areas)
unfolding make_outcome
outcome_is tower text out areas e f = rw (e, room tower text (length out) f)

pub made_way : (r : MakeAnswer) (tower text out a b c d e f g h after a' b' c' d' e' f' g' h' : List ℕ)
    → Makes r tower text out a b c d e f g h after a' b' c' d' e' f' g' h' → length out ≡ 52012
    → length a ≡ book_area → length b ≡ pairs_area → length c ≡ index_area → length d ≡ graph_area
    → length e ≡ sets_area → length f ≡ room_area → length g ≡ flags_area → length h ≡ classes_area
    → MadeFile r tower text after
made_way r tower text out a b c d e f g h after a' b' c' d' e' f' g' h' makes size p q s t u v w x =
    let areas = a ∷ b ∷ c ∷ d ∷ e ∷ f ∷ g ∷ h ∷ [] in
    let is = outcome_is tower text out areas (enough a b c d e f g h p q s t u v w x) size in
    record {
      answered = makes.answer ∙ ap (λ o. o.answer) is ∙ answer_is (made_file tower text) out (cleared areas);
      begins = λ file given.
          ap (take (length file)) (makes.output ∙ ap (λ o. o.output) is)
          ∙ output_begins (made_file tower text) file out (cleared areas) given (omega (arith, (made_known tower text file given).short));
    }

-- ---- make_from

-- What is made stands at the start of the output, and is laid out.
record Saved (n : ℕ) (out : List ℕ) : Type 0 where
  pub within : n ≤ length out
  pub laid : laid_out (take n out) ≡ true

saved : (r : MakeAnswer) (n : ℕ) (tower text out : List ℕ) → r ≡ Ok n → MadeFile r tower text out → Saved n out
unfolding made_answer
saved r n tower text out e made = go (made_file tower text) refl (sym made.answered ∙ e)
  where
    go : (o : Answer (List ℕ)) → made_file tower text ≡ o → made_answer o ≡ Ok n → Saved n out
    go (Err w) f g = absurd (let z : ◌≡◌ {A = ℕ} 0 1 = cc in omega arith)
    go (Ok file) f g =
        let count : length file ≡ n = cc in
        let whole = made.begins file f in
        record {
          within = omega (arith, ap length whole, length-take (length file) out);
          laid = rw (← count, whole) (made_known tower text file f).laid;
        }

-- The first n bytes of an area that has as many are n.
pub part_taken : (n : ℕ) (area : List ℕ) → n ≤ length area → n ≡ length (take n area)
part_taken n area l = sym (length-take-le n area l)

pub made_within : (r : MakeAnswer) (n : ℕ) (tower text out : List ℕ) → r ≡ Ok n → MadeFile r tower text out → n ≤ length out
made_within r n tower text out e made = (saved r n tower text out e made).within

pub made_taken : (r : MakeAnswer) (n : ℕ) (tower text out : List ℕ) → r ≡ Ok n → MadeFile r tower text out → n ≡ length (take n out)
made_taken r n tower text out e made = part_taken n out (made_within r n tower text out e made)

pub made_laid : (r : MakeAnswer) (n : ℕ) (tower text out : List ℕ) → r ≡ Ok n → MadeFile r tower text out → laid_out (take n out) ≡ true
made_laid r n tower text out e made = (saved r n tower text out e made).laid
