-- Outcomes on tiny towers, by computing the definitions.
use Prim.Native.Nat.{ℕ, ◌≤◌}
use Prim.Native.String.{String}
use mathlib.Core.Path.{◌≡◌, refl, ◌∙◌, ap}
use mathlib.Core.List.{List, [], ◌∷◌}
use native.Mathlib.Omega.{arith}
use lib.ListN.{length}
use Rattle.base.specs.Text.{ascii}
use Rattle.base.specs.Answers.{answered, make_said, verdict_said, refusal_said, Answer}
use Rattle.std.specs.Prelude.{Err, Ok}
use Rattle.base.specs.declared.Refusal.{Refusal}
use Rattle.base.specs.declared.Refusal.TheVariants.{Mask, NoTable}
use Rattle.outcome.specs.Make.{made_file}
use Rattle.outcome.specs.Check.{Finding, checked_file, verdict}
use Rattle.outcome.specs.TinyTowers.{one_state, two_states, leaves_p0, enters_p0, Makes, Says, Judges, TinyTowerTable}
use Rattle.outcome.proofs.ElevenOutcomes.{opened}
use Rattle.outcome.proofs.Refusals.{check_enough}
use Rattle.outcome.proofs.FitCalls.{file_answered}
use Rattle.outcome.proofs.Answering.{made_refused}

-- a refusal of the files is said
pub makes_refused : (tower text : List ℕ) (r : Refusal) → made_file tower text ≡ Err r → Makes tower text (refusal_said r)
unfolding Makes make_said
makes_refused tower text r e output areas room enough = ap make_said (made_refused tower text output areas enough r e)

pub says_refused : (tower : List ℕ) (book : String) (r : Refusal) → made_file tower (ascii book) ≡ Err r → Says tower book (refusal_said r)
says_refused tower book r e = makes_refused tower (ascii book) r e

-- a file that is made is said by its length
pub makes_made : (tower text file : List ℕ) → length file ≤ 26 → made_file tower text ≡ Ok file → Makes tower text (answered (length file ∷ []))
unfolding Makes make_said
makes_made tower text file few e output areas room enough =
    ap make_said (file_answered tower text output areas file enough e (omega arith))

pub says_made : (tower : List ℕ) (book : String) (file : List ℕ) → length file ≤ 26 → made_file tower (ascii book) ≡ Ok file
    → Says tower book (answered (length file ∷ []))
says_made tower book file few e = makes_made tower (ascii book) file few e

-- a table is said as it is judged
pub judges : (tower text file : List ℕ) (o : Answer Finding) → checked_file tower text file ≡ o → Judges tower text file (verdict_said (verdict o))
unfolding Judges
judges tower text file o e areas enough = ap verdict_said ((check_enough tower text file areas enough).0 ∙ ap verdict e)

-- the tables of one row with one step, and of two rows with one step each
unfoldable pub one : List ℕ
one =
    1 ∷ 0 ∷ 1 ∷ 0 ∷ 12 ∷ 0 ∷ 16 ∷ 0 ∷ 1 ∷ 0 ∷ 1 ∷ 0
    ∷ 0 ∷ 1 ∷ 0 ∷ 0
    ∷ 0 ∷ 0 ∷ 0
    ∷ []

unfoldable pub two : List ℕ
two =
    2 ∷ 0 ∷ 2 ∷ 0 ∷ 12 ∷ 0 ∷ 20 ∷ 0 ∷ 2 ∷ 0 ∷ 1 ∷ 0
    ∷ 0 ∷ 1 ∷ 0 ∷ 0
    ∷ 1 ∷ 1 ∷ 1 ∷ 0
    ∷ 0 ∷ 1 ∷ 0
    ∷ 0 ∷ 1 ∷ 0
    ∷ []

-- the definitions computed, with the towers opened
pub tiny_towers : TinyTowerTable
unfolding opened one_state two_states one two refusal_said
tiny_towers =
    record {
      less_at = says_refused (one_state 0) "always N < 5 T\n" NoTable refl;
      less_below = says_made (one_state 0) "always N < 6 T\n" one (omega arith) refl;
      no_more_at = says_made (one_state 0) "always N <= 5 T\n" one (omega arith) refl;
      no_more_above = says_refused (one_state 0) "always N <= 4 T\n" NoTable refl;
      no_less_at = says_made (one_state 0) "always N >= 5 T\n" one (omega arith) refl;
      no_less_below = says_refused (one_state 0) "always N >= 6 T\n" NoTable refl;
      more_at = says_refused (one_state 0) "always N > 5 T\n" NoTable refl;
      more_above = says_made (one_state 0) "always N > 4 T\n" one (omega arith) refl;
      always_20 = says_refused (leaves_p0 20) "start A p0\n" NoTable refl;
      always_20_by_19 = says_made (leaves_p0 20) "start A 19 p0\n" two (omega arith) refl;
      always_21 = says_made (leaves_p0 21) "start A p0\n" two (omega arith) refl;
      always_21_by_21 = says_refused (leaves_p0 21) "start A 21 p0\n" NoTable refl;
      within_20 = says_made (enters_p0 20) "start E p0\n" two (omega arith) refl;
      within_20_by_19 = says_refused (enters_p0 20) "start E 19 p0\n" NoTable refl;
      within_21 = says_refused (enters_p0 21) "start E p0\n" NoTable refl;
      within_21_by_21 = says_made (enters_p0 21) "start E 21 p0\n" two (omega arith) refl;
      until_20 = says_made (enters_p0 20) "start U (T, p0)\n" two (omega arith) refl;
      until_20_by_19 = says_refused (enters_p0 20) "start U 19 (T, p0)\n" NoTable refl;
      until_21 = says_refused (enters_p0 21) "start U (T, p0)\n" NoTable refl;
      until_21_by_21 = says_made (enters_p0 21) "start U 21 (T, p0)\n" two (omega arith) refl;
      bit_3 = says_refused (one_state 8) "" Mask refl;
      bit_2 = says_made (one_state 4) "always p2\n" one (omega arith) refl;
      bit_2_not_1 = says_refused (one_state 4) "always p1\n" NoTable refl;
      or_and = says_made (one_state 1) "always p0 | p1 & p2\n" one (omega arith) refl;
      or_and_in_brackets = says_refused (one_state 1) "always (p0 | p1) & p2\n" NoTable refl;
      and_or = says_made (one_state 4) "always p0 & p1 | p2\n" one (omega arith) refl;
      and_or_in_brackets = says_refused (one_state 4) "always p0 & (p1 | p2)\n" NoTable refl;
    }
