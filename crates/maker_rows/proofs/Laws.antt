-- How a call ends, by the file that it makes.
use Prim.Native.Nat.{ℕ}
use mathlib.Core.Path.{◌≡◌, sym, subst}
use mathlib.Core.List.{List}
use Rattle.base.specs.Answers.{Answer, ◌then◌}
use Rattle.std.specs.Prelude.{Err}
use Rattle.base.specs.declared.Refusal.{Refusal}
use Rattle.base.specs.Answers.{MakeAnswer}
use Rattle.outcome.specs.Make.{written}
use Rattle.maker_rows.specs.Rows.{ending, Ends}

-- A refusal leaves the output as it is.
pub refused_ends : (file : Answer (List ℕ)) (why : Refusal) (out : List ℕ) → file ≡ Err why → Ends file out (Err why) out
unfolding ending ◌then◌ written
refused_ends file why out e = record { answer = rw e; output = rw e }

-- The file of one answer is that of another.
pub ends_along : (file other : Answer (List ℕ)) (out : List ℕ) (r : MakeAnswer) (after : List ℕ) → other ≡ file → Ends file out r after
    → Ends other out r after
ends_along file other out r after e ends = subst (λ f. Ends f out r after) (sym e) ends
