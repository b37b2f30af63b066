-- A law for each way through the code that puts lines.
use Prim.Native.Nat.{ℕ, ◌^◌, ◌≤◌, ◌<◌}
use mathlib.Core.Path.{◌≡◌, sym, ◌∙◌, ap, ap₂}
use mathlib.Core.List.{List, [], ◌∷◌, ◌++◌, append-nil, append_assoc}
use native.Mathlib.Omega.{arith}
use lib.ListN.{length, get_or, take}
use mir.Syntax.{w8, w64}
use mir.Val.{Fits}
use Rattle.base.specs.Lists.{joined, total}
use Rattle.base.proofs.Lists.{length_joined}
use Rattle.base.specs.Text.{ascii}
use Rattle.base.specs.Bytes.{byte_at}
use Rattle.logic.specs.Tower.{tower_of}
use Rattle.logic.specs.Runs.{Moment, trace, moment, time_at}
use Rattle.logic.specs.declared.Tick.{Tick}
use Rattle.logic.specs.declared.Position.{Position}
use Rattle.program_texts.specs.Decimal.{decimal}
use Rattle.program_texts.specs.Putting.{Puts, PrintedLine}
use Rattle.program_texts.proofs.Decimals.{few_digits}
use Rattle.program_texts.proofs.Fitting.{puts_then, more, last, line_whole}
use Rattle.program_run.specs.declared.Point.{Point}
use Rattle.program_run.specs.RunLines.{broken_line, numbers_line, step_line}
use Rattle.program_run.specs.Walking.{RunInList, OnRun}
use Rattle.program_run.proofs.Walks.{moment_there, time_there}

-- A byte fits a word.
pub cast_byte : (l : List ℕ) (i : ℕ) → ((j : ℕ) → Fits w8 (get_or l j 0)) → Fits w64 (get_or l i 0)
cast_byte l i h = omega (arith, h i)

-- ---- numbers one behind the other

pub number_way : (n b at r s : ℕ) (o₀ o₁ o₂ : List ℕ) → Puts s (b ∷ []) o₁ r o₂ → Puts r (decimal n) o₀ at o₁
    → Puts s (joined (decimal n ∷ (b ∷ []) ∷ [])) o₀ at o₂
number_way n b at r s o₀ o₁ o₂ q p = more r s at (decimal n) ((b ∷ []) ∷ []) o₀ o₁ o₂ p (last s r (b ∷ []) o₁ o₂ q)

-- Two texts and those behind them.
pair_more : (a b : List ℕ) (rest : List (List ℕ)) (at r s : ℕ) (o₀ o₁ o₂ : List ℕ) → Puts r (joined (a ∷ b ∷ [])) o₀ at o₁
    → Puts s (joined rest) o₁ r o₂ → Puts s (joined (a ∷ b ∷ rest)) o₀ at o₂
unfolding joined
pair_more a b rest at r s o₀ o₁ o₂ p q =
    let one : (a ++ (b ++ [])) ++ joined rest ≡ a ++ (b ++ joined rest) =
    ap (λ x. (a ++ x) ++ joined rest) (append-nil b) ∙ append_assoc a b (joined rest) in
    rw one at (puts_then r s at (a ++ (b ++ [])) (joined rest) o₀ o₁ o₂ p q)

-- A number of the machine has at most 20 digits.
number_short : (n : ℕ) → n < 2 ^ 64 → length (decimal n) ≤ 20
number_short n l = few_digits 19 n (omega arith)

-- ---- the first line

pub head_way : (line n : ℕ) (place : Position) (o₀ o₁ o₂ o₃ o₄ : List ℕ) (r₁ r₂ r₃ r₄ : ℕ)
    → Puts r₄ (joined (decimal n ∷ (10 ∷ []) ∷ [])) o₃ r₃ o₄ → Puts r₃ (joined (decimal place.0 ∷ (32 ∷ []) ∷ [])) o₂ r₂ o₃
    → Puts r₂ (joined (decimal line ∷ (32 ∷ []) ∷ [])) o₁ r₁ o₂ → Puts r₁ (ascii "broken ") o₀ 0 o₁
    → length o₀ ≡ 4096 → line < 2 ^ 64 → place.0 < 2 ^ 64 → n < 2 ^ 64 → PrintedLine r₄ (broken_line line place n) o₄
unfolding broken_line ascii total
head_way line n place o₀ o₁ o₂ o₃ o₄ r₁ r₂ r₃ r₄ s r q p e a b c =
    line_whole r₄ (broken_line line place n) o₀ o₄
    (more r₁ r₄ 0 (ascii "broken ") (decimal line ∷ (32 ∷ []) ∷ decimal place.0 ∷ (32 ∷ []) ∷ decimal n ∷ (10 ∷ []) ∷ []) o₀ o₁ o₄ p
    (pair_more (decimal line) (32 ∷ []) (decimal place.0 ∷ (32 ∷ []) ∷ decimal n ∷ (10 ∷ []) ∷ []) r₁ r₂ r₄ o₁ o₂ o₄ q
    (pair_more (decimal place.0) (32 ∷ []) (decimal n ∷ (10 ∷ []) ∷ []) r₂ r₃ r₄ o₂ o₃ o₄ r s)))
    (rw (e, length_joined (ascii "broken " ∷ decimal line ∷ ascii " " ∷ decimal place.0 ∷ ascii " " ∷ decimal n ∷ ascii "\n" ∷ []))
    (omega (arith, number_short line a, number_short place.0 b, number_short n c)))

-- ---- a line of the run

pub numbers_way : (place : Position) (time : Tick) (x a : ℕ) (o₀ o₁ o₂ o₃ o₄ : List ℕ) (r₁ r₂ r₃ r₄ : ℕ)
    → Puts r₄ (joined (decimal a ∷ (10 ∷ []) ∷ [])) o₃ r₃ o₄ → Puts r₃ (joined (decimal x ∷ (32 ∷ []) ∷ [])) o₂ r₂ o₃
    → Puts r₂ (joined (decimal time.0 ∷ (32 ∷ []) ∷ [])) o₁ r₁ o₂ → Puts r₁ (joined (decimal place.0 ∷ (32 ∷ []) ∷ [])) o₀ 0 o₁
    → length o₀ ≡ 4096 → place.0 < 2 ^ 64 → time.0 < 2 ^ 64 → x < 2 ^ 64 → a < 2 ^ 64 → PrintedLine r₄ (numbers_line place time x a) o₄
unfolding numbers_line ascii total
numbers_way place time x a o₀ o₁ o₂ o₃ o₄ r₁ r₂ r₃ r₄ s r q p e f g h k =
    line_whole r₄ (numbers_line place time x a) o₀ o₄
    (pair_more (decimal place.0) (32 ∷ []) (decimal time.0 ∷ (32 ∷ []) ∷ decimal x ∷ (32 ∷ []) ∷ decimal a ∷ (10 ∷ []) ∷ []) 0 r₁ r₄ o₀ o₁ o₄ p
    (pair_more (decimal time.0) (32 ∷ []) (decimal x ∷ (32 ∷ []) ∷ decimal a ∷ (10 ∷ []) ∷ []) r₁ r₂ r₄ o₁ o₂ o₄ q
    (pair_more (decimal x) (32 ∷ []) (decimal a ∷ (10 ∷ []) ∷ []) r₂ r₃ r₄ o₂ o₃ o₄ r s)))
    (rw (e, length_joined (decimal place.0 ∷ ascii " " ∷ decimal time.0 ∷ ascii " " ∷ decimal x ∷ ascii " " ∷ decimal a ∷ ascii "\n" ∷ []))
    (omega (arith, number_short place.0 f, number_short time.0 g, number_short x h, number_short a k)))

-- The four numbers are those of the position.
pub step_way : (tower run : List ℕ) (n : ℕ) (p : Point) (r : ℕ) (out : List ℕ)
    → PrintedLine r (numbers_line p.position p.time p.state (byte_at run p.position.0)) out → OnRun p tower run n p.position
    → RunInList tower run n → p.position.0 < n → PrintedLine r (step_line (tower_of tower) (take n run) p.position) out
unfolding step_line
step_way tower run n p r out printed on in_list here =
    rw same at printed
  where
    line : Tick → Moment → List ℕ
    line t m = numbers_line p.position t m.state m.action

    same : line p.time (record { state = p.state; action = byte_at run p.position.0 })
        ≡ line (time_at (tower_of tower) (trace (tower_of tower) (take n run)) p.position) (moment (trace (tower_of tower) (take n run)) p.position)
    same = ap₂ line (time_there tower run n p on in_list here) (sym (moment_there tower run n p on in_list here))
