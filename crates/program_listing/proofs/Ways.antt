-- A law for each way through the code.
use Prim.Native.Nat.{ℕ, suc, ◌+◌, ◌-◌, ◌^◌, ◌≤◌, ◌<◌}
use mathlib.Core.Path.{◌≡◌, refl, sym, ◌∙◌, ap}
use mathlib.Core.Bool.{true}
use mathlib.Core.List.{List, [], ◌∷◌, ◌++◌, map}
use native.Mathlib.Omega.{arith}
use native.Mathlib.Numerals.{add-one}
use lib.ListN.{length}
use borrow.Author.Tests.{eq-eqb, ne_eqb}
use mir.Syntax.{w64}
use mir.Val.{Fits}
use Rattle.base.specs.Lists.{joined, count_from}
use Rattle.base.specs.Text.{ascii}
use Rattle.base.specs.Answers.{row_of, letter_of, refusal_number, refusal_place, refusal_said, reason_said}
use Rattle.base.specs.Answers.{rejection_said}
use Rattle.base.specs.declared.Rejection.{Rejection}
use Rattle.base.specs.declared.LogEnd.{LogEnd}
use Rattle.base.specs.declared.Reason.{Reason}
use Rattle.base.specs.declared.Reason.TheVariants.{Start, Withheld, WrongStep, Stopped, Broken}
use Rattle.base.specs.declared.Refusal.{Refusal}
use Rattle.logic.specs.Tables.{row_at}
use Rattle.reading.specs.TableReading.{rows_of, steps_of, row_state, row_count, row_first, step_place, step_action, step_target, laid_out, step_of, row_of_table, table_of}
use Rattle.logic.specs.TableFile.{step_size}
use Rattle.reading.proofs.LaidOut.{row_of_table_at}
use Rattle.file_table.proofs.Laws.{laid_out_known}
use Rattle.program_texts.specs.Decimal.{decimal}
use Rattle.program_texts.specs.Putting.{filled, put, Puts, PrintedLine}
use Rattle.program_texts.proofs.Fitting.{put_append, puts_then, puts_nothing, more, last, line_whole}
use Rattle.program_listing.specs.Lines.{line_end, head_line, step_text, steps_text, row_line, sizes_line, letter_text, inside_text, refusal_line, refused_line, named_line, end_line, log_line}
use Rattle.program_listing.proofs.Lengths.{head_short, sizes_short, row_short, refusal_short, named_short}
use Rattle.base.specs.Answers.{LogAnswer}

-- ---- texts one behind the other

-- Five texts.
five : (a b c d e o₀ o₁ o₂ o₃ o₄ o₅ : List ℕ) (r₀ r₁ r₂ r₃ r₄ r₅ : ℕ) → Puts r₁ a o₀ r₀ o₁ → Puts r₂ b o₁ r₁ o₂ → Puts r₃ c o₂ r₂ o₃
    → Puts r₄ d o₃ r₃ o₄ → Puts r₅ e o₄ r₄ o₅ → Puts r₅ (joined (a ∷ b ∷ c ∷ d ∷ e ∷ [])) o₀ r₀ o₅
five a b c d e o₀ o₁ o₂ o₃ o₄ o₅ r₀ r₁ r₂ r₃ r₄ r₅ p q r s t =
    more r₁ r₅ r₀ a (b ∷ c ∷ d ∷ e ∷ []) o₀ o₁ o₅ p (more r₂ r₅ r₁ b (c ∷ d ∷ e ∷ []) o₁ o₂ o₅ q
    (more r₃ r₅ r₂ c (d ∷ e ∷ []) o₂ o₃ o₅ r (more r₄ r₅ r₃ d (e ∷ []) o₃ o₄ o₅ s (last r₅ r₄ e o₄ o₅ t))))

-- ---- the counts of a table, and of a book

pub head_way : (rows steps : ℕ) (o₀ o₁ o₂ o₃ o₄ o₅ : List ℕ) (r₁ r₂ r₃ r₄ r₅ : ℕ) → Puts r₅ (10 ∷ []) o₄ r₄ o₅ → Puts r₄ (decimal steps) o₃ r₃ o₄
    → Puts r₃ (ascii " steps ") o₂ r₂ o₃ → Puts r₂ (decimal rows) o₁ r₁ o₂ → Puts r₁ (ascii "rows ") o₀ 0 o₁
    → length o₀ ≡ 4096 → rows < 2 ^ 64 → steps < 2 ^ 64 → PrintedLine r₅ (head_line rows steps) o₅
unfolding head_line line_end
head_way rows steps o₀ o₁ o₂ o₃ o₄ o₅ r₁ r₂ r₃ r₄ r₅ t s r q p e a b =
    line_whole r₅ (head_line rows steps) o₀ o₅
    (five (ascii "rows ") (decimal rows) (ascii " steps ") (decimal steps) line_end o₀ o₁ o₂ o₃ o₄ o₅ 0 r₁ r₂ r₃ r₄ r₅ p q r s t)
    (rw e (head_short rows steps a b))

pub sizes_way : (lines nodes : ℕ) (o₀ o₁ o₂ o₃ o₄ o₅ : List ℕ) (r₁ r₂ r₃ r₄ r₅ : ℕ) → Puts r₅ (10 ∷ []) o₄ r₄ o₅ → Puts r₄ (decimal nodes) o₃ r₃ o₄
    → Puts r₃ (ascii " nodes ") o₂ r₂ o₃ → Puts r₂ (decimal lines) o₁ r₁ o₂ → Puts r₁ (ascii "lines ") o₀ 0 o₁
    → length o₀ ≡ 4096 → lines < 2 ^ 64 → nodes < 2 ^ 64 → PrintedLine r₅ (sizes_line lines nodes) o₅
unfolding sizes_line line_end
sizes_way lines nodes o₀ o₁ o₂ o₃ o₄ o₅ r₁ r₂ r₃ r₄ r₅ t s r q p e a b =
    line_whole r₅ (sizes_line lines nodes) o₀ o₅
    (five (ascii "lines ") (decimal lines) (ascii " nodes ") (decimal nodes) line_end o₀ o₁ o₂ o₃ o₄ o₅ 0 r₁ r₂ r₃ r₄ r₅ p q r s t)
    (rw e (sizes_short lines nodes a b))

-- ---- steps

pub step_way : (action target at : ℕ) (o₀ o₁ o₂ o₃ o₄ : List ℕ) (r₁ r₂ r₃ r₄ : ℕ) → Puts r₁ (32 ∷ []) o₀ at o₁ → Puts r₂ (decimal action) o₁ r₁ o₂
    → Puts r₃ (62 ∷ []) o₂ r₂ o₃ → Puts r₄ (decimal target) o₃ r₃ o₄ → Puts r₄ (step_text (record { action = action; target = target })) o₀ at o₄
unfolding step_text ascii
step_way action target at o₀ o₁ o₂ o₃ o₄ r₁ r₂ r₃ r₄ p q r s =
    more r₁ r₄ at (32 ∷ []) (decimal action ∷ (62 ∷ []) ∷ decimal target ∷ []) o₀ o₁ o₄ p
    (more r₂ r₄ r₁ (decimal action) ((62 ∷ []) ∷ decimal target ∷ []) o₁ o₂ o₄ q
    (more r₃ r₄ r₂ (62 ∷ []) (decimal target ∷ []) o₂ o₃ o₄ r (last r₄ r₃ (decimal target) o₃ o₄ s)))

-- the text of the steps from step i to `end`
abbrev rest_text : List ℕ → ℕ → ℕ → List ℕ
rest_text bytes i end = steps_text (map (step_of bytes) (count_from i (end - i)))

-- What is left of the steps, put from here on, gives what all of them give.
pub record StepsToPrint (bytes : List ℕ) (row : ℕ) (o₀ : List ℕ) (at end : ℕ) (out : List ℕ) (next i : ℕ) : Type 0 where
  pub inside : i ≤ end
  pub within : end ≤ steps_of bytes
  pub same_length : length out ≡ length o₀
  pub rest : put (filled out next) (rest_text bytes i end) ≡ put (filled o₀ at) (steps_text (row_at (table_of bytes) row).steps)

pub steps_start : (bytes : List ℕ) (row : ℕ) (out : List ℕ) (at i n : ℕ) → laid_out bytes ≡ true → row < rows_of bytes → i ≡ row_first bytes row
    → n ≡ row_count bytes row → StepsToPrint bytes row out at (i + n) out at i
unfolding row_of_table
steps_start bytes row out at i n h l e f =
    record {
      inside = omega arith;
      within = omega (arith, ((laid_out_known bytes h).row row l).last);
      same_length = refl;
      rest = let g : i + n - i ≡ n = omega arith in rw (row_of_table_at bytes row l, g, e, f);
    }

pub steps_fit : (bytes : List ℕ) (row i n : ℕ) → laid_out bytes ≡ true → row < rows_of bytes → i ≡ row_first bytes row
    → n ≡ row_count bytes row → length bytes < 2 ^ 64 → Fits w64 (i + n)
unfolding step_place step_size
steps_fit bytes row i n h l e f g = omega (arith, ((laid_out_known bytes h).row row l).last, (laid_out_known bytes h).header.size)

pub next_fits : (bytes : List ℕ) (row : ℕ) (o₀ : List ℕ) (at end : ℕ) (out : List ℕ) (next i : ℕ) → StepsToPrint bytes row o₀ at end out next i
    → i < end → laid_out bytes ≡ true → length bytes < 2 ^ 64 → Fits w64 (i + 1)
unfolding step_place step_size
next_fits bytes row o₀ at end out next i left l h g = omega (arith, left.within, (laid_out_known bytes h).header.size)

pub steps_on : (bytes : List ℕ) (row : ℕ) (o₀ : List ℕ) (at end : ℕ) (out : List ℕ) (next i a t r : ℕ) (after : List ℕ)
    → StepsToPrint bytes row o₀ at end out next i → i < end → a ≡ step_action bytes i → t ≡ step_target bytes i
    → Puts r (step_text (record { action = a; target = t })) out next after → length after ≡ length out
    → StepsToPrint bytes row o₀ at end after r (i + 1)
unfolding steps_text joined count_from step_of
steps_on bytes row o₀ at end out next i a t r after left l e f p same =
    record {
      inside = omega arith;
      within = left.within;
      same_length = same ∙ left.same_length;
      rest = ap (λ x. put x (rest_text bytes (i + 1) end)) p.left
          ∙ put_append (filled out next) (step_text (record { action = a; target = t })) (rest_text bytes (i + 1) end)
          ∙ ap (put (filled out next)) text ∙ left.rest;
    }
  where
    text : step_text (record { action = a; target = t }) ++ rest_text bytes (i + 1) end ≡ rest_text bytes i end
    text = let g : end - i ≡ suc (end - (i + 1)) = omega arith in rw (g, e, f, add-one i)

pub steps_end : (bytes : List ℕ) (row : ℕ) (o₀ : List ℕ) (at end : ℕ) (out : List ℕ) (next i : ℕ) → StepsToPrint bytes row o₀ at end out next i
    → end ≤ i → Puts next (steps_text (row_at (table_of bytes) row).steps) o₀ at out
unfolding steps_text joined count_from put
steps_end bytes row o₀ at end out next i left l =
    record { left = let g : end - i ≡ 0 = omega arith in rw g at left.rest }

-- ---- a row

pub row_way : (bytes : List ℕ) (row state : ℕ) (o₀ o₁ o₂ o₃ o₄ o₅ : List ℕ) (r₁ r₂ r₃ r₄ r₅ : ℕ) → Puts r₅ (10 ∷ []) o₄ r₄ o₅
    → Puts r₄ (steps_text (row_at (table_of bytes) row).steps) o₃ r₃ o₄ → Puts r₃ (decimal state) o₂ r₂ o₃ → state ≡ row_state bytes row
    → Puts r₂ (32 ∷ []) o₁ r₁ o₂ → Puts r₁ (decimal row) o₀ 0 o₁
    → length o₀ ≡ 4096 → laid_out bytes ≡ true → row < rows_of bytes → PrintedLine r₅ (row_line row (row_at (table_of bytes) row)) o₅
unfolding row_of_table row_line line_end ascii
row_way bytes row state o₀ o₁ o₂ o₃ o₄ o₅ r₁ r₂ r₃ r₄ r₅ t s r f q p e h l =
    line_whole r₅ (row_line row (row_at (table_of bytes) row)) o₀ o₅ whole (rw e (row_short bytes row h l))
  where
    reached : state ≡ (row_at (table_of bytes) row).state
    reached = f ∙ ap (λ x. x.state) (sym (row_of_table_at bytes row l))

    whole : Puts r₅ (row_line row (row_at (table_of bytes) row)) o₀ 0 o₅
    whole = five (decimal row) (32 ∷ []) (decimal (row_at (table_of bytes) row).state) (steps_text (row_at (table_of bytes) row).steps) (10 ∷ [])
        o₀ o₁ o₂ o₃ o₄ o₅ 0 r₁ r₂ r₃ r₄ r₅ p q (rw reached at r) s t

-- ---- a refusal

pub letter_none : (l at : ℕ) (out : List ℕ) → l ≡ 0 → Puts at (letter_text l) out at out
unfolding letter_text
letter_none l at out e = rw (eq-eqb l 0 e) (puts_nothing at out)

pub letter_one : (l at r s : ℕ) (o₀ o₁ o₂ : List ℕ) → (l ≡ 0 → ⊥) → Puts r (32 ∷ []) o₀ at o₁ → Puts s (l ∷ []) o₁ r o₂
    → Puts s (letter_text l) o₀ at o₂
unfolding letter_text
letter_one l at r s o₀ o₁ o₂ e p q = rw (ne_eqb l 0 e) (puts_then r s at (32 ∷ []) (l ∷ []) o₀ o₁ o₂ p q)

-- The line of a refusal, by its number and its place.
pub refusal_way : (why : Refusal) (n p r : ℕ) (after : List ℕ) → PrintedLine r (refused_line n p 0) after → n ≡ refusal_number why
    → p ≡ refusal_place why → PrintedLine r (refusal_line (refusal_said why)) after
unfolding refusal_line refused_line refusal_said letter_text inside_text
refusal_way why n p r after h e f = rw (← e, ← f) h

-- The line of a 14, by the reason's row and letter.
reason_line : (q : Reason) → refusal_line (reason_said q) ≡ refused_line 14 (row_of q) (letter_of q)
unfolding refusal_line refused_line reason_said letter_text inside_text
reason_line Start = refl
reason_line (Withheld row) = refl
reason_line (WrongStep row) = refl
reason_line (Stopped row) = refl
reason_line Broken = refl

pub reason_way : (q : Reason) (p l r : ℕ) (after : List ℕ) → PrintedLine r (refused_line 14 p l) after → p ≡ row_of q → l ≡ letter_of q
    → PrintedLine r (refusal_line (reason_said q)) after
reason_way q p l r after h e f = rw (reason_line q, ← e, ← f) h

pub refused_way : (n p l : ℕ) (o₀ o₁ o₂ o₃ o₄ o₅ o₆ : List ℕ) (r₁ r₂ r₃ r₄ r₅ r₆ : ℕ) → Puts r₆ (10 ∷ []) o₅ r₅ o₆
    → Puts r₅ (letter_text l) o₄ r₄ o₅ → Puts r₄ (decimal p) o₃ r₃ o₄ → Puts r₃ (32 ∷ []) o₂ r₂ o₃ → Puts r₂ (decimal n) o₁ r₁ o₂
    → Puts r₁ (ascii "refused ") o₀ 0 o₁ → length o₀ ≡ 4096 → n < 2 ^ 64 → p < 2 ^ 64 → PrintedLine r₆ (refused_line n p l) o₆
unfolding refused_line line_end ascii
refused_way n p l o₀ o₁ o₂ o₃ o₄ o₅ o₆ r₁ r₂ r₃ r₄ r₅ r₆ f e d c b a i s t =
    line_whole r₆ (refused_line n p l) o₀ o₆
    (more r₁ r₆ 0 (ascii "refused ") (decimal n ∷ (32 ∷ []) ∷ decimal p ∷ letter_text l ∷ (10 ∷ []) ∷ []) o₀ o₁ o₆ a
    (five (decimal n) (32 ∷ []) (decimal p) (letter_text l) (10 ∷ []) o₁ o₂ o₃ o₄ o₅ o₆ r₁ r₂ r₃ r₄ r₅ r₆ b c d e f))
    (rw i (refusal_short n p l s t))

-- ---- what a log comes to

pub named_way : (word : List ℕ) (n : ℕ) (o₀ o₁ o₂ o₃ : List ℕ) (r₁ r₂ r₃ : ℕ) → Puts r₃ (10 ∷ []) o₂ r₂ o₃ → Puts r₂ (decimal n) o₁ r₁ o₂
    → Puts r₁ word o₀ 0 o₁ → length o₀ ≡ 4096 → length word ≤ 8 → n < 2 ^ 64 → PrintedLine r₃ (named_line word n) o₃
unfolding named_line line_end
named_way word n o₀ o₁ o₂ o₃ r₁ r₂ r₃ r q p e few a =
    line_whole r₃ (named_line word n) o₀ o₃
    (more r₁ r₃ 0 word (decimal n ∷ line_end ∷ []) o₀ o₁ o₃ p (more r₂ r₃ r₁ (decimal n) (line_end ∷ []) o₁ o₂ o₃ q (last r₃ r₂ line_end o₂ o₃ r)))
    (rw e (named_short word n few a))

-- The line of an end that is known.
pub end_way : (end known : LogEnd) (r : ℕ) (after : List ℕ) → end ≡ known → PrintedLine r (end_line known) after → PrintedLine r (end_line end) after
end_way end known r after e h = rw e h

-- The line of a rejection that is known.
pub rejection_way : (why known : Rejection) (r : ℕ) (after : List ℕ) → why ≡ known → PrintedLine r (refusal_line (rejection_said known)) after
    → PrintedLine r (refusal_line (rejection_said why)) after
rejection_way why known r after e h = rw e h

-- The line of an answer that is known.
pub log_way : (answer known : LogAnswer) (r : ℕ) (after : List ℕ) → answer ≡ known → PrintedLine r (log_line known) after → PrintedLine r (log_line answer) after
log_way answer known r after e h = rw e h
