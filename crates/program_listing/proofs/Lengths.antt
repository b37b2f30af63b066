-- Every line fits into the array of 4,096 bytes.
use Prim.Native.Nat.{ℕ, zero, suc, ◌+◌, ◌*◌, ◌^◌, ◌≤◌, ◌<◌}
use mathlib.Core.Path.{◌≡◌}
use mathlib.Core.Bool.{true}
use mathlib.Core.List.{List, [], ◌∷◌, map}
use native.Mathlib.Omega.{arith}
use native.Mathlib.Decide.{ℕ_discrete}
use lib.ListN.{length, length-append}
use borrow.Author.Tests.{eq-eqb, ne_eqb}
use Rattle.base.specs.Lists.{joined, count_from, total}
use Rattle.base.proofs.Lists.{length_joined}
use Rattle.base.specs.Text.{ascii}
use Rattle.logic.specs.Tower.{most_actions}
use Rattle.logic.specs.Tables.{row_at}
use Rattle.logic.specs.TableFile.{most_rows}
use Rattle.reading.specs.TableReading.{rows_of, steps_of, table_actions, row_state, row_count, row_first, step_action, step_target, steps_right, laid_out, step_of, row_of_table, table_of}
use Rattle.reading.proofs.LaidOut.{steps_right_out, row_of_table_at}
use Rattle.reading.proofs.TableHeader.{table_layout_fits}
use Rattle.file_table.proofs.Laws.{laid_out_known}
use Rattle.program_texts.specs.Decimal.{decimal}
use Rattle.program_texts.proofs.Decimals.{few_digits}
use Rattle.program_listing.specs.Lines.{line_end, head_line, step_text, steps_text, row_line, sizes_line, letter_text, refused_line, named_line}

-- A number of the machine has at most 20 digits.
pub number_short : (n : ℕ) → n < 2 ^ 64 → length (decimal n) ≤ 20
number_short n l = few_digits 19 n (omega arith)

pub head_short : (rows steps : ℕ) → rows < 2 ^ 64 → steps < 2 ^ 64 → length (head_line rows steps) ≤ 4096
unfolding head_line line_end ascii total
head_short rows steps a b =
    rw (length_joined (ascii "rows " ∷ decimal rows ∷ ascii " steps " ∷ decimal steps ∷ line_end ∷ []))
    (omega (arith, number_short rows a, number_short steps b))

pub sizes_short : (lines nodes : ℕ) → lines < 2 ^ 64 → nodes < 2 ^ 64 → length (sizes_line lines nodes) ≤ 4096
unfolding sizes_line line_end ascii total
sizes_short lines nodes a b =
    rw (length_joined (ascii "lines " ∷ decimal lines ∷ ascii " nodes " ∷ decimal nodes ∷ line_end ∷ []))
    (omega (arith, number_short lines a, number_short nodes b))

-- ---- rows

-- Actions ascend, so that n right steps from action `low` on are no more than the actions from `low` on.
few_steps : (bytes : List ℕ) (n low i : ℕ) → steps_right bytes low i n ≡ true → low ≤ table_actions bytes → low + n ≤ table_actions bytes
few_steps bytes zero low i h l = omega arith
few_steps bytes (suc n) low i h l =
    let s = steps_right_out bytes low i n h in
    omega (arith, s.above, few_steps bytes n (step_action bytes i + 1) (suc i) s.more (omega (arith, s.action)))

-- The text of n steps from step i on.
steps_short : (bytes : List ℕ) (n i : ℕ) → ((j : ℕ) → j < i + n → length (step_text (step_of bytes j)) ≤ 20)
    → length (steps_text (map (step_of bytes) (count_from i n))) ≤ 20 * n
unfolding steps_text joined count_from
steps_short bytes zero i h = omega arith
steps_short bytes (suc n) i h =
    rw (length-append (step_text (step_of bytes i)) (joined (map step_text (map (step_of bytes) (count_from (suc i) n)))))
    (omega (arith, h i (omega arith), steps_short bytes n (suc i) (λ j l. h j (omega arith))))

step_short : (bytes : List ℕ) (i : ℕ) → laid_out bytes ≡ true → i < steps_of bytes → length (step_text (step_of bytes i)) ≤ 20
unfolding step_text step_of ascii total most_rows most_actions
step_short bytes i h l =
    let known = laid_out_known bytes h in
    rw (length_joined (ascii " " ∷ decimal (step_action bytes i) ∷ ascii ">" ∷ decimal (step_target bytes i) ∷ []))
    (omega (
      arith,
      few_digits 2 (step_action bytes i) (omega (arith, (known.step i l).action, known.header.few_actions)),
      few_digits 3 (step_target bytes i) (omega (arith, (known.step i l).target, known.header.few_rows)),
    ))

pub row_short : (bytes : List ℕ) (r : ℕ) → laid_out bytes ≡ true → r < rows_of bytes → length (row_line r (row_at (table_of bytes) r)) ≤ 4096
unfolding row_line row_of_table ascii line_end total most_rows most_actions
row_short bytes r h l =
    let known = laid_out_known bytes h in
    let steps = steps_text (map (step_of bytes) (count_from (row_first bytes r) (row_count bytes r))) in
    rw (row_of_table_at bytes r l, length_joined (decimal r ∷ ascii " " ∷ decimal (row_state bytes r) ∷ steps ∷ line_end ∷ []))
    (omega (
      arith,
      few_digits 3 r (omega (arith, known.header.few_rows)),
      few_digits 2 (row_state bytes r) (omega (arith, (known.row r l).state, known.header.few_states, (table_layout_fits bytes).few_states)),
      steps_short bytes (row_count bytes r) (row_first bytes r) (λ j k. step_short bytes j h (omega (arith, (known.row r l).last))),
      few_steps bytes (row_count bytes r) 0 (row_first bytes r) (known.row r l).steps (omega arith),
      known.header.few_actions,
    ))

-- ---- a refusal

letter_short : (l : ℕ) → length (letter_text l) ≤ 2
unfolding letter_text
letter_short l = elim (ℕ_discrete l 0) [
  | yes e ↦ rw (eq-eqb l 0 e) (omega arith)
  | no e ↦ rw (ne_eqb l 0 e) (omega arith)
]

pub refusal_short : (n p l : ℕ) → n < 2 ^ 64 → p < 2 ^ 64
    → length (refused_line n p l) ≤ 4096
unfolding refused_line line_end ascii total
refusal_short n p l a b =
    rw (length_joined (ascii "refused " ∷ decimal n ∷ ascii " " ∷ decimal p ∷ letter_text l ∷ line_end ∷ []))
    (omega (arith, number_short n a, number_short p b, letter_short l))

-- ---- a word and a number

pub named_short : (word : List ℕ) (n : ℕ) → length word ≤ 8 → n < 2 ^ 64 → length (named_line word n) ≤ 4096
unfolding named_line line_end total
named_short word n few a = rw (length_joined (word ∷ decimal n ∷ line_end ∷ [])) (omega (arith, number_short n a))
