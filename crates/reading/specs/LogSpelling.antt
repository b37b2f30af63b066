-- 02, item 2: how a log is written, rule by rule, and the right answer for a text in these words. Nothing here reads a text.
use Rattle.std.specs.Prelude.{ℕ, suc, ◌+◌, ◌*◌, ◌≤◌, ◌<◌, ◌≡◌, List, [], ◌∷◌, ◌++◌, length}
use Rattle.base.specs.Lists.{joined}
use Rattle.base.specs.Text.{ascii}
use Rattle.base.specs.Answers.{Answer}
use Rattle.std.specs.Prelude.{Err, Ok}
use Rattle.base.specs.declared.Refusal.TheVariants.{Log}
use Rattle.logic.specs.Time.{ticks}
use Rattle.reading.specs.Spelling.{digit}
use Rattle.reading.specs.LogReading.{most_tick}
use Rattle.reading.specs.declared.Stroke.{Stroke}

-- A number in decimal digits, zeros in front allowed: how many digits, the number, and the bytes.
pub data Decimal : (count number : ℕ) → List ℕ → Type 0 where
  one_digit : (d : ℕ) → d < 10 → Decimal 1 d (digit d ∷ [])
  digit_more : {count n : ℕ} {text : List ℕ} → Decimal count n text → (d : ℕ) → d < 10 → Decimal (suc count) (10 * n + d) (text ++ (digit d ∷ []))

-- The bytes spell a line of a log: a tick of up to 10 digits and 4,294,967,295, a space, an action of up to 2 digits, and byte 10.
pub data SpellsStroke : Stroke → List ℕ → Type 0 where
  spells_stroke : {i t : ℕ} {tick : List ℕ} {j a : ℕ} {action : List ℕ} → Decimal i t tick → i ≤ 10 → t ≤ most_tick → Decimal j a action → j ≤ 2
      → SpellsStroke (record { tick = ticks t; action = a }) (joined (tick ∷ ascii " " ∷ action ∷ ascii "\n" ∷ []))

-- The bytes spell a log: its lines, one after the other.
pub data SpellsLog : List Stroke → List ℕ → Type 0 where
  no_lines : SpellsLog [] []
  line_before : {s : Stroke} {line : List ℕ} {strokes : List Stroke} {text : List ℕ} → SpellsStroke s line → SpellsLog strokes text
      → SpellsLog (s ∷ strokes) (line ++ text)

-- The bytes begin with a line of a log.
pub record BeginsLine (rest : List ℕ) : Type 0 where
  pub stroke : Stroke
  pub line : List ℕ
  pub behind : List ℕ
  pub spells : SpellsStroke stroke line
  pub all : rest ≡ line ++ behind

-- The right answer for a text and why it is the right one: the lines of the whole log; or 19 at the first line that is not of the form, which
-- begins behind the lines before it, is not empty, and begins with no line of a log.
pub data RightLog (text : List ℕ) : Answer (List Stroke) → Type 0 where
  whole_log : (strokes : List Stroke) → SpellsLog strokes text → RightLog text (Ok strokes)
  bad_line : (before : List Stroke) (begun rest : List ℕ) → SpellsLog before begun → text ≡ begun ++ rest → 1 ≤ length rest → (BeginsLine rest → ⊥)
      → RightLog text (Err (Log (length before)))
