-- The log reader's answer is the right one, and no other is: a line is read exactly where it is spelled, and so is a log.
use Prim.Native.Nat.{ℕ, zero, suc, ◌+◌, ◌-◌, ◌≤◌, ◌<◌}
use native.Mathlib.Omega.{arith}
use native.Mathlib.Nat.{add-zero}
use native.Mathlib.Decide.{dec_lt}
use mathlib.Core.Path.{◌≡◌, refl, sym, ◌∙◌, ap, subst}
use mathlib.Core.Logic.{◌↔◌}
use mathlib.Core.Bool.{true, false}
use Rattle.std.specs.Prelude.{None, Some}
use mathlib.Core.List.{List, [], ◌∷◌, ◌++◌, append-nil}
use lib.ListN.{length, drop, length-append, length-drop, drop_of_length-le}
use lib.Seq.{drop-append_seam}
use lib.Dec.{ltb}
use borrow.Author.Tests.{ltb-true, ltb-false, lt-ltb, le-ltb}
use Rattle.base.specs.Text.{byte, ascii}
use Rattle.base.specs.Bytes.{byte_at}
use Rattle.base.specs.Answers.{Answer, ◌if◌else◌}
use Rattle.std.specs.Prelude.{Ok}
use Rattle.base.specs.declared.Refusal.TheVariants.{Log}
use Rattle.base.proofs.Lists.{none-some, whether_there}
use Rattle.base.proofs.Answers.{if_on, if_refuses}
use Rattle.reading.specs.Tokens.{is_digit, digits, value, Token, numeral}
use Rattle.reading.specs.Spelling.{digit}
use Rattle.reading.specs.LogReading.{field_at, stroke_at, LogRead, with_line, log_from, read_log}
use Rattle.reading.specs.LogSpelling.{Decimal, one_digit, digit_more, SpellsStroke, spells_stroke, SpellsLog, no_lines, line_before, RightLog, whole_log, bad_line}
use Rattle.reading.specs.declared.Stroke.{Stroke}
use Rattle.reading.proofs.TextPlaces.{Span, Pieces, pieces, piece, behind_piece, piece_byte, pieces_end, span_left, span_right, span_at, digit_is, no_digits, numeral_of}
use Rattle.reading.proofs.TextPlaces as Places
use Rattle.reading.proofs.SpelledTokens.{pick_by, Passage, Passages, passages_end, passage_empty, passage_before, passages_joined, passage_append, stands_passage, digits_most, digits_some, digits_at, digit_passage}
use Rattle.reading.proofs.FormulaBack.{is_there}
use Rattle.reading.proofs.LogReading.{picked, field_parts, field_of, stroke_parts, stroke_of, stroke_ahead, log_end, log_bad, log_line, log_by, log_stops}

-- ---- numbers that are spelled are read back

-- A number has as many bytes as digits, at least one.
pub decimal_length : {count k : ℕ} {number : List ℕ} → Decimal count k number → (length number ≡ count) × (1 ≤ count)
decimal_length (one_digit d l) = (refl, omega arith)
decimal_length (digit_more {text = text} h d l) = let (e, one) = decimal_length h in (omega (arith, length-append text (digit d ∷ [])), omega arith)

module _ {s : List ℕ} {p : ℕ} where
  -- The digit behind a number.
  last_digit : {count k : ℕ} {number : List ℕ} → Decimal count k number → (d : ℕ) {rest : List ℕ} {e : ℕ} → Span s p (number ++ (digit d ∷ [])) rest e
      → byte_at s (p + count) ≡ digit d
  last_digit {number = number} h d span =
      let (e, one) = decimal_length h in span_at (span_right number (digit d ∷ []) span) 0 _ (omega arith)

  -- Its bytes are digits,
  decimal_digits : {count k : ℕ} {number : List ℕ} → Decimal count k number → {rest : List ℕ} {e : ℕ} → Span s p number rest e
      → (i : ℕ) → i < count → is_digit (byte_at s (p + i)) ≡ true
  decimal_digits (one_digit d l) span zero lt = ap is_digit (span_at span 0 (p + 0) refl) ∙ digit_is d l
  decimal_digits (one_digit d l) span (suc i) lt = absurd (omega arith)
  decimal_digits (digit_more {count} {n} {text} h d l) span i lt = elim (dec_lt i count) [
    | yes before ↦ decimal_digits h (span_left text (digit d ∷ []) span) i before
    | no not_before ↦
        let last : i ≡ count = omega arith in
        ap (λ j. is_digit (byte_at s (p + j))) last ∙ ap is_digit (last_digit h d span) ∙ digit_is d l
  ]

  -- and their value is the number.
  decimal_value : {count k : ℕ} {number : List ℕ} → Decimal count k number → {rest : List ℕ} {e : ℕ} → Span s p number rest e → value count s p ≡ k
  unfolding value digit
  decimal_value (one_digit d l) span = omega (arith, span_at span 0 (p + 0) refl)
  decimal_value (digit_more {count} {n} {text} h d l) span =
      let v = decimal_value h (span_left text (digit d ∷ []) span) in omega (arith, last_digit h d span)

-- So many digits, and then none.
digits_are : (s : List ℕ) (n most p : ℕ) → n ≤ most → ((i : ℕ) → i < n → is_digit (byte_at s (p + i)) ≡ true) → is_digit (byte_at s (p + n)) ≡ false
    → digits most s p ≡ n
digits_are s zero most p le all stop = no_digits most s p (ap (λ q. is_digit (byte_at s q)) (sym (add-zero p)) ∙ stop)
digits_are s (suc n) zero p le all stop = absurd (omega arith)
digits_are s (suc n) (suc most) p le all stop =
    Places.digit_more most s p n (ap (λ q. is_digit (byte_at s q)) (sym (add-zero p)) ∙ all 0 (omega arith))
    (digits_are s n most (p + 1) (omega arith) (λ i lt. ap (λ q. is_digit (byte_at s q)) (place i) ∙ all (suc i) (omega arith))
    (ap (λ q. is_digit (byte_at s q)) (place n) ∙ stop))
  where
    place : (i : ℕ) → p + 1 + i ≡ p + suc i
    place i = omega arith

-- A number that is spelled is read back, where it has no more digits than may be read and no digit follows it.
decimal_back : {count k : ℕ} {number : List ℕ} → Decimal count k number → (most : ℕ) → count ≤ most
    → {s : List ℕ} {p : ℕ} {rest : List ℕ} {e : ℕ} → Span s p number rest e → is_digit (byte_at s e) ≡ false
    → numeral most s p ≡ Some (record { said = k; next = e })
decimal_back {count} {k} h most few {s} {p} {e = e} span stop =
    let (long, one) = decimal_length h in
    let at : e ≡ p + count = omega (arith, span.ends) in
    let all = decimal_digits h span in
    let first = ap (λ q. is_digit (byte_at s q)) (sym (add-zero p)) ∙ all 0 (omega arith) in
    let behind = ap (λ q. is_digit (byte_at s q)) (sym at) ∙ stop in
    rw at (numeral_of s p most count k first (digits_are s count most p few all behind) (decimal_value h span))

-- ---- numbers that are read were spelled

-- A number at p, with the bytes that spell it.
record NumberThere (s : List ℕ) (p count : ℕ) (t : Token ℕ) : Type 0 where
  number : List ℕ
  written : Decimal count t.said number
  passage : Passage s p number t.next

-- So many digits spell their value.
number_at : (s : List ℕ) (p n : ℕ) → 1 ≤ n → ((i : ℕ) → i < n → is_digit (byte_at s (p + i)) ≡ true)
    → NumberThere s p n (record { said = value n s p; next = p + n })
unfolding value
number_at s p zero one all = absurd (omega arith)
number_at s p (suc zero) one all =
    let (here, low, high) = digit_passage s p (p + 1) refl (ap (λ q. is_digit (byte_at s q)) (sym (add-zero p)) ∙ all 0 (omega arith)) in
    let v : byte_at s p - 48 ≡ value 1 s p = omega (arith, ap (λ q. byte_at s q) (add-zero p)) in
    record {
      number = digit (byte_at s p - 48) ∷ [];
      written = subst (λ (k : ℕ). Decimal 1 k (digit (byte_at s p - 48) ∷ [])) v (one_digit (byte_at s p - 48) low);
      passage = here;
    }
number_at s p (suc (suc n)) one all =
    let front = number_at s p (suc n) (omega arith) (λ i lt. all i (omega arith)) in
    let at : p + suc (suc n) ≡ p + suc n + 1 = omega arith in
    let (here, low, high) = digit_passage s (p + suc n) (p + suc (suc n)) at (all (suc n) (omega arith)) in
    record { number = _; written = digit_more front.written _ low; passage = passage_append front.passage here }

-- What is read as a number was spelled.
number_spelled : (most : ℕ) → 1 ≤ most → (s : List ℕ) (p : ℕ) {t : Token ℕ} → numeral most s p ≡ Some t → (n : ℕ) × (n ≤ most) × NumberThere s p n t
unfolding numeral
number_spelled most one s p e =
    let (d, same) = picked (is_digit (byte_at s p)) _ e in
    let n = digits most s p in
    (n, digits_most s most p, subst (NumberThere s p n) same (number_at s p n (digits_some s most p one d) (λ i lt. digits_at s most p i lt)))

-- ---- fields and lines

-- A field that is spelled is read back.
field_back : {count k : ℕ} {number : List ℕ} → Decimal count k number → (most behind : ℕ) → count ≤ most → is_digit behind ≡ false
    → {s : List ℕ} {p : ℕ} {more : List (List ℕ)} {rest : List ℕ} {e : ℕ} → Pieces s p (number ∷ (behind ∷ []) ∷ more) rest e
    → field_at most behind s p ≡ Some (record { said = k; next = p + length number + 1 })
field_back {number = number} h most behind few stop {s} {p} there =
    let here = piece_byte (behind_piece there) in
    field_of most behind s p _ (decimal_back h most few (piece there) (ap is_digit here ∙ stop)) (is_there s (p + length number) behind here)

-- A field at p, with the bytes that spell its number.
record FieldThere (most behind : ℕ) (s : List ℕ) (p : ℕ) (t : Token ℕ) : Type 0 where
  count : ℕ
  few : count ≤ most
  number : List ℕ
  written : Decimal count t.said number
  before : {ts : List (List ℕ)} {e : ℕ} → Passages s t.next ts e → Passages s p (number ∷ (behind ∷ []) ∷ ts) e

-- A field that is read was spelled.
field_spelled : (most behind : ℕ) → 1 ≤ most → 1 ≤ behind → (s : List ℕ) (p : ℕ) {t : Token ℕ} → field_at most behind s p ≡ Some t
    → FieldThere most behind s p t
field_spelled most behind one some_byte s p e =
    let (n, number, there, same) = field_parts most behind s p e in
    let (count, few, found) = number_spelled most one s p number in
    subst (FieldThere most behind s p) same
    (record {
      count = count;
      few = few;
      number = found.number;
      written = found.written;
      before = λ more. passage_before found.passage (passage_before (stands_passage s n.next behind some_byte there) more);
    })

-- A line that is spelled is read back.
pub line_back : {stroke : Stroke} {line : List ℕ} → SpellsStroke stroke line → {s : List ℕ} {p : ℕ} {rest : List ℕ} {e : ℕ} → Span s p line rest e
    → stroke_at s p ≡ Some (record { said = stroke; next = e })
unfolding is_digit ascii
line_back (spells_stroke d few small f two) {s} {p} {rest} {e} span =
    let all = pieces _ span in
    let action = behind_piece (behind_piece all) in
    let end = pieces_end (behind_piece (behind_piece action)) in
    rw end (stroke_of s p _ _ (field_back d 10 (byte " ") few refl all) small (field_back f 2 (byte "\n") two refl action))

-- A line at p, with the bytes that spell it.
pub record LineThere (s : List ℕ) (p : ℕ) (t : Token Stroke) : Type 0 where
  pub line : List ℕ
  pub spells : SpellsStroke t.said line
  pub passage : Passage s p line t.next

-- A line that is read was spelled.
pub line_spelled : (s : List ℕ) (p : ℕ) (t : Token Stroke) → stroke_at s p ≡ Some t → LineThere s p t
unfolding ascii
line_spelled s p t e =
    let (n, first, small, (a, second, same)) = stroke_parts s p e in
    let tick = field_spelled 10 (byte " ") (omega arith) (omega arith) s p first in
    let action = field_spelled 2 (byte "\n") (omega arith) (omega arith) s n.next second in
    subst (LineThere s p) same
    (record {
      line = _;
      spells = spells_stroke tick.written tick.few small action.written action.few;
      passage = passages_joined (tick.before (action.before (passages_end a.next)));
    })

-- ---- logs

-- lines before those that are read behind them
unfoldable pub lines_before : List Stroke → LogRead → LogRead
lines_before strokes rest = record { strokes = strokes ++ rest.strokes; next = rest.next }

-- The lines that are spelled are read back, and then those behind them.
pub log_back : {strokes : List Stroke} {text : List ℕ} → SpellsLog strokes text → {s : List ℕ} {p : ℕ} {rest : List ℕ} {e : ℕ} → Span s p text rest e
    → log_from s p ≡ lines_before strokes (log_from s e)
unfolding lines_before with_line
log_back no_lines {s} {p} {e = e} span = let at : p ≡ e = omega (arith, span.ends) in ap (log_from s) at
log_back (line_before {s = stroke} {line} {strokes} {text} h more) {s} {p} span =
    let here = line_back h (span_left line text span) in
    let (far, inside) = stroke_ahead s p _ here in
    log_line s p _ (omega arith) here ∙ ap (with_line stroke) (log_back more (span_right line text span))

-- A log that was read from p on, with the bytes that spell it.
record LogThere (s : List ℕ) (p : ℕ) (r : LogRead) : Type 0 where
  text : List ℕ
  spells : SpellsLog r.strokes text
  passage : Passage s p text r.next

-- What is read of a log was spelled.
log_spelled : (s : List ℕ) (p : ℕ) → LogThere s p (log_from s p)
unfolding with_line
log_spelled s =
    log_by s (LogThere s)
    (λ p over. record { text = []; spells = no_lines; passage = passage_empty p })
    (λ p inside e. record { text = []; spells = no_lines; passage = passage_empty p })
    (λ p t r inside e behind.
    let here = line_spelled s p t e in
    record {
      text = here.line ++ behind.text;
      spells = line_before here.spells behind.spells;
      passage = passage_append here.passage behind.passage;
    })

-- ---- the answer

-- The log reader's answer is the right one.
pub read_log_right : (text : List ℕ) → RightLog text (read_log text)
unfolding read_log ◌if◌else◌
read_log_right text =
    let r = log_from text 0 in
    let there = log_spelled text 0 in
    pick_by (RightLog text) (ltb r.next (length text)) _ _ (λ e.
    let inside = ltb-true r.next (length text) e in
    bad_line r.strokes there.text (drop r.next text) there.spells there.passage.text (omega (arith, length-drop r.next text)) (λ more.
    none-some (log_stops text 0 inside) (line_back more.spells (record { text = more.all; ends = refl })))) (λ e.
    let over = ltb-false r.next (length text) e in
    let all : text ≡ there.text = there.passage.text ∙ ap (λ z. there.text ++ z) (drop_of_length-le text over) ∙ append-nil there.text in
    whole_log r.strokes (subst (SpellsLog r.strokes) (sym all) there.spells))

-- Behind lines that are spelled nothing more is read: the answer.
answer_behind : {before : List Stroke} {begun : List ℕ} → SpellsLog before begun → (text rest : List ℕ) → text ≡ begun ++ rest
    → log_from text (length begun) ≡ record { strokes = []; next = length begun }
    → read_log text ≡ (Log (length before) if ltb (length begun) (length text) else Ok before)
unfolding read_log lines_before
answer_behind {before} {begun} h text rest all stops =
    let span : Span text 0 begun rest (length begun) = record { text = all; ends = omega arith } in
    rw (log_back h span, stops, append-nil before)

-- A right answer is the one that the reader gives.
pub read_log_only : (text : List ℕ) (o : Answer (List Stroke)) → RightLog text o → read_log text ≡ o
read_log_only text _ (whole_log strokes h) =
    answer_behind h text [] (sym (append-nil text)) (log_end text (length text) (omega arith))
    ∙ if_on (Log (length strokes)) (Ok strokes) (le-ltb (length text) (length text) (omega arith))
read_log_only text _ (bad_line before begun rest h all some_bytes none_there) =
    let inside : length begun < length text = omega (arith, ap length all, length-append begun rest) in
    answer_behind h text rest all (log_bad text (length begun) inside bad)
    ∙ if_refuses (Log (length before)) (Ok before) (lt-ltb (length begun) (length text) inside)
  where
    bad : stroke_at text (length begun) ≡ None
    bad =
        whether_there (stroke_at text (length begun)) (λ e. e) (λ t e.
        let there = line_spelled text (length begun) t e in
        absurd (none_there
        (record {
          stroke = t.said;
          line = there.line;
          behind = drop t.next text;
          spells = there.spells;
          all = sym (drop-append_seam begun rest) ∙ ap (drop (length begun)) (sym all) ∙ there.passage.text;
        })))

-- An answer is the log reader's exactly if it is the right one.
pub log_exactly : (text : List ℕ) (o : Answer (List Stroke)) → (read_log text ≡ o) ↔ RightLog text o
log_exactly text o = (λ e. subst (RightLog text) e (read_log_right text), read_log_only text o)
