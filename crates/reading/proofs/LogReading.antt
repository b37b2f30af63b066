-- The lines of a log as they are read: the parts of a line, that a line ends behind its beginning and inside the log, and what is read at a position,
-- way by way.
use Prim.Native.Nat.{ℕ, zero, suc, ◌+◌, ◌-◌, ◌≤◌, ◌<◌}
use native.Mathlib.Omega.{arith}
use mathlib.Core.Path.{◌≡◌, refl, ap}
use mathlib.Core.Bool.{Bool, true, false}
use Rattle.std.specs.Prelude.{Option, None, Some}
use Rattle.base.specs.Options.{bind}
use Rattle.base.proofs.Options.{bind-eq-some_iff}
use mathlib.Core.List.{List, []}
use lib.ListN.{length}
use lib.Dec.{leb}
use borrow.Author.Tests.{leb-true, leb-false, le-leb, lt-leb}
use Rattle.base.specs.Choice.{pick}
use Rattle.base.specs.Lists.{only_if}
use Rattle.base.specs.Text.{byte}
use Rattle.base.specs.Bytes.{byte_at}
use Rattle.base.proofs.Lists.{none-some, some_one, whether, whether_there, only_if_out, only_if_in}
use Rattle.base.proofs.Recursion.{Falls, run_eq}
use Rattle.logic.specs.Time.{ticks}
use Rattle.reading.specs.Tokens.{stands, is_digit, Token, numeral}
use Rattle.reading.specs.LogReading.{most_tick, field_at, stroke_at, LogRead, with_line, line_and, log_step, log_from}
use Rattle.reading.specs.declared.Stroke.{Stroke}
use Rattle.reading.proofs.SpelledTokens.{passage_inside, stands_passage}

-- ---- the parts of a line

-- A choice of something or nothing that is something.
pub picked : {X : Type 0} (b : Bool) (x : X) {y : X} → pick b (λ _. Some x) (λ _. None) ≡ Some y → (b ≡ true) × (x ≡ y)
picked true x e = (refl, some_one refl e)
picked false x e = none-some refl e

module _ (most behind : ℕ) (s : List ℕ) (p : ℕ) where
  -- A field that is read is a number with its byte behind it,
  pub field_parts : {t : Token ℕ} → field_at most behind s p ≡ Some t
      → (n : Token ℕ) × (numeral most s p ≡ Some n) × (stands s n.next behind ≡ true) × (record { said = n.said; next = n.next + 1 } ≡ t)
  unfolding field_at
  field_parts e =
      let (n, number, f) = (bind-eq-some_iff (numeral most s p) _).0 e in
      let (there, same) = picked (stands s n.next behind) _ f in
      (n, number, there, same)

  -- and a number with its byte behind it is read as a field.
  pub field_of : (n : Token ℕ) → numeral most s p ≡ Some n → stands s n.next behind ≡ true
      → field_at most behind s p ≡ Some (record { said = n.said; next = n.next + 1 })
  unfolding field_at bind
  field_of n e f = rw (e, f)

module _ (s : List ℕ) (p : ℕ) where
  -- A line that is read is its two fields,
  pub stroke_parts : {t : Token Stroke} → stroke_at s p ≡ Some t
      → (n : Token ℕ) × (field_at 10 (byte " ") s p ≡ Some n) × (n.said ≤ most_tick)
      × ((a : Token ℕ) × (field_at 2 (byte "\n") s n.next ≡ Some a) × (record { said = record { tick = ticks n.said; action = a.said }; next = a.next } ≡ t))
  unfolding stroke_at
  stroke_parts e =
      let (n, first, f) = (bind-eq-some_iff (only_if (λ t. leb t.said most_tick) (field_at 10 (byte " ") s p)) _).0 e in
      let (tick, small) = only_if_out (λ t. leb t.said most_tick) (field_at 10 (byte " ") s p) first in
      let (a, action, g) = (bind-eq-some_iff (field_at 2 (byte "\n") s n.next) _).0 f in
      (n, tick, leb-true n.said most_tick small, (a, action, some_one refl g))

  -- and its two fields are read as a line.
  pub stroke_of : (n a : Token ℕ) → field_at 10 (byte " ") s p ≡ Some n → n.said ≤ most_tick → field_at 2 (byte "\n") s n.next ≡ Some a
      → stroke_at s p ≡ Some (record { said = record { tick = ticks n.said; action = a.said }; next = a.next })
  unfolding stroke_at bind
  stroke_of n a tick small action = rw (only_if_in (λ t. leb t.said most_tick) tick (le-leb n.said most_tick small), action)

-- ---- how far they go

-- A number does not end before its beginning.
numeral_ahead : (most : ℕ) (s : List ℕ) (p : ℕ) {n : Token ℕ} → numeral most s p ≡ Some n → p ≤ n.next
unfolding numeral
numeral_ahead most s p e = let (there, same) = picked (is_digit (byte_at s p)) _ e in omega (arith, ap (λ t. t.next) same)

-- A field ends behind its beginning and inside the log.
pub field_ahead : (most behind : ℕ) → 1 ≤ behind → (s : List ℕ) (p : ℕ) {t : Token ℕ} → field_at most behind s p ≡ Some t
    → (p < t.next) × (t.next ≤ length s)
field_ahead most behind one s p e =
    let (n, number, there, same) = field_parts most behind s p e in
    let (far, inside) = passage_inside (stands_passage s n.next behind one there) (omega arith) in
    let from = numeral_ahead most s p number in
    (omega (arith, ap (λ t. t.next) same), omega (arith, ap (λ t. t.next) same))

-- A line ends behind its beginning and inside the log.
pub stroke_ahead : (s : List ℕ) (p : ℕ) (t : Token Stroke) → stroke_at s p ≡ Some t → (p < t.next) × (t.next ≤ length s)
stroke_ahead s p t e =
    let (n, tick, small, (a, action, same)) = stroke_parts s p e in
    let (far, in_log) = field_ahead 10 (byte " ") (omega arith) s p tick in
    let (further, inside) = field_ahead 2 (byte "\n") (omega arith) s n.next action in
    (omega (arith, ap (λ t. t.next) same), omega (arith, ap (λ t. t.next) same))

-- ---- the lines from a position on

module _ (s : List ℕ) where
  -- A line asks for those behind it alone.
  log_falls : Falls (λ (p : ℕ). length s - p) (λ p. record { strokes = []; next = p }) (log_step s) (λ p r. Unit {0})
  unfolding log_step line_and
  log_falls =
      record {
        at_stop = λ p. tt;
        kept = λ p f k. tt;
        same = λ p f g k agree. at p f g agree (leb (length s) p) refl (stroke_at s p) refl;
      }
    where
      at : (p : ℕ) (f g : ℕ → LogRead) → ((q : ℕ) → length s - q < length s - p → f q ≡ g q) → (b : Bool) → leb (length s) p ≡ b
          → (o : Option (Token Stroke)) → stroke_at s p ≡ o
          → pick b (λ _. record { strokes = []; next = p }) (λ _. line_and p f o) ≡ pick b (λ _. record { strokes = []; next = p }) (λ _. line_and p g o)
      at p f g agree true e o h = refl
      at p f g agree false e None h = refl
      at p f g agree false e (Some t) h =
          let (far, inside) = stroke_ahead s p t h in
          ap (with_line t.said) (agree t.next (omega (arith, leb-false (length s) p e)))

  -- The lines from p on are one step.
  pub log_from_eq : (p : ℕ) → log_from s p ≡ log_step s p (log_from s)
  unfolding log_from
  log_from_eq p = run_eq (λ (p : ℕ). length s - p) (λ p. record { strokes = []; next = p }) (log_step s) (λ p r. Unit {0}) log_falls p

  -- the log has ended
  pub log_end : (p : ℕ) → length s ≤ p → log_from s p ≡ record { strokes = []; next = p }
  unfolding log_step
  log_end p over = rw (log_from_eq p, le-leb (length s) p over)

  -- a line that is not of the form
  pub log_bad : (p : ℕ) → p < length s → stroke_at s p ≡ None → log_from s p ≡ record { strokes = []; next = p }
  unfolding log_step line_and
  log_bad p inside e = rw (log_from_eq p, lt-leb (length s) p inside, e)

  -- a line
  pub log_line : (p : ℕ) (t : Token Stroke) → p < length s → stroke_at s p ≡ Some t → log_from s p ≡ with_line t.said (log_from s t.next)
  unfolding log_step line_and
  log_line p t inside e = rw (log_from_eq p, lt-leb (length s) p inside, e)

  -- What holds where the log ends and where a line is not of the form, and passes on to each line before, holds of what is read.
  pub log_by : (P : ℕ → LogRead → Type 0) → ((p : ℕ) → length s ≤ p → P p (record { strokes = []; next = p }))
      → ((p : ℕ) → p < length s → stroke_at s p ≡ None → P p (record { strokes = []; next = p }))
      → ((p : ℕ) (t : Token Stroke) (r : LogRead) → p < length s → stroke_at s p ≡ Some t → P t.next r → P p (with_line t.said r))
      → (p : ℕ) → P p (log_from s p)
  log_by P ended bad more p = go (suc (length s - p)) p (omega arith)
    where
      go : (n p : ℕ) → length s - p < n → P p (log_from s p)
      go zero p few = absurd (omega arith)
      go (suc n) p few =
          whether (leb (length s) p) (λ e. let over = leb-true (length s) p e in rw (log_end p over) (ended p over)) (λ e.
          let inside = leb-false (length s) p e in
          whether_there (stroke_at s p) (λ h. rw (log_bad p inside h) (bad p inside h)) (λ t h.
          let (far, in_log) = stroke_ahead s p t h in
          rw (log_line p t inside h) (more p t (log_from s t.next) inside h (go n t.next (omega arith)))))

  -- Where the reading stops inside the log, a line is not of the form.
  pub log_stops : (p : ℕ) → (log_from s p).next < length s → stroke_at s (log_from s p).next ≡ None
  unfolding with_line
  log_stops =
      log_by (λ p r. r.next < length s → stroke_at s r.next ≡ None) (λ p over inside. absurd (omega arith)) (λ p inside e _. e)
      (λ p t r inside e stops. stops)

  -- The reading stops inside the log or at its end.
  pub log_inside : (p : ℕ) → p ≤ length s → (log_from s p).next ≤ length s
  unfolding with_line
  log_inside =
      log_by (λ p r. p ≤ length s → r.next ≤ length s) (λ p over le. le) (λ p inside e le. le)
      (λ p t r inside e stops le. let (far, in_log) = stroke_ahead s p t e in stops in_log)
