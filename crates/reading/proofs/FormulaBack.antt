-- A formula that is spelled is read back: one lemma for each rule of `Spelling`, by the reader that meets its first byte.
use Prim.Native.Nat.{ℕ, zero, suc, ◌+◌, ◌-◌, ◌*◌, ◌≤◌, ◌<◌, max}
use native.Mathlib.Omega.{arith}
use mathlib.Core.Path.{◌≡◌, refl, ◌∙◌, ap}
use mathlib.Core.Bool.{Bool, true, false}
use Rattle.std.specs.Prelude.{Some}
use mathlib.Core.List.{List, [], ◌∷◌, ◌++◌}
use lib.ListN.{length, length-append}
use lib.Dec.{eqb}
use borrow.Author.Tests.{ne_eqb, eq-eqb}
use Rattle.base.specs.Lists.{joined}
use Rattle.base.specs.Text.{ascii}
use Rattle.base.specs.Bytes.{byte_at}
use Rattle.base.specs.Recursion.{run}
use Rattle.base.specs.Recursion as Deep
use Rattle.logic.specs.Time.{ticks}
use Rattle.logic.specs.declared.Tick.{Tick}
use Rattle.logic.specs.Book.{Comparison, no_more, less, no_less, more, Formula, constant, proposition, and, or, next, always_for, until, within}
use Rattle.reading.specs.Tokens.{stands, skip, is_digit, Token, numeral, number_token, mark_named, mark_at, mark_token, with_equals, comparison_token}
use Rattle.reading.specs.Grammar.{Bound, compared, optional, connective, connectives, BoundRead, bounded, compared_with, number_or_usual, bound_at, formula_one, formula_two}
use Rattle.reading.specs.Grammar.{Parsed, bad, got, onward, behind, Level, or_level, and_level, unit_level, or_rest, and_rest, Reader, joining, bracketed, two_parts, with_bound, led, marked_unit, unit_at, read_level, read_step, rank, calls_left, formula_at}
use Rattle.reading.specs.Spelling.{spaces, digit, Digits, one_digit, two_digits, three_digits, BoundText, number_written, left_out, sign, negation, Shape, one_unit, and_units, or_units, Spells, spells_true, spells_false, spells_mark, spells_next, spells_always, spells_within, spells_until, spells_bracketed, spells_unit, spells_and, spells_ands, spells_or}
use Rattle.reading.proofs.TextPlaces.{Span, Pieces, NoSpace, NoDigit, span_inside, pieces, piece, behind_piece, piece_byte, piece_no_digit, piece_inside, pieces_end, last_piece, split_piece, skip_piece}
use Rattle.reading.proofs.TextPlaces.{pieces_no_space, pieces_no_digit, spaced_no_digit, span_at, numeral_back, digits_no_space, digits_some}

-- ---- places and bytes

pub rank_few : (l : Level) → rank l ≤ 2
unfolding rank
rank_few or_level = omega arith
rank_few and_level = omega arith
rank_few unit_level = omega arith
rank_few (or_rest f b) = omega arith
rank_few (and_rest f b) = omega arith

skip_ahead : (s : List ℕ) (p : ℕ) → p ≤ skip s p
unfolding skip
skip_ahead s p = omega arith

-- spaces before a piece that begins with none are passed over
pub past_spaces : (n : ℕ) {s : List ℕ} {p : ℕ} {x : List ℕ} {ts : List (List ℕ)} {rest : List ℕ} {e : ℕ} → NoSpace x
    → Pieces s p (spaces n ∷ x ∷ ts) rest e → Pieces s (skip s p) (x ∷ ts) rest e
past_spaces n {ts = ts} {rest = rest} clear h = skip_piece n h ((pieces_no_space ts clear).begins rest)

-- the byte at p is not this one
not_there : (s : List ℕ) (p b c : ℕ) → byte_at s p ≡ b → eqb b c ≡ false → stands s p c ≡ false
unfolding stands
not_there s p b c e f = rw e f

-- the byte at p is this one
pub is_there : (s : List ℕ) (p b : ℕ) → byte_at s p ≡ b → stands s p b ≡ true
unfolding stands
is_there s p b e = eq-eqb (byte_at s p) b e

-- a byte that is no space; that is no digit
pub clear_byte : (c : ℕ) → eqb 32 c ≡ false → NoSpace (c ∷ [])
clear_byte c e = record { begins = λ rest. e }

pub other_byte : (c : ℕ) → is_digit c ≡ false → NoDigit (c ∷ [])
other_byte c e = record { begins = λ rest. e }

module _ (usual : ℕ) where
  -- ---- the readers, as deep as is enough

  -- the readers, at most n calls deep
  unfoldable reader : List ℕ → ℕ → Reader
  reader s n level p = Deep.to_depth (calls_left s) (λ _. bad) (read_step usual s) n (record { level = level; place = p })

  -- A reader gives this at p whenever it may go as deep as there are calls left.
  record Gives (s : List ℕ) (level : Level) (p : ℕ) (r : Parsed) : Type 0 where
    says : (n : ℕ) → 3 * (suc (length s) - p) + rank level < n → reader s n level p ≡ r

  -- by one step
  gives_by : (s : List ℕ) (level : Level) (p : ℕ) (r : Parsed)
      → ((m : ℕ) → 3 * (suc (length s) - p) + rank level ≤ m → read_level usual s level p (reader s m) ≡ r) → Gives s level p r
  unfolding reader Deep.to_depth read_step
  gives_by s level p r step = record { says = go }
    where
      go : (n : ℕ) → 3 * (suc (length s) - p) + rank level < n → reader s n level p ≡ r
      go zero lt = absurd (omega arith)
      go (suc m) lt = step m (omega arith)

  -- a reading further on
  later : {s : List ℕ} {level : Level} {q : ℕ} {r : Parsed} → Gives s level q r → (p m : ℕ) → p < q → p < length s
      → 3 * (suc (length s) - p) ≤ m → reader s m level q ≡ r
  later {s} {level} {q} h p m ahead inside enough = h.says m (omega (arith, rank_few level))

  -- the formula at p is what the or_level reader gives
  gives_formula : {s : List ℕ} {p : ℕ} {r : Parsed} → Gives s or_level p r → formula_at usual s p ≡ r
  unfolding formula_at run reader calls_left
  gives_formula {s} {p} h = h.says (suc (3 * (suc (length s) - p) + rank or_level)) (omega arith)

  -- ---- joining

  -- nothing is joined where another byte follows
  and_stops : (s : List ℕ) (f : Formula) (b q : ℕ) → stands s (skip s q) 38 ≡ false → Gives s (and_rest f b) q (got f b q)
  unfolding read_level joining
  and_stops s f b q e = gives_by s (and_rest f b) q (got f b q) (λ m le. rw e)

  or_stops : (s : List ℕ) (f : Formula) (b q : ℕ) → stands s (skip s q) 124 ≡ false → Gives s (or_rest f b) q (got f b q)
  unfolding read_level joining
  or_stops s f b q e = gives_by s (or_rest f b) q (got f b q) (λ m le. rw e)

  -- what `&` or `|` joins is read, and then what follows it
  joining_on : (s : List ℕ) (b : ℕ) (f : Formula) (d p : ℕ) (join : Formula → Formula → Formula) (operand : ℕ → Parsed)
      (rest : Formula → ℕ → ℕ → Parsed) (g : Formula) (c e : ℕ) (r : Parsed) → stands s (skip s p) b ≡ true
      → operand (skip s (skip s p + 1)) ≡ got g c e → rest (join f g) (max d c) e ≡ r → joining s b f d p join operand rest ≡ r
  unfolding joining onward
  joining_on s b f d p join operand rest g c e r st o k = rw (st, o) k

  and_joins : (s : List ℕ) (f : Formula) (b q : ℕ) (g : Formula) (c e : ℕ) (r : Parsed) → q < length s → stands s (skip s q) 38 ≡ true
      → q < skip s (skip s q + 1) → q < e → Gives s unit_level (skip s (skip s q + 1)) (got g c e) → Gives s (and_rest (and f g) (max b c)) e r
      → Gives s (and_rest f b) q r
  unfolding read_level
  and_joins s f b q g c e r inside st ahead far one two =
      gives_by s (and_rest f b) q r (λ m le.
      joining_on s 38 f b q and (reader s m unit_level) (λ h d u. reader s m (and_rest h d) u) g c e r st
      (later one q m ahead inside (omega arith)) (later two q m far inside (omega arith)))

  or_joins : (s : List ℕ) (f : Formula) (b q : ℕ) (g : Formula) (c e : ℕ) (r : Parsed) → q < length s → stands s (skip s q) 124 ≡ true
      → q < skip s (skip s q + 1) → q < e → Gives s and_level (skip s (skip s q + 1)) (got g c e) → Gives s (or_rest (or f g) (max b c)) e r
      → Gives s (or_rest f b) q r
  unfolding read_level
  or_joins s f b q g c e r inside st ahead far one two =
      gives_by s (or_rest f b) q r (λ m le.
      joining_on s 124 f b q or (reader s m and_level) (λ h d u. reader s m (or_rest h d) u) g c e r st
      (later one q m ahead inside (omega arith)) (later two q m far inside (omega arith)))

  onward_on : (o : Parsed) (go : Formula → ℕ → ℕ → Parsed) (f : Formula) (b e : ℕ) (r : Parsed) → o ≡ got f b e → go f b e ≡ r → onward o go ≡ r
  unfolding onward
  onward_on o go f b e r h k = rw h k

  -- a unit, and what `&` joins to it
  unit_then : {s : List ℕ} {p : ℕ} {f : Formula} {b e : ℕ} {r : Parsed} → p < length s → p < e → Gives s unit_level p (got f b e)
      → Gives s (and_rest f b) e r → Gives s and_level p r
  unfolding read_level rank
  unit_then {s} {p} {f} {b} {e} {r} inside ahead one two =
      gives_by s and_level p r (λ m le.
      onward_on (reader s m unit_level p) (λ g c q. reader s m (and_rest g c) q) f b e r (one.says m (omega arith))
      (later two p m ahead inside (omega arith)))

  -- units joined by `&`, and what `|` joins to them
  ands_then : {s : List ℕ} {p : ℕ} {f : Formula} {b e : ℕ} {r : Parsed} → p < length s → p < e → Gives s and_level p (got f b e)
      → Gives s (or_rest f b) e r → Gives s or_level p r
  unfolding read_level rank
  ands_then {s} {p} {f} {b} {e} {r} inside ahead one two =
      gives_by s or_level p r (λ m le.
      onward_on (reader s m and_level p) (λ g c q. reader s m (or_rest g c) q) f b e r (one.says m (omega arith))
      (later two p m ahead inside (omega arith)))

  -- ---- units by their first byte

  module _ (s : List ℕ) (p : ℕ) (read : Reader) where
    unit_true : byte_at s p ≡ 84 → unit_at usual s p read ≡ got (constant true) 0 (p + 1)
    unfolding unit_at stands led connectives connective
    unit_true e = rw (e, e)

    unit_false : byte_at s p ≡ 70 → unit_at usual s p read ≡ got (constant false) 0 (p + 1)
    unfolding unit_at stands led connectives connective
    unit_false e = rw (e, e)

    unit_mark : (t : Token Formula) → byte_at s p ≡ 112 → mark_at true s p ≡ Some t → unit_at usual s p read ≡ got t.said 0 t.next
    unfolding unit_at stands mark_token marked_unit
    unit_mark t e m = rw (e, m)

    unit_negated : (t : Token Formula) → byte_at s p ≡ 33 → mark_at false s (p + 1) ≡ Some t → unit_at usual s p read ≡ got t.said 0 t.next
    unfolding unit_at stands mark_token marked_unit
    unit_negated t e m = rw (e, m)

    unit_bracketed : byte_at s p ≡ 40 → unit_at usual s p read ≡ bracketed s p read
    unfolding unit_at stands
    unit_bracketed e = rw e

    unit_next : (w : BoundRead) (g : Formula) (b e : ℕ) → byte_at s p ≡ 78 → bound_at usual compared s (p + 1) ≡ Some w
        → read unit_level (skip s w.next) ≡ got g b e → unit_at usual s p read ≡ got (next w.comparison w.amount g) b e
    unfolding unit_at stands led connectives connective with_bound onward formula_one
    unit_next w g b e h k o = rw (h, h, k, o)

    unit_always : (w : BoundRead) (g : Formula) (b e : ℕ) → byte_at s p ≡ 65 → bound_at usual optional s (p + 1) ≡ Some w
        → read unit_level (skip s w.next) ≡ got g b e → unit_at usual s p read ≡ got (always_for w.amount g) b e
    unfolding unit_at stands led connectives connective with_bound onward formula_one
    unit_always w g b e h k o = rw (h, h, k, o)

    unit_within : (w : BoundRead) (g : Formula) (b e : ℕ) → byte_at s p ≡ 69 → bound_at usual optional s (p + 1) ≡ Some w
        → read unit_level (skip s w.next) ≡ got g b e → unit_at usual s p read ≡ got (within w.amount g) b e
    unfolding unit_at stands led connectives connective with_bound onward formula_one
    unit_within w g b e h k o = rw (h, h, k, o)

    unit_until : (w : BoundRead) (r : Parsed) → byte_at s p ≡ 85 → bound_at usual optional s (p + 1) ≡ Some w
        → two_parts s w.next read (until w.amount) ≡ r → unit_at usual s p read ≡ r
    unfolding unit_at stands led connectives connective with_bound formula_two
    unit_until w r h k o = rw (h, h, k) o

    bracketed_on : (f : Formula) (b e : ℕ) → read or_level (skip s (p + 1)) ≡ got f b e → stands s (skip s e) 41 ≡ true
        → bracketed s p read ≡ got f (suc b) (skip s e + 1)
    unfolding bracketed onward behind
    bracketed_on f b e o st = rw (o, st)

    two_parts_on : (make : Formula → Formula → Formula) (f g : Formula) (b c d e : ℕ) → stands s (skip s p) 40 ≡ true
        → read or_level (skip s (skip s p + 1)) ≡ got f b d → stands s (skip s d) 44 ≡ true
        → read or_level (skip s (skip s d + 1)) ≡ got g c e → stands s (skip s e) 41 ≡ true
        → two_parts s p read make ≡ got (make f g) (suc (max b c)) (skip s e + 1)
    unfolding two_parts onward behind
    two_parts_on make f g b c d e one two three four five = rw (one, two, three, four, five)

  -- ---- tokens

  -- no digit stands before a piece that begins with none, spaces between or not
  spaced_start : (n : ℕ) {x : List ℕ} → NoDigit x → (ts : List (List ℕ)) (rest : List ℕ) → is_digit (byte_at (joined (spaces n ∷ x ∷ ts) ++ rest) 0) ≡ false
  spaced_start n {x} begins ts rest = (spaced_no_digit n (x ∷ ts) (pieces_no_digit ts begins)).begins rest

  -- a mark behind its `!`
  mark_back : {count k : ℕ} {number : List ℕ} → Digits count k number → count ≤ 2 → (wanted : Bool)
      → {s : List ℕ} {p : ℕ} {rest : List ℕ} {e : ℕ} → Pieces s p (ascii "p" ∷ number ∷ []) rest e → is_digit (byte_at rest 0) ≡ false
      → mark_at wanted s p ≡ Some (record { said = proposition wanted k; next = e })
  unfolding mark_at mark_named stands ascii
  mark_back d few wanted {s} {p} h stop =
      let number = numeral_back d 2 few (last_piece (behind_piece h)) stop in
      rw (piece_byte h, number)

  -- no `=` follows the spaces or the digits behind a comparison
  not_equals : {count k : ℕ} {number : List ℕ} → Digits count k number → (j : ℕ) (ts : List (List ℕ)) (rest : List ℕ)
      → eqb (byte_at (joined (spaces j ∷ number ∷ ts) ++ rest) 0) 61 ≡ false
  unfolding joined digit
  not_equals (one_digit a x) zero ts rest = ne_eqb (48 + a) 61 (λ e. omega arith)
  not_equals (two_digits a b x y) zero ts rest = ne_eqb (48 + a) 61 (λ e. omega arith)
  not_equals (three_digits a b c x y z) zero ts rest = ne_eqb (48 + a) 61 (λ e. omega arith)
  not_equals (one_digit a x) (suc j) ts rest = refl
  not_equals (two_digits a b x y) (suc j) ts rest = refl
  not_equals (three_digits a b c x y z) (suc j) ts rest = refl

  module _ {s : List ℕ} {p : ℕ} {rest : List ℕ} {e : ℕ} where
    -- a comparison before a number
    comparison_back : (c : Comparison) {count k : ℕ} {number : List ℕ} → Digits count k number → (j : ℕ) {ts : List (List ℕ)}
        → Pieces s p (sign c ∷ spaces j ∷ number ∷ ts) rest e
        → comparison_token s p ≡ Some (record { said = c; next = p + length (sign c) })
    unfolding comparison_token with_equals stands sign ascii
    comparison_back no_more d j h = rw (span_at (piece h) 0 p (omega arith), span_at (piece h) 1 (p + 1) refl)
    comparison_back no_less d j h = rw (span_at (piece h) 0 p (omega arith), span_at (piece h) 1 (p + 1) refl)
    comparison_back less d j {ts} h =
        rw (span_at (piece h) 0 p (omega arith), span_at (piece h) 1 (p + 1) refl, not_equals d j ts rest)
    comparison_back more d j {ts} h =
        rw (span_at (piece h) 0 p (omega arith), span_at (piece h) 1 (p + 1) refl, not_equals d j ts rest)

  sign_no_space : (c : Comparison) → NoSpace (sign c)
  unfolding sign ascii
  sign_no_space no_more = record { begins = λ rest. refl }
  sign_no_space less = record { begins = λ rest. refl }
  sign_no_space no_less = record { begins = λ rest. refl }
  sign_no_space more = record { begins = λ rest. refl }

  -- A bound at p is read back, and this stands behind it.
  record BoundBack (kind : Bound) (c : Comparison) (t : ℕ) (s : List ℕ) (p : ℕ) (ts : List (List ℕ)) (rest : List ℕ) (e : ℕ) : Type 0 where
    place : ℕ
    says : bound_at usual kind s p ≡ Some (record { comparison = c; amount = ticks t; next = place })
    behind_it : Pieces s place ts rest e
    ahead : p ≤ place

  module _ {s : List ℕ} {p : ℕ} {rest : List ℕ} {e : ℕ} where
    -- the bound of N
    compared_back : (i : ℕ) (c : Comparison) (j : ℕ) {count t : ℕ} {number : List ℕ} (k : ℕ) {x : List ℕ} {ts : List (List ℕ)}
        → Digits count t number → NoDigit x → Pieces s p (spaces i ∷ sign c ∷ spaces j ∷ number ∷ spaces k ∷ x ∷ ts) rest e
        → BoundBack compared c t s p (spaces k ∷ x ∷ ts) rest e
    unfolding bound_at compared_with bounded number_token
    compared_back i c j {number = number} k {ts = ts} d begins h =
        let at_sign = past_spaces i (sign_no_space c) h in
        let behind_sign = behind_piece at_sign in
        let at_number = past_spaces j (digits_no_space d) behind_sign in
        let told = numeral_back d 3 (digits_some d).1 (piece at_number) (spaced_start k begins ts rest) in
        record {
          place = skip s (skip s p + length (sign c)) + length number;
          says = rw (comparison_back c d j at_sign, told);
          behind_it = behind_piece at_number;
          ahead = omega (arith, skip_ahead s p, skip_ahead s (skip s p + length (sign c)));
        }

    -- the bound of A, E or U, written or left out
    optional_back : {t : ℕ} {bound : List ℕ} → BoundText usual t bound → (k : ℕ) {x : List ℕ} {ts : List (List ℕ)} → NoSpace x → NoDigit x
        → Pieces s p (bound ∷ spaces k ∷ x ∷ ts) rest e → BoundBack optional no_more t s p (spaces k ∷ x ∷ ts) rest e
    unfolding bound_at number_or_usual bounded number_token numeral joined
    optional_back (number_written gap {text = text} d) k {ts = ts} clear begins h =
        let at_number = past_spaces gap (digits_no_space d) (split_piece (spaces gap) text h) in
        let told = numeral_back d 3 (digits_some d).1 (piece at_number) (spaced_start k begins ts rest) in
        record {
          place = skip s p + length text;
          says = ap (number_or_usual usual p) told;
          behind_it = behind_piece at_number;
          ahead = omega (arith, skip_ahead s p);
        }
    optional_back left_out k {ts = ts} clear begins h =
        let here : Pieces s p (spaces k ∷ _ ∷ ts) rest e = record { text = h.text; ends = h.ends } in
        let none_here = piece_no_digit begins (past_spaces k clear here) in
        record {
          place = p;
          says = rw none_here;
          behind_it = here;
          ahead = omega arith;
        }

  -- ---- what a spelled text is read as

  -- In each shape: a unit by itself; units joined by `&`, or by `|`, with whatever is joined to them further on.
  unfoldable ReadAs : Shape → Formula → ℕ → List ℕ → Type 0
  ReadAs one_unit f b t = (s : List ℕ) (p : ℕ) (rest : List ℕ) (e : ℕ) → Span s p t rest e → is_digit (byte_at rest 0) ≡ false
      → Gives s unit_level p (got f b e)
  ReadAs and_units f b t = (s : List ℕ) (p : ℕ) (rest : List ℕ) (e : ℕ) (r : Parsed) → Span s p t rest e → is_digit (byte_at rest 0) ≡ false
      → Gives s (and_rest f b) e r → Gives s and_level p r
  ReadAs or_units f b t = (s : List ℕ) (p : ℕ) (rest : List ℕ) (e : ℕ) (r : Parsed) → Span s p t rest e → is_digit (byte_at rest 0) ≡ false
      → stands s (skip s e) 38 ≡ false → Gives s (or_rest f b) e r → Gives s or_level p r

  -- It has bytes, begins with neither space nor digit, and is read back.
  record Back (shape : Shape) (f : Formula) (b : ℕ) (t : List ℕ) : Type 0 where
    some_bytes : 1 ≤ length t
    clear : NoSpace t
    begins : NoDigit t
    reads : ReadAs shape f b t

  -- a whole formula, where a byte follows that joins nothing
  whole : {f : Formula} {b : ℕ} {t : List ℕ} → Back or_units f b t → (s : List ℕ) (p : ℕ) (rest : List ℕ) (e c : ℕ) → Span s p t rest e
      → is_digit (byte_at rest 0) ≡ false → byte_at s (skip s e) ≡ c → eqb c 38 ≡ false → eqb c 124 ≡ false → Gives s or_level p (got f b e)
  unfolding ReadAs
  whole {f} {b} back s p rest e c h stop at one two =
      back.reads s p rest e (got f b e) h stop (not_there s (skip s e) c 38 at one) (or_stops s f b e (not_there s (skip s e) c 124 at two))

  -- a unit by its first byte, which is neither space nor digit
  lettered : {f : Formula} {b : ℕ} (c : ℕ) (x : List ℕ) → eqb 32 c ≡ false → is_digit c ≡ false → ReadAs one_unit f b (c ∷ x)
      → Back one_unit f b (c ∷ x)
  lettered c x clear begins reads =
      record {
        some_bytes = omega arith;
        clear = record { begins = λ rest. clear };
        begins = record { begins = λ rest. begins };
        reads = reads;
      }

  back_true : Back one_unit (constant true) 0 (ascii "T")
  unfolding ReadAs ascii is_digit read_level
  back_true =
      lettered 84 [] refl refl (λ s p rest e h stop.
      gives_by s unit_level p (got (constant true) 0 e) (λ m le.
      rw h.ends (unit_true s p (reader s m) (span_at h 0 p (omega arith)))))

  back_false : Back one_unit (constant false) 0 (ascii "F")
  unfolding ReadAs ascii is_digit read_level
  back_false =
      lettered 70 [] refl refl (λ s p rest e h stop.
      gives_by s unit_level p (got (constant false) 0 e) (λ m le.
      rw h.ends (unit_false s p (reader s m) (span_at h 0 p (omega arith)))))

  back_mark : (wanted : Bool) {count k : ℕ} {number : List ℕ} → Digits count k number → count ≤ 2
      → Back one_unit (proposition wanted k) 0 (joined (negation wanted ∷ ascii "p" ∷ number ∷ []))
  unfolding ReadAs ascii is_digit joined negation read_level
  back_mark true {k = k} {number = number} d few =
      lettered 112 _ refl refl (λ s p rest e h stop.
      let h : Pieces s p (ascii "p" ∷ number ∷ []) rest e = pieces (ascii "p" ∷ number ∷ []) h in
      gives_by s unit_level p (got (proposition true k) 0 e) (λ m le. unit_mark s p (reader s m) _ (piece_byte h) (mark_back d few true h stop)))
  back_mark false {k = k} {number = number} d few =
      lettered 33 _ refl refl (λ s p rest e h stop.
      let h : Pieces s p (ascii "!" ∷ ascii "p" ∷ number ∷ []) rest e = pieces (ascii "!" ∷ ascii "p" ∷ number ∷ []) h in
      gives_by s unit_level p (got (proposition false k) 0 e) (λ m le.
      unit_negated s p (reader s m) _ (piece_byte h) (mark_back d few false (behind_piece h) stop)))

  -- ---- one connective each

  -- the unit behind a bound
  part_on : {kind : Bound} {c : Comparison} {t : ℕ} {s : List ℕ} {p : ℕ} (k : ℕ) {g : Formula} {b : ℕ} {part rest : List ℕ} {e : ℕ} → Back one_unit g b part
      → (w : BoundBack kind c t s (p + 1) (spaces k ∷ part ∷ []) rest e) → p < length s → is_digit (byte_at rest 0) ≡ false
      → (m : ℕ) → 3 * (suc (length s) - p) ≤ m → reader s m unit_level (skip s w.place) ≡ got g b e
  unfolding ReadAs
  part_on {s = s} {p = p} k {rest = rest} {e = e} back w inside stop m enough =
      later (back.reads s (skip s w.place) rest e (last_piece (past_spaces k back.clear w.behind_it)) stop)
      p m (omega (arith, w.ahead, skip_ahead s w.place)) inside enough

  back_next : (i : ℕ) (c : Comparison) (j : ℕ) {count t : ℕ} {number : List ℕ} (k : ℕ) {g : Formula} {b : ℕ} {part : List ℕ}
      → Digits count t number → Back one_unit g b part
      → Back one_unit (next c (ticks t) g) b (joined (ascii "N" ∷ spaces i ∷ sign c ∷ spaces j ∷ number ∷ spaces k ∷ part ∷ []))
  unfolding ReadAs ascii is_digit joined read_level rank
  back_next i c j {t = t} {number = number} k {g = g} {b = b} {part = part} d back =
      lettered 78 _ refl refl (λ s p rest e h stop.
      let h : Pieces s p (ascii "N" ∷ spaces i ∷ sign c ∷ spaces j ∷ number ∷ spaces k ∷ part ∷ []) rest e = pieces _ h in
      let w = compared_back i c j k d back.begins (behind_piece h) in
      gives_by s unit_level p (got (next c (ticks t) g) b e) (λ m le.
      unit_next s p (reader s m) _ g b e (piece_byte h) w.says (part_on k back w (piece_inside h) stop m (omega arith))))

  -- `A` or `E`
  back_bounded : (letter : ℕ) (make : Tick → Formula → Formula) → eqb 32 letter ≡ false → is_digit letter ≡ false
      → ((s : List ℕ) (p : ℕ) (read : Reader) (w : BoundRead) (g : Formula) (b e : ℕ) → byte_at s p ≡ letter → bound_at usual optional s (p + 1) ≡ Some w
      → read unit_level (skip s w.next) ≡ got g b e → unit_at usual s p read ≡ got (make w.amount g) b e)
      → {t : ℕ} {bound : List ℕ} (k : ℕ) {g : Formula} {b : ℕ} {part : List ℕ} → BoundText usual t bound → Back one_unit g b part
      → Back one_unit (make (ticks t) g) b (joined ((letter ∷ []) ∷ bound ∷ spaces k ∷ part ∷ []))
  unfolding ReadAs joined read_level rank
  back_bounded letter make clear other led_by {t = t} {bound = bound} k {g = g} {b = b} {part = part} d back =
      lettered letter _ clear other (λ s p rest e h stop.
      let h : Pieces s p ((letter ∷ []) ∷ bound ∷ spaces k ∷ part ∷ []) rest e = pieces _ h in
      let w = optional_back d k back.clear back.begins (behind_piece h) in
      gives_by s unit_level p (got (make (ticks t) g) b e) (λ m le.
      led_by s p (reader s m) _ g b e (piece_byte h) w.says (part_on k back w (piece_inside h) stop m (omega arith))))

  -- A whole formula that stands between spaces, before byte c: where it ends, and that it is read.
  record WholeBack (f : Formula) (b c : ℕ) (s : List ℕ) (p : ℕ) (ts : List (List ℕ)) (rest : List ℕ) (e : ℕ) : Type 0 where
    place : ℕ
    gives : Gives s or_level (skip s p) (got f b place)
    behind_it : Pieces s (skip s place) ((c ∷ []) ∷ ts) rest e
    ahead : p ≤ place

  whole_back : {s : List ℕ} {p : ℕ} (i k c : ℕ) {f : Formula} {b : ℕ} {text : List ℕ} {ts : List (List ℕ)} {rest : List ℕ} {e : ℕ} → Back or_units f b text
      → Pieces s p (spaces i ∷ text ∷ spaces k ∷ (c ∷ []) ∷ ts) rest e
      → eqb 32 c ≡ false → is_digit c ≡ false → eqb c 38 ≡ false → eqb c 124 ≡ false → WholeBack f b c s p ts rest e
  whole_back {s} {p} i k c {text = text} {ts = ts} {rest = rest} back h one two three four =
      let here = past_spaces i back.clear h in
      let there = past_spaces k (clear_byte c one) (behind_piece here) in
      record {
        place = skip s p + length text;
        gives = whole back s (skip s p) _ (skip s p + length text) c (piece here) (spaced_start k (other_byte c two) ts rest) (piece_byte there) three four;
        behind_it = there;
        ahead = omega (arith, skip_ahead s p);
      }

  back_bracketed : (i j : ℕ) {f : Formula} {b : ℕ} {text : List ℕ} → Back or_units f b text
      → Back one_unit f (suc b) (joined (ascii "(" ∷ spaces i ∷ text ∷ spaces j ∷ ascii ")" ∷ []))
  unfolding ReadAs ascii is_digit joined read_level rank
  back_bracketed i j {f = f} {b = b} {text = text} back =
      lettered 40 _ refl refl (λ s p rest e h stop.
      let h : Pieces s p (ascii "(" ∷ spaces i ∷ text ∷ spaces j ∷ ascii ")" ∷ []) rest e = pieces _ h in
      let w = whole_back i j 41 back (behind_piece h) refl refl refl refl in
      gives_by s unit_level p (got f (suc b) e) (λ m le.
      rw (pieces_end (behind_piece w.behind_it))
      (unit_bracketed s p (reader s m) (piece_byte h)
      ∙ bracketed_on s p (reader s m) f b w.place
      (later w.gives p m (omega (arith, skip_ahead s (p + 1))) (piece_inside h) (omega arith))
      (is_there s (skip s w.place) 41 (piece_byte w.behind_it)))))

  back_until : {t : ℕ} {bound : List ℕ} (i j k l n : ℕ) {f g : Formula} {b c : ℕ} {first second : List ℕ}
      → BoundText usual t bound → Back or_units f b first → Back or_units g c second
      → Back one_unit (until (ticks t) f g) (suc (max b c))
      (joined (ascii "U" ∷ bound ∷ spaces i ∷ ascii "(" ∷ spaces j ∷ first ∷ spaces k ∷ ascii "," ∷ spaces l ∷ second ∷ spaces n ∷ ascii ")" ∷ []))
  unfolding ReadAs ascii is_digit joined read_level rank
  back_until {t = t} {bound = bound} i j k l n {f = f} {g = g} {b = b} {c = c} {first = first} {second = second} d one two =
      lettered 85 _ refl refl (λ s p rest e h stop.
      let h : Pieces s p (ascii "U" ∷ bound ∷ spaces i ∷ ascii "(" ∷ spaces j ∷ first ∷ spaces k ∷ ascii "," ∷ spaces l ∷ second ∷ spaces n ∷ ascii ")" ∷ []) rest e =
      pieces _ h in
      let w = optional_back d i (clear_byte 40 refl) (other_byte 40 refl) (behind_piece h) in
      let opened = past_spaces i (clear_byte 40 refl) w.behind_it in
      let u = whole_back j k 44 one (behind_piece opened) refl refl refl refl in
      let v = whole_back l n 41 two (behind_piece u.behind_it) refl refl refl refl in
      gives_by s unit_level p (got (until (ticks t) f g) (suc (max b c)) e) (λ m le.
      rw (pieces_end (behind_piece v.behind_it))
      (unit_until s p (reader s m) _ _ (piece_byte h) w.says
      (two_parts_on s w.place (reader s m) (until (ticks t)) f g b c u.place v.place
      (is_there s (skip s w.place) 40 (piece_byte opened))
      (later u.gives p m (omega (arith, w.ahead, skip_ahead s w.place, skip_ahead s (skip s w.place + 1))) (piece_inside h) (omega arith))
      (is_there s (skip s u.place) 44 (piece_byte u.behind_it))
      (later v.gives p m
      (omega (arith, w.ahead, skip_ahead s w.place, u.ahead, skip_ahead s u.place, skip_ahead s (skip s u.place + 1)))
      (piece_inside h) (omega arith))
      (is_there s (skip s v.place) 41 (piece_byte v.behind_it))))))

  -- where a text with bytes stands
  span_ahead : {s : List ℕ} {p : ℕ} {t rest : List ℕ} {e : ℕ} → 1 ≤ length t → Span s p t rest e → (p < length s) × (p < e)
  span_ahead some_bytes h = (omega (arith, h.ends, span_inside h some_bytes), omega (arith, h.ends))

  back_unit : {f : Formula} {b : ℕ} {text : List ℕ} → Back one_unit f b text → Back and_units f b text
  unfolding ReadAs
  back_unit back =
      record {
        some_bytes = back.some_bytes;
        clear = back.clear;
        begins = back.begins;
        reads = λ s p rest e r h stop more_of.
            let (inside, ahead) = span_ahead back.some_bytes h in
            unit_then inside ahead (back.reads s p rest e h stop) more_of;
      }

  back_ands : {f : Formula} {b : ℕ} {text : List ℕ} → Back and_units f b text → Back or_units f b text
  unfolding ReadAs
  back_ands {f} {b} back =
      record {
        some_bytes = back.some_bytes;
        clear = back.clear;
        begins = back.begins;
        reads = λ s p rest e r h stop no_and more_of.
            let (inside, ahead) = span_ahead back.some_bytes h in
            ands_then inside ahead (back.reads s p rest e (got f b e) h stop (and_stops s f b e no_and)) more_of;
      }

  -- pieces of which the first has bytes
  first_some : (x : List ℕ) (ts : List (List ℕ)) → 1 ≤ length x → 1 ≤ length (joined (x ∷ ts))
  unfolding joined
  first_some x ts h = omega (arith, length-append x (joined ts))

  back_and : (i j : ℕ) {f g : Formula} {b c : ℕ} {first second : List ℕ} → Back and_units f b first → Back one_unit g c second
      → Back and_units (and f g) (max b c) (joined (first ∷ spaces i ∷ ascii "&" ∷ spaces j ∷ second ∷ []))
  unfolding ReadAs ascii is_digit
  back_and i j {f = f} {g = g} {b = b} {c = c} {first = first} {second = second} one two =
      record {
        some_bytes = first_some first (spaces i ∷ ascii "&" ∷ spaces j ∷ second ∷ []) one.some_bytes;
        clear = pieces_no_space (spaces i ∷ ascii "&" ∷ spaces j ∷ second ∷ []) one.clear;
        begins = pieces_no_digit (spaces i ∷ ascii "&" ∷ spaces j ∷ second ∷ []) one.begins;
        reads = λ s p rest e r h stop more_of.
            let h : Pieces s p (first ∷ spaces i ∷ ascii "&" ∷ spaces j ∷ second ∷ []) rest e = pieces _ h in
            let q = p + length first in
            let sign_at = past_spaces i (clear_byte 38 refl) (behind_piece h) in
            let second_at = past_spaces j two.clear (behind_piece sign_at) in
            let (inside, ahead) = span_ahead two.some_bytes (last_piece second_at) in
            one.reads s p _ q r (piece h) (spaced_start i (other_byte 38 refl) (spaces j ∷ second ∷ []) rest)
            (and_joins s f b q g c e r (omega (arith, piece_inside sign_at, skip_ahead s q)) (is_there s (skip s q) 38 (piece_byte sign_at))
            (omega (arith, skip_ahead s q, skip_ahead s (skip s q + 1))) (omega (arith, skip_ahead s q, skip_ahead s (skip s q + 1)))
            (two.reads s (skip s (skip s q + 1)) rest e (last_piece second_at) stop) more_of);
      }

  back_or : (i j : ℕ) {f g : Formula} {b c : ℕ} {first second : List ℕ} → Back or_units f b first → Back and_units g c second
      → Back or_units (or f g) (max b c) (joined (first ∷ spaces i ∷ ascii "|" ∷ spaces j ∷ second ∷ []))
  unfolding ReadAs ascii is_digit
  back_or i j {f = f} {g = g} {b = b} {c = c} {first = first} {second = second} one two =
      record {
        some_bytes = first_some first (spaces i ∷ ascii "|" ∷ spaces j ∷ second ∷ []) one.some_bytes;
        clear = pieces_no_space (spaces i ∷ ascii "|" ∷ spaces j ∷ second ∷ []) one.clear;
        begins = pieces_no_digit (spaces i ∷ ascii "|" ∷ spaces j ∷ second ∷ []) one.begins;
        reads = λ s p rest e r h stop no_and more_of.
            let h : Pieces s p (first ∷ spaces i ∷ ascii "|" ∷ spaces j ∷ second ∷ []) rest e = pieces _ h in
            let q = p + length first in
            let sign_at = past_spaces i (clear_byte 124 refl) (behind_piece h) in
            let second_at = past_spaces j two.clear (behind_piece sign_at) in
            let (inside, ahead) = span_ahead two.some_bytes (last_piece second_at) in
            one.reads s p _ q r (piece h) (spaced_start i (other_byte 124 refl) (spaces j ∷ second ∷ []) rest)
            (not_there s (skip s q) 124 38 (piece_byte sign_at) refl)
            (or_joins s f b q g c e r (omega (arith, piece_inside sign_at, skip_ahead s q)) (is_there s (skip s q) 124 (piece_byte sign_at))
            (omega (arith, skip_ahead s q, skip_ahead s (skip s q + 1))) (omega (arith, skip_ahead s q, skip_ahead s (skip s q + 1)))
            (two.reads s (skip s (skip s q + 1)) rest e (got g c e) (last_piece second_at) stop (and_stops s g c e no_and)) more_of);
      }

  -- ---- every spelling

  back : {shape : Shape} {f : Formula} {b : ℕ} {text : List ℕ} → Spells usual shape f b text → Back shape f b text
  unfolding ascii is_digit
  back spells_true = back_true
  back spells_false = back_false
  back (spells_mark wanted d few) = back_mark wanted d few
  back (spells_next i c j k d part) = back_next i c j k d (back part)
  back (spells_always k d part) = back_bounded 65 always_for refl refl unit_always k d (back part)
  back (spells_within k d part) = back_bounded 69 within refl refl unit_within k d (back part)
  back (spells_until i j k l m d first second) = back_until i j k l m d (back first) (back second)
  back (spells_bracketed i j text) = back_bracketed i j (back text)
  back (spells_unit text) = back_unit (back text)
  back (spells_and i j first second) = back_and i j (back first) (back second)
  back (spells_ands text) = back_ands (back text)
  back (spells_or i j first second) = back_or i j (back first) (back second)

-- A spelled formula begins with no space.
pub spelled_clear : {usual : ℕ} {shape : Shape} {f : Formula} {b : ℕ} {text : List ℕ} → Spells usual shape f b text → NoSpace text
spelled_clear {usual} h = (back usual h).clear

-- It has bytes.
pub spelled_some : {usual : ℕ} {shape : Shape} {f : Formula} {b : ℕ} {text : List ℕ} → Spells usual shape f b text → 1 ≤ length text
spelled_some {usual} h = (back usual h).some_bytes

-- A whole formula is read back, up to spaces and a byte that joins nothing to it and is no digit.
pub formula_back : {usual : ℕ} {f : Formula} {b : ℕ} {text : List ℕ} → Spells usual or_units f b text → {s : List ℕ} {p : ℕ} (n c : ℕ) {ts : List (List ℕ)} {rest : List ℕ} {e : ℕ}
    → Pieces s p (text ∷ spaces n ∷ (c ∷ []) ∷ ts) rest e → eqb 32 c ≡ false → is_digit c ≡ false → eqb c 38 ≡ false → eqb c 124 ≡ false
    → formula_at usual s p ≡ got f b (p + length text)
formula_back {usual} {text = text} spells {s} {p} n c {ts = ts} {rest = rest} h one two three four =
    let there = past_spaces n (clear_byte c one) (behind_piece h) in
    gives_formula usual
    (whole usual (back usual spells) s p _ (p + length text) c (piece h) (spaced_start usual n (other_byte c two) ts rest) (piece_byte there) three four)
