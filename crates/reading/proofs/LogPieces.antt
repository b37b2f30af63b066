-- A log may be read in pieces: a line has at most 14 bytes, what is read of a beginning stays read, and the rest is read from where that stopped.
use Prim.Native.Nat.{ℕ, ◌+◌, ◌-◌, ◌≤◌}
use native.Mathlib.Omega.{arith}
use native.Mathlib.Nat.{add-zero}
use mathlib.Core.Path.{◌≡◌, refl, sym, ◌∙◌, ap}
use Rattle.std.specs.Prelude.{None, Some}
use mathlib.Core.List.{List, [], ◌∷◌, ◌++◌, append_assoc, append_cancel_right, append-nil}
use lib.ListN.{length, drop, length-append, length-drop}
use lib.Seq.{drop-append-le, drop-drop}
use Rattle.base.specs.Lists.{joined}
use Rattle.base.specs.Text.{ascii}
use Rattle.base.proofs.Lists.{none-some, whether_there}
use Rattle.reading.specs.Tokens.{Token}
use Rattle.reading.specs.LogReading.{stroke_at, with_line, log_from}
use Rattle.reading.specs.LogSpelling.{SpellsStroke, spells_stroke}
use Rattle.reading.specs.declared.Stroke.{Stroke}
use Rattle.reading.proofs.LogReading.{stroke_ahead, log_end, log_bad, log_line, log_by, log_stops, log_inside}
use Rattle.reading.proofs.LogRight.{decimal_length, line_back, line_spelled, lines_before}

-- ---- one line

-- A line that is spelled has at most 14 bytes.
spelled_length : {stroke : Stroke} {line : List ℕ} → SpellsStroke stroke line → length line ≤ 14
unfolding joined ascii
spelled_length (spells_stroke {tick = tick} {action = action} d few small f two) =
    let (i, one) = decimal_length d in
    let (j, Also-one) = decimal_length f in
    omega (arith, length-append tick (32 ∷ (action ++ (10 ∷ []))), length-append action (10 ∷ []))

-- A line that is read has at most 14 bytes.
pub line_length : (s : List ℕ) (p : ℕ) (t : Token Stroke) → stroke_at s p ≡ Some t → t.next ≤ p + 14
line_length s p t e = let there = line_spelled s p t e in omega (arith, there.passage.ends, spelled_length there.spells)

-- The same bytes are the same line elsewhere, whatever follows them.
line_elsewhere : (s : List ℕ) (p : ℕ) (u : List ℕ) (q : ℕ) (b : List ℕ) → drop q u ≡ drop p s ++ b → (t : Token Stroke) → stroke_at s p ≡ Some t
    → stroke_at u q ≡ Some (record { said = t.said; next = q + (t.next - p) })
line_elsewhere s p u q b same t e =
    let there = line_spelled s p t e in
    line_back there.spells
    (record {
      text = same ∙ ap (λ z. z ++ b) there.passage.text ∙ append_assoc there.line (drop t.next s) b;
      ends = omega (arith, there.passage.ends);
    })

-- A line stays read, whatever follows.
pub line_stays : (a b : List ℕ) (p : ℕ) (t : Token Stroke) → stroke_at a p ≡ Some t → stroke_at (a ++ b) p ≡ Some t
line_stays a b p t e =
    let (far, inside) = stroke_ahead a p t e in
    let at : p + (t.next - p) ≡ t.next = omega arith in
    line_elsewhere a p (a ++ b) p b (drop-append-le p a b (omega arith)) t e ∙ ap (λ q. Some (record { said = t.said; next = q })) at

-- What is no line within 14 bytes stays none, whatever follows.
pub stays_bad : (a b : List ℕ) (p : ℕ) → p + 14 ≤ length a → stroke_at a p ≡ None → stroke_at (a ++ b) p ≡ None
stays_bad a b p long bad =
    whether_there (stroke_at (a ++ b) p) (λ e. e) (λ t e.
    let there = line_spelled (a ++ b) p t e in
    let near = line_length (a ++ b) p t e in
    let behind = ap (λ z. there.line ++ z) (drop-append-le t.next a b (omega arith)) ∙ sym (append_assoc there.line (drop t.next a) b) in
    let all = sym (drop-append-le p a b (omega arith)) ∙ there.passage.text ∙ behind in
    none-some bad
    (line_back there.spells (record { text = append_cancel_right (drop p a) (there.line ++ drop t.next a) b all; ends = there.passage.ends })))

-- A line of the rest behind n bytes stands n bytes further on,
line_moved : (s : List ℕ) (n p : ℕ) (t : Token Stroke) → stroke_at (drop n s) p ≡ Some t → stroke_at s (n + p) ≡ Some (record { said = t.said; next = n + t.next })
line_moved s n p t e =
    let (far, inside) = stroke_ahead (drop n s) p t e in
    let at : n + p + (t.next - p) ≡ n + t.next = omega arith in
    line_elsewhere (drop n s) p s (n + p) [] (sym (append-nil (drop p (drop n s)) ∙ drop-drop p n s)) t e
    ∙ ap (λ q. Some (record { said = t.said; next = q })) at

-- and what is no line there is none.
none_moved : (s : List ℕ) (n p : ℕ) → stroke_at (drop n s) p ≡ None → stroke_at s (n + p) ≡ None
none_moved s n p bad =
    whether_there (stroke_at s (n + p)) (λ e. e) (λ t e.
    none-some bad (line_elsewhere s (n + p) (drop n s) p [] (drop-drop p n s ∙ sym (append-nil (drop (n + p) s))) t e))

-- ---- the lines

-- The lines behind n bytes are those of the rest.
pub log_moved : (s : List ℕ) (n p : ℕ) → log_from s (n + p) ≡ record { strokes = (log_from (drop n s) p).strokes; next = n + (log_from (drop n s) p).next }
unfolding with_line
log_moved s n =
    log_by (drop n s) (λ p r. log_from s (n + p) ≡ record { strokes = r.strokes; next = n + r.next })
    (λ p over. log_end s (n + p) (omega (arith, length-drop n s)))
    (λ p inside e. log_bad s (n + p) (omega (arith, length-drop n s)) (none_moved s n p e))
    (λ p t r inside e behind.
    log_line s (n + p) _ (omega (arith, length-drop n s)) (line_moved s n p t e) ∙ ap (with_line t.said) behind)

-- The lines of a log behind n bytes of a beginning are those of what is left of it with all that follows.
log_left : (a b : List ℕ) (n : ℕ) → n ≤ length a
    → log_from (a ++ b) n ≡ record { strokes = (log_from (drop n a ++ b) 0).strokes; next = n + (log_from (drop n a ++ b) 0).next }
log_left a b n le =
    ap (log_from (a ++ b)) (sym (add-zero n)) ∙ log_moved (a ++ b) n 0
    ∙ ap (λ z. record { strokes = (log_from z 0).strokes; next = n + (log_from z 0).next }) (drop-append-le n a b le)

-- What is read of a beginning stays read, and the reading goes on where that stopped.
pub lines_stay : (a b : List ℕ) (p : ℕ) → log_from (a ++ b) p ≡ lines_before (log_from a p).strokes (log_from (a ++ b) (log_from a p).next)
unfolding with_line lines_before
lines_stay a b =
    log_by a (λ p r. log_from (a ++ b) p ≡ lines_before r.strokes (log_from (a ++ b) r.next)) (λ p over. refl) (λ p inside e. refl)
    (λ p t r inside e behind.
    log_line (a ++ b) p t (omega (arith, length-append a b)) (line_stays a b p t e) ∙ ap (with_line t.said) behind)

-- The lines of a log are those of a beginning, and then those of what that left with all that follows.
pub in_pieces : (a b : List ℕ)
    → log_from (a ++ b) 0
    ≡ record {
      strokes = (log_from a 0).strokes ++ (log_from (drop (log_from a 0).next a ++ b) 0).strokes;
      next = (log_from a 0).next + (log_from (drop (log_from a 0).next a ++ b) 0).next;
    }
unfolding lines_before
in_pieces a b =
    lines_stay a b 0 ∙ ap (lines_before (log_from a 0).strokes) (log_left a b (log_from a 0).next (log_inside a 0 (omega arith)))

-- The same of the lines,
pub in_pieces_strokes : (a b : List ℕ) → (log_from (a ++ b) 0).strokes ≡ (log_from a 0).strokes ++ (log_from (drop (log_from a 0).next a ++ b) 0).strokes
in_pieces_strokes a b = ap (λ r. r.strokes) (in_pieces a b)

-- and of the position of the next.
pub in_pieces_next : (a b : List ℕ) → (log_from (a ++ b) 0).next ≡ (log_from a 0).next + (log_from (drop (log_from a 0).next a ++ b) 0).next
in_pieces_next a b = ap (λ r. r.next) (in_pieces a b)

-- A beginning of which 14 bytes or more were left is read to where the whole log is.
pub ends_early : (a b : List ℕ) → (log_from a 0).next + 14 ≤ length a → log_from (a ++ b) 0 ≡ log_from a 0
unfolding lines_before
ends_early a b long =
    let n = (log_from a 0).next in
    let bad = stays_bad a b n long (log_stops a 0 (omega arith)) in
    lines_stay a b 0 ∙ ap (lines_before (log_from a 0).strokes) (log_bad (a ++ b) n (omega (arith, length-append a b)) bad)
    ∙ ap (λ z. record { strokes = z; next = n }) (append-nil (log_from a 0).strokes)
