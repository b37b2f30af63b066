-- What is noted in the state decides a line as the definitions do.
use Prim.Native.Nat.{ℕ, ◌+◌, ◌≤◌, ◌<◌, min}
use native.Mathlib.Omega.{arith}
use mathlib.Core.Path.{◌≡◌, refl, sym, ◌∙◌, ap}
use mathlib.Core.Bool.{Bool, true, false, ◌||◌, not}
use mathlib.Core.List.{List, [], ◌∷◌, ◌++◌}
use lib.ListN.{length, length-append}
use lib.Seq.{length-take-le}
use lib.Dec.{eqb, ltb}
use borrow.Author.Tests.{lt-ltb, le-ltb, ltb-true, ltb-false, leb-false, eq-eqb, ne_eqb}
use Rattle.base.specs.Answers.{Answer, ◌if◌else◌}
use Rattle.std.specs.Prelude.{Err, Ok}
use Rattle.base.specs.declared.Refusal.{Refusal}
use Rattle.base.specs.declared.Refusal.TheVariants.{Number, Mark, Limit, Timed}
use Rattle.base.proofs.Lists.{or_fails_left, or_fails_right}
use Rattle.logic.specs.Book.{Formula, constant, proposition, and, or, next, always_for, until, timed_right, parts, size, nodes, Form, Rule, Book}
use Rattle.reading.specs.BookArea.{node_count_at, node_number, form_code, traits_code}
use Rattle.reading.specs.BookReading as Reading
use Rattle.reading.specs.BookReading.{most_ticks, most_nodes, most_brackets, over_number, over_mark, over_limit, judge_line}
use Rattle.book_nodes.specs.State.{Nodes, State, state_of, put_all, absorb, one_if, fault_of, due, last_node}
use Rattle.book_nodes.proofs.Absorb.{absorb_usual, due_true, due_false}
use Rattle.book_reader.specs.Lines.{judged, put_line, PutsLine, HeldSoFar}
use Rattle.book_reader.proofs.Kept.{AllSmall, count_exact, count_over, keeps_more, nodes_append, length_more}

-- ---- numbers of nodes

all_append : (fs gs : List Formula) → AllSmall fs → AllSmall gs → AllSmall (fs ++ gs)
unfolding AllSmall
all_append [] gs h k = k
all_append (f ∷ fs) gs (one, h) k = (one, all_append fs gs h k)

one_small : (f : Formula) → node_number f < 256 → AllSmall (f ∷ [])
unfolding AllSmall
one_small f lt = (lt, tt)

-- Where no number is above 254 and no mark above P, every node's number fits its byte.
small : (marks : ℕ) (f : Formula) → marks ≤ 16 → over_number f ≡ false → over_mark marks f ≡ false → AllSmall (parts f)
unfolding over_number over_mark parts node_number most_ticks
small marks (constant b) le n m = one_small (constant b) (omega arith)
small marks (proposition w k) le n m = one_small (proposition w k) (omega (arith, leb-false marks k m))
small marks (and f g) le n m =
    all_append (parts f) (parts g ++ (and f g ∷ []))
    (small marks f le (or_fails_left (over_number f) (over_number g) n) (or_fails_left (over_mark marks f) (over_mark marks g) m))
    (all_append (parts g) (and f g ∷ [])
    (small marks g le (or_fails_right (over_number f) (over_number g) n) (or_fails_right (over_mark marks f) (over_mark marks g) m))
    (one_small (and f g) (omega arith)))
small marks (or f g) le n m =
    all_append (parts f) (parts g ++ (or f g ∷ []))
    (small marks f le (or_fails_left (over_number f) (over_number g) n) (or_fails_left (over_mark marks f) (over_mark marks g) m))
    (all_append (parts g) (or f g ∷ [])
    (small marks g le (or_fails_right (over_number f) (over_number g) n) (or_fails_right (over_mark marks f) (over_mark marks g) m))
    (one_small (or f g) (omega arith)))
small marks (next c t g) le n m =
    all_append (parts g) (next c t g ∷ []) (small marks g le (or_fails_right (ltb 254 t.0) (over_number g) n) m)
    (one_small (next c t g) (omega (arith, ltb-false 254 t.0 (or_fails_left (ltb 254 t.0) (over_number g) n))))
small marks (always_for t g) le n m =
    all_append (parts g) (always_for t g ∷ []) (small marks g le (or_fails_right (ltb 254 t.0) (over_number g) n) m)
    (one_small (always_for t g) (omega (arith, ltb-false 254 t.0 (or_fails_left (ltb 254 t.0) (over_number g) n))))
small marks (until t f g) le n m =
    let rest = or_fails_right (ltb 254 t.0) (over_number f || over_number g) n in
    all_append (parts f) (parts g ++ (until t f g ∷ []))
    (small marks f le (or_fails_left (over_number f) (over_number g) rest) (or_fails_left (over_mark marks f) (over_mark marks g) m))
    (all_append (parts g) (until t f g ∷ [])
    (small marks g le (or_fails_right (over_number f) (over_number g) rest) (or_fails_right (over_mark marks f) (over_mark marks g) m))
    (one_small (until t f g) (omega (arith, ltb-false 254 t.0 (or_fails_left (ltb 254 t.0) (over_number f || over_number g) n)))))

-- A formula has a node.
size_some : (f : Formula) → 1 ≤ length (parts f)
unfolding parts
size_some (constant b) = omega arith
size_some (proposition w k) = omega arith
size_some (and f g) = omega (arith, length-append (parts f) (parts g ++ (and f g ∷ [])), size_some f)
size_some (or f g) = omega (arith, length-append (parts f) (parts g ++ (or f g ∷ [])), size_some f)
size_some (next c t g) = omega (arith, length-append (parts g) (next c t g ∷ []), size_some g)
size_some (always_for t g) = omega (arith, length-append (parts g) (always_for t g ∷ []), size_some g)
size_some (until t f g) = omega (arith, length-append (parts f) (parts g ++ (until t f g ∷ [])), size_some f)

-- ---- the least number

due_least : (b : Bool) (k : ℕ) → k ≤ 255 → k ≤ due b k
unfolding due
due_least true k h = omega arith
due_least false k h = h

least : Bool → Bool → Bool → Bool → ℕ
least a b c d = min (min (due a 7) (min (due b 8) (min (due c 9) (due d 10)))) 255

least_7 : (a b c d : Bool) → eqb (least a b c d) 7 ≡ a
unfolding least
least_7 true b c d =
    eq-eqb (min (min (due true 7) (min (due b 8) (min (due c 9) (due d 10)))) 255) 7
    (omega (arith, due_true 7, due_least b 8 (omega arith), due_least c 9 (omega arith), due_least d 10 (omega arith)))
least_7 false b c d =
    ne_eqb (min (min (due false 7) (min (due b 8) (min (due c 9) (due d 10)))) 255) 7
    (λ e. omega (arith, due_false 7, due_least b 8 (omega arith), due_least c 9 (omega arith), due_least d 10 (omega arith)))

least_8 : (b c d : Bool) → eqb (least false b c d) 8 ≡ b
unfolding least
least_8 true c d =
    eq-eqb (min (min (due false 7) (min (due true 8) (min (due c 9) (due d 10)))) 255) 8
    (omega (arith, due_false 7, due_true 8, due_least c 9 (omega arith), due_least d 10 (omega arith)))
least_8 false c d =
    ne_eqb (min (min (due false 7) (min (due false 8) (min (due c 9) (due d 10)))) 255) 8
    (λ e. omega (arith, due_false 7, due_false 8, due_least c 9 (omega arith), due_least d 10 (omega arith)))

least_9 : (c d : Bool) → eqb (least false false c d) 9 ≡ c
unfolding least due
least_9 true true = refl
least_9 true false = refl
least_9 false true = refl
least_9 false false = refl

least_10 : (d : Bool) → eqb (least false false false d) 10 ≡ d
unfolding least due
least_10 true = refl
least_10 false = refl

least_none : least false false false false ≡ 255
unfolding least due
least_none = refl

-- What an area keeps of nodes and lines ends where their numbers stand.
kept_all : (a : List ℕ) → 512 ≤ length a → length (state_of a).nodes.kept ≡ node_count_at
unfolding state_of
kept_all a le = length-take-le node_count_at a (omega arith)

-- ---- a line

-- How a line is judged: by the state as by the definitions.
pub data Verdict (r : Answer ℕ) (marks : ℕ) (rules : Book) (form : Form) (f : Formula) (b q : ℕ) (y : List ℕ) : Type 0 where
  down : (why : Refusal) → judge_line marks rules (Reading.line form f b q) ≡ Err why → r ≡ Err why → Verdict r marks rules form f b q y
  fine : judge_line marks rules (Reading.line form f b q) ≡ Ok (record { rules = rules ++ (record { form = form; formula = f } ∷ []); place = q })
      → r ≡ Ok q → over_number f ≡ false → over_mark marks f ≡ false → length (nodes rules) + size f ≤ 60 → (state_of y).fault ≡ 255
      → Verdict r marks rules form f b q y

module _ (marks : ℕ) (rules : Book) (line : ℕ) (a : List ℕ) (held : HeldSoFar marks rules line a) (form : Form) (f : Formula) (b : ℕ) (y : List ℕ)
    (absorbed : state_of y ≡ absorb 16 b f (state_of a)) where
  fault_after : (state_of y).fault ≡ least (over_number f) (over_mark marks f) (ltb 16 b) (not (timed_right f))
  unfolding absorb fault_of least
  fault_after =
      ap (λ (st : State). st.fault) absorbed
      ∙ rw (held.faultless, held.known_marks)

  nodes_after : (state_of y).nodes ≡ put_all (parts f) (state_of a).nodes
  unfolding absorb
  nodes_after = ap (λ (st : State). st.nodes) absorbed

  marks_after : (state_of y).marks ≡ marks
  unfolding absorb
  marks_after = ap (λ (st : State). st.marks) absorbed ∙ held.known_marks

  timed_after : (state_of y).is_timed ≡ traits_code f
  unfolding absorb one_if traits_code
  timed_after = ap (λ (st : State). st.is_timed) absorbed

  -- The count tells whether the book has more than 60 nodes.
  count_after : ltb 60 (state_of y).nodes.count ≡ ltb 60 (length (nodes rules) + size f)
  unfolding size
  count_after = go (ltb 60 (length (nodes rules) + length (parts f))) refl
    where
      go : (t : Bool) → ltb 60 (length (nodes rules) + length (parts f)) ≡ t
          → ltb 60 (state_of y).nodes.count ≡ ltb 60 (length (nodes rules) + length (parts f))
      go true e =
          let c = ap (λ (n : Nodes). n.count) nodes_after in
          let over = count_over (parts f) (state_of a).nodes (omega (arith, held.counted, held.few))
          (omega (arith, held.counted, ltb-true 60 (length (nodes rules) + length (parts f)) e)) in
          lt-ltb 60 (state_of y).nodes.count (omega arith) ∙ sym e
      go false e =
          let c = ap (λ (n : Nodes). n.count) nodes_after in
          let exact = count_exact (parts f) (state_of a).nodes (omega (arith, held.counted, ltb-false 60 (length (nodes rules) + length (parts f)) e)) in
          le-ltb 60 (state_of y).nodes.count (omega (arith, held.counted, ltb-false 60 (length (nodes rules) + length (parts f)) e)) ∙ sym e

  -- The line is judged alike.
  verdict : (q : ℕ) (r : Answer ℕ) → r ≡ judged line q (state_of y) → (x1 x2 x3 x4 x5 : Bool) → over_number f ≡ x1 → over_mark marks f ≡ x2
      → ltb 60 (length (nodes rules) + size f) ≡ x3 → ltb 16 b ≡ x4 → timed_right f ≡ x5 → Verdict r marks rules form f b q y
  unfolding judge_line ◌if◌else◌ over_limit most_nodes most_brackets judged
  verdict q r e true x2 x3 x4 x5 e1 e2 e3 e4 e5 =
      down (Number line) (rw (e1, held.count_lines)) (e ∙ rw (fault_after, e1, least_7 true (over_mark marks f) (ltb 16 b) (not (timed_right f))))
  verdict q r e false true x3 x4 x5 e1 e2 e3 e4 e5 =
      down (Mark line) (rw (e1, e2, held.count_lines))
      (e ∙ rw (fault_after, e1, e2, least_7 false true (ltb 16 b) (not (timed_right f)), least_8 true (ltb 16 b) (not (timed_right f))))
  verdict q r e false false true x4 x5 e1 e2 e3 e4 e5 =
      down (Limit line) (rw (e1, e2, e3, held.count_lines))
      (e ∙ rw (fault_after, e1, e2, least_7 false false (ltb 16 b) (not (timed_right f)), least_8 false (ltb 16 b) (not (timed_right f)), count_after, e3))
  verdict q r e false false false true x5 e1 e2 e3 e4 e5 =
      down (Limit line) (rw (e1, e2, e3, e4, held.count_lines))
      (e ∙ rw (fault_after, e1, e2, e4, least_7 false false true (not (timed_right f)), least_8 false true (not (timed_right f)), count_after, e3, least_9 true (not (timed_right f))))
  verdict q r e false false false false false e1 e2 e3 e4 e5 =
      down (Timed line) (rw (e1, e2, e3, e4, e5, held.count_lines))
      (e ∙ rw (fault_after, e1, e2, e4, e5, least_7 false false false true, least_8 false false true, count_after, e3, least_9 false true, least_10 true))
  verdict q r e false false false false true e1 e2 e3 e4 e5 =
      let fault : (state_of y).fault ≡ 255 = fault_after ∙ rw (e1, e2, e4, e5) least_none in
      fine (rw (e1, e2, e3, e4, e5)) (e ∙ rw (fault, count_after, e3)) e1 e2 (omega (arith, ltb-false 60 (length (nodes rules) + size f) e3)) fault

  pub line_judged : (q : ℕ) (r : Answer ℕ) → r ≡ judged line q (state_of y) → Verdict r marks rules form f b q y
  line_judged q r e =
      verdict q r e (over_number f) (over_mark marks f) (ltb 60 (length (nodes rules) + size f)) (ltb 16 b) (timed_right f) refl refl refl refl refl

  -- One rule more is held, once its line is put down.
  pub held_more : (q : ℕ) (z : List ℕ) → marks ≤ 16 → 512 ≤ length a → over_number f ≡ false → over_mark marks f ≡ false
      → length (nodes rules) + size f ≤ 60 → (state_of y).fault ≡ 255 → PutsLine line (form_code form) y z
      → HeldSoFar marks (rules ++ (record { form = form; formula = f } ∷ [])) (line + 1) z
  unfolding put_line size last_node
  held_more q z le long n m few fault puts =
      let rule : Rule = record { form = form; formula = f } in
      let len : length (nodes (rules ++ (rule ∷ []))) ≡ length (nodes rules) + length (parts f) =
      ap length (nodes_append rules rule) ∙ length-append (nodes rules) (parts f) in
      let more = length_more rules rule in
      let some = size_some f in
      let room : length rules < 60 = omega (arith, held.lined) in
      let put = puts.put (omega (arith, held.count_lines)) in
      let exact = count_exact (parts f) (state_of a).nodes (omega (arith, held.counted)) in
      record {
        count_lines = omega (arith, held.count_lines);
        few = omega arith;
        lined = omega (arith, held.lined);
        counted = ap (λ (st : State). st.nodes.count) put ∙ ap (λ (x : Nodes). x.count) nodes_after ∙ omega (arith, held.counted);
        faultless = ap (λ (st : State). st.fault) put ∙ fault;
        known_marks = ap (λ (st : State). st.marks) put ∙ marks_after;
        known_usual = ap (λ (st : State). st.usual) put ∙ absorb_usual y 16 b f (state_of a) absorbed ∙ held.known_usual;
        book = rw (put, timed_after, nodes_after, ← held.count_lines)
            (keeps_more rules form f (state_of a).nodes held.book held.counted (kept_all a long) few room (small marks f le n m));
      }
