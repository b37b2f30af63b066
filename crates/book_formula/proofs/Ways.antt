-- The laws of the formula readers: one for each way through the code.
use Prim.Native.Nat.{ℕ, suc, ◌+◌, ◌-◌, ◌≤◌, ◌<◌, max}
use native.Mathlib.Omega.{arith}
use native.Mathlib.Nat.{zero-max}
use mathlib.Core.Path.{◌≡◌, refl, sym, ◌∙◌, ap, ap₂}
use mathlib.Core.Logic.{◌⊎◌, inl, inr}
use mathlib.Core.Bool.{Bool, true, false, ◌||◌, not}
use Rattle.std.specs.Prelude.{Option, None, Some}
use mathlib.Core.List.{List, [], ◌∷◌}
use mir.Syntax.{w8, w64}
use mir.Val.{Fits}
use lib.ListN.{length, get_or}
use lib.Dec.{eqb}
use borrow.Author.Tests.{eqb-true, eqb-false, eq-eqb, ne_eqb, not-true}
use Rattle.base.specs.Choice.{pick}
use Rattle.base.specs.Bytes.{byte_at}
use Rattle.base.specs.Lists.{every}
use Rattle.base.proofs.Lists.{and_left, and_right, or_cases}
use Rattle.logic.specs.Time.{ticks}
use Rattle.logic.specs.Book.{Formula, constant, proposition, and, or, until, within}
use Rattle.logic.specs.declared.Tick.{Tick}
use Rattle.reading.specs.Tokens.{stands, skip, numeral, mark_named, mark_at, mark_token}
use Rattle.reading.specs.Grammar.{Bound, no_bound, compared, optional, Connective, connective, connectives, BoundRead, bound_at, Parsed, bad, got, onward, behind, Level, or_level, and_level, unit_level, or_rest, and_rest, joining, bracketed, two_parts, with_bound, led, marked_unit, unit_at, read_level, formula_one, formula_two, formula_at}
use Rattle.reading.specs.BookArea.{comparison_code}
use Rattle.book_tokens.specs.Told.{place_behind, bound_told, bound_kind, row_told, led_told, bound_by}
use Rattle.text_numerals.specs.Numerals.{numeral_told}
use Rattle.text_numerals.specs.declared.Number.{Number}
use Rattle.book_tokens.specs.declared.Bounded.{Bounded}
use Rattle.book_tokens.specs.declared.BoundKind.{BoundKind}
use Rattle.book_tokens.specs.declared.Row.{Row}
use Rattle.text_numerals.proofs.Laws.{byte_inside, numeral_missing, numeral_read}
use Rattle.book_tokens.proofs.Laws.{skip_ahead}
use Rattle.book_nodes.specs.State.{fault_at, State, state_of, usual_in, absorb, one_if, leaf, mark_node, last_node, bounded_node, until_node, Opens}
use Rattle.book_nodes.proofs.Area.{leaf_usual, opens_usual}
use Rattle.book_nodes.proofs.Absorb.{absorb_usual, absorb_constant, absorb_mark, absorb_open, absorb_and, absorb_or, absorb_next, absorb_always, absorb_until}
use Rattle.book_formula.specs.Parse.{parse, Reads, not_of, is_read, Joint, by_or, by_and, whole_of, operand_of, rest_of, sign_of, node_of, Joins, left_at, mark_code, Marks, with_connective, led_at, LetterLeads, one_code, ReadsOne, not_one, one_read, within_at, until_at, second_at, Ended, not_ended, is_ended, Seconds}
use Rattle.book_formula.proofs.Ends.{stands_inside, bound_end, lettered, parse_eq, or_ends, and_ends, unit_ends}

-- ---- places

-- Behind a byte that stands there.
placed : (s : List ℕ) (p b q : ℕ) → Some q ≡ place_behind s p b → (stands s (skip s p) b ≡ true) × (skip s p + 1 ≡ q)
unfolding place_behind
placed s p b q e = split (stands s (skip s p) b) refl
  where
    split : (t : Bool) → stands s (skip s p) b ≡ t → (stands s (skip s p) b ≡ true) × (skip s p + 1 ≡ q)
    split true g = let h : Some q ≡ Some (skip s p + 1) = rw g at e in (g, let k : skip s p + 1 ≡ q = cc in k)
    split false g = let h : Some q ≡ None = rw g at e in let z : ◌≡◌ {A = ℕ} 0 1 = cc in absurd (omega arith)

unplaced : (s : List ℕ) (p b : ℕ) → None ≡ place_behind s p b → stands s (skip s p) b ≡ false
unfolding place_behind
unplaced s p b e = split (stands s (skip s p) b) refl
  where
    split : (t : Bool) → stands s (skip s p) b ≡ t → stands s (skip s p) b ≡ false
    split true g = let h : None ≡ Some (skip s p + 1) = rw g at e in cc
    split false g = g

behind_on : (s : List ℕ) (p b q : ℕ) (go : ℕ → Parsed) → Some q ≡ place_behind s p b → behind s p b go ≡ go q
unfolding behind
behind_on s p b q go e = let (g, k) = placed s p b q e in rw (g, k)

behind_off : (s : List ℕ) (p b : ℕ) (go : ℕ → Parsed) → None ≡ place_behind s p b → behind s p b go ≡ bad
unfolding behind
behind_off s p b go e = rw (unplaced s p b e)

-- A place behind a byte lies ahead and inside the text.
pub place_ahead : (s : List ℕ) (p b q : ℕ) → 1 ≤ b → Some q ≡ place_behind s p b → (p < q) × (q ≤ length s)
place_ahead s p b q one e =
    let (g, k) = placed s p b q e in
    (omega (arith, skip_ahead s p), omega (arith, stands_inside s (skip s p) b one g))

-- ---- readings

-- A reading that is equal to another is read alike.
reads_as : {x y : Parsed} {room : ℕ} {a z : List ℕ} {r : Option ℕ} → x ≡ y → Reads x room a z r → Reads y room a z r
reads_as e (not_of f) = not_of (sym e ∙ f)
reads_as e (is_read f b q g h) = is_read f b q (sym e ∙ g) h

-- Where nothing is read there is nothing of the grammar.
none_read : {x : Parsed} {room : ℕ} {a z : List ℕ} → Reads x room a z None → x ≡ bad
none_read (not_of e) = e

-- An answer of nothing.
not_read : {x : Parsed} {room : ℕ} {a z : List ℕ} (r : Option ℕ) → r ≡ None → x ≡ bad → Reads x room a z r
not_read r e f = rw e (not_of f)

operand_ends : (usual : ℕ) (j : Joint) (s : List ℕ) (p : ℕ) (f : Formula) (b q : ℕ) → parse usual s (operand_of j) p ≡ got f b q → (p < q) × (q ≤ length s)
operand_ends usual by_or s p f b q e = and_ends usual s p f b q e
operand_ends usual by_and s p f b q e = unit_ends usual s p f b q e

-- The same reading, by an equal bound at an equal place.
parse_moved : {u v : ℕ} (s : List ℕ) (level : Level) {p q : ℕ} → u ≡ v → p ≡ q → parse v s level q ≡ parse u s level p
parse_moved s level e f = ap₂ (λ (x k : ℕ). parse x s level k) (sym e) (sym f)

-- ---- joining

whole_eq : (usual : ℕ) (j : Joint) (s : List ℕ) (p : ℕ)
    → parse usual s (whole_of j) p ≡ onward (parse usual s (operand_of j) p) (λ f b q. parse usual s (rest_of j f b) q)
unfolding read_level
whole_eq usual by_or s p = parse_eq usual s or_level p
whole_eq usual by_and s p = parse_eq usual s and_level p

abbrev join_of : Joint → Formula → Formula → Formula
join_of by_or f g = or f g
join_of by_and f g = and f g

rest_eq : (usual : ℕ) (j : Joint) (s : List ℕ) (f : Formula) (b p : ℕ)
    → parse usual s (rest_of j f b) p
    ≡ pick (stands s (skip s p) (sign_of j))
    (λ _. onward (parse usual s (operand_of j) (skip s (skip s p + 1))) (λ g more q. parse usual s (rest_of j (join_of j f g) (max b more)) q))
    (λ _. got f b p)
unfolding read_level joining
rest_eq usual by_or s f b p = parse_eq usual s (or_rest f b) p
rest_eq usual by_and s f b p = parse_eq usual s (and_rest f b) p

rest_on : (usual : ℕ) (j : Joint) (s : List ℕ) (f : Formula) (b p q : ℕ) → Some q ≡ place_behind s p (sign_of j)
    → parse usual s (rest_of j f b) p
    ≡ onward (parse usual s (operand_of j) (skip s q)) (λ g more r. parse usual s (rest_of j (join_of j f g) (max b more)) r)
rest_on usual j s f b p q e = let (g, k) = placed s p (sign_of j) q e in rest_eq usual j s f b p ∙ rw (g, k)

rest_off : (usual : ℕ) (j : Joint) (s : List ℕ) (f : Formula) (b p : ℕ) → None ≡ place_behind s p (sign_of j)
    → parse usual s (rest_of j f b) p ≡ got f b p
rest_off usual j s f b p e = rest_eq usual j s f b p ∙ rw (unplaced s p (sign_of j) e)

absorb_joint : (j : Joint) (room b c : ℕ) (f g : Formula) (st : State)
    → node_of j (last_node (absorb room b f st)) (absorb room b f st).is_timed (absorb room c g (absorb room b f st))
    ≡ absorb room (max b c) (join_of j f g) st
absorb_joint by_or room b c f g st = absorb_or room b c f g st
absorb_joint by_and room b c f g st = absorb_and room b c f g st

onward_bad : (o : Parsed) (go : Formula → ℕ → ℕ → Parsed) → o ≡ bad → onward o go ≡ bad
unfolding onward
onward_bad o go e = rw e

onward_got : (o : Parsed) (go : Formula → ℕ → ℕ → Parsed) (f : Formula) (b q : ℕ) → o ≡ got f b q → onward o go ≡ go f b q
unfolding onward
onward_got o go f b q e = rw e

sign_some : (j : Joint) → 1 ≤ sign_of j
sign_some by_or = omega arith
sign_some by_and = omega arith

module _ (j : Joint) where
  -- The first operand is not of the grammar.
  pub first_bad : (s : List ℕ) (at room : ℕ) (a y : List ℕ) (r : Option ℕ) → r ≡ None → Reads (parse (usual_in a) s (operand_of j) at) room a y None
      → Reads (parse (usual_in a) s (whole_of j) at) room a y r
  first_bad s at room a y r e h =
      not_read r e (whole_eq (usual_in a) j s at ∙ onward_bad (parse (usual_in a) s (operand_of j) at) _ (none_read h))

  pub joins_start : (s : List ℕ) (at room r : ℕ) (a y : List ℕ) → Reads (parse (usual_in a) s (operand_of j) at) room a y (Some r)
      → Joins j s at room r y r y
  joins_start s at room r a y (is_read g c _ e k) =
      let (l, i) = operand_ends (usual_in a) j s at g c r e in record { ahead = l; long = refl; from = λ st f b h. (f, b, refl, h) }

  -- What the whole is, once the first operand was read and some were joined to it.
  joined_whole : (s : List ℕ) (at room r : ℕ) (a y : List ℕ) (q : ℕ) (z : List ℕ) → Reads (parse (usual_in a) s (operand_of j) at) room a y (Some r)
      → Joins j s at room r y q z
      → (g : Formula) × (c : ℕ) × (parse (usual_in a) s (whole_of j) at ≡ parse (usual_in a) s (rest_of j g c) q) × (state_of z ≡ absorb room c g (state_of a))
  joined_whole s at room r a y q z (is_read f b _ e k) h =
      let (g, c, same, st) = h.from (state_of a) f b k in
      (g, c, whole_eq (usual_in a) j s at ∙ onward_got (parse (usual_in a) s (operand_of j) at) _ f b r e ∙ same, st)

  -- Nothing more is joined.
  pub joins_end : (s : List ℕ) (at room r : ℕ) (a y : List ℕ) (q : ℕ) (z : List ℕ) → Reads (parse (usual_in a) s (operand_of j) at) room a y (Some r)
      → Joins j s at room r y q z → None ≡ place_behind s q (sign_of j) → Reads (parse (usual_in a) s (whole_of j) at) room a z (Some q)
  joins_end s at room r a y q z h k e =
      let (g, c, same, st) = joined_whole s at room r a y q z h k in
      is_read g c q (same ∙ rest_off (usual_in a) j s g c q e) st

  -- The next operand is not of the grammar.
  pub joins_bad : (s : List ℕ) (at room r : ℕ) (a y : List ℕ) (q : ℕ) (u : List ℕ) (v w : ℕ) (z : List ℕ) (x : Option ℕ) → x ≡ None
      → Reads (parse (usual_in a) s (operand_of j) at) room a y (Some r) → Joins j s at room r y q u → Some v ≡ place_behind s q (sign_of j)
      → w ≡ skip s v → Reads (parse (usual_in u) s (operand_of j) w) room u z None → Reads (parse (usual_in a) s (whole_of j) at) room a z x
  joins_bad s at room r a y q u v w z x none h k e d m =
      let (g, c, same, st) = joined_whole s at room r a y q u h k in
      not_read x none (same ∙ rest_on (usual_in a) j s g c q v e
      ∙ onward_bad (parse (usual_in a) s (operand_of j) (skip s v)) _ (parse_moved s (operand_of j) (absorb_usual u room c g (state_of a) st) d ∙ none_read m))

  -- One more operand is joined.
  pub joins_more : (s : List ℕ) (at room p : ℕ) (a : List ℕ) (q : ℕ) (u : List ℕ) (v w first t after : ℕ) (x z : List ℕ)
      → Joins j s at room p a q u → Some v ≡ place_behind s q (sign_of j) → w ≡ skip s v → first ≡ last_node (state_of u)
      → t ≡ (state_of u).is_timed → Reads (parse (usual_in u) s (operand_of j) w) room u x (Some after)
      → state_of z ≡ node_of j first t (state_of x) → length z ≡ length u → Joins j s at room p a after z
  joins_more s at room p a q u v w first t after x z h e d k l (is_read i c _ o m) g len =
      let (more, inside) = place_ahead s q (sign_of j) v (sign_some j) e in
      let (l', i') = operand_ends (usual_in u) j s w i c after o in
      record {
        ahead = omega (arith, h.ahead, skip_ahead s v);
        long = len ∙ h.long;
        from = λ st f' b e'. joins_one st f' b (h.from st f' b e');
      }
    where
      joins_one : (st : State) (f' : Formula) (b : ℕ)
          → (g' : Formula) × (d' : ℕ) × (parse st.usual s (rest_of j f' b) p ≡ parse st.usual s (rest_of j g' d') q) × (state_of u ≡ absorb room d' g' st)
          → (g'' : Formula) × (d'' : ℕ) × (parse st.usual s (rest_of j f' b) p ≡ parse st.usual s (rest_of j g'' d'') after) × (state_of z ≡ absorb room d'' g'' st)
      joins_one st f' b (g', d', same, held) = (
        join_of j g' i,
        max d' c,
        same ∙ rest_on st.usual j s g' d' q v e
            ∙ onward_got (parse st.usual s (operand_of j) (skip s v)) _ i c after (parse_moved s (operand_of j) (absorb_usual u room d' g' st held) d ∙ o),
        rw (g, m, k, l, held) (absorb_joint j room d' c g' i st),
      )

constant_held : (room : ℕ) (b : Bool) (code : ℕ) (st : State) → code ≡ one_if b → st.fault ≤ 255 → leaf code 0 st ≡ absorb room 0 (constant b) st
constant_held room b code st e h = ap (λ (k : ℕ). leaf k 0 st) e ∙ absorb_constant room b st h

one_bit : 1 ≡ one_if true
unfolding one_if
one_bit = refl

no_bit : 0 ≡ one_if false
unfolding one_if
no_bit = refl

-- ---- units

unit_eq : (usual : ℕ) (s : List ℕ) (p : ℕ) → parse usual s unit_level p ≡ unit_at usual s p (parse usual s)
unfolding read_level
unit_eq usual s p = parse_eq usual s unit_level p

-- The least number of a refusal in an area is a byte.
pub byte_fault : (a : List ℕ) → ((i : ℕ) → Fits w8 (get_or a i 0)) → (state_of a).fault ≤ 255
unfolding state_of
byte_fault a h = omega (arith, h fault_at)

pub unit_open : (s : List ℕ) (at b room : ℕ) (a z : List ℕ) (r : Option ℕ) → b ≡ byte_at s at → b ≡ 40 → Reads (bracketed s at (parse (usual_in a) s)) room a z r
    → Reads (parse (usual_in a) s unit_level at) room a z r
unfolding unit_at stands
unit_open s at b room a z r e f h = reads_as (sym (unit_eq (usual_in a) s at ∙ rw (eq-eqb (byte_at s at) 40 (sym e ∙ f)))) h

pub unit_negated : (s : List ℕ) (at b room : ℕ) (a z : List ℕ) (r : Option ℕ) → b ≡ byte_at s at → b ≡ 33 → Marks r false s (at + 1) a z
    → Reads (parse (usual_in a) s unit_level at) room a z r
unfolding unit_at stands mark_token
unit_negated s at b room a z r e f h = reads_as (sym (unit_eq (usual_in a) s at ∙ rw (sym e ∙ f))) (h.reads room)

pub unit_marked : (s : List ℕ) (at b room : ℕ) (a z : List ℕ) (r : Option ℕ) → b ≡ byte_at s at → b ≡ 112 → Marks r true s at a z
    → Reads (parse (usual_in a) s unit_level at) room a z r
unfolding unit_at stands mark_token
unit_marked s at b room a z r e f h = reads_as (sym (unit_eq (usual_in a) s at ∙ rw (sym e ∙ f))) (h.reads room)

pub unit_true : (s : List ℕ) (at b room : ℕ) (a z : List ℕ) → ((i : ℕ) → Fits w8 (get_or a i 0)) → b ≡ byte_at s at → b ≡ 84
    → state_of z ≡ leaf 1 0 (state_of a) → Reads (parse (usual_in a) s unit_level at) room a z (Some (at + 1))
unfolding unit_at stands led connective connectives
unit_true s at b room a z bytes e f h =
    is_read (constant true) 0 (at + 1) (unit_eq (usual_in a) s at ∙ rw (sym e ∙ f, sym e ∙ f)) (h ∙ constant_held room true 1 (state_of a) one_bit (byte_fault a bytes))

pub unit_false : (s : List ℕ) (at b room : ℕ) (a z : List ℕ) → ((i : ℕ) → Fits w8 (get_or a i 0)) → b ≡ byte_at s at → b ≡ 70
    → state_of z ≡ leaf 0 0 (state_of a) → Reads (parse (usual_in a) s unit_level at) room a z (Some (at + 1))
unfolding unit_at stands led connective connectives
unit_false s at b room a z bytes e f h =
    is_read (constant false) 0 (at + 1) (unit_eq (usual_in a) s at ∙ rw (sym e ∙ f, sym e ∙ f)) (h ∙ constant_held room false 0 (state_of a) no_bit (byte_fault a bytes))

led_whole : (usual : ℕ) (s : List ℕ) (p : ℕ) (o : Option Connective) → (byte_at s p ≡ 84 → ⊥) → (byte_at s p ≡ 70 → ⊥) → led usual s p o (parse usual s) ≡ with_connective usual s p o
unfolding led with_connective stands
led_whole usual s p None n m = refl
led_whole usual s p (Some c) n m = rw (ne_eqb (byte_at s p) 84 n, ne_eqb (byte_at s p) 70 m)

pub unit_led : (s : List ℕ) (at b room : ℕ) (a z : List ℕ) (r : Option ℕ) → b ≡ byte_at s at → (b ≡ 40 → ⊥) → (b ≡ 33 → ⊥) → (b ≡ 112 → ⊥)
    → (b ≡ 84 → ⊥) → (b ≡ 70 → ⊥) → LetterLeads r b s at room a z → Reads (parse (usual_in a) s unit_level at) room a z r
unfolding unit_at stands led_at
unit_led s at b room a z r e n1 n2 n3 n4 n5 h =
    reads_as (sym (unit_eq (usual_in a) s at ∙ rw (
      ne_eqb (byte_at s at) 40 (λ f. n1 (e ∙ f)),
      ne_eqb (byte_at s at) 33 (λ f. n2 (e ∙ f)),
      ne_eqb (byte_at s at) 112 (λ f. n3 (e ∙ f)),
      e,
    ) (led_whole (usual_in a) s at (connective connectives (byte_at s at)) (λ f. n4 (e ∙ f)) (λ f. n5 (e ∙ f))))) h.reads

-- ---- marks

module _ (s : List ℕ) (at b : ℕ) (wanted : Bool) (a : List ℕ) (is_b : b ≡ byte_at s at) where
  pub mark_other : (b ≡ 112 → ⊥) → Marks None wanted s at a a
  unfolding mark_at stands marked_unit
  mark_other n = record { reads = λ room. not_of (rw (ne_eqb (byte_at s at) 112 (λ f. n (is_b ∙ f)))) }

  module _ (letter : b ≡ 112) where
    pub mark_unnumbered : (r : Option ℕ) → r ≡ None → None ≡ numeral_told (numeral 2 s (at + 1)) → Marks r wanted s at a a
    unfolding mark_at mark_named stands marked_unit
    mark_unnumbered r e missing =
        record { reads = λ room. not_read r e (rw (sym is_b ∙ letter, numeral_missing (numeral 2 s (at + 1)) missing)) }

    pub mark_numbered : (code : ℕ) (z : List ℕ) (n : Number) → ((i : ℕ) → Fits w8 (get_or a i 0)) → Some n ≡ numeral_told (numeral 2 s (at + 1))
        → code ≡ mark_code wanted → state_of z ≡ mark_node code n.said (state_of a) → Marks (Some n.next) wanted s at a z
    unfolding mark_at mark_named stands marked_unit mark_code
    mark_numbered code z n bytes read c held =
        record {
          reads = λ room.
              is_read (proposition wanted n.said) 0 n.next (rw (sym is_b ∙ letter, numeral_read (numeral 2 s (at + 1)) n read))
              (held ∙ ap (λ (k : ℕ). mark_node k n.said (state_of a)) c ∙ absorb_mark room n.said wanted (state_of a) (byte_fault a bytes));
        }

pub code_with : (wanted : Bool) → wanted ≡ true → 3 ≡ mark_code wanted
unfolding mark_code
code_with wanted e = rw e

pub code_without : (wanted : Bool) → wanted ≡ false → 2 ≡ mark_code wanted
unfolding mark_code
code_without wanted e = rw e

-- ---- brackets

module _ (s : List ℕ) (at room inner k : ℕ) (a y z : List ℕ) (opened : Opens inner room a y) (behind : k ≡ skip s (at + 1)) where
  pub bracketed_bad : (r : Option ℕ) → r ≡ None → Reads (parse (usual_in y) s or_level k) inner y z None
      → Reads (bracketed s at (parse (usual_in a) s)) room a z r
  unfolding bracketed
  bracketed_bad r e h =
      not_read r e (onward_bad (parse (usual_in a) s or_level (skip s (at + 1))) _ (parse_moved s or_level (opens_usual opened) behind ∙ none_read h))

  pub bracketed_read : ((i : ℕ) → Fits w8 (get_or a i 0)) → (q : ℕ) → Reads (parse (usual_in y) s or_level k) inner y z (Some q)
      → (r : Option ℕ) → r ≡ place_behind s q 41 → Reads (bracketed s at (parse (usual_in a) s)) room a z r
  unfolding bracketed
  bracketed_read bytes q (is_read f b _ g h) None d =
      not_of (onward_got (parse (usual_in a) s or_level (skip s (at + 1))) _ f b q (parse_moved s or_level (opens_usual opened) behind ∙ g) ∙ behind_off s q 41 _ d)
  bracketed_read bytes q (is_read f b _ g h) (Some w) d =
      is_read f (suc b) w
      (onward_got (parse (usual_in a) s or_level (skip s (at + 1))) _ f b q (parse_moved s or_level (opens_usual opened) behind ∙ g) ∙ behind_on s q 41 w _ d)
      (rw (h, opened.state, opened.inner) (absorb_open room b f (state_of a) (byte_fault a bytes)))

-- ---- `N`, `A` and `E`

pub one_bad : (s : List ℕ) (at code amount room k : ℕ) (a z : List ℕ) (r : Option ℕ) → r ≡ None → k ≡ skip s at
    → Reads (parse (usual_in a) s unit_level k) room a z None → ReadsOne (parse (usual_in a) s unit_level (skip s at)) code amount room a z r
one_bad s at code amount room k a z r none e h = rw none (not_one (ap (parse (usual_in a) s unit_level) (sym e) ∙ none_read h))

pub one_put : (s : List ℕ) (at code amount room k r : ℕ) (a y z : List ℕ) → k ≡ skip s at → Reads (parse (usual_in a) s unit_level k) room a y (Some r)
    → state_of z ≡ bounded_node code amount 0 (state_of y) → ReadsOne (parse (usual_in a) s unit_level (skip s at)) code amount room a z (Some r)
one_put s at code amount room k r a y z e (is_read f b _ g d) h =
    one_read f b r (ap (parse (usual_in a) s unit_level) (sym e) ∙ g) (h ∙ ap (bounded_node code amount 0) d)

module _ (s : List ℕ) (at amount room k : ℕ) (a y : List ℕ) (t : state_of y ≡ leaf 1 0 (state_of a)) (e : k ≡ skip s at) where
  pub within_bad : (z : List ℕ) (r : Option ℕ) → r ≡ None → Reads (parse (usual_in y) s unit_level k) room y z None
      → Reads (within_at (usual_in a) s at amount) room a z r
  unfolding within_at
  within_bad z r none h =
      not_read r none (onward_bad (parse (usual_in a) s unit_level (skip s at)) _ (parse_moved s unit_level (leaf_usual a y 1 0 t) e ∙ none_read h))

  pub within_read : (r first : ℕ) (u z : List ℕ) → ((i : ℕ) → Fits w8 (get_or a i 0)) → first ≡ last_node (state_of y)
      → Reads (parse (usual_in y) s unit_level k) room y u (Some r) → state_of z ≡ until_node amount first (state_of u)
      → Reads (within_at (usual_in a) s at amount) room a z (Some r)
  unfolding within_at within
  within_read r first u z bytes l (is_read f b _ g d) h =
      let held : state_of y ≡ absorb room 0 (constant true) (state_of a) = t ∙ constant_held room true 1 (state_of a) one_bit (byte_fault a bytes) in
      is_read (until (ticks amount) (constant true) f) b r
      (onward_got (parse (usual_in a) s unit_level (skip s at)) _ f b r (parse_moved s unit_level (leaf_usual a y 1 0 t) e ∙ g))
      (rw (h, d, l, held)
      (absorb_until room 0 b amount (constant true) f (state_of a)
      ∙ ap (λ (m : ℕ). absorb room m (until (ticks amount) (constant true) f) (state_of a)) (zero-max b)))

-- ---- `U`

pub two_unopened : (s : List ℕ) (at amount room : ℕ) (a : List ℕ) (r : Option ℕ) → r ≡ None → None ≡ place_behind s at 40
    → Reads (until_at (usual_in a) s at amount) room a a r
unfolding until_at two_parts
two_unopened s at amount room a r none e = not_read r none (behind_off s at 40 _ e)

module _ (usual : ℕ) (s : List ℕ) (at amount p k : ℕ) (e : Some p ≡ place_behind s at 40) (d : k ≡ skip s p) where
  two_first : until_at usual s at amount
      ≡ onward (parse usual s or_level k) (λ f b r.
      behind s r 44 (λ u. onward (parse usual s or_level (skip s u)) (λ g c v. behind s v 41 (λ w. got (until (ticks amount) f g) (suc (max b c)) w))))
  unfolding until_at two_parts
  two_first = behind_on s at 40 p _ e ∙ rw d

  two_second : (r b : ℕ) (i : Formula) → parse usual s or_level k ≡ got i b r → until_at usual s at amount ≡ second_at usual s r amount i b
  unfolding second_at
  two_second r b i m = two_first ∙ onward_got (parse usual s or_level k) _ i b r m

pub two_bad : (s : List ℕ) (at amount room p k inner : ℕ) (a y z : List ℕ) (r : Option ℕ) → r ≡ None → Some p ≡ place_behind s at 40
    → Opens inner room a y → k ≡ skip s p → Reads (parse (usual_in y) s or_level k) inner y z None → Reads (until_at (usual_in a) s at amount) room a z r
two_bad s at amount room p k inner a y z r none e op d h =
    not_read r none (two_first (usual_in a) s at amount p k e d ∙ onward_bad (parse (usual_in a) s or_level k) _ (parse_moved s or_level {p = k} (opens_usual op) refl ∙ none_read h))

pub two_read : (s : List ℕ) (at amount room p k inner r : ℕ) (a y x z : List ℕ) (w : Option ℕ) → ((i : ℕ) → Fits w8 (get_or a i 0))
    → Some p ≡ place_behind s at 40 → Opens inner room a y → k ≡ skip s p → Reads (parse (usual_in y) s or_level k) inner y x (Some r)
    → Seconds w s r amount inner x z → Reads (until_at (usual_in a) s at amount) room a z w
two_read s at amount room p k inner r a y x z w bytes e op d (is_read i b _ m o) h =
    finish (h.from (state_of y) i b o)
  where
    whole : until_at (usual_in a) s at amount ≡ second_at (usual_in y) s r amount i b
    whole = ap (λ (x : ℕ). until_at x s at amount) (sym (opens_usual op)) ∙ two_second (usual_in y) s at amount p k e d r b i m

    finish : {w : Option ℕ} → Ended (second_at (usual_in y) s r amount i b) inner (state_of y) z w → Reads (until_at (usual_in a) s at amount) room a z w
    finish (not_ended g) = not_of (whole ∙ g)
    finish (is_ended g c q f u) =
        is_read g (suc c) q (whole ∙ f)
        (rw (u, op.state, op.inner) (absorb_open room c g (state_of a) (byte_fault a bytes)))

-- An answer of nothing.
not_second : {x : Parsed} {room : ℕ} {st : State} {z : List ℕ} (r : Option ℕ) → r ≡ None → x ≡ bad → Ended x room st z r
not_second r e f = rw e (not_ended f)

pub second_undivided : (s : List ℕ) (at amount room : ℕ) (a : List ℕ) (r : Option ℕ) → r ≡ None → None ≡ place_behind s at 44
    → Seconds r s at amount room a a
unfolding second_at
second_undivided s at amount room a r none e = record { from = λ st i b h. not_second r none (behind_off s at 44 _ e) }

module _ (s : List ℕ) (at amount u l : ℕ) (e : Some u ≡ place_behind s at 44) (d : l ≡ skip s u) where
  second_eq : (usual b : ℕ) (i : Formula)
      → second_at usual s at amount i b ≡ onward (parse usual s or_level l) (λ g c v. behind s v 41 (λ w. got (until (ticks amount) i g) (suc (max b c)) w))
  unfolding second_at
  second_eq usual b i = behind_on s at 44 u _ e ∙ rw d

  module _ (room : ℕ) (a : List ℕ) where
    pub second_bad : (z : List ℕ) (r : Option ℕ) → r ≡ None → Reads (parse (usual_in a) s or_level l) room a z None → Seconds r s at amount room a z
    second_bad z r none h =
        record {
          from = λ st i b k.
              not_second r none (second_eq st.usual b i
              ∙ onward_bad (parse st.usual s or_level l) _ (parse_moved s or_level {p = l} (absorb_usual a room b i st k) refl ∙ none_read h));
        }

    module _ (v : ℕ) where
      pub second_unclosed : (z : List ℕ) (r : Option ℕ) → r ≡ None → Reads (parse (usual_in a) s or_level l) room a z (Some v)
          → None ≡ place_behind s v 41 → Seconds r s at amount room a z
      second_unclosed z r none (is_read i' b' _ m o) g =
          record {
            from = λ st i b k.
                not_second r none (second_eq st.usual b i
                ∙ onward_got (parse st.usual s or_level l) _ i' b' v (parse_moved s or_level {p = l} (absorb_usual a room b i st k) refl ∙ m) ∙ behind_off s v 41 _ g);
          }

      pub second_read : (w first : ℕ) (x z : List ℕ) → first ≡ last_node (state_of a) → Reads (parse (usual_in a) s or_level l) room a x (Some v)
          → Some w ≡ place_behind s v 41 → state_of z ≡ until_node amount first (state_of x) → Seconds (Some w) s at amount room a z
      second_read w first x z la (is_read i' b' _ m o) g held =
          record {
            from = λ st i b k.
                is_ended (until (ticks amount) i i') (max b b') w
                (second_eq st.usual b i
                ∙ onward_got (parse st.usual s or_level l) _ i' b' v (parse_moved s or_level {p = l} (absorb_usual a room b i st k) refl ∙ m) ∙ behind_on s v 41 w _ g)
                (rw (held, o, la, k) (absorb_until room b b' amount i i' st));
          }

-- ---- what a connective leads

led_by : (o : Option Connective) (c : Row) → Some c ≡ led_told o → (k : Connective) × (o ≡ Some k) × (c ≡ row_told k)
unfolding led_told
led_by None c e = let z : ◌≡◌ {A = ℕ} 0 1 = cc in absurd (omega arith)
led_by (Some k) c e = (k, refl, let z : c ≡ row_told k = cc in z)

led_none : (o : Option Connective) → None ≡ led_told o → o ≡ None
unfolding led_told
led_none None e = refl
led_none (Some k) e = cc

-- The connective that is found has the letter, and passes every test that the whole table passes.
connective_by : (test : Connective → Bool) (rows : List Connective) (b : ℕ) (k : Connective) → every test rows ≡ true → connective rows b ≡ Some k
    → (k.letter ≡ b) × (test k ≡ true)
unfolding connective every
connective_by test [] b k all e = let z : ◌≡◌ {A = ℕ} 0 1 = cc in absurd (omega arith)
connective_by test (c ∷ rows) b k all e =
    split (λ f. connective_by test rows b k (and_right (test c) (every test rows) all) f) (eqb c.letter b) refl
  where
    split : (connective rows b ≡ Some k → (k.letter ≡ b) × (test k ≡ true)) → (t : Bool) → eqb c.letter b ≡ t → (k.letter ≡ b) × (test k ≡ true)
    split ih true g =
        let h : Some c ≡ Some k = rw g at e in
        let i : c ≡ k = cc in
        let pair : (c.letter ≡ b) × (test c ≡ true) = (eqb-true c.letter b g, and_left (test c) (every test rows) all) in
        rw i at pair
    split ih false g = ih (rw g at e)

-- A connective of one part is `N`, `A` or `E`.
one_row : Connective → Bool
one_row k = not (eqb k.parts 1) || (eqb k.letter 78 || (eqb k.letter 65 || eqb k.letter 69))

one_rows : every one_row connectives ≡ true
unfolding every connectives one_row
one_rows = refl

bound_by_told : (usual : ℕ) (k : Bound) (s : List ℕ) (p : ℕ) → bound_by usual (bound_kind k) s p ≡ bound_told (bound_at usual k s p)
unfolding bound_by bound_kind bound_told bound_at
bound_by_told usual no_bound s p = refl
bound_by_told usual compared s p = refl
bound_by_told usual optional s p = refl

bound_missing : (o : Option BoundRead) → None ≡ bound_told o → o ≡ None
unfolding bound_told
bound_missing None e = refl
bound_missing (Some b) e = cc

bound_read : (o : Option BoundRead) (r : Bounded) → Some r ≡ bound_told o
    → (b : BoundRead) × (o ≡ Some b) × (comparison_code b.comparison ≡ r.code) × (b.amount.0 ≡ r.amount) × (b.next ≡ r.next)
unfolding bound_told
bound_read None r e = let z : ◌≡◌ {A = ℕ} 0 1 = cc in absurd (omega arith)
bound_read (Some b) r e =
    let same : r ≡ record { code = comparison_code b.comparison; amount = b.amount.0; next = b.next } = cc in
    (b, refl, sym (ap (λ (r : Bounded). r.code) same), sym (ap (λ (r : Bounded). r.amount) same), sym (ap (λ (r : Bounded). r.next) same))

pub led_nothing : (s : List ℕ) (at b room : ℕ) (a : List ℕ) (r : Option ℕ) → r ≡ None → None ≡ led_told (connective connectives b)
    → LetterLeads r b s at room a a
unfolding led_at with_connective
led_nothing s at b room a r none e = record { reads = not_read r none (rw (led_none (connective connectives b) e)) }

pub led_unbounded : (usual : ℕ) (s : List ℕ) (at b room : ℕ) (a : List ℕ) (c : Row) (r : Option ℕ) → r ≡ None
    → Some c ≡ led_told (connective connectives b) → usual ≡ usual_in a → None ≡ bound_by usual c.bound s (at + 1) → LetterLeads r b s at room a a
unfolding led_at with_connective with_bound row_told
led_unbounded usual s at b room a c r none e same g =
    let (k, found, told) = led_by (connective connectives b) c e in
    record { reads = not_read r none (unbound k found (ap (λ (x : Row). x.bound) told)) }
  where
    unbound : (k : Connective) → connective connectives b ≡ Some k → c.bound ≡ bound_kind k.bound → with_connective (usual_in a) s at (connective connectives b) ≡ bad
    unbound k found kind =
        rw (
          found,
          bound_missing (bound_at (usual_in a) k.bound s (at + 1))
              (g ∙ ap₂ (λ (u : ℕ) (x : BoundKind). bound_by u x s (at + 1)) same kind ∙ bound_by_told (usual_in a) k.bound s (at + 1)),
        )

-- The connective and the bound that were read.
record LedBy (usual : ℕ) (s : List ℕ) (at b : ℕ) (parts code amount end : ℕ) : Type 0 where
  row : Connective
  bound : BoundRead
  letter : row.letter ≡ b
  one : one_row row ≡ true
  count : row.parts ≡ parts
  compares : comparison_code bound.comparison ≡ code
  says : bound.amount.0 ≡ amount
  ends : bound.next ≡ end
  found : connective connectives b ≡ Some row
  held : bound_at usual row.bound s (at + 1) ≡ Some bound

led_bounded : (usual : ℕ) (s : List ℕ) (at b : ℕ) (c : Row) (bd : Bounded) → Some c ≡ led_told (connective connectives b)
    → Some bd ≡ bound_by usual c.bound s (at + 1) → LedBy usual s at b c.parts bd.code bd.amount bd.next
unfolding row_told
led_bounded usual s at b c bd e g =
    let (k, found, told) = led_by (connective connectives b) c e in
    build k found (ap (λ (x : Row). x.parts) told) (ap (λ (x : Row). x.bound) told)
  where
    build : (k : Connective) → connective connectives b ≡ Some k → c.parts ≡ k.parts → c.bound ≡ bound_kind k.bound
        → LedBy usual s at b c.parts bd.code bd.amount bd.next
    build k found parts kind =
        let (bound, held, compares, says, ends) =
        bound_read (bound_at usual k.bound s (at + 1)) bd
        (g ∙ ap (λ (x : BoundKind). bound_by usual x s (at + 1)) kind ∙ bound_by_told usual k.bound s (at + 1)) in
        let (letter, one) = connective_by one_row connectives b k one_rows found in
        record {
          row = k;
          bound = bound;
          letter = letter;
          one = one;
          count = sym parts;
          compares = compares;
          says = says;
          ends = ends;
          found = found;
          held = held;
        }

led_whole_by : (usual : ℕ) (s : List ℕ) (at b parts code amount end : ℕ) (h : LedBy usual s at b parts code amount end)
    → led_at usual s at b ≡ with_bound s h.row (Some h.bound) (parse usual s)
unfolding led_at with_connective
led_whole_by usual s at b parts code amount end h = rw (h.found, h.held)

same_ticks : (t : Tick) (n : ℕ) → t.0 ≡ n → t ≡ ticks n
same_ticks t n e = ap (λ (k : ℕ). ticks k) e

two_whole : (usual : ℕ) (s : List ℕ) (at b parts code amount end : ℕ) (h : LedBy usual s at b parts code amount end) → (parts ≡ 1 → ⊥)
    → with_bound s h.row (Some h.bound) (parse usual s) ≡ until_at usual s end amount
unfolding with_bound until_at formula_two
two_whole usual s at b parts code amount end h n =
    let m : eqb h.row.parts 1 ≡ false = ne_eqb h.row.parts 1 (λ e. n (sym h.count ∙ e)) in
    let t : h.bound.amount ≡ ticks amount = same_ticks h.bound.amount amount h.says in
    rw (m, h.ends, t)

within_whole : (usual : ℕ) (s : List ℕ) (at b parts code amount end : ℕ) (h : LedBy usual s at b parts code amount end) → parts ≡ 1 → b ≡ 69
    → with_bound s h.row (Some h.bound) (parse usual s) ≡ within_at usual s end amount
unfolding with_bound within_at formula_one
within_whole usual s at b parts code amount end h n l =
    let m : eqb h.row.parts 1 ≡ true = eq-eqb h.row.parts 1 (h.count ∙ n) in
    let t : h.bound.amount ≡ ticks amount = same_ticks h.bound.amount amount h.says in
    rw (m, h.ends, h.letter ∙ l, t)

one_always : (b code amount room d : ℕ) (bound : BoundRead) (g : Formula) (st : State) → b ≡ 65 → bound.amount.0 ≡ amount
    → bounded_node (one_code b code) amount 0 (absorb room d g st) ≡ absorb room d (formula_one b bound g) st
unfolding one_code formula_one
one_always b code amount room d bound g st e f =
    rw (e, same_ticks bound.amount amount f) (absorb_always room d amount g st)

one_next : (b code amount room d : ℕ) (bound : BoundRead) (g : Formula) (st : State) → b ≡ 78 → bound.amount.0 ≡ amount
    → comparison_code bound.comparison ≡ code
    → bounded_node (one_code b code) amount 0 (absorb room d g st) ≡ absorb room d (formula_one b bound g) st
unfolding one_code formula_one
one_next b code amount room d bound g st e f c =
    rw (e, same_ticks bound.amount amount f, ← c) (absorb_next room d amount bound.comparison g st)

one_node : (usual : ℕ) (s : List ℕ) (at b parts code amount end : ℕ) (h : LedBy usual s at b parts code amount end) → parts ≡ 1 → (b ≡ 69 → ⊥)
    → (room d : ℕ) (g : Formula) (st : State)
    → bounded_node (one_code b code) amount 0 (absorb room d g st) ≡ absorb room d (formula_one h.row.letter h.bound g) st
unfolding one_row
one_node usual s at b parts code amount end h n l room d g st =
    rw h.letter (split (or_cases (not (eqb h.row.parts 1)) (eqb h.row.letter 78 || (eqb h.row.letter 65 || eqb h.row.letter 69)) h.one))
  where
    goal : Type 0
    goal = bounded_node (one_code b code) amount 0 (absorb room d g st) ≡ absorb room d (formula_one b h.bound g) st

    last : (eqb h.row.letter 65 ≡ true) ⊎ (eqb h.row.letter 69 ≡ true) → goal
    last (inl e) = one_always b code amount room d h.bound g st (sym h.letter ∙ eqb-true h.row.letter 65 e) h.says
    last (inr e) = absurd (l (sym h.letter ∙ eqb-true h.row.letter 69 e))

    middle : (eqb h.row.letter 78 ≡ true) ⊎ ((eqb h.row.letter 65 || eqb h.row.letter 69) ≡ true) → goal
    middle (inl e) = one_next b code amount room d h.bound g st (sym h.letter ∙ eqb-true h.row.letter 78 e) h.says h.compares
    middle (inr e) = last (or_cases (eqb h.row.letter 65) (eqb h.row.letter 69) e)

    split : (not (eqb h.row.parts 1) ≡ true) ⊎ ((eqb h.row.letter 78 || (eqb h.row.letter 65 || eqb h.row.letter 69)) ≡ true) → goal
    split (inl e) = absurd (eqb-false h.row.parts 1 (not-true (eqb h.row.parts 1) e) (h.count ∙ n))
    split (inr e) = middle (or_cases (eqb h.row.letter 78) (eqb h.row.letter 65 || eqb h.row.letter 69) e)

one_whole : (usual : ℕ) (s : List ℕ) (at b parts code amount end room made : ℕ) (a z : List ℕ) {r : Option ℕ} (h : LedBy usual s at b parts code amount end)
    → parts ≡ 1 → (b ≡ 69 → ⊥) → made ≡ one_code b code → ReadsOne (parse usual s unit_level (skip s end)) made amount room a z r
    → Reads (with_bound s h.row (Some h.bound) (parse usual s)) room a z r
unfolding with_bound
one_whole usual s at b parts code amount end room made a z h n l m (not_one e) =
    not_of (rw (eq-eqb h.row.parts 1 (h.count ∙ n), h.ends) (onward_bad (parse usual s unit_level (skip s end)) _ e))
one_whole usual s at b parts code amount end room made a z h n l m (one_read g d q e f) =
    let same = one_node usual s at b parts code amount end h n l room d g (state_of a) in
    is_read (formula_one h.row.letter h.bound g) d q
    (rw (eq-eqb h.row.parts 1 (h.count ∙ n), h.ends) (onward_got (parse usual s unit_level (skip s end)) _ g d q e))
    (f ∙ ap (λ (x : ℕ). bounded_node x amount 0 (absorb room d g (state_of a))) m ∙ same)

module _ (usual : ℕ) (s : List ℕ) (at b room : ℕ) (c : Row) (bd : Bounded) (a z : List ℕ) (r : Option ℕ)
    (e : Some c ≡ led_told (connective connectives b)) (same : usual ≡ usual_in a) (g : Some bd ≡ bound_by usual c.bound s (at + 1)) where
  led_here : LedBy (usual_in a) s at b c.parts bd.code bd.amount bd.next
  led_here = led_bounded (usual_in a) s at b c bd e (g ∙ ap (λ (u : ℕ). bound_by u c.bound s (at + 1)) same)

  led_all : led_at (usual_in a) s at b ≡ with_bound s led_here.row (Some led_here.bound) (parse (usual_in a) s)
  led_all = led_whole_by (usual_in a) s at b c.parts bd.code bd.amount bd.next led_here

  pub led_two : (c.parts ≡ 1 → ⊥) → Reads (until_at (usual_in a) s bd.next bd.amount) room a z r → LetterLeads r b s at room a z
  led_two n k = record { reads = reads_as (sym (led_all ∙ two_whole (usual_in a) s at b c.parts bd.code bd.amount bd.next led_here n)) k }

  pub led_within : c.parts ≡ 1 → b ≡ 69 → Reads (within_at (usual_in a) s bd.next bd.amount) room a z r → LetterLeads r b s at room a z
  led_within n l k = record { reads = reads_as (sym (led_all ∙ within_whole (usual_in a) s at b c.parts bd.code bd.amount bd.next led_here n l)) k }

  pub led_one : (made : ℕ) → c.parts ≡ 1 → (b ≡ 69 → ⊥) → made ≡ one_code b bd.code
      → ReadsOne (parse (usual_in a) s unit_level (skip s bd.next)) made bd.amount room a z r → LetterLeads r b s at room a z
  led_one made n l m k =
      record { reads = reads_as (sym led_all) (one_whole (usual_in a) s at b c.parts bd.code bd.amount bd.next room made a z led_here n l m k) }

-- The letter of a connective stands inside the text, and its bound ends behind it.
pub led_inside : (s : List ℕ) (at b : ℕ) (c : Row) → Some c ≡ led_told (connective connectives b) → b ≡ byte_at s at → at < length s
led_inside s at b c e g =
    let (k, found, told) = led_by (connective connectives b) c e in byte_inside s at (omega (arith, lettered b k found))

led_ahead : (usual : ℕ) (s : List ℕ) (at b : ℕ) (c : Row) (bd : Bounded) → Some c ≡ led_told (connective connectives b)
    → b ≡ byte_at s at → Some bd ≡ bound_by usual c.bound s (at + 1) → (at < bd.next) × (at < length s)
led_ahead usual s at b c bd e i g =
    let by = led_bounded usual s at b c bd e g in
    let inside = led_inside s at b c e i in
    let past = bound_end usual by.row.bound s (at + 1) by.bound by.held in
    (omega (arith, by.ends), inside)

-- ---- the calls fall

abbrev level_of : Joint → ℕ
level_of by_or = 9
level_of by_and = 8

module _ (j : Joint) where
  -- The next operand stands further on.
  pub less_joined : (s : List ℕ) (at room r : ℕ) (y : List ℕ) (q : ℕ) (u : List ℕ) (v w t : ℕ) → w ≡ skip s v
      → Some v ≡ place_behind s q (sign_of j) → Joins j s at room r y q u → left_at s (level_of j) at ≡ t → left_at s (level_of j - 1) w < t
  less_joined s at room r y q u v w t d e k g =
      let (l, inside) = place_ahead s q (sign_of j) v (sign_some j) e in omega (arith, k.ahead, skip_ahead s v)

  -- Each turn of the loop goes on behind the last.
  pub less_turn : (s : List ℕ) (room q : ℕ) (u : List ℕ) (v w after : ℕ) (x : List ℕ) → Some v ≡ place_behind s q (sign_of j)
      → w ≡ skip s v → Reads (parse (usual_in u) s (operand_of j) w) room u x (Some after) → length s - after < length s - q
  less_turn s room q u v w after x e d (is_read i c _ m o) =
      let (l, inside) = operand_ends (usual_in u) j s w i c after m in
      let (l', inside') = place_ahead s q (sign_of j) v (sign_some j) e in
      omega (arith, skip_ahead s v)

pub less_bracket : (s : List ℕ) (at k t : ℕ) → at < length s → k ≡ skip s (at + 1) → left_at s 1 at ≡ t → left_at s 9 k < t
less_bracket s at k t lt e f = omega (arith, skip_ahead s (at + 1))

pub less_led : (usual : ℕ) (s : List ℕ) (at b t : ℕ) (c : Row) (bd : Bounded) → Some c ≡ led_told (connective connectives b)
    → b ≡ byte_at s at → Some bd ≡ bound_by usual c.bound s (at + 1) → left_at s 5 at ≡ t → left_at s 8 bd.next < t
less_led usual s at b t c bd e i g k = let (l, inside) = led_ahead usual s at b c bd e i g in omega arith

pub less_part : (s : List ℕ) (at k t : ℕ) → k ≡ skip s at → left_at s 8 at ≡ t → left_at s 7 k < t
less_part s at k t e f = omega (arith, skip_ahead s at)

pub less_first : (s : List ℕ) (at p k t : ℕ) → Some p ≡ place_behind s at 40 → k ≡ skip s p → left_at s 8 at ≡ t → left_at s 9 k < t
less_first s at p k t e d g = let (l, inside) = place_ahead s at 40 p (omega arith) e in omega (arith, skip_ahead s p)

pub less_rest : (s : List ℕ) (at p k inner r t : ℕ) (y x : List ℕ) → Some p ≡ place_behind s at 40 → k ≡ skip s p
    → Reads (parse (usual_in y) s or_level k) inner y x (Some r) → left_at s 8 at ≡ t → left_at s 8 r < t
less_rest s at p k inner r t y x e d (is_read i' b _ m o) i =
    let (l1, in1) = place_ahead s at 40 p (omega arith) e in
    let (l2, in2) = or_ends (usual_in y) s k i' b r m in
    omega (arith, skip_ahead s p)

pub less_second : (s : List ℕ) (at u l t : ℕ) → Some u ≡ place_behind s at 44 → l ≡ skip s u → left_at s 8 at ≡ t → left_at s 9 l < t
less_second s at u l t e d g = let (m, inside) = place_ahead s at 44 u (omega arith) e in omega (arith, skip_ahead s u)

pub formula_read : (s : List ℕ) (at : ℕ) (a z : List ℕ) (r : Option ℕ) → Reads (parse (usual_in a) s or_level at) 16 a z r
    → Reads (formula_at (usual_in a) s at) 16 a z r
unfolding parse formula_at
formula_read s at a z r h = h

pub code_always : (b code : ℕ) → b ≡ 65 → 11 ≡ one_code b code
unfolding one_code
code_always b code e = rw e

pub code_other : (b code : ℕ) → (b ≡ 65 → ⊥) → code ≡ one_code b code
unfolding one_code
code_other b code n = rw (ne_eqb b 65 n)

pub led_fits : (s : List ℕ) (at b : ℕ) (c : Row) → Some c ≡ led_told (connective connectives b) → b ≡ byte_at s at
    → length s < 18446744073709551616 → Fits w64 (at + 1)
led_fits s at b c e g l = omega (arith, led_inside s at b c e g)
