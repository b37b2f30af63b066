-- What the positions of a run show, as it is noted: the marks of a state by the two bytes of its mask, and the length of a step.
use Prim.Native.Nat.{ℕ, zero, suc, ◌+◌, ◌-◌, ◌*◌, ◌/◌, ◌%◌, ◌≤◌, ◌<◌}
use native.Mathlib.Omega.{arith}
use native.Mathlib.Decide.{ℕ_discrete}
use mathlib.Core.Path.{◌≡◌, refl, sym, ap, ◌∙◌}
use mathlib.Core.Bool.{Bool, beq}
use mathlib.Core.Logic.{inl, inr}
use mathlib.Core.List.{List}
use lib.ListN.{length, set, get_or, length-set}
use lib.Seq.{get_or-set_same, get_or-set_other}
use lib.Dec.{eqb}
use mir.Syntax.{w8, w64}
use mir.Val.{Fits}
use Rattle.base.specs.Bytes.{byte_at}
use Rattle.logic.specs.Time.{ticks}
use Rattle.logic.specs.Tower.{tower_of, length_of, layout_of, mask_of, bit}
use Rattle.logic.specs.declared.Tick.{Tick}
use Rattle.book_progression.specs.NodeBytes.{code_of, number_of}
use Rattle.book_progression.proofs.Holding.{holds_constant, holds_mark}
use Rattle.why_judging.specs.Judgement.{marks_size, state_in, mask_in, length_in, with_moment, RunHeld, MomentMarked, RunMarked, MarkShown, KeptHere}
use Rattle.why_judging.proofs.Rests.{step_is}
use Rattle.why_judging.proofs.Parts.{leaf_kept}

-- ---- one position

module _ (tower run states : List ℕ) (i : ℕ) where
  -- The bytes are written one after the other.
  pub moment_noted : (marks : List ℕ) (x mask : ℕ) (d : Tick) → x ≡ state_in states i → mask ≡ mask_of tower x
      → d ≡ (tower_of tower).step_length x (byte_at run i)
      → set (set (set marks i (mask % 256)) (1000 + i) (mask / 256 % 256)) (2000 + i) d.0 ≡ with_moment tower run states i marks
  unfolding with_moment
  moment_noted marks x mask d is_x is_mask is_d =
      let here : mask ≡ mask_in tower states i = is_mask ∙ ap (mask_of tower) is_x in
      rw (here, step_is tower run states i d x is_x is_d)

  -- The length is one byte.
  pub length_byte : (x : ℕ) (d : Tick) → d ≡ (tower_of tower).step_length x (byte_at run i) → ((j : ℕ) → Fits w8 (get_or tower j 0)) → Fits w8 d.0
  unfolding tower_of length_of
  length_byte x d e bytes = omega (arith, bytes ((layout_of tower).header + 2 * byte_at run i), ap (λ (t : Tick). t.0) e)

  -- Each byte is one of the area's.
  pub byte_inside : (n p : ℕ) (marks written : List ℕ) → length written ≡ length marks → RunHeld tower run states n → i < n
      → marks_size ≤ length marks → p ≤ 2000 → p + i < length written
  byte_inside n p marks written same held l room most = omega (arith, held.few)

  module _ (marks : List ℕ) (room : marks_size ≤ length marks) (low : i < 1000) where
    long : length (with_moment tower run states i marks) ≡ length marks
    unfolding with_moment
    long =
        length-set (set (set marks i (mask_in tower states i % 256)) (1000 + i) (mask_in tower states i / 256 % 256)) (2000 + i) (length_in tower run states i).0
        ∙ length-set (set marks i (mask_in tower states i % 256)) (1000 + i) (mask_in tower states i / 256 % 256)
        ∙ length-set marks i (mask_in tower states i % 256)

    -- what is written
    there : MomentMarked tower run states (with_moment tower run states i marks) i
    unfolding with_moment
    there =
        record {
          low = get_or-set_other second (2000 + i) i (length_in tower run states i).0 0 (λ e. omega arith)
              ∙ get_or-set_other first (1000 + i) i (mask_in tower states i / 256 % 256) 0 (λ e. omega arith)
              ∙ get_or-set_same marks i (mask_in tower states i % 256) 0 (omega arith);
          high = get_or-set_other second (2000 + i) (1000 + i) (length_in tower run states i).0 0 (λ e. omega arith)
              ∙ get_or-set_same first (1000 + i) (mask_in tower states i / 256 % 256) 0 (omega (arith, one));
          step = ap (λ n. ticks n) (get_or-set_same second (2000 + i) (length_in tower run states i).0 0 (omega (arith, one, two)));
        }
      where
        first : List ℕ
        first = set marks i (mask_in tower states i % 256)

        second : List ℕ
        second = set first (1000 + i) (mask_in tower states i / 256 % 256)

        one : length first ≡ length marks
        one = length-set marks i (mask_in tower states i % 256)

        two : length second ≡ length first
        two = length-set first (1000 + i) (mask_in tower states i / 256 % 256)

    -- every other byte
    beside : (p : ℕ) → (p ≡ i → ⊥) → (p ≡ 1000 + i → ⊥) → (p ≡ 2000 + i → ⊥) → byte_at (with_moment tower run states i marks) p ≡ byte_at marks p
    unfolding with_moment
    beside p a b c =
        get_or-set_other (set (set marks i (mask_in tower states i % 256)) (1000 + i) (mask_in tower states i / 256 % 256)) (2000 + i) p (length_in tower run states i).0 0 c
        ∙ get_or-set_other (set marks i (mask_in tower states i % 256)) (1000 + i) p (mask_in tower states i / 256 % 256) 0 b
        ∙ get_or-set_other marks i p (mask_in tower states i % 256) 0 a

    -- so what another position shows is as it was
    still : (j : ℕ) → j < 1000 → (j ≡ i → ⊥) → MomentMarked tower run states marks j
        → MomentMarked tower run states (with_moment tower run states i marks) j
    still j inside other was =
        record {
          low = beside j (λ e. other e) (λ e. omega arith) (λ e. omega arith) ∙ was.low;
          high = beside (1000 + j) (λ e. omega arith) (λ e. omega (arith, other)) (λ e. omega arith) ∙ was.high;
          step = ap (λ n. ticks n) (beside (2000 + j) (λ e. omega arith) (λ e. omega arith) (λ e. omega (arith, other))) ∙ was.step;
        }

-- ---- all positions

-- The positions below i are noted.
pub record Marking (tower run states : List ℕ) (n : ℕ) (first : List ℕ) (i : ℕ) (marks : List ℕ) : Type 0 where
  pub inside : i ≤ n
  pub long : length marks ≡ length first
  pub room : marks_size ≤ length marks
  pub at : (j : ℕ) → j < i → MomentMarked tower run states marks j

module _ (tower run states : List ℕ) (n : ℕ) where
  pub marking_first : (marks : List ℕ) → marks_size ≤ length marks → Marking tower run states n marks 0 marks
  marking_first marks room = record { inside = omega arith; long = refl; room = room; at = λ j l. absurd (omega arith) }

  module _ (first : List ℕ) (i : ℕ) (marks : List ℕ) (going : Marking tower run states n first i marks) where
    pub marking_next : (after : List ℕ) → after ≡ with_moment tower run states i marks → RunHeld tower run states n → i < n
        → Marking tower run states n first (i + 1) after
    marking_next after e held l =
        let few : i < 1000 = omega (arith, held.few) in
        let same = long tower run states i marks going.room few in
        rw e (record {
          inside = omega arith;
          long = same ∙ going.long;
          room = omega (arith, same, going.room);
          at = λ j m. elim (ℕ_discrete j i) [
            | yes it_is ↦ rw it_is (there tower run states i marks going.room few)
            | no other ↦ still tower run states i marks going.room few j (omega (arith, m)) other (going.at j (omega (arith, other, m)))
          ];
        })

    pub marking_end : n ≤ i → RunHeld tower run states n → RunMarked tower run states marks n
    marking_end over held = record { held = held; room = going.room; at = λ j l. going.at j (omega arith) }

-- ---- what is read there

-- The length of a step.
pub length_is : (tower run states marks : List ℕ) (n i : ℕ) → RunMarked tower run states marks n → i < n
    → ticks (byte_at marks (2000 + i)) ≡ length_in tower run states i
length_is tower run states marks n i marked l = (marked.at i l).step

pub length_inside : (tower run states marks : List ℕ) (n i : ℕ) → RunMarked tower run states marks n → i < n → 2000 + i < length marks
length_inside tower run states marks n i marked l = omega (arith, marked.held.few, marked.room)

-- The byte that shows a mark.
pub mark_inside : (tower nodes run states marks : List ℕ) (n k from m : ℕ) (wanted : Bool) (i : ℕ) → RunMarked tower run states marks n
    → MarkShown nodes k from m wanted → i < n → from + i < length marks
mark_inside tower nodes run states marks n k from m wanted i marked shown l =
    elim shown.shown [
      | inl s ↦ omega (arith, s.0, marked.held.few, marked.room)
      | inr s ↦ omega (arith, s.0, marked.held.few, marked.room)
    ]

pub mark_place : (tower nodes run states marks : List ℕ) (n k from m : ℕ) (wanted : Bool) (i : ℕ) → RunMarked tower run states marks n
    → MarkShown nodes k from m wanted → i < n → Fits w64 (from + i)
mark_place tower nodes run states marks n k from m wanted i marked shown l =
    elim shown.shown [ inl s ↦ omega (arith, s.0, marked.held.few) | inr s ↦ omega (arith, s.0, marked.held.few) ]

-- one of eight
by_eight : (P : ℕ → Type 0) → P 0 → P 1 → P 2 → P 3 → P 4 → P 5 → P 6 → P 7 → (m : ℕ) → m < 8 → P m
by_eight P a b c d e f g h zero l = a
by_eight P a b c d e f g h (suc zero) l = b
by_eight P a b c d e f g h (suc (suc zero)) l = c
by_eight P a b c d e f g h (suc (suc (suc zero))) l = d
by_eight P a b c d e f g h (suc (suc (suc (suc zero)))) l = e
by_eight P a b c d e f g h (suc (suc (suc (suc (suc zero))))) l = f
by_eight P a b c d e f g h (suc (suc (suc (suc (suc (suc zero)))))) l = g
by_eight P a b c d e f g h (suc (suc (suc (suc (suc (suc (suc zero))))))) l = h
by_eight P a b c d e f g h (suc (suc (suc (suc (suc (suc (suc (suc m)))))))) l = absurd (omega arith)

-- a bit of a mask is one of its lower byte, or of its higher one
low_bit : (mask m : ℕ) → m < 8 → bit m (mask % 256) ≡ bit m mask
unfolding bit
low_bit mask =
    by_eight (λ m. bit m (mask % 256) ≡ bit m mask)
    (let e : mask % 256 / 1 % 2 ≡ mask / 1 % 2 = omega arith in ap (λ b. eqb b 1) e)
    (let e : mask % 256 / 2 % 2 ≡ mask / 2 % 2 = omega arith in ap (λ b. eqb b 1) e)
    (let e : mask % 256 / 4 % 2 ≡ mask / 4 % 2 = omega arith in ap (λ b. eqb b 1) e)
    (let e : mask % 256 / 8 % 2 ≡ mask / 8 % 2 = omega arith in ap (λ b. eqb b 1) e)
    (let e : mask % 256 / 16 % 2 ≡ mask / 16 % 2 = omega arith in ap (λ b. eqb b 1) e)
    (let e : mask % 256 / 32 % 2 ≡ mask / 32 % 2 = omega arith in ap (λ b. eqb b 1) e)
    (let e : mask % 256 / 64 % 2 ≡ mask / 64 % 2 = omega arith in ap (λ b. eqb b 1) e)
    (let e : mask % 256 / 128 % 2 ≡ mask / 128 % 2 = omega arith in ap (λ b. eqb b 1) e)

high_bit : (mask m : ℕ) → m < 8 → bit m (mask / 256 % 256) ≡ bit (8 + m) mask
unfolding bit
high_bit mask =
    by_eight (λ m. bit m (mask / 256 % 256) ≡ bit (8 + m) mask)
    (let e : mask / 256 % 256 / 1 % 2 ≡ mask / 256 % 2 = omega arith in ap (λ b. eqb b 1) e)
    (let e : mask / 256 % 256 / 2 % 2 ≡ mask / 512 % 2 = omega arith in ap (λ b. eqb b 1) e)
    (let e : mask / 256 % 256 / 4 % 2 ≡ mask / 1024 % 2 = omega arith in ap (λ b. eqb b 1) e)
    (let e : mask / 256 % 256 / 8 % 2 ≡ mask / 2048 % 2 = omega arith in ap (λ b. eqb b 1) e)
    (let e : mask / 256 % 256 / 16 % 2 ≡ mask / 4096 % 2 = omega arith in ap (λ b. eqb b 1) e)
    (let e : mask / 256 % 256 / 32 % 2 ≡ mask / 8192 % 2 = omega arith in ap (λ b. eqb b 1) e)
    (let e : mask / 256 % 256 / 64 % 2 ≡ mask / 16384 % 2 = omega arith in ap (λ b. eqb b 1) e)
    (let e : mask / 256 % 256 / 128 % 2 ≡ mask / 32768 % 2 = omega arith in ap (λ b. eqb b 1) e)

-- A mark is kept where its bit is as it is wanted.
pub mark_kept : (tower nodes run states marks : List ℕ) (n k from m : ℕ) (wanted there : Bool) (i : ℕ) → RunMarked tower run states marks n
    → MarkShown nodes k from m wanted → there ≡ bit m (byte_at marks (from + i)) → i < n
    → KeptHere (beq there wanted) tower nodes run states n k i
mark_kept tower nodes run states marks n k from m wanted there i marked shown is_there inside =
    leaf_kept (beq there wanted) tower nodes run states n k i (mask_in tower states i) (state_in states i)
    (rw shown.is_wanted
    (holds_mark nodes k (mask_in tower states i) (code_of nodes k) (number_of nodes k) there refl shown.low shown.high refl by_number))
    refl refl shown.high inside
  where
    low_place : from ≡ 0 → from + i ≡ i
    low_place e = omega arith

    by_number : there ≡ bit (number_of nodes k) (mask_in tower states i)
    by_number = elim shown.shown [
      | inl s ↦ is_there ∙ ap (λ p. bit m (byte_at marks p)) (low_place s.0) ∙ ap (bit m) (marked.at i inside).low
          ∙ low_bit (mask_in tower states i) m shown.small ∙ ap (λ b. bit b (mask_in tower states i)) (sym s.1)
      | inr s ↦ is_there ∙ ap (λ p. bit m (byte_at marks (p + i))) s.0 ∙ ap (bit m) (marked.at i inside).high
          ∙ high_bit (mask_in tower states i) m shown.small ∙ ap (λ b. bit b (mask_in tower states i)) (sym s.1)
    ]

-- A constant is kept everywhere or nowhere.
pub constant_kept : (tower nodes run states : List ℕ) (n k : ℕ) (b : Bool) (i : ℕ) → code_of nodes k ≤ 1 → b ≡ eqb (code_of nodes k) 1 → i < n
    → KeptHere b tower nodes run states n k i
constant_kept tower nodes run states n k b i low is_b inside =
    leaf_kept b tower nodes run states n k i (mask_in tower states i) (state_in states i)
    (rw is_b (holds_constant nodes k (mask_in tower states i) (code_of nodes k) refl low)) refl refl (omega arith) inside

-- Whether it is, by its code.
pub constant_said : (nodes : List ℕ) (k code : ℕ) → code ≡ code_of nodes k → eqb code 1 ≡ eqb (code_of nodes k) 1
constant_said nodes k code e = ap (λ c. eqb c 1) e

-- Where a mark is shown: in the lower bytes or in the higher ones.
module _ (nodes : List ℕ) (k code number : ℕ) (is_code : code ≡ code_of nodes k) (is_number : number ≡ number_of nodes k) (low : 1 < code)
    (high : code_of nodes k ≤ 3) where
  pub shown_low : number < 8 → MarkShown nodes k 0 number (eqb code 3)
  shown_low l =
      record { low = omega arith; high = high; is_wanted = ap (λ c. eqb c 3) is_code; small = l; shown = inl (refl, omega arith) }

  pub shown_high : 8 ≤ number → number < 16 → MarkShown nodes k 1000 (number - 8) (eqb code 3)
  shown_high l most =
      record { low = omega arith; high = high; is_wanted = ap (λ c. eqb c 3) is_code; small = omega arith; shown = inr (refl, omega arith) }
