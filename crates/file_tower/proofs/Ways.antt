-- The ways through the tests and the reader: what the code knows at a `return`, and what the definition then says.
use Prim.Native.Nat.{ℕ, ◌*◌, ◌/◌, ◌%◌, ◌^◌, ◌≤◌, ◌<◌}
use native.Mathlib.Omega.{arith}
use native.Mathlib.Nat.{one-mul, mod-eq_of_lt, lt_of_le_of_lt}
use mathlib.Core.Path.{◌≡◌, refl, sym, ◌∙◌, ap}
use mathlib.Core.Bool.{Bool, true, false, not, and-false}
use mathlib.Core.List.{List}
use lib.ListN.{length}
use lib.Dec.{leb, ltb, eqb}
use lib.Pow.{pow_mono}
use borrow.Author.Tests.{ltb-true, ltb-false, lt-ltb, le-ltb, le-leb, lt-leb, eq-eqb, ne_eqb}
use Rattle.base.specs.Answers.{◌if◌else◌}
use Rattle.base.specs.Lists.{some_of, below, count_from}
use Rattle.base.specs.declared.Refusal.TheVariants.{TowerSize, Range, Action, Target, Mask}
use Rattle.logic.specs.Time.{ticks}
use Rattle.logic.specs.declared.FileLayout.{FileLayout}
use Rattle.logic.specs.Tower.{tower_of, in_range, most_actions, most_marks, not_enabled, last_kind, layout_of, states_of, actions_of}
use Rattle.logic.specs.Tower.{marks_of, start_of, actions_offset, states_offset, states_at, state_at, length_of, kind_of, mask_of, target_of, bit}
use Rattle.logic.specs.Tower.{no_header, bad_counts, bad_size, bad_actions, bad_targets, bad_masks}
use Rattle.reading.specs.TowerReading.{read_tower}
use Rattle.file_tower.specs.TowerRead.{tower_read}
use Rattle.file_tower.specs.Stages.{Headed, Counted, Sized, bad_offsets, bad_action, bad_target, bad_targets_of, bad_mask}
use Rattle.file_tower.proofs.Laws.{header_whole, counted, sized}
use Rattle.std.specs.Prelude.{Some, None, Ok, Err}

-- ---- the header and its counts

-- Fewer bytes than the header's.
pub header_test : (bytes : List ℕ) (k : FileLayout) → k ≡ layout_of bytes → ltb (length bytes) k.header ≡ no_header bytes
unfolding no_header
header_test bytes k e = rw e

-- not below is at least
at_least : (a b : ℕ) → leb a b ≡ not (ltb b a)
at_least a b = go (ltb b a) refl
  where
    go : (t : Bool) → ltb b a ≡ t → leb a b ≡ not t
    go true e = lt-leb a b (ltb-true b a e)
    go false e = le-leb a b (ltb-false b a e)

module _ (bytes : List ℕ) (k : FileLayout) (s : ℕ) (r : Bool) (is_k : k ≡ layout_of bytes) (at_s : s ≡ states_of bytes)
    (is_r : r ≡ in_range k.most s) where
  states_in : in_range (layout_of bytes).most (states_of bytes) ≡ r
  states_in = sym (rw (at_s, is_k) at is_r)

  -- The states are out of range.
  pub counts_states : r ≡ false → true ≡ bad_counts bytes
  unfolding bad_counts
  counts_states f = rw (states_in, f)

  module _ (a : ℕ) (q : Bool) (good_r : r ≡ true) (at_a : a ≡ actions_of bytes) (is_q : q ≡ in_range 16 a) where
    actions_in : in_range 16 (actions_of bytes) ≡ q
    actions_in = cc

    -- The states are in range, the actions are not.
    pub counts_actions : q ≡ false → true ≡ bad_counts bytes
    unfolding bad_counts most_actions
    counts_actions f = rw (states_in, good_r, actions_in, f)

    module _ (p : ℕ) (good_q : q ≡ true) (at_p : p ≡ marks_of bytes) where
      -- Too many marks.
      pub counts_marks : 16 < p → true ≡ bad_counts bytes
      unfolding bad_counts most_actions most_marks
      counts_marks l =
          let m : leb (marks_of bytes) 16 ≡ false = lt-leb (marks_of bytes) 16 (omega arith) in
          rw (states_in, good_r, actions_in, good_q, m)

      -- The counts are in range: the start decides.
      pub counts_start : (x : ℕ) → p ≤ 16 → x ≡ start_of bytes → leb s x ≡ bad_counts bytes
      unfolding bad_counts most_actions most_marks
      counts_start x l at_x =
          let m : leb (marks_of bytes) 16 ≡ true = le-leb (marks_of bytes) 16 (omega arith) in
          rw (states_in, good_r, actions_in, good_q, m, at_s, at_x) (at_least (states_of bytes) (start_of bytes))

-- ---- size

module _ (bytes : List ℕ) (k : FileLayout) (i : ℕ) (is_k : k ≡ layout_of bytes) (at_i : i ≡ actions_offset bytes) where
  -- The first offset is wrong.
  pub offset_actions : (i ≡ k.header → ⊥) → true ≡ bad_offsets bytes
  unfolding bad_offsets
  offset_actions f =
      let h : eqb (actions_offset bytes) (layout_of bytes).header ≡ false =
      rw (← at_i, ← is_k) (ne_eqb i k.header f) in
      rw h

  -- The first is right: the second decides.
  pub offset_states : (j m : ℕ) → i ≡ k.header → j ≡ states_offset bytes → m ≡ states_at bytes → not (eqb j m) ≡ bad_offsets bytes
  unfolding bad_offsets
  offset_states j m e at_j at_m =
      let h : eqb (actions_offset bytes) (layout_of bytes).header ≡ true =
      rw (← at_i, ← is_k) (eq-eqb i k.header e) in
      rw (h, at_j, at_m)

-- An offset is wrong.
pub size_offsets : (bytes : List ℕ) (r : Bool) → r ≡ bad_offsets bytes → r ≡ true → true ≡ bad_size bytes
unfolding bad_size bad_offsets
size_offsets bytes r e f = let h : bad_offsets bytes ≡ true = sym e ∙ f in rw h

-- The offsets are right: the length decides.
pub size_end : (bytes : List ℕ) (r : Bool) (s n : ℕ) → r ≡ bad_offsets bytes → r ≡ false → s ≡ states_of bytes → n ≡ state_at bytes s
    → not (eqb (length bytes) n) ≡ bad_size bytes
unfolding bad_size bad_offsets
size_end bytes r s n e f at_s at_n = let h : bad_offsets bytes ≡ false = sym e ∙ f in rw (h, at_n, at_s)

-- ---- one action, one target, one mask

-- The length is 0.
pub action_length : (bytes : List ℕ) (a d : ℕ) → d ≡ length_of bytes a → d ≡ 0 → true ≡ bad_action bytes a
unfolding bad_action
action_length bytes a d e f = let h : eqb (length_of bytes a) 0 ≡ true = eq-eqb (length_of bytes a) 0 (sym e ∙ f) in rw h

-- The length is not 0: the kind decides.
pub action_kind : (bytes : List ℕ) (a d k : ℕ) (r : Bool) → d ≡ length_of bytes a → (d ≡ 0 → ⊥) → k ≡ kind_of bytes a → r ≡ ltb last_kind k
    → r ≡ bad_action bytes a
unfolding bad_action
action_kind bytes a d k r e f g u =
    let h : eqb (length_of bytes a) 0 ≡ false = ne_eqb (length_of bytes a) 0 (λ z. f (e ∙ z)) in
    rw (h, u, g)

module _ (bytes : List ℕ) (x a y s : ℕ) (at_y : y ≡ target_of bytes x a) (at_s : s ≡ states_of bytes) where
  -- The target is a state.
  pub target_state : y < s → false ≡ bad_target bytes x a
  unfolding bad_target
  target_state l =
      let h : ltb (target_of bytes x a) (states_of bytes) ≡ true = lt-ltb (target_of bytes x a) (states_of bytes) (omega arith) in
      rw h

  -- It is no state: only 'not enabled' is left.
  pub target_other : (k : FileLayout) → s ≤ y → k ≡ layout_of bytes → not (eqb y k.disabled) ≡ bad_target bytes x a
  unfolding bad_target not_enabled
  target_other k l is_k =
      let h : ltb (target_of bytes x a) (states_of bytes) ≡ false = le-ltb (target_of bytes x a) (states_of bytes) (omega arith) in
      rw (h, at_y, is_k)

-- The first bit above the marks is one that a number has.
pub marks_shift : (bytes : List ℕ) (p : ℕ) → Sized bytes → p ≡ marks_of bytes → p < 64
marks_shift bytes p h e = omega arith

-- A mask with a bit at or above P is no less than 2 to the power of P.
pub mask_above : (bytes : List ℕ) (x p m : ℕ) → Sized bytes → p ≡ marks_of bytes → m ≡ mask_of bytes x
    → leb (1 * 2 ^ p % 18446744073709551616) m ≡ bad_mask bytes x
unfolding bad_mask
mask_above bytes x p m h e f =
    let small : p ≤ 16 = omega arith in
    let below : 1 * 2 ^ p < 18446744073709551616 = rw (one-mul (2 ^ p)) (lt_of_le_of_lt (pow_mono small) (omega arith)) in
    rw (mod-eq_of_lt below, one-mul (2 ^ p), e, f)

-- ---- the fields of a fit tower

-- A state of the tower is one of the file,
pub state_within : (bytes : List ℕ) (x : ℕ) → x < (tower_of bytes).states → x < states_of bytes
unfolding tower_of
state_within bytes x l = l

-- and so is an action.
pub action_within : (bytes : List ℕ) (a : ℕ) → a < (tower_of bytes).actions → a < actions_of bytes
unfolding tower_of
action_within bytes a l = l

-- The byte read is the step's length, in ticks.
pub step_read : (bytes : List ℕ) (x a d : ℕ) → d ≡ length_of bytes a → ticks d ≡ (tower_of bytes).step_length x a
unfolding tower_of
step_read bytes x a d e = ap ticks e

module _ (bytes : List ℕ) (x a y : ℕ) (k : FileLayout) (at_y : y ≡ target_of bytes x a) (is_k : k ≡ layout_of bytes) where
  -- What is written says 'not enabled'.
  pub target_none : y ≡ k.disabled → None ≡ ((tower_of bytes).target x a)
  unfolding tower_of not_enabled
  target_none f = sym (rw (← at_y, ← is_k, eq-eqb y k.disabled f, and-false))

  -- What is written is a state.
  pub target_some : x < states_of bytes → a < actions_of bytes → (y ≡ k.disabled → ⊥) → Some y ≡ ((tower_of bytes).target x a)
  unfolding tower_of not_enabled
  target_some state action f =
      sym (rw (← at_y, ← is_k, lt-ltb x (states_of bytes) state, lt-ltb a (actions_of bytes) action, ne_eqb y k.disabled f))

-- The bit of a mask is the mark.
pub mark_bit : (bytes : List ℕ) (x k m : ℕ) → m ≡ mask_of bytes x → eqb (m / 2 ^ k % 2) 1 ≡ (tower_of bytes).marked x k
unfolding tower_of bit
mark_bit bytes x k m e = rw e

-- ---- the reader, refusal by refusal

module _ (bytes : List ℕ) (r₁ : Bool) (is₁ : r₁ ≡ no_header bytes) where
  -- 1: no whole header.
  pub refuse_1 : r₁ ≡ true → Err TowerSize ≡ tower_read (read_tower bytes)
  unfolding tower_read read_tower ◌if◌else◌
  refuse_1 f = rw (← is₁, f)

  -- The header is whole.
  pub is_headed : r₁ ≡ false → Headed bytes
  is_headed f = header_whole bytes (sym is₁ ∙ f)

  module _ (r₂ : Bool) (no₁ : r₁ ≡ false) (is₂ : r₂ ≡ bad_counts bytes) where
    -- 2: a count or the start.
    pub refuse_2 : r₂ ≡ true → Err Range ≡ tower_read (read_tower bytes)
    unfolding tower_read read_tower ◌if◌else◌
    refuse_2 f = rw (← is₁, no₁, ← is₂, f)

    -- The counts are in range.
    pub is_counted : r₂ ≡ false → Counted bytes
    is_counted f = counted bytes (sym is₁ ∙ no₁) (sym is₂ ∙ f)

    module _ (r₃ : Bool) (no₂ : r₂ ≡ false) (is₃ : r₃ ≡ bad_size bytes) where
      -- 1: an offset or the length.
      pub refuse_3 : r₃ ≡ true → Err TowerSize ≡ tower_read (read_tower bytes)
      unfolding tower_read read_tower ◌if◌else◌
      refuse_3 f = rw (← is₁, no₁, ← is₂, no₂, ← is₃, f)

      -- Offsets and length are right.
      pub is_sized : r₃ ≡ false → Sized bytes
      is_sized f = sized bytes (sym is₁ ∙ no₁) (sym is₂ ∙ no₂) (sym is₃ ∙ f)

      module _ (r₄ : Bool) (no₃ : r₃ ≡ false) (is₄ : r₄ ≡ bad_actions bytes) where
        -- 3: an action.
        pub refuse_4 : r₄ ≡ true → Err Action ≡ tower_read (read_tower bytes)
        unfolding tower_read read_tower ◌if◌else◌
        refuse_4 f = rw (← is₁, no₁, ← is₂, no₂, ← is₃, no₃, ← is₄, f)

        module _ (r₅ : Bool) (no₄ : r₄ ≡ false) (is₅ : r₅ ≡ bad_targets bytes) where
          -- 4: a target.
          pub refuse_5 : r₅ ≡ true → Err Target ≡ tower_read (read_tower bytes)
          unfolding tower_read read_tower ◌if◌else◌
          refuse_5 f = rw (← is₁, no₁, ← is₂, no₂, ← is₃, no₃, ← is₄, no₄, ← is₅, f)

          module _ (r₆ : Bool) (no₅ : r₅ ≡ false) (is₆ : r₆ ≡ bad_masks bytes) where
            -- 5: a mask.
            pub refuse_6 : r₆ ≡ true → Err Mask ≡ tower_read (read_tower bytes)
            unfolding tower_read read_tower ◌if◌else◌
            refuse_6 f = rw (← is₁, no₁, ← is₂, no₂, ← is₃, no₃, ← is₄, no₄, ← is₅, no₅, ← is₆, f)

            -- No refusal.
            pub refuse_none : r₆ ≡ false → Ok tt ≡ tower_read (read_tower bytes)
            unfolding tower_read read_tower ◌if◌else◌
            refuse_none f = rw (← is₁, no₁, ← is₂, no₂, ← is₃, no₃, ← is₄, no₄, ← is₅, no₅, ← is₆, f)

-- ---- what the four loops look for

pub scan_actions : (bytes : List ℕ) → bad_actions bytes ≡ some_of (bad_action bytes) (count_from 0 (actions_of bytes))
unfolding bad_actions bad_action below
scan_actions bytes = refl

pub scan_targets_of : (bytes : List ℕ) (x : ℕ) → bad_targets_of bytes x ≡ some_of (bad_target bytes x) (count_from 0 (actions_of bytes))
unfolding bad_targets_of below
scan_targets_of bytes x = refl

pub scan_targets : (bytes : List ℕ) → bad_targets bytes ≡ some_of (bad_targets_of bytes) (count_from 0 (states_of bytes))
unfolding bad_targets bad_targets_of bad_target below
scan_targets bytes = refl

pub scan_masks : (bytes : List ℕ) → bad_masks bytes ≡ some_of (bad_mask bytes) (count_from 0 (states_of bytes))
unfolding bad_masks bad_mask below
scan_masks bytes = refl
