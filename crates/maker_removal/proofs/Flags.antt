-- The flags and the worklist: how many pairs are safe, and what is left when a pair is put on the worklist.
use Prim.Native.Nat.{ℕ, ◌+◌, ◌-◌, ◌*◌, ◌≤◌, ◌<◌}
use native.Mathlib.Omega.{arith}
use native.Mathlib.Decide.{ℕ_discrete}
use mathlib.Core.Path.{◌≡◌, refl, sym, ◌∙◌, ap, subst}
use mathlib.Core.Logic.{inl}
use mathlib.Core.Bool.{true, false, not}
use mathlib.Core.List.{List}
use lib.ListN.{length, set, length-set}
use lib.Seq.{sets, get_or-set_same, get_or-set_other}
use lib.Dec.{eqb}
use borrow.Author.Tests.{eqb-true, eq-eqb, ne_eqb}
use Rattle.base.specs.Bytes.{byte_at, number_at, number_bytes}
use Rattle.base.proofs.Lists.{never_both}
use Rattle.area_bytes.proofs.Numbers.{byte_beside, stored_read, stored_beside}
use Rattle.area_chains.proofs.Walks.{one_more}
use Rattle.pair_graph.specs.Steps.{safe_in}
use Rattle.pair_graph.specs.Counting.{count}
use Rattle.pair_graph.proofs.Counting.{count_same, count_drop, count_there}
use Rattle.maker_removal.specs.Removal.{live_in, entry_in, OnList, Worklist, AllSafe, Pushed, removal_size}

-- ---- flags

-- Equal flags say the same.
pub safe_same : (area after : List ℕ) (k : ℕ) → byte_at after k ≡ byte_at area k → safe_in after k ≡ safe_in area k
unfolding safe_in
safe_same area after k e = ap (λ x. eqb x 1) e

pub live_same : (area after : List ℕ) (k : ℕ) → byte_at after k ≡ byte_at area k → live_in after k ≡ live_in area k
unfolding live_in
live_same area after k e = ap (λ x. not (eqb x 0)) e

-- A flag that is 1 is a safe pair's,
pub one_safe : (area : List ℕ) (i : ℕ) → byte_at area i ≡ 1 → safe_in area i ≡ true
unfolding safe_in
one_safe area i e = eq-eqb (byte_at area i) 1 e

-- any other is not,
pub other_not_safe : (area : List ℕ) (i v : ℕ) → byte_at area i ≡ v → (v ≡ 1 → ⊥) → safe_in area i ≡ false
unfolding safe_in
other_not_safe area i v e f = rw e (ne_eqb v 1 f)

-- a flag that is not 0 is a live pair's,
pub other_live : (area : List ℕ) (i v : ℕ) → byte_at area i ≡ v → (v ≡ 0 → ⊥) → live_in area i ≡ true
unfolding live_in
other_live area i v e f = let h = ne_eqb v 0 f in rw (e, h)

-- and 0 is that of a pair that went.
pub zero_gone : (area : List ℕ) (i : ℕ) → byte_at area i ≡ 0 → live_in area i ≡ false
unfolding live_in
zero_gone area i e = let h = eq-eqb (byte_at area i) 0 e in rw h

-- Safe pairs are live.
pub safe_live : (area : List ℕ) (i : ℕ) → safe_in area i ≡ true → live_in area i ≡ true
unfolding safe_in
safe_live area i e = other_live area i 1 (eqb-true (byte_at area i) 1 e) (λ z. omega arith)

-- ---- all safe

-- The pairs below i are safe, and what lies behind the flags is as it was.
pub record Flagging (n : ℕ) (old area : List ℕ) (i : ℕ) : Type 0 where
  pub safe : (k : ℕ) → k < i → safe_in area k ≡ true
  pub behind : (p : ℕ) → n ≤ p → byte_at area p ≡ byte_at old p
  pub long : length area ≡ length old

pub flagging_start : (n : ℕ) (area : List ℕ) → Flagging n area area 0
flagging_start n area = record { safe = λ k l. absurd (omega arith); behind = λ p l. refl; long = refl }

pub flagging_more : (n : ℕ) (old area : List ℕ) (i : ℕ) → n ≤ length old → Flagging n old area i → i < n
    → Flagging n old (set area i 1) (i + 1)
flagging_more n old area i room h l =
    record {
      safe =
          one_more (λ k. safe_in (set area i 1) k ≡ true) i
          (λ k m. safe_same area (set area i 1) k (get_or-set_other area i k 1 0 (λ e. omega arith)) ∙ h.safe k m)
          (one_safe (set area i 1) i (get_or-set_same area i 1 0 (omega (arith, h.long))));
      behind = λ p m. get_or-set_other area i p 1 0 (λ e. omega arith) ∙ h.behind p m;
      long = length-set area i 1 ∙ h.long;
    }

pub flagging_end : (n : ℕ) (old area : List ℕ) (i : ℕ) → Flagging n old area i → n ≤ i → AllSafe n old area
flagging_end n old area i h l = record { safe = λ k m. h.safe k (omega arith); behind = h.behind }

-- ---- a pair put on the worklist

-- A number behind a byte that is stored is as it was.
number_behind_set : (l : List ℕ) (i v q : ℕ) → i < q → number_at 2 (set l i v) q ≡ number_at 2 l q
unfolding number_at
number_behind_set l i v q less =
    let a = get_or-set_other l i q v 0 (λ e. omega arith) in
    let b = get_or-set_other l i (q + 1) v 0 (λ e. omega arith) in
    omega arith

-- What the stores leave.
pub pushed : (area after : List ℕ) (i height : ℕ) → i < 1000 → height < 1000 → removal_size ≤ length area
    → after ≡ sets (set area i 2) (35000 + 2 * height) (number_bytes 2 i) → Pushed i height area after
unfolding entry_in
pushed area after i height l h room e = rw e (record { flag = flag; before = before; entry = entry; below = below })
  where
    long : length (set area i 2) ≡ length area
    long = length-set area i 2

    flag : byte_at (sets (set area i 2) (35000 + 2 * height) (number_bytes 2 i)) i ≡ 2
    flag =
        byte_beside (set area i 2) (35000 + 2 * height) i i (λ z. omega arith) (λ z. omega arith)
        ∙ get_or-set_same area i 2 0 (omega arith)

    before : (p : ℕ) → p < 35000 → (p ≡ i → ⊥)
        → byte_at (sets (set area i 2) (35000 + 2 * height) (number_bytes 2 i)) p ≡ byte_at area p
    before p m other =
        byte_beside (set area i 2) (35000 + 2 * height) i p (λ z. omega arith) (λ z. omega arith) ∙ get_or-set_other area i p 2 0 other

    entry : number_at 2 (sets (set area i 2) (35000 + 2 * height) (number_bytes 2 i)) (35000 + 2 * height) ≡ i
    entry = stored_read (set area i 2) (35000 + 2 * height) i (omega (arith, long)) (omega arith)

    below : (k : ℕ) → k < height
        → number_at 2 (sets (set area i 2) (35000 + 2 * height) (number_bytes 2 i)) (35000 + 2 * k) ≡ number_at 2 area (35000 + 2 * k)
    below k m =
        stored_beside (set area i 2) (35000 + 2 * height) i (35000 + 2 * k) (inl (omega arith))
        ∙ number_behind_set area i 2 (35000 + 2 * k) (omega arith)

-- There is room for an entry,
pub entry_room : (area : List ℕ) (i v height : ℕ) → removal_size ≤ length area → height < 1000 → 35000 + 2 * height + 1 < length (set area i v)
entry_room area i v height room h = omega (arith, length-set area i v)

-- and the area keeps its length.
pub set_kept : (area after : List ℕ) (i v : ℕ) → length after ≡ length (set area i v) → length after ≡ length area
set_kept area after i v e = e ∙ length-set area i v

-- There is room for a safe pair.
pub room_for : (n : ℕ) (area : List ℕ) (i height : ℕ) → n ≤ 1000 → Worklist n area height → i < n → safe_in area i ≡ true → height < 1000
room_for n area i height most w l e = omega (arith, count_there (safe_in area) n i l e, w.room)

module _ (n i height : ℕ) (area after : List ℕ) (most : n ≤ 1000) (l : i < n) (p : Pushed i height area after) where
  -- Another flag says what it said.
  pub pushed_safe : (k : ℕ) → k < n → (k ≡ i → ⊥) → safe_in after k ≡ safe_in area k
  pushed_safe k m other = safe_same area after k (p.before k (omega arith) other)

  -- The pair is removed,
  pub pushed_not_safe : safe_in after i ≡ false
  pushed_not_safe = other_not_safe after i 2 p.flag (λ z. omega arith)

  -- so that no pair is safe that was not.
  pub pushed_fewer : (k : ℕ) → k < n → safe_in area k ≡ false → safe_in after k ≡ false
  pushed_fewer k m e =
      elim (ℕ_discrete k i) [
        | yes same ↦ subst (λ x. safe_in after x ≡ false) (sym same) pushed_not_safe
        | no other ↦ pushed_safe k m other ∙ e
      ]

  -- The live pairs are the same.
  pub pushed_live : safe_in area i ≡ true → (k : ℕ) → k < n → live_in after k ≡ live_in area k
  pushed_live e k m =
      elim (ℕ_discrete k i) [
        | yes same ↦ subst (λ x. live_in after x ≡ live_in area x) (sym same)
            (other_live after i 2 p.flag (λ z. omega arith) ∙ sym (safe_live area i e))
        | no other ↦ live_same area after k (p.before k (omega arith) other)
      ]

  -- One pair less is safe.
  pub pushed_count : safe_in area i ≡ true → count (safe_in after) n + 1 ≡ count (safe_in area) n
  pushed_count e = count_drop (safe_in area) (safe_in after) n i l e pushed_not_safe pushed_safe

  -- The worklist has one entry more.
  pub pushed_list : safe_in area i ≡ true → Worklist n area height → Worklist n after (height + 1)
  pushed_list e w =
      record {
        pairs =
            one_more (λ k. entry_in after k < n) height (λ k m. omega (arith, p.below k m, w.pairs k m)) (omega (arith, p.entry));
        removed =
            one_more (λ k. safe_in after (entry_in after k) ≡ false) height
            (λ k m. subst (λ x. safe_in after x ≡ false) (sym (p.below k m)) (pushed_fewer (entry_in area k) (w.pairs k m) (w.removed k m)))
            (subst (λ x. safe_in after x ≡ false) (sym p.entry) pushed_not_safe);
        waiting = waiting;
        room = omega (arith, pushed_count e, w.room);
      }
    where
      still : (k : ℕ) → OnList area height k → OnList after (height + 1) k
      still k o =
          record { place = o.place; within = omega (arith, o.within); is = p.below o.place o.within ∙ o.is }

      waiting : (k : ℕ) → k < n → live_in after k ≡ true → safe_in after k ≡ false → OnList after (height + 1) k
      waiting k m live not_safe =
          elim (ℕ_discrete k i) [
            | yes same ↦ record { place = height; within = omega arith; is = p.entry ∙ sym same }
            | no other ↦ still k (w.waiting k m (sym (pushed_live e k m) ∙ live) (sym (pushed_safe k m other) ∙ not_safe))
          ]

-- ---- a pair taken from the worklist

module _ (n height : ℕ) (area : List ℕ) (j : ℕ) (w : Worklist n area height) (some : 0 < height)
    (is_j : j ≡ number_at 2 area (35000 + 2 * (height - 1))) where
  last : entry_in area (height - 1) ≡ j
  unfolding entry_in
  last = sym is_j

  -- The last entry is a pair,
  pub taken_there : j < n
  taken_there = omega (arith, last, w.pairs (height - 1) (omega arith))

  -- which is not safe.
  pub taken_not_safe : safe_in area j ≡ false
  taken_not_safe = subst (λ x. safe_in area x ≡ false) last (w.removed (height - 1) (omega arith))

  module _ (most : n ≤ 1000) (room : removal_size ≤ length area) where
    -- Its flag is cleared.
    pub taken_flag : byte_at (set area j 0) j ≡ 0
    taken_flag = get_or-set_same area j 0 0 (omega (arith, taken_there))

    -- Just the same pairs are safe.
    pub taken_safe : (k : ℕ) → safe_in (set area j 0) k ≡ safe_in area k
    taken_safe k =
        elim (ℕ_discrete k j) [
          | yes same ↦ subst (λ x. safe_in (set area j 0) x ≡ safe_in area x) (sym same)
              (other_not_safe (set area j 0) j 0 taken_flag (λ z. omega arith) ∙ sym taken_not_safe)
          | no other ↦ safe_same area (set area j 0) k (get_or-set_other area j k 0 0 other)
        ]

    -- The other live pairs are still live.
    pub taken_live : (k : ℕ) → (k ≡ j → ⊥) → live_in (set area j 0) k ≡ live_in area k
    taken_live k other = live_same area (set area j 0) k (get_or-set_other area j k 0 0 other)

    entries_same : (k : ℕ) → entry_in (set area j 0) k ≡ entry_in area k
    unfolding entry_in
    entries_same k = number_behind_set area j 0 (35000 + 2 * k) (omega (arith, taken_there))

    -- As many pairs are safe.
    pub taken_count : count (safe_in (set area j 0)) n ≡ count (safe_in area) n
    taken_count = count_same (safe_in area) (safe_in (set area j 0)) n (λ k l. taken_safe k)

    -- The worklist has one entry less.
    pub taken_list : Worklist n (set area j 0) (height - 1)
    taken_list =
        record {
          pairs = λ k l. omega (arith, entries_same k, w.pairs k (omega arith));
          removed =
              λ k l. subst (λ x. safe_in (set area j 0) x ≡ false) (sym (entries_same k))
              (taken_safe (entry_in area k) ∙ w.removed k (omega arith));
          waiting = waiting;
          room = omega (arith, taken_count, w.room);
        }
      where
        shorter : (k : ℕ) → (k ≡ j → ⊥) → OnList area height k → OnList (set area j 0) (height - 1) k
        shorter k other o = go (ℕ_discrete o.place (height - 1))
          where
            go : Dec (o.place ≡ height - 1) → OnList (set area j 0) (height - 1) k
            go (yes top) = absurd (other (sym o.is ∙ ap (entry_in area) top ∙ last))
            go (no lower) =
                record { place = o.place; within = omega (arith, o.within, lower); is = entries_same o.place ∙ o.is }

        waiting : (k : ℕ) → k < n → live_in (set area j 0) k ≡ true → safe_in (set area j 0) k ≡ false
            → OnList (set area j 0) (height - 1) k
        waiting k m live not_safe =
            elim (ℕ_discrete k j) [
              | yes same ↦ never_both live
                  (subst (λ x. live_in (set area j 0) x ≡ false) (sym same) (zero_gone (set area j 0) j taken_flag))
              | no other ↦ shorter k other (w.waiting k m (sym (taken_live k other) ∙ live) (sym (taken_safe k) ∙ not_safe))
            ]
