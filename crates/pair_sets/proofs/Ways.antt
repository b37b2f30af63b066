-- A law for each way through the functions over entries.
use Prim.Native.Nat.{ℕ, ◌+◌, ◌-◌, ◌*◌, ◌≤◌, ◌<◌}
use native.Mathlib.Omega.{arith}
use mathlib.Core.Path.{◌≡◌, refl, sym, ◌∙◌, ap}
use mathlib.Core.Logic.{inl}
use mathlib.Core.Bool.{Bool, true, false}
use mathlib.Core.List.{List, [], ◌∷◌}
use lib.ListN.{length, replicate, length-replicate}
use lib.Seq.{sets}
use mir.Syntax.{w64}
use mir.Val.{Fits}
use Rattle.base.specs.Bytes.{byte_at, number_bytes}
use Rattle.base.specs.Lists.{count_from, below, place_of}
use Rattle.logic.specs.Book.{Book}
use Rattle.logic.specs.declared.Tick.{Tick}
use Rattle.pending.specs.Pending.{Pending}
use Rattle.logic.specs.Sides.{OneSided}
use Rattle.alternatives.specs.Alternatives.{these}
use Rattle.alternatives.specs.Progression.{progressed_set, first_set}
use Rattle.alternatives.specs.OneAlternative.{single}
use Rattle.alternatives.proofs.OneAlternative.{progressed_one}
use Rattle.reading.specs.BookArea.{nodes_in}
use Rattle.book_progression.specs.PendingBytes.{pending_of, part, outcome}
use Rattle.book_progression.specs.NodeBytes.{IsHeld, HeldBook, MarkedState}
use Rattle.book_progression.specs.Promises.{Parts, Progressed, PendingBegun}
use Rattle.alternative_bytes.specs.AlternativeBytes.{alternative_in}
use Rattle.set_bytes.specs.SetBytes.{set_in}
use Rattle.area_bytes.proofs.Clearing.{cleared_byte}
use Rattle.std.specs.Prelude.{Some, None}
use Rattle.set_index.specs.Entries.{entries_size, entry_heads, entry_first, entry_at, entries_of, same_entry, FoundEntry, found_entry, no_entry, Heads, Headed, Indexed}
use Rattle.set_index.proofs.Laws.{first_rises, heads_first, headed_first, heads_cleared, found_equal, found_first}
use Rattle.pair_sets.specs.PairSets.{entry_set, Stays, Holds, Entered, Followed, Noted, First, Open, Repeated, Taken}
use Rattle.pair_sets.proofs.Entries.{entries_equal}
use Rattle.pair_sets.proofs.Writing.{Filled, filled_one, filled_repeated, filled_taken, filled_stays, written_stays, written_headed, written_set, written_holds}

-- ---- where an entry begins

-- No more alternatives than there may be lie before it.
before_most : (nodes area : List ℕ) (n i f : ℕ) → f ≡ entry_first area i → Open nodes area n → i ≤ n → f ≤ 1000
before_most nodes area n i f e ready l = omega (arith, heads_first area n ready.heads i l)

pub first_fits : (nodes area : List ℕ) (n i f : ℕ) → f ≡ entry_first area i → Open nodes area n → i < n → Fits w64 (60 * f)
first_fits nodes area n i f e ready l = omega (arith, before_most nodes area n i f e ready (omega arith))

-- ---- follow

-- What is read lies before what is written.
pub parts_apart : (nodes area : List ℕ) (i n f t : ℕ) → f ≡ entry_first area i → t ≡ entry_first area n → Open nodes area n → i < n
    → entry_first area (i + 1) ≡ entry_first area i + 1 → Parts (length area) (nodes_in nodes) (60 * f) (60 * t)
parts_apart nodes area i n f t at_f at_t ready low one =
    let rises = first_rises area n ready.heads.rising (i + 1) n (omega arith) (omega arith) in
    let most = ready.heads.inside in
    record {
      from_fits = omega (arith, ready.held.few, ready.room);
      to_fits = omega (arith, ready.held.few, ready.room);
      apart = inl (omega (arith, ready.held.few));
    }

-- An entry with one alternative.
one_alternative : (nodes area : List ℕ) (i f : ℕ) → f ≡ entry_first area i → entry_first area (i + 1) ≡ entry_first area i + 1
    → entry_set nodes area i ≡ pending_of (part area (60 * f) (nodes_in nodes)) ∷ []
unfolding entry_set set_in below count_from alternative_in
one_alternative nodes area i f at_f one =
    let count : entry_first area (i + 1) - entry_first area i ≡ 1 = omega arith in
    let place : 60 * entry_first area i + 60 * 0 ≡ 60 * f = omega arith in
    rw (count, place) refl

module _ (b : Bool) (nodes : List ℕ) (mask : ℕ) (d : Tick) (area : List ℕ) (i number n f t : ℕ) (mid : List ℕ)
    (stepped : Progressed b nodes mask d area (60 * f) (60 * t) mid) (at_f : f ≡ entry_first area i) (at_t : t ≡ entry_first area n)
    (ready : Open nodes area n) (one : entry_first area (i + 1) ≡ entry_first area i + 1) where
  t_most : t ≤ 1000
  t_most = before_most nodes area n n t at_t ready (omega arith)

  filled : Filled nodes area t 1 (pending_of (part mid (60 * t) (nodes_in nodes)) ∷ []) mid
  filled = filled_one nodes area t mid ready.held (omega (arith, t_most)) stepped.beside

  -- What comes of it is what progression says.
  comes : (book : Book) → HeldBook nodes book → OneSided book → (at : MarkedState mask)
      → progressed_set at.tower book at.state d (entry_set nodes area i) ≡ single (outcome b (part mid (60 * t) (nodes_in nodes)))
  comes book is sided at =
      ap (progressed_set at.tower book at.state d) (one_alternative nodes area i f at_f one)
      ∙ progressed_one at.tower book at.state d (pending_of (part area (60 * f) (nodes_in nodes))) sided
      ∙ ap single (stepped.says book is at)

  pub follow_room : entries_size ≤ length mid
  follow_room = omega (arith, stepped.beside.size, ready.room)

  -- The step is broken.
  pub follow_broken : b ≡ false → Followed false nodes mask d area i number n mid
  unfolding outcome single
  follow_broken no_step =
      record {
        stays = stays;
        headed = λ e. absurd (let z : ◌≡◌ {A = ℕ} 0 1 = cc in omega arith);
        says = λ book is sided at. record {
          stays = stays;
          holds = λ e. absurd (let z : ◌≡◌ {A = ℕ} 0 1 = cc in omega arith);
          none_left = λ _. rw no_step at (comes book is sided at);
        };
      }
    where
      stays : Stays nodes area n mid
      stays = filled_stays nodes area n t 1 _ mid ready.heads at_t filled

  -- It is not: the head is written too.
  pub follow_whole : (after : List ℕ)
      → after ≡ sets (sets mid (entry_heads + 4 * n) (number_bytes 2 number)) (entry_heads + 4 * n + 6) (number_bytes 2 (t + 1))
      → b ≡ true → number < 65536 → Followed true nodes mask d area i number n after
  unfolding outcome single
  follow_whole after written step small =
      record {
        stays = stays;
        headed = λ _. written_headed nodes area n t 1 _ mid ready.heads at_t filled number after written ready.room ready.most small
            (omega arith) (omega (arith, t_most));
        says = λ book is sided at. record {
          stays = stays;
          holds = λ _. rw (comes book is sided at, step) (written_holds nodes area n t 1 _ mid ready.heads at_t filled number after written ready.room
              ready.most small (omega arith) (omega (arith, t_most)) ready.held);
          none_left = λ e. absurd (let z : ◌≡◌ {A = ℕ} 0 1 = cc in omega arith);
        };
      }
    where
      stays : Stays nodes area n after
      stays = written_stays nodes area n t 1 _ mid ready.heads at_t filled number after written ready.room ready.most

-- ---- copy and take

-- Entry n is written whole.
entered_by : (nodes area : List ℕ) (n t count : ℕ) (s : List Pending) (mid : List ℕ) (number : ℕ) (after : List ℕ) → Open nodes area n
    → t ≡ entry_first area n → Filled nodes area t count s mid → 1 ≤ count → count ≤ 16 → number < 65536
    → after ≡ sets (sets mid (entry_heads + 4 * n) (number_bytes 2 number)) (entry_heads + 4 * n + 6) (number_bytes 2 (t + count))
    → Entered true nodes area number n (these s) after
entered_by nodes area n t count s mid number after ready at_t filled least most small written =
    let before = before_most nodes area n n t at_t ready (omega arith) in
    record {
      stays = written_stays nodes area n t count s mid ready.heads at_t filled number after written ready.room ready.most;
      holds = λ _. written_holds nodes area n t count s mid ready.heads at_t filled number after written ready.room ready.most small least
          (omega arith) ready.held;
      none_left = λ e. absurd (let z : ◌≡◌ {A = ℕ} 0 1 = cc in omega arith);
    }

module _ (nodes area : List ℕ) (j n s e : ℕ) (at_s : s ≡ entry_first area j) (at_e : e ≡ entry_first area (j + 1)) (ready : Open nodes area n)
    (low : j < n) where
  -- Entry j has alternatives,
  pub copy_some : s ≤ e
  copy_some = omega (arith, ready.heads.rising j low)

  module _ (t : ℕ) (at_t : t ≡ entry_first area n) where
    -- which lie before those of entry n.
    pub copy_before : s + (e - s) ≤ t
    copy_before =
        omega (arith, first_rises area n ready.heads.rising (j + 1) n (omega arith) (omega arith), ready.heads.rising j low)

    module _ (few : entry_first area (j + 1) ≤ entry_first area j + 16) where
      -- There is room for as many.
      pub copy_inside : t + (e - s) ≤ 1016
      copy_inside = omega (arith, before_most nodes area n n t at_t ready (omega arith))

      pub copy_whole : (mid after : List ℕ) (number : ℕ) → Repeated area s t (e - s) mid
          → after ≡ sets (sets mid (entry_heads + 4 * n) (number_bytes 2 number)) (entry_heads + 4 * n + 6) (number_bytes 2 (t + (e - s)))
          → number < 65536 → Entered true nodes area number n (these (entry_set nodes area j)) after
      copy_whole mid after number repeated written small =
          entered_by nodes area n t (e - s) (entry_set nodes area j) mid number after ready at_t
          (filled_repeated nodes area j s t (e - s) mid ready.held ready.room at_s (ap (λ z. z - s) at_e) copy_before copy_inside repeated)
          (omega (arith, ready.heads.rising j low)) (omega arith) small written

take_inside : (nodes area : List ℕ) (n t count : ℕ) → t ≡ entry_first area n → Open nodes area n → count ≤ 16 → t + count ≤ 1016
take_inside nodes area n t count at_t ready few = omega (arith, before_most nodes area n n t at_t ready (omega arith))

pub take_whole : (nodes area : List ℕ) (n t cells count : ℕ) (room : List ℕ) (at : ℕ) (mid after : List ℕ) (number : ℕ)
    → Taken cells area t room at count mid
    → after ≡ sets (sets mid (entry_heads + 4 * n) (number_bytes 2 number)) (entry_heads + 4 * n + 6) (number_bytes 2 (t + count))
    → cells ≡ nodes_in nodes → t ≡ entry_first area n → Open nodes area n → 1 ≤ count → count ≤ 16 → number < 65536
    → Entered true nodes area number n (these (set_in room (nodes_in nodes) at count)) after
take_whole nodes area n t cells count room at mid after number taken written all at_t ready least few small =
    entered_by nodes area n t count (set_in room (nodes_in nodes) at count) mid number after ready at_t
    (filled_taken nodes area t room at count mid (take_inside nodes area n t count at_t ready few) (rw all at taken)) least few small written

-- ---- note

-- It is one of those that are there.
pub note_old : (area : List ℕ) (n r : ℕ) (index : List ℕ) → FoundEntry area n (Some r) → Indexed area index n
    → Noted (record { at = r; met = n }) area n index
note_old area n r index (found_entry _ l is_r) indexed =
    record {
      indexed = indexed;
      least = omega arith;
      most = omega arith;
      inside = l;
      equal = found_equal area n r is_r l;
      fresh = λ m. absurd (omega arith);
    }

-- It is new.
pub note_new : (area : List ℕ) (n : ℕ) (index : List ℕ) → FoundEntry area n None → Headed area n → entries_size ≤ length area
    → Indexed area index (n + 1) → Noted (record { at = n; met = n + 1 }) area n index
note_new area n index (no_entry is_n) headed room indexed =
    record {
      indexed = indexed;
      least = omega arith;
      most = omega arith;
      inside = omega arith;
      equal = refl;
      fresh = λ m nodes held blank j low numbers sets.
          found_first area n n j is_n low
          (entries_equal nodes area j n held blank room (headed_first area n headed (j + 1) (omega arith))
          (headed_first area n headed (n + 1) (omega arith)) (rises j (omega arith)) (rises n (omega arith)) numbers sets);
    }
  where
    rises : (j : ℕ) → j ≤ n → entry_first area j ≤ entry_first area (j + 1)
    rises j k = omega (arith, headed.rising j k)

-- ---- begin

module _ (nodes : List ℕ) (number size : ℕ) (clear mid area : List ℕ) (cleared : clear ≡ replicate size 0) (held : IsHeld nodes)
    (large : entries_size ≤ size) where
  clear_size : length clear ≡ size
  clear_size = ap (λ (z : List ℕ). length z) cleared ∙ length-replicate {A = ℕ} size 0

  pub begin_first : PendingBegun nodes clear 0 mid
      → area ≡ sets (sets mid (entry_heads + 4 * 0) (number_bytes 2 number)) (entry_heads + 4 * 0 + 6) (number_bytes 2 1)
      → number < 65536 → First nodes number area
  unfolding first_set
  begin_first begun written small =
      record {
        size = omega (arith, stays.size, clear_size);
        blank = stays.blank (record { zeros = λ s p l m k. ap (λ (z : List ℕ). byte_at z (60 * s + p)) cleared ∙ cleared_byte size (60 * s + p) });
        headed = holds.headed;
        number_is = holds.number_is;
        says = λ book is.
            written_set nodes clear 0 0 1 _ mid heads start filled number area written room (omega arith) small (omega arith) (omega arith) held
            ∙ ap (λ p. p ∷ []) (begun.says book is);
      }
    where
      heads : Heads clear 0
      heads = heads_cleared clear size cleared

      start : 0 ≡ entry_first clear 0
      start = sym heads.start

      room : entries_size ≤ length clear
      room = omega (arith, clear_size)

      filled : Filled nodes clear 0 1 (pending_of (part mid 0 (nodes_in nodes)) ∷ []) mid
      filled = filled_one nodes clear 0 mid held (omega arith) begun.beside

      stays : Stays nodes clear 0 area
      stays = written_stays nodes clear 0 0 1 _ mid heads start filled number area written room (omega arith)

      holds : Holds nodes number 0 (these (pending_of (part mid 0 (nodes_in nodes)) ∷ [])) area
      holds = written_holds nodes clear 0 0 1 _ mid heads start filled number area written room (omega arith) small (omega arith) (omega arith) held
