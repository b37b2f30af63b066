-- A law for each way through the code.
use Prim.Native.Nat.{ℕ, zero, suc, ◌+◌, ◌-◌, ◌≤◌, ◌<◌}
use native.Mathlib.Omega.{arith}
use native.Mathlib.Decide.{dec_lt}
use native.Mathlib.Numerals.{add-one}
use mathlib.Core.Path.{◌≡◌, refl, sym, ◌∙◌, ap, subst}
use mathlib.Core.Bool.{Bool, true, false, not, ◌&&◌, ◌||◌}
use Rattle.std.specs.Prelude.{Option, None, Some}
use mathlib.Core.List.{List}
use lib.ListN.{length, get_or, set, drop, length-set, drop_of_length-le}
use lib.Seq.{drop-cons, get_or-set_same, get_or-set_other, ext_get_or}
use lib.Dec.{ltb, eqb}
use borrow.Author.Tests.{not-true, not-false, le-ltb, eq-eqb, ne_eqb}
use mir.Syntax.{w8}
use mir.Val.{Fits}
use Rattle.base.specs.Bytes.{number_at}
use Rattle.logic.specs.Time.{at_most, same_ticks}
use Rattle.logic.specs.Book.{Formula, constant}
use Rattle.logic.specs.declared.Tick.{Tick}
use Rattle.logic.proofs.Ordering.{at_most_number}
use Rattle.std.proofs.Common.{is_le, nat_cmp}
use Rattle.pending.specs.Pending.{Pending, coming}
use Rattle.alternatives.specs.Alternatives.{first_cell, later_cells, no_more_ticks, no_more_cell, asks_no_more, cell_number, earlier, both_cells, both}
use Rattle.alternatives.proofs.Orders.{no_more_cell_refl}
use Rattle.alternatives.proofs.Antichain.{both_sized}
use Rattle.area_bytes.proofs.Numbers.{same_bytes}
use Rattle.book_progression.specs.PendingBytes.{cell_of}
use Rattle.book_progression.specs.NodeBytes.{code_of}
use Rattle.book_progression.specs.Promises.{AreNodes, Merged, Beside, EmptyTo}
use Rattle.book_progression.proofs.Cells.{cell_empty, cell_one_more}
use Rattle.book_progression.proofs.Nodes.{by_kind, by_always, by_until}
use Rattle.book_progression.proofs.Areas.{beside_none, beside_set, beside_both}
use Rattle.alternative_bytes.specs.AlternativeBytes.{alternative_in}
use Rattle.alternative_bytes.specs.Promises.{CellNoMore, CellBoth, EqualTo, DifferAt, NoMore, BothPut, Copied}
use Rattle.alternative_bytes.proofs.Laws.{cell_number_of, alternative_length, alternative_cell, both_cell_at}

-- ---- one cell asks no more

module _ (bytes : List ℕ) (k cell other : ℕ) where
  pub no_more_same : cell ≡ other → CellNoMore true bytes k cell other
  no_more_same e = record { says = λ f s. rw e (sym (no_more_cell_refl f (cell_of other))) }

  pub no_more_none : None ≡ cell_of cell → CellNoMore true bytes k cell other
  unfolding no_more_cell
  no_more_none e = record { says = λ f s. rw (← e) refl }

  module _ (r : Tick) (there : Some r ≡ cell_of cell) where
    pub more_than_none : None ≡ cell_of other → CellNoMore false bytes k cell other
    unfolding no_more_cell
    more_than_none e = record { says = λ f s. rw (← there, ← e) refl }

    module _ (q : Tick) (there' : Some q ≡ cell_of other) (code : ℕ) (same : code ≡ code_of bytes k) (b : Bool) where
      -- both cells have a number
      numbers : (f : Formula) → no_more_ticks f r q ≡ no_more_cell f (cell_of cell) (cell_of other)
      unfolding no_more_cell
      numbers f = rw (← there, ← there') refl

      pub no_more_always : code ≡ 11 → b ≡ is_le (nat_cmp r.0 q.0) → CellNoMore b bytes k cell other
      unfolding no_more_ticks at_most
      no_more_always eleven le =
          record {
            says = λ f s. by_always bytes k (λ f. b ≡ no_more_cell f (cell_of cell) (cell_of other)) f s (omega arith)
                (λ t g s. le ∙ at_most_number r.0 q.0 ∙ numbers _);
          }

      pub no_more_until : code ≡ 12 → b ≡ is_le (nat_cmp q.0 r.0) → CellNoMore b bytes k cell other
      unfolding no_more_ticks at_most
      no_more_until twelve le =
          record {
            says = λ f s. by_until bytes k (λ f. b ≡ no_more_cell f (cell_of cell) (cell_of other)) f s (omega arith)
                (λ t g h s. le ∙ at_most_number q.0 r.0 ∙ numbers _);
          }

      pub no_more_other : (code ≡ 11 → ⊥) → (code ≡ 12 → ⊥) → b ≡ eqb r.0 q.0 → CellNoMore b bytes k cell other
      unfolding no_more_ticks same_ticks
      no_more_other not_always not_until eq =
          record {
            says = λ f s. by_kind bytes k (λ f. b ≡ no_more_cell f (cell_of cell) (cell_of other)) f s
                (λ b s lo. eq ∙ numbers _) (λ a b s lo up. eq ∙ numbers _) (λ a b s at. eq ∙ numbers _)
                (λ a b s lo up. eq ∙ numbers _) (λ a b c s lo up. eq ∙ numbers _)
                (λ a b s at. absurd (omega arith)) (λ a b c s at. absurd (omega arith));
          }

-- ---- equal bytes

pub equal_none : (n : ℕ) (area : List ℕ) (p q k : ℕ) → k ≤ n → EqualTo n area p q k k
equal_none n area p q k low = record { least = omega arith; most = low; equal = λ j from below. absurd (omega arith) }

module _ (n : ℕ) (area : List ℕ) (p q k i : ℕ) (so_far : EqualTo n area p q k i) where
  -- The next eight bytes are equal.
  pub equal_eight : (x y : ℕ) → x ≡ number_at 8 area (p + i) → y ≡ number_at 8 area (q + i) → x ≡ y → 8 ≤ n - i
      → ((j : ℕ) → Fits w8 (get_or area j 0)) → EqualTo n area p q k (i + 8)
  equal_eight x y is_x is_y same room bytes =
      record {
        least = omega (arith, so_far.least);
        most = omega arith;
        equal = λ j from below. elim (dec_lt j i) [
          | yes before ↦ so_far.equal j from before
          | no here ↦ (
              let place : p + i + (j - i) ≡ p + j = omega arith in
              let place' : q + i + (j - i) ≡ q + j = omega arith in
              rw (← place, ← place') (same_bytes 8 area (p + i) (q + i) bytes (sym is_x ∙ same ∙ is_y) (j - i) (omega arith)))
        ];
      }

-- What passes over one equal byte passes over them all.
pass_over : (P : ℕ → Type 0) (n : ℕ) (area : List ℕ) (p q k r : ℕ)
    → ((i : ℕ) → i < n → get_or area (p + i) 0 ≡ get_or area (q + i) 0 → P i → P (i + 1)) → EqualTo n area p q k r → P k → P r
pass_over P n area p q k r over same start =
    let all : k + (r - k) ≡ r = omega (arith, same.least) in
    subst P all (go (r - k) (omega (arith, same.least)))
  where
    go : (m : ℕ) → k + m ≤ r → P (k + m)
    go zero inside = let here : k + 0 ≡ k = omega arith in subst P (sym here) start
    go (suc m) inside =
        let next : k + m + 1 ≡ k + suc m = omega arith in
        subst P next (over (k + m) (omega (arith, same.most)) (same.equal (k + m) (omega arith) (omega arith)) (go m (omega arith)))

-- ---- all cells ask no more

-- The loop over the nodes has come to number k: those from k on decide.
pub record Asking (bytes : List ℕ) (n : ℕ) (area : List ℕ) (p q k : ℕ) : Type 0 where
  pub low : k ≤ n
  pub left : (fs : List Formula) → AreNodes bytes n fs
      → asks_no_more fs (alternative_in area n p) (alternative_in area n q)
      ≡ asks_no_more (drop k fs) (drop k (alternative_in area n p)) (drop k (alternative_in area n q))

asking_all : (bytes : List ℕ) (n : ℕ) (area : List ℕ) (p q : ℕ) → Asking bytes n area p q 0
asking_all bytes n area p q = record { low = omega arith; left = λ fs are. refl }

-- the next cells, and those behind them
asks_cons : (fs : List Formula) (o u : Pending) (k : ℕ) → k < length fs → k < length o → k < length u
    → asks_no_more (drop k fs) (drop k o) (drop k u)
    ≡ (no_more_cell (get_or fs k (constant false)) (get_or o k None) (get_or u k None) && asks_no_more (drop (k + 1) fs) (drop (k + 1) o) (drop (k + 1) u))
unfolding asks_no_more first_cell later_cells
asks_cons fs o u k a b c = rw (drop-cons fs k (constant false) a, drop-cons o k None b, drop-cons u k None c, add-one) refl

module _ (bytes : List ℕ) (n : ℕ) (area : List ℕ) (p q k : ℕ) (going : Asking bytes n area p q k) where
  pub asking_end : n ≤ k → NoMore true bytes n area p q
  unfolding asks_no_more
  asking_end over =
      record {
        says = λ fs are.
            let done : length fs ≤ k = omega (arith, are.all) in
            sym (going.left fs are ∙ rw (drop_of_length-le fs done));
      }

  module _ (low : k < n) (fits : p + n ≤ length area) (fits' : q + n ≤ length area) (b : Bool)
      (cells : CellNoMore b bytes k (get_or area (p + k) 0) (get_or area (q + k) 0)) where
    unrolled : (fs : List Formula) → AreNodes bytes n fs
        → asks_no_more fs (alternative_in area n p) (alternative_in area n q)
        ≡ (b && asks_no_more (drop (k + 1) fs) (drop (k + 1) (alternative_in area n p)) (drop (k + 1) (alternative_in area n q)))
    unrolled fs are =
        let many : k < length fs = omega (arith, are.all) in
        let more : k < length (alternative_in area n p) = omega (arith, alternative_length area n p fits) in
        let more' : k < length (alternative_in area n q) = omega (arith, alternative_length area n q fits') in
        going.left fs are ∙ asks_cons fs (alternative_in area n p) (alternative_in area n q) k many more more'
        ∙ rw (alternative_cell area n p k low, alternative_cell area n q k low, ← cells.says (get_or fs k (constant false)) (are.stored k low)) refl

    pub asking_fails : not b ≡ true → NoMore false bytes n area p q
    asking_fails fails = record { says = λ fs are. sym (unrolled fs are ∙ rw (not-true b fails) refl) }

    asking_next : b ≡ true → Asking bytes n area p q (k + 1)
    asking_next passes = record { low = omega arith; left = λ fs are. unrolled fs are ∙ rw passes refl }

-- Cells that are equal are passed over,
asking_over : (bytes : List ℕ) (n : ℕ) (area : List ℕ) (p q k r : ℕ) → DifferAt n area p q k r → p + n ≤ length area → q + n ≤ length area
    → Asking bytes n area p q k → Asking bytes n area p q r
asking_over bytes n area p q k r differ fits fits' going =
    pass_over (Asking bytes n area p q) n area p q k r
    (λ i low same going. asking_next bytes n area p q i going low fits fits' true
    (no_more_same bytes i (get_or area (p + i) 0) (get_or area (q + i) 0) same) refl) differ.before going

-- from the first on,
pub asking_start : (bytes : List ℕ) (n : ℕ) (area : List ℕ) (p q r : ℕ) → DifferAt n area p q 0 r → p + n ≤ length area
    → q + n ≤ length area → Asking bytes n area p q r
asking_start bytes n area p q r differ fits fits' = asking_over bytes n area p q 0 r differ fits fits' (asking_all bytes n area p q)

-- and behind a cell that asks no more.
pub asking_on : (bytes : List ℕ) (n : ℕ) (area : List ℕ) (p q k r : ℕ) (b : Bool) → DifferAt n area p q (k + 1) r
    → Asking bytes n area p q k → CellNoMore b bytes k (get_or area (p + k) 0) (get_or area (q + k) 0) → not b ≡ false → k < n
    → p + n ≤ length area → q + n ≤ length area → Asking bytes n area p q r
asking_on bytes n area p q k r b differ going cells passes low fits fits' =
    asking_over bytes n area p q (k + 1) r differ fits fits'
    (asking_next bytes n area p q k going low fits fits' b cells (not-false b passes))

pub fewer_left : (n : ℕ) (area : List ℕ) (p q k r : ℕ) → DifferAt n area p q (k + 1) r → k < n → n - r < n - k
fewer_left n area p q k r differ low = omega (arith, differ.before.least)

-- ---- which comes first

-- The bytes from k on decide.
record Ordering (n : ℕ) (area : List ℕ) (p q k : ℕ) : Type 0 where
  left : earlier (alternative_in area n p) (alternative_in area n q)
      ≡ earlier (drop k (alternative_in area n p)) (drop k (alternative_in area n q))

-- the next cells, and those behind them
earlier_cons : (o u : Pending) (k : ℕ) → k < length o → k < length u
    → earlier (drop k o) (drop k u)
    ≡ (ltb (cell_number (get_or o k None)) (cell_number (get_or u k None))
    || (eqb (cell_number (get_or o k None)) (cell_number (get_or u k None)) && earlier (drop (k + 1) o) (drop (k + 1) u)))
unfolding earlier
earlier_cons o u k b c = rw (drop-cons o k None b, drop-cons u k None c, add-one) refl

or_none : (a : Bool) → (a || false) ≡ a
or_none true = refl
or_none false = refl

module _ (n : ℕ) (area : List ℕ) (p q : ℕ) (fits : p + n ≤ length area) (fits' : q + n ≤ length area) where
  compared : (k : ℕ) → Ordering n area p q k → k < n → earlier (alternative_in area n p) (alternative_in area n q)
      ≡ (ltb (get_or area (p + k) 0) (get_or area (q + k) 0)
      || (eqb (get_or area (p + k) 0) (get_or area (q + k) 0)
      && earlier (drop (k + 1) (alternative_in area n p)) (drop (k + 1) (alternative_in area n q))))
  compared k going low =
      let more : k < length (alternative_in area n p) = omega (arith, alternative_length area n p fits) in
      let more' : k < length (alternative_in area n q) = omega (arith, alternative_length area n q fits') in
      going.left ∙ earlier_cons (alternative_in area n p) (alternative_in area n q) k more more'
      ∙ rw (alternative_cell area n p k low, alternative_cell area n q k low, cell_number_of (get_or area (p + k) 0), cell_number_of (get_or area (q + k) 0))
      refl

  ordering_on : (k : ℕ) → k < n → get_or area (p + k) 0 ≡ get_or area (q + k) 0 → Ordering n area p q k → Ordering n area p q (k + 1)
  ordering_on k low same going =
      record {
        left = compared k going low
            ∙ rw (eq-eqb (get_or area (p + k) 0) (get_or area (q + k) 0) same, le-ltb (get_or area (p + k) 0) (get_or area (q + k) 0) (omega arith)) refl;
      }

  -- where they differ first, those from there on
  ordering_from : (k : ℕ) → DifferAt n area p q 0 k → Ordering n area p q k
  ordering_from k differ = pass_over (Ordering n area p q) n area p q 0 k ordering_on differ.before (record { left = refl })

-- They do not differ.
pub ordering_end : (n : ℕ) (area : List ℕ) (p q k : ℕ) → DifferAt n area p q 0 k → n ≤ k → p + n ≤ length area → q + n ≤ length area
    → false ≡ earlier (alternative_in area n p) (alternative_in area n q)
unfolding earlier
ordering_end n area p q k differ over fits fits' =
    let done : length (alternative_in area n p) ≤ k = omega (arith, alternative_length area n p fits) in
    let done' : length (alternative_in area n q) ≤ k = omega (arith, alternative_length area n q fits') in
    sym ((ordering_from n area p q fits fits' k differ).left
    ∙ rw (drop_of_length-le (alternative_in area n p) done, drop_of_length-le (alternative_in area n q) done') refl)

-- They differ first at k.
pub ordering_differ : (n : ℕ) (area : List ℕ) (p q k : ℕ) → DifferAt n area p q 0 k → k < n → p + n ≤ length area → q + n ≤ length area
    → ltb (get_or area (p + k) 0) (get_or area (q + k) 0) ≡ earlier (alternative_in area n p) (alternative_in area n q)
ordering_differ n area p q k differ low fits fits' =
    sym (compared n area p q fits fits' k (ordering_from n area p q fits fits' k differ) low
    ∙ rw (ne_eqb (get_or area (p + k) 0) (get_or area (q + k) 0) (differ.apart low)) (or_none (ltb (get_or area (p + k) 0) (get_or area (q + k) 0))))

-- ---- both cells

module _ (bytes : List ℕ) (k cell other : ℕ) where
  pub both_first : None ≡ cell_of other → CellBoth cell bytes k cell other
  unfolding both_cells
  both_first e = record { says = λ f s. rw (← e) (sym (alone f (cell_of cell))) }
    where
      alone : (f : Formula) (o : Option Tick) → both_cells f o None ≡ o
      alone f None = refl
      alone f (Some r) = refl

  pub both_merged : (r m : Tick) → Some r ≡ cell_of other → Merged m bytes k r cell → CellBoth (m.0 + 1) bytes k cell other
  unfolding both_cells coming
  both_merged r m there merged = record { says = λ f s. cell_one_more m.0 ∙ rw (← there, merged.says f s) (came f (cell_of cell)) }
    where
      came : (f : Formula) (o : Option Tick) → Some (coming f r o) ≡ both_cells f o (Some r)
      came f None = refl
      came f (Some q) = refl

-- ---- an alternative is written, byte by byte

-- The first k of the n bytes at `to` say what they should. Every byte but the n is as it was.
pub record Filling (Says : ℕ → ℕ → Type 0) (first : List ℕ) (to n : ℕ) (area : List ℕ) (k : ℕ) : Type 0 where
  pub low : k ≤ n
  pub size : length area ≡ length first
  pub beside : Beside first to n area
  pub says : (j : ℕ) → j < k → Says j (get_or area (to + j) 0)

pub filling_start : (Says : ℕ → ℕ → Type 0) (first : List ℕ) (to n : ℕ) → Filling Says first to n first 0
filling_start Says first to n =
    record { low = omega arith; size = refl; beside = beside_none first to n; says = λ j low. absurd (omega arith) }

-- A byte is stored.
pub filling_on : (Says : ℕ → ℕ → Type 0) (first : List ℕ) (to n : ℕ) (area : List ℕ) (k v : ℕ) → Filling Says first to n area k → k < n
    → to + n ≤ length first → Says k v → Filling Says first to n (set area (to + k) v) (k + 1)
filling_on Says first to n area k v going low fits says =
    record {
      low = omega arith;
      size = length-set area (to + k) v ∙ going.size;
      beside = beside_both first to n area (set area (to + k) v) going.beside (beside_set area to n k v low);
      says = λ j below. said j below (dec_lt j k);
    }
  where
    said : (j : ℕ) → j < k + 1 → Dec (j < k) → Says j (get_or (set area (to + k) v) (to + j) 0)
    said j below (yes before) = subst (Says j) (sym (get_or-set_other area (to + k) (to + j) v 0 (λ e. omega arith))) (going.says j before)
    said j below (no here) =
        let last : j ≡ k = omega arith in
        rw last (subst (Says k) (sym (get_or-set_same area (to + k) v 0 (omega (arith, going.size)))) says)

-- what byte j of a copy should be
abbrev pub SameByte : List ℕ → ℕ → ℕ → ℕ → Type 0
SameByte area p j byte = byte ≡ get_or area (p + j) 0

module _ (n : ℕ) (area : List ℕ) (p : ℕ) (room : List ℕ) (to : ℕ) (after : List ℕ) (k : ℕ) (over : n ≤ k) (fits : to + n ≤ length room) where
  pub copy_end : Filling (SameByte area p) room to n after k → p + n ≤ length area → Copied n area p room to after
  copy_end going fits_p =
      let length_to = alternative_length after n to (omega (arith, going.size)) in
      record {
        beside = going.beside;
        is = ext_get_or None (alternative_in after n to) (alternative_in area n p) (length_to ∙ sym (alternative_length area n p fits_p))
            (λ i inside. let low : i < n = omega (arith, length_to) in
            alternative_cell after n to i low ∙ ap cell_of (going.says i (omega arith)) ∙ sym (alternative_cell area n p i low));
      }

-- ---- both of two alternatives

-- what byte j of both of two should be
abbrev pub BothByte : List ℕ → List ℕ → ℕ → ℕ → ℕ → ℕ → Type 0
BothByte bytes area p q j byte = CellBoth byte bytes j (get_or area (p + j) 0) (get_or area (q + j) 0)

-- The first k of the n bytes at `to` say what both ask; the others are the first alternative still.
pub record Merging (bytes : List ℕ) (n : ℕ) (area : List ℕ) (p q : ℕ) (first : List ℕ) (to : ℕ) (room : List ℕ) (k : ℕ) : Type 0 where
  pub filling : Filling (BothByte bytes area p q) first to n room k
  pub fits : to + n ≤ length first
  pub still : (j : ℕ) → k ≤ j → j < n → cell_of (get_or room (to + j) 0) ≡ cell_of (get_or area (p + j) 0)

module _ (bytes : List ℕ) (n : ℕ) (area : List ℕ) (p q : ℕ) (first : List ℕ) (to : ℕ) where
  -- no byte is written yet
  merging_none : (entry : List ℕ) → Copied n area p entry to first → to + n ≤ length entry → Merging bytes n area p q first to first 0
  merging_none entry copied fits =
      record {
        filling = filling_start (BothByte bytes area p q) first to n;
        fits = omega (arith, copied.beside.size);
        still = λ j from low. sym (alternative_cell first n to j low) ∙ ap (λ (o : Pending). get_or o j None) copied.is ∙ alternative_cell area n p j low;
      }

  -- empty cells are passed over
  merging_over : (room : List ℕ) (k r : ℕ) → EmptyTo area q n k r → Merging bytes n area p q first to room k
      → Merging bytes n area p q first to room r
  merging_over room k r over going =
      record {
        filling = record {
          low = over.most;
          size = going.filling.size;
          beside = going.filling.beside;
          says = λ j below. elim (dec_lt j k) [
            | yes before ↦ going.filling.says j before
            | no here ↦ record {
              says = λ f s. going.still j (omega arith) (omega (arith, over.most))
                  ∙ (both_first bytes j (get_or area (p + j) 0) (get_or area (q + j) 0) (cell_empty _ (over.empty j (omega arith) below))).says f s;
            }
          ];
        };
        fits = going.fits;
        still = λ j from low. going.still j (omega (arith, over.least)) low;
      }

  -- a byte is stored
  merging_set : (room : List ℕ) (k v : ℕ) → Merging bytes n area p q first to room k → k < n → BothByte bytes area p q k v
      → Merging bytes n area p q first to (set room (to + k) v) (k + 1)
  merging_set room k v going low says =
      record {
        filling = filling_on (BothByte bytes area p q) first to n room k v going.filling low going.fits says;
        fits = going.fits;
        still = λ j from inside. ap cell_of (get_or-set_other room (to + k) (to + j) v 0 (λ e. omega arith)) ∙ going.still j (omega arith) inside;
      }

-- The first empty cells are passed over,
pub merging_start : (bytes : List ℕ) (n : ℕ) (area : List ℕ) (p q : ℕ) (first : List ℕ) (to k : ℕ) (entry : List ℕ) → EmptyTo area q n 0 k
    → Copied n area p entry to first → to + n ≤ length entry → Merging bytes n area p q first to first k
merging_start bytes n area p q first to k entry over copied fits =
    merging_over bytes n area p q first to first 0 k over (merging_none bytes n area p q first to entry copied fits)

-- and those behind a cell whose byte is stored.
pub merging_on : (bytes : List ℕ) (n : ℕ) (area : List ℕ) (p q : ℕ) (first : List ℕ) (to : ℕ) (room : List ℕ) (k v r : ℕ)
    → EmptyTo area q n (k + 1) r → Merging bytes n area p q first to room k → BothByte bytes area p q k v → k < n
    → Merging bytes n area p q first to (set room (to + k) v) r
merging_on bytes n area p q first to room k v r over going says low =
    merging_over bytes n area p q first to (set room (to + k) v) (k + 1) r over
    (merging_set bytes n area p q first to room k v going low says)

pub merging_end : (bytes : List ℕ) (n : ℕ) (area : List ℕ) (p q : ℕ) (entry first : List ℕ) (to : ℕ) (after : List ℕ) (k : ℕ)
    → Merging bytes n area p q first to after k → Copied n area p entry to first → n ≤ k
    → BothPut bytes n area p q entry to after
merging_end bytes n area p q entry first to after k going copied over =
    let length_to = alternative_length after n to (omega (arith, going.filling.size, going.fits)) in
    record {
      beside = beside_both entry to n first after copied.beside going.filling.beside;
      says = λ fs are.
          ext_get_or None (alternative_in after n to) (both fs (alternative_in area n p) (alternative_in area n q))
          (length_to ∙ sym (both_sized fs (alternative_in area n p) (alternative_in area n q) ∙ are.all))
          (λ i inside. let low : i < n = omega (arith, length_to) in
          let there : i < length fs = omega (arith, are.all) in
          alternative_cell after n to i low ∙ (going.filling.says i (omega arith)).says (get_or fs i (constant false)) (are.stored i low)
          ∙ sym (both_cell_at fs (alternative_in area n p) (alternative_in area n q) i there
          ∙ rw (alternative_cell area n p i low, alternative_cell area n q i low)));
    }
