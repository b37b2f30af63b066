-- The set that was combined is copied, byte by byte: the ways through `copy_combined`.
use Prim.Native.Nat.{ℕ, ◌+◌, ◌*◌, ◌≤◌, ◌<◌}
use native.Mathlib.Omega.{arith}
use native.Mathlib.Decide.{dec_lt}
use mathlib.Core.Path.{◌≡◌, refl, sym, ◌∙◌, ap}
use Rattle.std.specs.Prelude.{None}
use mathlib.Core.List.{List}
use lib.ListN.{length, get_or, set, length-set}
use lib.Seq.{get_or-set_same, get_or-set_other, ext_get_or}
use borrow.Author.Tests.{lt-ltb, le-ltb}
use Rattle.base.specs.Lists.{below}
use Rattle.base.proofs.Lists.{length_below, get_or_below}
use Rattle.alternatives.specs.Alternatives.{these, most_alternatives}
use Rattle.book_progression.specs.PendingBytes.{cell_of}
use Rattle.alternative_bytes.specs.AlternativeBytes.{alternative_in}
use Rattle.alternative_bytes.proofs.Laws.{alternative_length, alternative_cell}
use Rattle.set_bytes.specs.SetBytes.{set_in, answered}
use Rattle.set_bytes.proofs.Elsewhere.{map_same}
use Rattle.book_alternatives.specs.Offers.{combined_at, joined_at, sets_size, CombinedCopied}

-- Before byte k of so many is copied, where `first` was in the area.
pub record Copying (first : List ℕ) (size k : ℕ) (area : List ℕ) : Type 0 where
  pub room : sets_size ≤ length first
  pub most : size ≤ 960
  pub low : k ≤ size
  pub long : length area ≡ length first
  pub before : (p : ℕ) → p < joined_at → get_or area p 0 ≡ get_or first p 0
  pub same : (p : ℕ) → p < k → get_or area (joined_at + p) 0 ≡ get_or first (combined_at + p) 0

pub copying_start : (next : ℕ) (area : List ℕ) → sets_size ≤ length area → next ≤ 16 → Copying area (60 * next) 0 area
copying_start next area room few =
    record {
      room = room;
      most = omega arith;
      low = omega arith;
      long = refl;
      before = λ p l. refl;
      same = λ p l. absurd (omega arith);
    }

pub copying_next : (first : List ℕ) (size k : ℕ) (area : List ℕ) → Copying first size k area → k < size
    → Copying first size (k + 1) (set area (58560 + k) (get_or area (57600 + k) 0))
copying_next first size k area c l =
    record {
      room = c.room;
      most = c.most;
      low = omega arith;
      long = length-set area (58560 + k) b ∙ c.long;
      before = λ p m. get_or-set_other area (58560 + k) p b 0 (λ e. omega arith) ∙ c.before p m;
      same = λ p m. copied p m (dec_lt p k);
    }
  where
    b : ℕ
    b = get_or area (57600 + k) 0

    copied : (p : ℕ) → p < k + 1 → Dec (p < k) → get_or (set area (58560 + k) b) (58560 + p) 0 ≡ get_or first (57600 + p) 0
    copied p m (yes d) = get_or-set_other area (58560 + k) (58560 + p) b 0 (λ e. omega arith) ∙ c.same p d
    copied p m (no d) =
        let e : p ≡ k = omega arith in
        rw e (get_or-set_same area (58560 + k) b 0 (omega (arith, c.long, c.room, c.most)) ∙ c.before (57600 + k) (omega (arith, c.most)))

pub copying_over : (next : ℕ) (sets : List ℕ) → 16 < next → CombinedCopied next sets sets
unfolding answered most_alternatives
copying_over next sets many = record { size = refl; says = λ n few. rw (lt-ltb 16 next many) refl }

pub copying_end : (next : ℕ) (first area : List ℕ) (k : ℕ) → Copying first (60 * next) k area → 60 * next ≤ k → next ≤ 16 → CombinedCopied next first area
unfolding answered most_alternatives set_in
copying_end next first area k c over few =
    record {
      size = c.long;
      says = λ n small. rw (le-ltb 16 next few) (ap these (map_same (λ i. alternative_in area n (58560 + 60 * i)) (λ i. alternative_in first n (57600 + 60 * i)) (below next)
          (λ i low.
          let inside : i < next = omega (arith, length_below next) in
          rw (get_or_below next i 0 inside) (one n i small inside))));
    }
  where
    one : (n i : ℕ) → n ≤ 60 → i < next → alternative_in area n (58560 + 60 * i) ≡ alternative_in first n (57600 + 60 * i)
    one n i small inside =
        let here : length (alternative_in area n (58560 + 60 * i)) ≡ n = alternative_length area n (58560 + 60 * i) (omega (arith, c.long, c.room)) in
        let there : length (alternative_in first n (57600 + 60 * i)) ≡ n = alternative_length first n (57600 + 60 * i) (omega (arith, c.room)) in
        ext_get_or None (alternative_in area n (58560 + 60 * i)) (alternative_in first n (57600 + 60 * i)) (here ∙ sym there)
        (λ j within.
        let low : j < n = omega (arith, here) in
        let to : 58560 + 60 * i + j ≡ 58560 + (60 * i + j) = omega arith in
        let from : 57600 + 60 * i + j ≡ 57600 + (60 * i + j) = omega arith in
        alternative_cell area n (58560 + 60 * i) j low
        ∙ ap cell_of (ap (λ p. get_or area p 0) to ∙ c.same (60 * i + j) (omega arith) ∙ ap (λ p. get_or first p 0) (sym from))
        ∙ sym (alternative_cell first n (57600 + 60 * i) j low))
