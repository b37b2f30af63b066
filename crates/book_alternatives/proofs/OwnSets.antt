-- The own set of a node, by the ways through `tested` and `alone`.
use Prim.Native.Nat.{ℕ, ◌+◌, ◌-◌, ◌*◌, ◌≤◌, ◌<◌}
use native.Mathlib.Omega.{arith}
use mathlib.Core.Path.{◌≡◌, refl, ◌∙◌, ap}
use mathlib.Core.Bool.{Bool, true, false, not}
use Rattle.std.specs.Prelude.{None}
use mathlib.Core.List.{List, [], ◌∷◌}
use lib.ListN.{length, set, take, drop, replicate, length-replicate}
use lib.Seq.{take-set-lt, drop-set-add}
use borrow.Author.Tests.{not-true, not-false}
use borrow.Rule.Slice.PartMut.{put_mid}
use Rattle.logic.specs.declared.Tick.{Tick}
use Rattle.alternatives.specs.Alternatives.{these}
use Rattle.alternatives.specs.Progression.{nothing_pending, alone_pending, if_so}
use Rattle.book_progression.specs.PendingBytes.{pending_of, part}
use Rattle.book_progression.specs.Promises.{Beside}
use Rattle.book_progression.proofs.Cells.{cell_one_more, pending_set, pending_none}
use Rattle.book_progression.proofs.Areas.{lent_length, part_back, beside_back, beside_none, beside_set, beside_both}
use Rattle.set_bytes.proofs.Elsewhere.{beside_wider}
use Rattle.book_alternatives.specs.declared.SetAt.{SetAt}
use Rattle.book_alternatives.specs.Offers.{sets_size, OwnReady, Tested, Alone, NoneCombined}
use Rattle.book_alternatives.proofs.Sets.{none_answered, one_answered}

-- a set
abbrev pub set_at : ℕ → ℕ → SetAt
set_at at count = record { at = at; count = count }

-- ---- a part that is cleared

module _ (n at : ℕ) (sets zeros : List ℕ) (fits : at + n ≤ length sets)
    (cleared : zeros ≡ replicate (length (take (at + n - at) (drop at sets))) 0) where
  are : zeros ≡ replicate n 0
  are = cleared ∙ ap (λ m. replicate m 0) (lent_length sets at n fits)

  many : length zeros ≡ n
  many = ap length are ∙ length-replicate {A = ℕ} n 0

  pub cleared_beside : Beside sets at n (put_mid at (at + n - at) sets zeros)
  cleared_beside = beside_back sets at n zeros fits many

  -- Nothing is pending there.
  pub cleared_part : pending_of (part (put_mid at (at + n - at) sets zeros) at n) ≡ replicate n None
  cleared_part = ap pending_of (part_back sets at n zeros fits many ∙ are) ∙ pending_none n

-- ---- tested

module _ (test : Bool) (n k : ℕ) (sets : List ℕ) where
  pub tested_fails : not test ≡ true → Tested (set_at (960 * k) 0) test n k sets sets
  unfolding if_so
  tested_fails fails =
      record {
        own = record { place = refl; most = omega arith; beside = beside_none sets (960 * k) 960 };
        says = λ fs all. none_answered sets n (960 * k) ∙ rw (not-true test fails);
      }

  pub tested_passes : (zeros : List ℕ) → zeros ≡ replicate (length (take (960 * k + n - 960 * k) (drop (960 * k) sets))) 0 → OwnReady n k sets
      → not test ≡ false → Tested (set_at (960 * k) 1) test n k sets (put_mid (960 * k) (960 * k + n - 960 * k) sets zeros)
  unfolding if_so nothing_pending
  tested_passes zeros cleared ready passes =
      record {
        own = record {
          place = refl;
          most = omega arith;
          beside = beside_wider sets (960 * k) n (put_mid (960 * k) (960 * k + n - 960 * k) sets zeros) (960 * k) 960
              (cleared_beside n (960 * k) sets zeros fits cleared) (omega arith) (omega (arith, ready.few));
        };
        says = λ fs all.
            one_answered (put_mid (960 * k) (960 * k + n - 960 * k) sets zeros) n (960 * k)
            ∙ ap (λ p. these (p ∷ [])) (cleared_part n (960 * k) sets zeros fits cleared)
            ∙ rw (not-false test passes, all);
      }
    where
      fits : 960 * k + n ≤ length sets
      fits = omega (arith, ready.few, ready.node, ready.sets_room)

-- ---- alone

-- A byte of a part is stored.
pub part_set : (area : List ℕ) (at n p v : ℕ) → p < n → part (set area (at + p) v) at n ≡ set (part area at n) p v
unfolding part
part_set area at n p v low = ap (take n) (drop-set-add at area p v) ∙ take-set-lt n (drop at area) p v low

pub alone_set : (n k part : ℕ) (r : Tick) (sets zeros : List ℕ)
    → zeros ≡ replicate (length (take (960 * k + n - 960 * k) (drop (960 * k) sets))) 0 → OwnReady n k sets → part < n
    → Alone (set_at (960 * k) 1) n k part r sets (set (put_mid (960 * k) (960 * k + n - 960 * k) sets zeros) (960 * k + part) (r.0 + 1))
unfolding alone_pending
alone_set n k p r sets zeros cleared ready low =
    record {
      own = record {
        place = refl;
        most = omega arith;
        beside = beside_wider sets (960 * k) n after (960 * k) 960
            (beside_both sets (960 * k) n mid after (cleared_beside n (960 * k) sets zeros fits cleared) (beside_set mid (960 * k) n p (r.0 + 1) low))
            (omega arith) (omega (arith, ready.few));
      };
      says = λ fs all.
          one_answered after n (960 * k)
          ∙ ap (λ l. these (l ∷ [])) (ap pending_of (part_set mid (960 * k) n p (r.0 + 1) low) ∙ pending_set (part mid (960 * k) n) p (r.0 + 1)
          ∙ rw (cleared_part n (960 * k) sets zeros fits cleared, cell_one_more r.0, all) refl);
    }
  where
    fits : 960 * k + n ≤ length sets
    fits = omega (arith, ready.few, ready.node, ready.sets_room)

    mid : List ℕ
    mid = put_mid (960 * k) (960 * k + n - 960 * k) sets zeros

    after : List ℕ
    after = set mid (960 * k + p) (r.0 + 1)

-- ---- nothing is combined so far

pub none_combined : (n : ℕ) (sets zeros : List ℕ) → zeros ≡ replicate (length (take (57600 + n - 57600) (drop 57600 sets))) 0 → n ≤ 60
    → sets_size ≤ length sets → NoneCombined n sets (put_mid 57600 (57600 + n - 57600) sets zeros)
unfolding nothing_pending
none_combined n sets zeros cleared few room =
    record {
      beside = beside_wider sets 57600 n (put_mid 57600 (57600 + n - 57600) sets zeros) 57600 960 (cleared_beside n 57600 sets zeros (omega arith) cleared)
          (omega arith) (omega arith);
      says = λ fs all.
          one_answered (put_mid 57600 (57600 + n - 57600) sets zeros) n 57600
          ∙ ap (λ p. these (p ∷ [])) (cleared_part n 57600 sets zeros (omega arith) cleared) ∙ rw all refl;
    }
