-- The loop that takes alternatives from another area, one by one.
use Prim.Native.Nat.{ℕ, ◌+◌, ◌*◌, ◌≤◌, ◌<◌}
use native.Mathlib.Omega.{arith}
use native.Mathlib.Decide.{dec_lt}
use mathlib.Core.Path.{◌≡◌, refl, sym, ◌∙◌, ap, ap₂}
use mathlib.Core.Logic.{◌⊎◌, inl, inr}
use mathlib.Core.List.{List, [], ◌∷◌, ◌++◌}
use lib.ListN.{length}
use Rattle.base.specs.Bytes.{byte_at}
use Rattle.base.specs.Lists.{count_from, below}
use Rattle.pending.specs.Pending.{Pending}
use Rattle.alternative_bytes.specs.AlternativeBytes.{alternative_in}
use Rattle.alternative_bytes.specs.Promises.{Copied}
use Rattle.set_bytes.specs.SetBytes.{set_in}
use Rattle.set_bytes.proofs.Elsewhere.{alternative_before}
use Rattle.set_bytes.proofs.Sets.{set_next, set_same}
use Rattle.set_index.specs.Entries.{entries_size}
use Rattle.pair_sets.specs.PairSets.{Taken}
use Rattle.pair_sets.proofs.Alternatives.{beside_byte}

-- The first j are taken, where `first` was in the area.
pub record Taking (n : ℕ) (first : List ℕ) (t : ℕ) (room : List ℕ) (at count j : ℕ) (area : List ℕ) : Type 0 where
  pub few : n ≤ 60
  pub space : 60 * (t + count) ≤ length first
  pub long : length area ≡ length first
  pub done : j ≤ count
  pub beside : (p : ℕ) → (p < 60 * t) ⊎ (60 * (t + count) ≤ p) → byte_at area p ≡ byte_at first p
  pub behind : (s p : ℕ) → n ≤ p → p < 60 → byte_at area (60 * s + p) ≡ byte_at first (60 * s + p)
  pub is : set_in area n (60 * t) j ≡ set_in room n at j

pub taking_start : (n : ℕ) (area : List ℕ) (t : ℕ) (room : List ℕ) (at count : ℕ) → n ≤ 60 → t + count ≤ 1016 → entries_size ≤ length area
    → Taking n area t room at count 0 area
unfolding set_in below count_from
taking_start n area t room at count few inside space =
    record {
      few = few;
      space = omega arith;
      long = refl;
      done = omega arith;
      beside = λ p l. refl;
      behind = λ s p l m. refl;
      is = refl;
    }

module _ (n : ℕ) (first : List ℕ) (t : ℕ) (room : List ℕ) (at count j : ℕ) (area : List ℕ) (c : Taking n first t room at count j area) where
  -- There is room for the next.
  pub taking_to : j < count → 60 * (t + j) + n ≤ length area
  taking_to l = omega (arith, c.long, c.space, c.few)

  pub taking_from : j < count → at + 60 * count ≤ length room → at + 60 * j + n ≤ length room
  taking_from l fits = omega (arith, c.few)

  pub taking_next : (after : List ℕ) → Copied n room (at + 60 * j) area (60 * (t + j)) after → j < count
      → Taking n first t room at count (j + 1) after
  taking_next after copied l =
      record {
        few = c.few;
        space = c.space;
        long = copied.beside.size ∙ c.long;
        done = omega arith;
        beside = λ p side. beside_byte area (60 * (t + j)) n after copied.beside p (far p side) ∙ c.beside p side;
        behind = λ s p m k. beside_byte area (60 * (t + j)) n after copied.beside (60 * s + p) (gap s p m k) ∙ c.behind s p m k;
        is =
            set_next after n (60 * t) j
            ∙ ap₂ (λ (xs : List Pending) (x : Pending). xs ++ (x ∷ [])) (before ∙ c.is) (ap (alternative_in after n) place ∙ copied.is)
            ∙ sym (set_next room n at j);
      }
    where
      place : 60 * t + 60 * j ≡ 60 * (t + j)
      place = omega arith

      far : (p : ℕ) → (p < 60 * t) ⊎ (60 * (t + count) ≤ p) → (p < 60 * (t + j)) ⊎ (60 * (t + j) + n ≤ p)
      far p (inl m) = inl (omega arith)
      far p (inr m) = inr (omega (arith, c.few))

      gap : (s p : ℕ) → n ≤ p → p < 60 → (60 * s + p < 60 * (t + j)) ⊎ (60 * (t + j) + n ≤ 60 * s + p)
      gap s p m k = elim (dec_lt s (t + j)) [ yes low ↦ inl (omega arith) | no high ↦ inr (omega arith) ]

      before : set_in after n (60 * t) j ≡ set_in area n (60 * t) j
      before =
          set_same area after n (60 * t) j (λ i m.
          alternative_before area after (60 * (t + j)) n (60 * t + 60 * i) copied.beside.before (omega (arith, c.few)))

  pub taking_end : count ≤ j → Taken n first t room at count area
  taking_end l =
      let e : count ≡ j = omega (arith, c.done) in
      record { size = c.long; beside = c.beside; behind = c.behind; is = rw e c.is }
