-- The chosen candidates are written to a set, one by one.
use Prim.Native.Nat.{ℕ, ◌+◌, ◌*◌, ◌≤◌, ◌<◌}
use native.Mathlib.Omega.{arith}
use mathlib.Core.Path.{◌≡◌, refl, sym, ◌∙◌, ap₂}
use mathlib.Core.List.{List, [], ◌∷◌, ◌++◌}
use lib.ListN.{length, get_or}
use Rattle.base.specs.Lists.{count_from, below}
use Rattle.pending.specs.Pending.{Pending}
use Rattle.book_progression.specs.Promises.{Beside}
use Rattle.book_progression.proofs.Areas.{beside_none, beside_both}
use Rattle.alternative_bytes.specs.Promises.{Copied}
use Rattle.set_bytes.specs.SetBytes.{set_in, candidate, chosen}
use Rattle.set_bytes.specs.Promises.{PutOut}
use Rattle.set_bytes.proofs.Elsewhere.{alternative_before, beside_wider}
use Rattle.set_bytes.proofs.Chosen.{chosen_next}
use Rattle.set_bytes.proofs.Sets.{set_next, set_same}

-- The first i are written, where `first` was in the area.
pub record PuttingOut (n : ℕ) (room order : List ℕ) (r : ℕ) (first : List ℕ) (to : ℕ) (sets : List ℕ) (i : ℕ) : Type 0 where
  pub done : i ≤ r
  pub beside : Beside first to 960 sets
  pub is : set_in sets n to i ≡ chosen room n order i

pub put_start : (n : ℕ) (room order : List ℕ) (r : ℕ) (sets : List ℕ) (to : ℕ) → PuttingOut n room order r sets to sets 0
unfolding set_in below count_from chosen
put_start n room order r sets to = record { done = omega arith; beside = beside_none sets to 960; is = refl }

pub put_next : (n : ℕ) (room order : List ℕ) (r : ℕ) (first : List ℕ) (to : ℕ) (sets : List ℕ) (i : ℕ) (after : List ℕ)
    → PuttingOut n room order r first to sets i → Copied n room (60 * get_or order i 0) sets (to + 60 * i) after → i < r → r ≤ 16
    → r ≤ length order → n ≤ 60 → PuttingOut n room order r first to after (i + 1)
unfolding candidate
put_next n room order r first to sets i after going copied low few listed nodes =
    record {
      done = omega arith;
      beside =
          beside_both first to 960 sets after going.beside
          (beside_wider sets (to + 60 * i) n after to 960 copied.beside (omega arith) (omega arith));
      is =
          set_next after n to i
          ∙ ap₂ (λ (xs : List Pending) (x : Pending). xs ++ (x ∷ [])) (before ∙ going.is) copied.is
          ∙ sym (chosen_next room n order i (omega arith));
    }
  where
    before : set_in after n to i ≡ set_in sets n to i
    before =
        set_same sets after n to i (λ j l.
        alternative_before sets after (to + 60 * i) n (to + 60 * j) copied.beside.before (omega arith))

pub put_end : (n : ℕ) (room order : List ℕ) (r : ℕ) (first : List ℕ) (to : ℕ) (sets : List ℕ) (i : ℕ)
    → PuttingOut n room order r first to sets i → r ≤ i → PutOut n room order r first to sets
put_end n room order r first to sets i going all =
    let e : r ≡ i = omega (arith, going.done) in
    record { beside = going.beside; is = rw e going.is }

-- There is room for the next.
pub put_room : (n : ℕ) (room order : List ℕ) (r : ℕ) (first : List ℕ) (to : ℕ) (sets : List ℕ) (i : ℕ)
    → PuttingOut n room order r first to sets i → i < r → r ≤ 16 → n ≤ 60 → to + 960 ≤ length first → to + 60 * i + n ≤ length sets
put_room n room order r first to sets i going low few nodes fits = omega (arith, going.beside.size)
