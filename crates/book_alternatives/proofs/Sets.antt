-- Sets of alternatives in an area: which bytes change, and which sets stay.
use Prim.Native.Nat.{ℕ, ◌+◌, ◌-◌, ◌*◌, ◌≤◌, ◌<◌}
use native.Mathlib.Omega.{arith}
use mathlib.Core.Path.{◌≡◌, refl, sym, ◌∙◌, ap}
use mathlib.Core.Bool.{Bool, true, false}
use mathlib.Core.List.{List, [], ◌∷◌}
use lib.ListN.{take, drop}
use lib.Seq.{take-take, drop-drop}
use lib.Dec.{ltb}
use borrow.Author.Tests.{ltb-false}
use Rattle.base.specs.Lists.{below, count_from}
use Rattle.alternatives.specs.Alternatives.{these, broken, most_alternatives}
use Rattle.book_progression.specs.PendingBytes.{pending_of, part}
use Rattle.book_progression.specs.Promises.{Beside}
use Rattle.alternative_bytes.specs.AlternativeBytes.{alternative_in}
use Rattle.set_bytes.specs.SetBytes.{set_size, set_in, answered}
use Rattle.set_bytes.specs.Promises.{Candidates}
use Rattle.set_bytes.proofs.Elsewhere.{alternative_before}
use Rattle.set_bytes.proofs.Sets.{set_same}
use Rattle.book_alternatives.specs.Offers.{ChangedIn}

-- ---- bytes that change

-- fewer bytes than stay, and further ones
take_fewer : (area after : List ℕ) (low lower : ℕ) → lower ≤ low → take low after ≡ take low area → take lower after ≡ take lower area
take_fewer area after low lower l same = sym (take-take lower low after l) ∙ ap (take lower) same ∙ take-take lower low area l

drop_further : (area after : List ℕ) (high higher : ℕ) → high ≤ higher → drop high after ≡ drop high area → drop higher after ≡ drop higher area
drop_further area after high higher l same =
    let all : high + (higher - high) ≡ higher = omega arith in
    rw (← all) (sym (drop-drop (higher - high) high after) ∙ ap (drop (higher - high)) same ∙ drop-drop (higher - high) high area)

pub changed_none : (area : List ℕ) (low high : ℕ) → ChangedIn area low high area
changed_none area low high = record { size = refl; before = refl; behind = refl }

-- One change after another.
pub changed_both : (area : List ℕ) (low high : ℕ) (mid after : List ℕ) → ChangedIn area low high mid → ChangedIn mid low high after
    → ChangedIn area low high after
changed_both area low high mid after one two =
    record { size = two.size ∙ one.size; before = two.before ∙ one.before; behind = two.behind ∙ one.behind }

-- What changes within a part of a part changes within that.
pub changed_wider : (area : List ℕ) (low high : ℕ) (after : List ℕ) (lower higher : ℕ) → ChangedIn area low high after → lower ≤ low → high ≤ higher
    → ChangedIn area lower higher after
changed_wider area low high after lower higher changed l m =
    record {
      size = changed.size;
      before = take_fewer area after low lower l changed.before;
      behind = drop_further area after high higher m changed.behind;
    }

pub changed_beside : (area : List ℕ) (to n : ℕ) (after : List ℕ) (low high : ℕ) → Beside area to n after → low ≤ to → to + n ≤ high
    → ChangedIn area low high after
changed_beside area to n after low high beside l m =
    changed_wider area to (to + n) after low high
    (record { size = beside.size; before = beside.before; behind = beside.behind }) l m

-- The same of candidates.
pub candidates_none : (room : List ℕ) → Candidates room 0 room
candidates_none room = record { size = refl; before = refl; behind = refl }

pub candidates_both : (room mid after : List ℕ) → Candidates room 0 mid → Candidates mid 0 after → Candidates room 0 after
candidates_both room mid after one two =
    record { size = two.size ∙ one.size; before = two.before ∙ one.before; behind = two.behind ∙ one.behind }

-- ---- sets that stay

-- A set of at most 16 lies in 960 bytes.
answered_same : (area after : List ℕ) (n at count : ℕ)
    → ((i : ℕ) → i < 16 → alternative_in after n (at + 60 * i) ≡ alternative_in area n (at + 60 * i))
    → answered after n at count ≡ answered area n at count
unfolding answered most_alternatives
answered_same area after n at count same = go (ltb 16 count) refl
  where
    go : (b : Bool) → ltb 16 count ≡ b → answered after n at count ≡ answered area n at count
    go true e = rw e refl
    go false e =
        let most : count ≤ 16 = ltb-false 16 count e in
        rw e (ap these (set_same area after n at count (λ i low. same i (omega arith))))

-- an alternative behind what changes
alternative_further : (area after : List ℕ) (high n p : ℕ) → drop high after ≡ drop high area → high ≤ p → alternative_in after n p ≡ alternative_in area n p
unfolding alternative_in part
alternative_further area after high n p same l = ap (λ (l : List ℕ). pending_of (take n l)) (drop_further area after high p l same)

-- A set stays if it lies before what changes, or behind it.
module _ (area : List ℕ) (low high : ℕ) (after : List ℕ) (n at count : ℕ) (changed : ChangedIn area low high after) where
  pub kept_before : n ≤ 60 → at + set_size ≤ low → answered after n at count ≡ answered area n at count
  kept_before few l = answered_same area after n at count (λ i m. alternative_before area after low n (at + 60 * i) changed.before (omega arith))

  pub kept_behind : high ≤ at → answered after n at count ≡ answered area n at count
  kept_behind l = answered_same area after n at count (λ i m. alternative_further area after high n (at + 60 * i) changed.behind (omega arith))

-- ---- sets of none and of one

pub none_answered : (area : List ℕ) (n at : ℕ) → answered area n at 0 ≡ broken
unfolding answered set_in below count_from most_alternatives
none_answered area n at = refl

pub one_answered : (area : List ℕ) (n at : ℕ) → answered area n at 1 ≡ these (pending_of (part area at n) ∷ [])
unfolding answered set_in below count_from alternative_in most_alternatives
one_answered area n at = let here : at + 60 * 0 ≡ at = omega arith in ap (λ p. these (pending_of (part area p n) ∷ [])) here
