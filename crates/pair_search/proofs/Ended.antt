-- What the end of a search says of refusals 11 and 20, for those who search.
use mathlib.Core.Path.{◌≡◌, refl, sym, ◌∙◌, subst}
use mathlib.Core.Bool.{Bool, true, false}
use mathlib.Core.List.{List}
use lib.ListN.{length}
use Prim.Native.Nat.{ℕ}
use Rattle.base.specs.Choice.{pick}
use Rattle.logic.specs.Tower.{Tower}
use Rattle.logic.specs.Book.{Book}
use Rattle.alternatives.specs.Pairs.{pairs, over_pairs, over_alternatives}
use Rattle.book_progression.specs.NodeBytes.{IsHeld}
use Rattle.pair_search.specs.Explored.{found, Explored}
use Rattle.std.specs.Prelude.{Ok, Err}
use Rattle.base.specs.Answers.{Answer}
use Rattle.base.specs.declared.Refusal.{Refusal}
use Rattle.base.specs.declared.Refusal.TheVariants.{Pairs, Alternatives}

-- 11; 20 and not 11.
pub data SearchRefuses (tower : Tower) (book : Book) : Refusal → Type 0 where
  too_many : over_pairs tower book ≡ true → SearchRefuses tower book Pairs
  too_wide : over_pairs tower book ≡ false → over_alternatives tower book ≡ true → SearchRefuses tower book Alternatives

-- A refusal, or neither.
abbrev pub FoundSays : Tower → Book → Answer ℕ → Type 0
FoundSays tower book (Err r) = SearchRefuses tower book r
FoundSays tower book (Ok n) = (over_pairs tower book ≡ false) × (over_alternatives tower book ≡ false)

found_says : (tower : Tower) (book : Book) → FoundSays tower book (found tower book)
unfolding found
found_says tower book = go (over_pairs tower book) refl (over_alternatives tower book) refl
  where
    go : (m : Bool) → over_pairs tower book ≡ m → (w : Bool) → over_alternatives tower book ≡ w
        → FoundSays tower book (pick m (λ _. Err Pairs) (λ _. pick w (λ _. Err Alternatives) (λ _. Ok (length (pairs tower book)))))
    go true e w f = too_many e
    go false e true f = too_wide e f
    go false e false f = (e, f)

-- A search that ends so says so.
pub ended_says : (tower : Tower) (nodes graph : List ℕ) (r s : Answer ℕ) → Explored r tower nodes graph → r ≡ s → (h : IsHeld nodes)
    → FoundSays tower h.book s
ended_says tower nodes graph r s explored e h =
    subst (FoundSays tower h.book) (sym (explored.says h) ∙ e) (found_says tower h.book)
