-- What is looked at of a node, and what it makes of the sets of its parts.
use Rattle.std.specs.Prelude.{ℕ, Bool, true, false, ◌&&◌, List}
use Rattle.base.specs.Choice.{pick}
use Rattle.logic.specs.Time.{minus, at_most}
use Rattle.logic.specs.Tower.{Tower}
use Rattle.logic.specs.Book.{Formula, constant, proposition, and, or, next, always_for, until, first_part, second_part}
use Rattle.logic.specs.declared.Tick.{Tick}
use Rattle.pending.specs.Pending.{fresh}
use Rattle.alternatives.specs.Alternatives.{Alternatives, broken, combined, joined_with}
use Rattle.alternatives.specs.Progression.{nothing_pending, alone_pending, alternatives_of}
use Rattle.book_alternatives.specs.declared.Look.{Look}
use Rattle.book_alternatives.specs.declared.Look.TheVariants as Seen

-- the set of the first part of a formula that is node k, and that of its second or only one
unfoldable pub first_comes : Tower → List Formula → ℕ → Tick → Formula → ℕ → Alternatives
first_comes tower fs x d (constant b) k = broken
first_comes tower fs x d (proposition w m) k = broken
first_comes tower fs x d (and f g) k = alternatives_of tower fs x d f (first_part k g) (fresh f)
first_comes tower fs x d (or f g) k = alternatives_of tower fs x d f (first_part k g) (fresh f)
first_comes tower fs x d (next c t g) k = broken
first_comes tower fs x d (always_for t g) k = broken
first_comes tower fs x d (until t f g) k = alternatives_of tower fs x d f (first_part k g) (fresh f)

unfoldable pub second_comes : Tower → List Formula → ℕ → Tick → Formula → ℕ → Alternatives
second_comes tower fs x d (constant b) k = broken
second_comes tower fs x d (proposition w m) k = broken
second_comes tower fs x d (and f g) k = alternatives_of tower fs x d g (second_part k) (fresh g)
second_comes tower fs x d (or f g) k = alternatives_of tower fs x d g (second_part k) (fresh g)
second_comes tower fs x d (next c t g) k = alternatives_of tower fs x d g (second_part k) (fresh g)
second_comes tower fs x d (always_for t g) k = alternatives_of tower fs x d g (second_part k) (fresh g)
second_comes tower fs x d (until t f g) k = alternatives_of tower fs x d g (second_part k) (fresh g)

-- its second or only part alone, which becomes pending
unfoldable pub part_pending : List Formula → Formula → ℕ → Alternatives
part_pending fs (constant b) k = broken
part_pending fs (proposition w m) k = broken
part_pending fs (and f g) k = alone_pending fs (second_part k) (fresh g)
part_pending fs (or f g) k = alone_pending fs (second_part k) (fresh g)
part_pending fs (next c t g) k = alone_pending fs (second_part k) (fresh g)
part_pending fs (always_for t g) k = alone_pending fs (second_part k) (fresh g)
part_pending fs (until t f g) k = alone_pending fs (second_part k) (fresh g)

-- A and U stay pending
unfoldable pub stays : Formula → Bool
stays (constant b) = false
stays (proposition w m) = false
stays (and f g) = false
stays (or f g) = false
stays (next c t g) = false
stays (always_for t g) = true
stays (until t f g) = true

-- the set s of a part, with node k if it stays pending and has as many ticks left
unfoldable pub staying : List Formula → Tick → Formula → ℕ → Tick → Alternatives → Alternatives
staying fs d f k r s = pick (stays f && at_most d r) (λ _. combined fs s (alone_pending fs k (minus r d))) (λ _. s)

-- the sets of two parts: both are to be met, or else either
unfoldable pub of_two : List Formula → Formula → Alternatives → Alternatives → Alternatives
of_two fs (constant b) s t = joined_with fs s t
of_two fs (proposition w m) s t = joined_with fs s t
of_two fs (and f g) s t = combined fs s t
of_two fs (or f g) s t = joined_with fs s t
of_two fs (next c u g) s t = joined_with fs s t
of_two fs (always_for u g) s t = joined_with fs s t
of_two fs (until u f g) s t = joined_with fs s t

-- what is looked at has a part, which is looked at or becomes pending; it has the first one
abbrev pub has_part : Look → Bool
has_part Seen.Broken = false
has_part Seen.Passes = false
has_part Seen.Part = true
has_part Seen.Second = true
has_part Seen.First = true
has_part Seen.Both = true

abbrev pub has_first : Look → Bool
has_first Seen.Broken = false
has_first Seen.Passes = false
has_first Seen.Part = false
has_first Seen.Second = false
has_first Seen.First = true
has_first Seen.Both = true

-- What comes of node k by what is looked at: nothing, since the step is broken, or since nothing comes of it; its part becomes pending; the second
-- or only part; the first; both.
unfoldable pub looked_at : Look → Tower → List Formula → ℕ → Tick → Formula → ℕ → Tick → Alternatives
looked_at Seen.Broken tower fs x d f k r = broken
looked_at Seen.Passes tower fs x d f k r = nothing_pending fs
looked_at Seen.Part tower fs x d f k r = part_pending fs f k
looked_at Seen.Second tower fs x d f k r = staying fs d f k r (second_comes tower fs x d f k)
looked_at Seen.First tower fs x d f k r = staying fs d f k r (first_comes tower fs x d f k)
looked_at Seen.Both tower fs x d f k r = of_two fs f (first_comes tower fs x d f k) (second_comes tower fs x d f k)
