-- Sets of alternatives as bytes: the alternatives of a set lie 60 bytes apart, one behind the other.
use Rattle.std.specs.Prelude.{ℕ, ◌+◌, ◌*◌, List, [], ◌∷◌, map, take, ltb}
use Rattle.base.specs.Choice.{pick}
use Rattle.base.specs.Lists.{below}
use Rattle.logic.specs.Book.{Formula}
use Rattle.pending.specs.Pending.{Pending}
use Rattle.alternatives.specs.Alternatives.{Alternatives, over, these, most_alternatives, both, together}
use Rattle.alternative_bytes.specs.AlternativeBytes.{alternative_in}

-- from one alternative to the next, and from one set of 16 to the next
abbrev pub alternative_size : ℕ
alternative_size = 60

abbrev pub set_size : ℕ
set_size = 960

-- the most candidates of a combination: 16 alternatives with each of 16 others; and their bytes
abbrev pub most_candidates : ℕ
most_candidates = 256

abbrev pub candidates_size : ℕ
candidates_size = 15360

-- the first `count` alternatives from this place on
unfoldable pub set_in : List ℕ → ℕ → ℕ → ℕ → List Pending
set_in area n at count = map (λ i. alternative_in area n (at + alternative_size * i)) (below count)

-- what an answer says of the set at this place
unfoldable pub answered : List ℕ → ℕ → ℕ → ℕ → Alternatives
answered area n at count = pick (ltb most_alternatives count) (λ _. over) (λ _. these (set_in area n at count))

-- candidate number c, and the candidates that the first m bytes of `order` number
unfoldable pub candidate : List ℕ → ℕ → ℕ → Pending
candidate room n c = alternative_in room n (alternative_size * c)

unfoldable pub chosen : List ℕ → ℕ → List ℕ → ℕ → List Pending
chosen room n order m = map (candidate room n) (take m order)

-- ---- what is gathered, by the nodes

-- the alternative at this place, and the first a from there on
unfoldable pub copy_of : List ℕ → ℕ → ℕ → List Formula → List Pending
copy_of area n p fs = alternative_in area n p ∷ []

unfoldable pub copies_of : List ℕ → ℕ → ℕ → ℕ → List Formula → List Pending
copies_of area n p a fs = set_in area n p a

-- the alternative at p together with that at q, with each of the first b from there on
unfoldable pub pair_of : List ℕ → ℕ → ℕ → ℕ → List Formula → List Pending
pair_of area n p q fs = both fs (alternative_in area n p) (alternative_in area n q) ∷ []

unfoldable pub row_of : List ℕ → ℕ → ℕ → ℕ → ℕ → List Formula → List Pending
row_of area n p q b fs = map (both fs (alternative_in area n p)) (set_in area n q b)

-- each of the first a from p on together with each of the first b from q on
unfoldable pub pairs_of : List ℕ → ℕ → ℕ → ℕ → ℕ → ℕ → List Formula → List Pending
pairs_of area n p a q b fs = together fs (set_in area n p a) (set_in area n q b)
