-- Candidates are gathered, one by one and then in loops: what is left of all of them.
use Prim.Native.Nat.{ℕ, ◌+◌, ◌-◌, ◌*◌, ◌≤◌, ◌<◌}
use native.Mathlib.Omega.{arith}
use native.Mathlib.Decide.{dec_lt}
use native.Mathlib.Nat.{mul-add, mul-le-mul}
use mathlib.Core.Path.{◌≡◌, refl, sym, ◌∙◌, ap, ap₂, subst}
use mathlib.Core.List.{List, [], ◌∷◌, ◌++◌}
use lib.ListN.{length, get_or, set, take, drop, length-set}
use lib.Seq.{take-take, get_or-set_same, get_or-set_other}
use mir.Syntax.{w64}
use mir.Val.{Fits}
use Rattle.base.specs.Lists.{count_from, below}
use Rattle.base.proofs.Bytes.{piece_inside}
use Rattle.logic.specs.Book.{Formula}
use Rattle.pending.specs.Pending.{Pending}
use Rattle.alternatives.specs.Least.{with_one_more, with_more}
use Rattle.alternatives.specs.Alternatives.{asks_no_more, earlier, both, together}
use Rattle.alternatives.proofs.Least.{more_append}
use Rattle.book_progression.specs.Promises.{AreNodes, Beside}
use Rattle.alternative_bytes.specs.AlternativeBytes.{alternative_in}
use Rattle.alternative_bytes.specs.Promises.{BothPut, Copied}
use Rattle.set_bytes.specs.SetBytes.{set_in, candidate, chosen, copy_of, copies_of, pair_of, row_of, pairs_of}
use Rattle.set_bytes.specs.Promises.{Below, Added, Candidates, Gathered, AllTaken, EitherGathered, RoomFor}
use Rattle.set_bytes.proofs.Elsewhere.{beside_wider}
use Rattle.set_bytes.proofs.Chosen.{chosen_same, chosen_set}
use Rattle.set_bytes.proofs.Sets.{set_next, copies_next, row_next, pairs_next}

-- ---- one candidate

-- One candidate is written,
candidate_written : (room : List ℕ) (c n : ℕ) (mid : List ℕ) → n ≤ 60 → c < 256 → Beside room (60 * c) n mid → Candidates room c mid
candidate_written room c n mid nodes low beside =
    let all : 60 * c + (15360 - 60 * c) ≡ 15360 = omega arith in
    record {
      size = beside.size;
      before = beside.before;
      behind =
          subst (λ (k : ℕ). drop k mid ≡ drop k room) all
          (beside_wider room (60 * c) n mid (60 * c) (15360 - 60 * c) beside (omega arith) (omega arith)).behind;
    }

-- and added to those chosen.
module _ (r : ℕ) (bytes : List ℕ) (n : ℕ) (more : List Formula → Pending) (room order : List ℕ) (m c : ℕ) (mid after : List ℕ) where
  gathered_one : RoomFor 1 n room order m c → Beside room (60 * c) n mid → ((fs : List Formula) → AreNodes bytes n fs → candidate mid n c ≡ more fs)
      → Added r bytes n mid order m c after → Gathered r bytes n (λ fs. more fs ∷ []) room order m c 1 mid after
  unfolding with_more
  gathered_one for beside is added =
      record {
        size = added.size;
        most = added.most;
        below = added.below;
        candidates = candidate_written room c n mid for.nodes (omega (arith, for.limit)) beside;
        says = λ below fs are.
            added.says fs are
            ∙ ap₂ (λ (x : Pending) (ys : List Pending). with_one_more (asks_no_more fs) earlier x ys) (is fs are)
            (chosen_same room mid n order m c for.nodes (omega (arith, for.few, for.limit, for.numbers)) beside.before below);
      }

pub pair_gathered : (r : ℕ) (bytes : List ℕ) (n : ℕ) (sets : List ℕ) (p q : ℕ) (room order : List ℕ) (m c : ℕ) (mid after : List ℕ)
    → BothPut bytes n sets p q room (60 * c) mid → Added r bytes n mid order m c after → RoomFor 1 n room order m c
    → Gathered r bytes n (pair_of sets n p q) room order m c 1 mid after
unfolding pair_of candidate
pair_gathered r bytes n sets p q room order m c mid after put added for =
    gathered_one r bytes n (λ fs. both fs (alternative_in sets n p) (alternative_in sets n q)) room order m c mid after for put.beside put.says
    added

pub copy_gathered : (r : ℕ) (bytes : List ℕ) (n : ℕ) (sets : List ℕ) (p : ℕ) (room order : List ℕ) (m c : ℕ) (mid after : List ℕ)
    → Copied n sets p room (60 * c) mid → Added r bytes n mid order m c after → RoomFor 1 n room order m c
    → Gathered r bytes n (copy_of sets n p) room order m c 1 mid after
unfolding copy_of candidate
copy_gathered r bytes n sets p room order m c mid after put added for =
    gathered_one r bytes n (λ fs. alternative_in sets n p) room order m c mid after for put.beside (λ fs are. put.is) added

-- ---- none, and some more

gathered_none : (bytes : List ℕ) (n : ℕ) (more : List Formula → List Pending) (room order : List ℕ) (m c : ℕ)
    → ((fs : List Formula) → more fs ≡ []) → Gathered m bytes n more room order m c 0 room order
unfolding with_more
gathered_none bytes n more room order m c is =
    record {
      size = refl;
      most = omega arith;
      below = λ below. record { low = λ i l. omega (arith, below.low i l) };
      candidates = record { size = refl; before = refl; behind = refl };
      says = λ below fs are. rw (is fs) refl;
    }

-- Candidates that change from a higher number on change from a lower one on.
candidates_both : (room : List ℕ) (c d : ℕ) (mid after : List ℕ) → c ≤ d → Candidates room c mid → Candidates mid d after
    → Candidates room c after
candidates_both room c d mid after le one two =
    record {
      size = two.size ∙ one.size;
      before = sym (nearer after) ∙ ap (take (60 * c)) two.before ∙ nearer mid ∙ one.before;
      behind = two.behind ∙ one.behind;
    }
  where
    nearer : (l : List ℕ) → take (60 * c) (take (60 * d) l) ≡ take (60 * c) l
    nearer l = take-take (60 * c) (60 * d) l (omega arith)

module _ (r s : ℕ) (bytes : List ℕ) (n : ℕ) (f g h : List Formula → List Pending) (room order : List ℕ) (m c k d j : ℕ) (room₁ order₁ room₂ order₂ : List ℕ) where
  gathered_more : d ≡ c + k → ((fs : List Formula) → h fs ≡ f fs ++ g fs) → (l : ℕ) → l ≡ k + j
      → Gathered r bytes n f room order m c k room₁ order₁ → Gathered s bytes n g room₁ order₁ r d j room₂ order₂
      → Gathered s bytes n h room order m c l room₂ order₂
  gathered_more at both_are l all one two =
      record {
        size = two.size ∙ one.size;
        most = omega (arith, one.most, two.most);
        below = λ below. let e : d + j ≡ c + l = omega arith in rw (← e) (two.below (behind below));
        candidates = candidates_both room c d room₁ room₂ (omega arith) one.candidates two.candidates;
        says = λ below fs are.
            two.says (behind below) fs are
            ∙ ap (λ (ys : List Pending). with_more (asks_no_more fs) earlier ys (g fs)) (one.says below fs are)
            ∙ sym (more_append (asks_no_more fs) earlier (chosen room n order m) (f fs) (g fs))
            ∙ ap (with_more (asks_no_more fs) earlier (chosen room n order m)) (sym (both_are fs));
      }
    where
      behind : Below order m c → Below order₁ r d
      behind below = rw at (one.below below)

-- ---- the loops

-- There is room for the next.
pub room_next : (r : ℕ) (bytes : List ℕ) (n : ℕ) (more : List Formula → List Pending) (room order : List ℕ) (m c k j : ℕ) (room₁ order₁ : List ℕ)
    → Gathered r bytes n more room order m c j room₁ order₁ → j < k → RoomFor k n room order m c → RoomFor 1 n room₁ order₁ r (c + j)
room_next r bytes n more room order m c k j room₁ order₁ going low for =
    record {
      nodes = for.nodes;
      candidates = omega (arith, for.candidates, going.candidates.size);
      numbers = omega (arith, for.numbers, going.size);
      few = omega (arith, for.few, going.most);
      limit = omega (arith, for.limit);
    }

-- A row,
pub row_start : (bytes : List ℕ) (n : ℕ) (sets : List ℕ) (p q : ℕ) (room order : List ℕ) (m c : ℕ)
    → Gathered m bytes n (row_of sets n p q 0) room order m c 0 room order
unfolding row_of set_in below count_from
row_start bytes n sets p q room order m c = gathered_none bytes n (row_of sets n p q 0) room order m c (λ fs. refl)

pub row_more : (r s : ℕ) (bytes : List ℕ) (n : ℕ) (sets : List ℕ) (p q : ℕ) (room order : List ℕ) (m c j : ℕ) (room₁ order₁ room₂ order₂ : List ℕ)
    → Gathered s bytes n (pair_of sets n p (q + 60 * j)) room₁ order₁ r (c + j) 1 room₂ order₂
    → Gathered r bytes n (row_of sets n p q j) room order m c j room₁ order₁
    → Gathered s bytes n (row_of sets n p q (j + 1)) room order m c (j + 1) room₂ order₂
row_more r s bytes n sets p q room order m c j room₁ order₁ room₂ order₂ two one =
    gathered_more r s bytes n (row_of sets n p q j) (pair_of sets n p (q + 60 * j)) (row_of sets n p q (j + 1)) room order m c j (c + j) 1 room₁ order₁
    room₂ order₂ refl (row_next sets n p q j) (j + 1) refl one two

pub row_end : (r : ℕ) (bytes : List ℕ) (n : ℕ) (sets : List ℕ) (p q b : ℕ) (room order : List ℕ) (m c j : ℕ) (room₁ order₁ : List ℕ)
    → Gathered r bytes n (row_of sets n p q j) room order m c j room₁ order₁ → j ≤ b → b ≤ j
    → Gathered r bytes n (row_of sets n p q b) room order m c b room₁ order₁
row_end r bytes n sets p q b room order m c j room₁ order₁ going low all =
    let e : b ≡ j = omega arith in
    rw e going

-- copies,
pub copies_start : (bytes : List ℕ) (n : ℕ) (sets : List ℕ) (p : ℕ) (room order : List ℕ) (m c : ℕ)
    → Gathered m bytes n (copies_of sets n p 0) room order m c 0 room order
unfolding copies_of set_in below count_from
copies_start bytes n sets p room order m c = gathered_none bytes n (copies_of sets n p 0) room order m c (λ fs. refl)

pub copies_more : (r s : ℕ) (bytes : List ℕ) (n : ℕ) (sets : List ℕ) (p : ℕ) (room order : List ℕ) (m c j : ℕ) (room₁ order₁ room₂ order₂ : List ℕ)
    → Gathered s bytes n (copy_of sets n (p + 60 * j)) room₁ order₁ r (c + j) 1 room₂ order₂
    → Gathered r bytes n (copies_of sets n p j) room order m c j room₁ order₁
    → Gathered s bytes n (copies_of sets n p (j + 1)) room order m c (j + 1) room₂ order₂
copies_more r s bytes n sets p room order m c j room₁ order₁ room₂ order₂ two one =
    gathered_more r s bytes n (copies_of sets n p j) (copy_of sets n (p + 60 * j)) (copies_of sets n p (j + 1)) room order m c j (c + j) 1 room₁ order₁
    room₂ order₂ refl (copies_next sets n p j) (j + 1) refl one two

pub copies_end : (r : ℕ) (bytes : List ℕ) (n : ℕ) (sets : List ℕ) (p a : ℕ) (room order : List ℕ) (m c j : ℕ) (room₁ order₁ : List ℕ)
    → Gathered r bytes n (copies_of sets n p j) room order m c j room₁ order₁ → j ≤ a → a ≤ j
    → Gathered r bytes n (copies_of sets n p a) room order m c a room₁ order₁
copies_end r bytes n sets p a room order m c j room₁ order₁ going low all =
    let e : a ≡ j = omega arith in
    rw e going

-- and all rows.
pub pairs_start : (bytes : List ℕ) (n : ℕ) (sets : List ℕ) (p q b : ℕ) (room order : List ℕ)
    → Gathered 0 bytes n (pairs_of sets n p 0 q b) room order 0 0 (b * 0) room order
unfolding pairs_of set_in below count_from together
pairs_start bytes n sets p q b room order =
    let e : b * 0 ≡ 0 = omega arith in
    rw e (gathered_none bytes n (pairs_of sets n p 0 q b) room order 0 0 (λ fs. refl))

pub pairs_more : (r s : ℕ) (bytes : List ℕ) (n : ℕ) (sets : List ℕ) (p q b : ℕ) (room order : List ℕ) (i : ℕ) (room₁ order₁ room₂ order₂ : List ℕ)
    → Gathered s bytes n (row_of sets n (p + 60 * i) q b) room₁ order₁ r (b * i) b room₂ order₂
    → Gathered r bytes n (pairs_of sets n p i q b) room order 0 0 (b * i) room₁ order₁
    → Gathered s bytes n (pairs_of sets n p (i + 1) q b) room order 0 0 (b * (i + 1)) room₂ order₂
pairs_more r s bytes n sets p q b room order i room₁ order₁ room₂ order₂ two one =
    gathered_more r s bytes n (pairs_of sets n p i q b) (row_of sets n (p + 60 * i) q b) (pairs_of sets n p (i + 1) q b) room order 0 0 (b * i) (b * i) b
    room₁ order₁ room₂ order₂ (omega arith) (pairs_next sets n p i q b) (b * (i + 1)) (mul-add b i 1 ∙ omega arith) one two

pub pairs_end : (r : ℕ) (bytes : List ℕ) (n : ℕ) (sets : List ℕ) (p a q b : ℕ) (room order : List ℕ) (i : ℕ) (room₁ order₁ : List ℕ)
    → Gathered r bytes n (pairs_of sets n p i q b) room order 0 0 (b * i) room₁ order₁ → i ≤ a → a ≤ i
    → Gathered r bytes n (pairs_of sets n p a q b) room order 0 0 (b * a) room₁ order₁
pairs_end r bytes n sets p a q b room order i room₁ order₁ going low all =
    let e : a ≡ i = omega arith in
    rw e going

-- The numbers of candidates are small.
few_pairs : (a b i : ℕ) → i < a → a ≤ 16 → b ≤ 16 → b * i + b ≤ 256
few_pairs a b i low most_a most_b =
    let inside = piece_inside b a i low in
    let all : b * a ≤ 16 * 16 = mul-le-mul most_b most_a in
    omega arith

pub pair_fits : (a b i : ℕ) → i < a → a ≤ 16 → b ≤ 16 → Fits w64 (b * i)
pair_fits a b i low most_a most_b = omega (arith, few_pairs a b i low most_a most_b)

pub row_room : (r : ℕ) (bytes : List ℕ) (n : ℕ) (more : List Formula → List Pending) (room order : List ℕ) (a b i : ℕ) (room₁ order₁ : List ℕ)
    → Gathered r bytes n more room order 0 0 (b * i) room₁ order₁ → i < a → a ≤ 16 → b ≤ 16 → RoomFor 256 n room order 0 0
    → RoomFor b n room₁ order₁ r (b * i)
row_room r bytes n more room order a b i room₁ order₁ going low most_a most_b for =
    record {
      nodes = for.nodes;
      candidates = omega (arith, for.candidates, going.candidates.size);
      numbers = omega (arith, for.numbers, going.size);
      few = omega (arith, going.most);
      limit = few_pairs a b i low most_a most_b;
    }

-- ---- two sets of copies

-- The first set is taken as it is, one alternative after the other.
pub taken_start : (n : ℕ) (sets : List ℕ) (p : ℕ) (room order : List ℕ) → AllTaken n sets p 0 room order room order
unfolding chosen set_in below count_from
taken_start n sets p room order =
    record {
      size = refl;
      below = record { low = λ i l. absurd (omega arith) };
      candidates = record { size = refl; before = refl; behind = refl };
      is = refl;
    }

module _ (n : ℕ) (sets : List ℕ) (p i : ℕ) (room order room₁ order₁ : List ℕ) (going : AllTaken n sets p i room order room₁ order₁) where
  pub taken_more : (a : ℕ) (room₂ : List ℕ) → Copied n sets (p + 60 * i) room₁ (60 * i) room₂ → i < a → a ≤ 16 → RoomFor 256 n room order 0 0
      → AllTaken n sets p (i + 1) room order room₂ (set order₁ i i)
  unfolding candidate
  taken_more a room₂ put low most for =
      record {
        size = length-set order₁ i i ∙ going.size;
        below = record { low = λ j l. numbered j (dec_lt j i) l };
        candidates = candidates_both room 0 i room₁ room₂ (omega arith) going.candidates
            (candidate_written room₁ i n room₂ for.nodes (omega arith) put.beside);
        is = chosen_set room₂ n order₁ i i listed
            ∙ ap₂ (λ (ys : List Pending) (x : Pending). ys ++ (x ∷ []))
            (chosen_same room₁ room₂ n order₁ i i for.nodes (omega arith) put.beside.before going.below ∙ going.is) put.is
            ∙ sym (set_next sets n p i);
      }
    where
      listed : i < length order₁
      listed = omega (arith, going.size, for.numbers)

      numbered : (j : ℕ) → Dec (j < i) → j < i + 1 → get_or (set order₁ i i) j 0 < i + 1
      numbered j (yes l) k = let e = get_or-set_other order₁ i j i 0 (λ e. omega arith) in omega (arith, going.below.low j l)
      numbered j (no l) k = let e : j ≡ i = omega arith in rw (e, get_or-set_same order₁ i i 0 listed) (omega arith)

  pub taken_end : (a : ℕ) → i ≤ a → a ≤ i → AllTaken n sets p a room order room₁ order₁
  taken_end a low all = let e : a ≡ i = omega arith in rw e going

module _ (n : ℕ) (sets : List ℕ) (p a : ℕ) (room order room₁ order₁ : List ℕ) (taken : AllTaken n sets p a room order room₁ order₁) where
  -- Then the others.
  pub second_room : (b : ℕ) → RoomFor 256 n room order 0 0 → a ≤ 16 → b ≤ 16 → RoomFor b n room₁ order₁ a a
  second_room b for most_a most_b =
      record {
        nodes = for.nodes;
        candidates = omega (arith, for.candidates, taken.candidates.size);
        numbers = omega (arith, for.numbers, taken.size);
        few = omega arith;
        limit = omega arith;
      }

  pub either_gathered : (r : ℕ) (bytes : List ℕ) (q b : ℕ) (room₂ order₂ : List ℕ)
      → Gathered r bytes n (copies_of sets n q b) room₁ order₁ a a b room₂ order₂
      → EitherGathered r bytes n sets p a q b room order room₂ order₂
  unfolding copies_of
  either_gathered r bytes q b room₂ order₂ others =
      record {
        size = others.size ∙ taken.size;
        most = others.most;
        candidates = candidates_both room 0 a room₁ room₂ (omega arith) taken.candidates others.candidates;
        says = λ fs are.
            others.says taken.below fs are
            ∙ ap (λ (ys : List Pending). with_more (asks_no_more fs) earlier ys (set_in sets n q b)) taken.is;
      }
