-- A node takes the sets of its parts, by the ways through `put_in`, `stay` and `of_two`.
use Prim.Native.Nat.{ℕ, ◌+◌, ◌-◌, ◌*◌, ◌≤◌, ◌<◌}
use native.Mathlib.Omega.{arith}
use mathlib.Core.Path.{◌≡◌, refl, sym, ◌∙◌, ap, ap₂}
use mathlib.Core.Bool.{Bool, true, false, ◌&&◌}
use Rattle.std.specs.Prelude.{Some}
use Rattle.base.specs.Options.{bind}
use mathlib.Core.List.{List, [], ◌∷◌}
use lib.ListN.{length, get_or, set}
use borrow.Author.Tests.{le-leb, lt-leb}
use Rattle.logic.specs.Time.{ticks, minus, at_most}
use Rattle.logic.specs.Book.{Formula}
use Rattle.logic.specs.declared.Tick.{Tick}
use Rattle.pending.specs.Pending.{Pending, put}
use Rattle.pending.proofs.Nodes.{Sits}
use Rattle.alternatives.specs.Alternatives.{these, combined}
use Rattle.alternatives.specs.Progression.{alone_pending}
use Rattle.alternatives.specs.OneAlternative.{single}
use Rattle.alternatives.proofs.Behind.{put_alone, behind_put}
use Rattle.alternatives.proofs.OneAlternative.{combined_step}
use Rattle.book_progression.specs.PendingBytes.{pending_of, part}
use Rattle.book_progression.specs.NodeBytes.{code_of, Stored}
use Rattle.book_progression.specs.Promises.{Merged}
use Rattle.book_progression.proofs.Nodes.{by_kind, by_and}
use Rattle.book_progression.proofs.Areas.{part_at, beside_set, beside_both}
use Rattle.book_progression.proofs.Putting.{put_stored}
use Rattle.alternative_bytes.specs.AlternativeBytes.{alternative_in}
use Rattle.alternative_bytes.proofs.Laws.{alternative_length}
use Rattle.set_bytes.specs.SetBytes.{answered}
use Rattle.set_bytes.specs.Promises.{Combines, JoinsSets}
use Rattle.book_alternatives.specs.declared.SetAt.{SetAt}
use Rattle.book_alternatives.specs.Looking.{stays, staying, of_two}
use Rattle.book_alternatives.specs.Offers.{Alone, PutIn, StayReady, Stayed, OfTwo}
use Rattle.book_alternatives.proofs.Sets.{changed_none, changed_beside, candidates_none, kept_before, one_answered}
use Rattle.book_alternatives.proofs.OwnSets.{set_at, part_set}
use Rattle.book_alternatives.proofs.Sitting.{stored_sits}

-- a test that fails decides
and_fails : (a : Bool) → (a && false) ≡ false
and_fails true = refl
and_fails false = refl

-- A and U stay, by the code
always_or_until : (bytes : List ℕ) (k : ℕ) (f : Formula) → Stored bytes f k → 11 ≤ code_of bytes k → stays f ≡ true
unfolding stays
always_or_until bytes k f s high =
    by_kind bytes k (λ f. stays f ≡ true) f s
    (λ b s lo. absurd (omega arith)) (λ a b s lo up. absurd (omega arith)) (λ a b s at. absurd (omega arith)) (λ a b s lo up. absurd (omega arith))
    (λ a b c s lo up. absurd (omega arith)) (λ a b s at. refl) (λ a b c s at. refl)

-- one alternative and a node alone are that alternative with the node put there
combined_put : (fs : List Formula) (f : Formula) (k : ℕ) (r : Tick) (p : Pending) → Sits fs f k → length p ≡ length fs
    → combined fs (these (p ∷ [])) (alone_pending fs k r) ≡ these (put f k r p ∷ [])
unfolding single bind alone_pending
combined_put fs f k r p sits sized =
    combined_step fs (Some p) (λ q. Some (put f k r q)) (alone_pending fs k r) sized (behind_put fs f k r sits)
    (ap (λ q. these (q ∷ [])) (sym (put_alone fs f k r sits)))

-- ---- put_in

pub put_in : (bytes : List ℕ) (k : ℕ) (r : Tick) (at : ℕ) (sets : List ℕ) (left : Tick) → Merged left bytes k r (get_or sets (at + k) 0)
    → PutIn bytes k r at sets (set sets (at + k) (left.0 + 1))
unfolding alternative_in
put_in bytes k r at sets left merged =
    record {
      beside = beside_set sets at (k + 1) k (left.0 + 1) (omega arith);
      says = λ f s n low.
          ap pending_of (part_set sets at n k (left.0 + 1) low)
          ∙ (put_stored bytes k r left (part sets at n) (rw (part_at sets at n k low) merged)).says f s;
    }

module _ (bytes : List ℕ) (n k : ℕ) (r : Tick) (one : SetAt) (sets room : List ℕ) (ready : StayReady bytes n k r one sets room) where
  -- ---- stay

  -- It is as it was.
  same : (d : Tick) → ((f : Formula) → Stored bytes f k → (stays f && at_most d r) ≡ false) → Stayed one bytes n k r d one sets room sets room
  unfolding staying
  same d off =
      record {
        most = λ l. l;
        low = omega arith;
        high = omega (arith, ready.below);
        changed = changed_none sets one.at (960 * (k + 1));
        candidates = candidates_none room;
        says = λ f s fs are. rw (off f s) refl;
      }

  pub stay_other : (d : Tick) (code : ℕ) → code ≡ code_of bytes k → code < 11 → Stayed one bytes n k r d one sets room sets room
  unfolding stays
  stay_other d code e low =
      same d (λ f s. by_kind bytes k (λ f. (stays f && at_most d r) ≡ false) f s
      (λ b s lo. refl) (λ a b s lo up. refl) (λ a b s at. refl) (λ a b s lo up. refl) (λ a b c s lo up. refl)
      (λ a b s at. absurd (omega arith)) (λ a b c s at. absurd (omega arith)))

  pub stay_late : (d : Tick) → r.0 < d.0 → Stayed one bytes n k r d one sets room sets room
  unfolding at_most
  stay_late d late = same d (λ f s. rw (lt-leb d.0 r.0 late) (and_fails (stays f)))

  -- Node k is pending beside what its part makes pending.
  pub stay_on : (d : Tick) (code : ℕ) (own : SetAt) (count : ℕ) (mid after after_room : List ℕ)
      → Combines count bytes n mid one.at one.count own.at own.count own.at room after after_room
      → Alone own n k k (ticks (r.0 - d.0)) sets mid → code ≡ code_of bytes k → 11 ≤ code → d.0 ≤ r.0
      → Stayed (set_at own.at count) bytes n k r d one sets room after after_room
  unfolding staying at_most minus
  stay_on d code own count mid after after_room comb alone e high early =
      record {
        most = λ l. comb.leaves.most;
        low = omega (arith, ready.below, alone.own.place);
        high = omega (arith, alone.own.place);
        changed = changed_beside sets (960 * k) 960 after one.at (960 * (k + 1))
            (beside_both sets (960 * k) 960 mid after alone.own.beside (rw alone.own.place at comb.leaves.beside))
            (omega (arith, ready.below)) (omega arith);
        candidates = comb.leaves.candidates;
        says = λ f s fs are. comb.says fs are ∙ rw (always_or_until bytes k f s (omega (arith, e)), le-leb d.0 r.0 early) (ap₂ (combined fs)
            (kept_before sets (960 * k) (960 * k + 960) mid n one.at one.count
            (changed_beside sets (960 * k) 960 mid (960 * k) (960 * k + 960) alone.own.beside (omega arith) (omega arith)) ready.few ready.below)
            (alone.says fs are.all));
      }

  -- So it is put into the one alternative of its part, where that lies.
  pub stay_put : (d : Tick) (code : ℕ) (after : List ℕ) → PutIn bytes k (ticks (r.0 - d.0)) one.at sets after → one.count ≡ 1
      → code ≡ code_of bytes k → 11 ≤ code → d.0 ≤ r.0 → Stayed one bytes n k r d one sets room after room
  unfolding staying at_most minus alternative_in
  stay_put d code after done only e high early =
      record {
        most = λ l. l;
        low = omega arith;
        high = omega (arith, ready.below);
        changed = changed_beside sets one.at (k + 1) after one.at (960 * (k + 1)) done.beside (omega arith)
            (omega (arith, ready.below, ready.few, ready.node));
        candidates = candidates_none room;
        says = λ f s fs are. rw (only, always_or_until bytes k f s (omega (arith, e)), le-leb d.0 r.0 early)
            (one_answered after n one.at ∙ ap (λ p. these (p ∷ [])) (done.says f s n ready.node)
            ∙ sym (ap (λ z. combined fs z (alone_pending fs k (ticks (r.0 - d.0)))) (one_answered sets n one.at)
            ∙ combined_put fs f k (ticks (r.0 - d.0)) (alternative_in sets n one.at) (stored_sits bytes n fs are f k s ready.node ready.rooted)
            (alternative_length sets n one.at (omega (arith, ready.below, ready.few, ready.node, ready.sets_room)) ∙ sym are.all)));
      }

-- ---- of two

module _ (bytes : List ℕ) (n k : ℕ) (one two : SetAt) (sets room : List ℕ) (code count : ℕ) (after after_room : List ℕ) where
  pub two_and : Combines count bytes n sets one.at one.count two.at two.count (960 * k) room after after_room
      → code ≡ code_of bytes k → code ≡ 4 → OfTwo (set_at (960 * k) count) bytes n k one two sets room after after_room
  unfolding of_two
  two_and comb e four =
      record {
        place = refl;
        leaves = comb.leaves;
        says = λ f s fs are stands. by_and bytes k
            (λ f. answered after n (960 * k) count ≡ of_two fs f (answered sets n one.at one.count) (answered sets n two.at two.count))
            f s (omega arith) (λ f g s. comb.says fs are);
      }

  pub two_or : JoinsSets count bytes n sets one.at one.count two.at two.count (960 * k) room after after_room
      → code ≡ code_of bytes k → (code ≡ 4 → ⊥) → OfTwo (set_at (960 * k) count) bytes n k one two sets room after after_room
  unfolding of_two
  two_or join e not_four =
      record {
        place = refl;
        leaves = join.leaves;
        says = λ f s fs are stands.
            let said = join.says fs are stands in
            by_kind bytes k
            (λ f. answered after n (960 * k) count ≡ of_two fs f (answered sets n one.at one.count) (answered sets n two.at two.count))
            f s (λ b s lo. said) (λ a b s lo up. said) (λ a b s at. absurd (not_four (e ∙ at))) (λ a b s lo up. said) (λ a b c s lo up. said)
            (λ a b s at. said) (λ a b c s at. said);
      }
