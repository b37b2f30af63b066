-- What is looked at of a node, by the ways through `looks`.
use Prim.Native.Nat.{ℕ, ◌≤◌, ◌<◌}
use native.Mathlib.Omega.{arith}
use mathlib.Core.Path.{◌≡◌, refl, sym, ◌∙◌, ap}
use mathlib.Core.Bool.{Bool, true, false, true≢false}
use mathlib.Core.List.{List}
use borrow.Author.Tests.{le-leb, lt-leb}
use Rattle.logic.specs.Time.{ticks, at_most}
use Rattle.logic.specs.Book.{Comparison, Formula, constant, proposition, or, next, compares, timed}
use Rattle.logic.specs.declared.Tick.{Tick}
use Rattle.reading.specs.BookArea.{node_code, node_number}
use Rattle.alternatives.specs.Progression.{if_so, alternatives_of}
use Rattle.book_progression.specs.NodeBytes.{code_of, number_of, first_of, second_of, Stored, MarkedState}
use Rattle.book_progression.specs.Promises.{HoldsAt, Compares}
use Rattle.book_progression.proofs.Nodes.{by_kind, by_and, by_or, by_always, by_until, or_first, or_second, until_second}
use Rattle.book_progression.proofs.Progressing.{first_timed, first_untimed}
use Rattle.book_alternatives.specs.Looking.{first_comes, second_comes, part_pending, stays, staying, of_two, has_part, has_first, looked_at}
use Rattle.book_alternatives.specs.declared.Look.{Look}
use Rattle.book_alternatives.specs.declared.Look.TheVariants as Seen
use Rattle.book_alternatives.specs.Offers.{TimedAt, Looked}

module _ (bytes : List ℕ) (k : ℕ) (r : Tick) (mask : ℕ) (d : Tick) (code : ℕ) (e : code ≡ code_of bytes k) where
  -- the statement at a formula
  abbrev At : Look → List Formula → MarkedState mask → Formula → Type 0
  At look fs at f = alternatives_of at.tower fs at.state d f k r ≡ looked_at look at.tower fs at.state d f k r

  -- nothing is looked at
  settled : (look : Look) → has_part look ≡ false → has_first look ≡ false → ((f : Formula) → Stored bytes f k → (fs : List Formula) → (at : MarkedState mask) → At look fs at f)
      → Looked look bytes k r mask d
  settled look none no_first says =
      record {
        second = λ l. absurd (true≢false (sym l ∙ none));
        first = λ l. absurd (true≢false (sym l ∙ no_first));
        both = λ l. absurd (true≢false (sym (ap has_part l) ∙ none));
        says = says;
      }

  -- A leaf holds or not.
  module _ (low : code ≤ 3) (h : Bool) (held : HoldsAt h bytes k mask) where
    pub looks_leaf_holds : h ≡ true → Looked Seen.Passes bytes k r mask d
    unfolding alternatives_of looked_at if_so
    looks_leaf_holds so =
        settled Seen.Passes refl refl (λ f s fs at. by_kind bytes k (At Seen.Passes fs at) f s
        (λ v s lo. rw (← held.says (constant v) s at, so) refl) (λ w m s lo up. rw (← held.says (proposition w m) s at, so) refl)
        (λ a b s at. absurd (omega arith)) (λ a b s lo up. absurd (omega arith)) (λ a b c s lo up. absurd (omega arith))
        (λ a b s at. absurd (omega arith)) (λ a b c s at. absurd (omega arith)))

    pub looks_leaf_fails : h ≡ false → Looked Seen.Broken bytes k r mask d
    unfolding alternatives_of looked_at if_so
    looks_leaf_fails not_so =
        settled Seen.Broken refl refl (λ f s fs at. by_kind bytes k (At Seen.Broken fs at) f s
        (λ v s lo. rw (← held.says (constant v) s at, not_so) refl) (λ w m s lo up. rw (← held.says (proposition w m) s at, not_so) refl)
        (λ a b s at. absurd (omega arith)) (λ a b s lo up. absurd (omega arith)) (λ a b c s lo up. absurd (omega arith))
        (λ a b s at. absurd (omega arith)) (λ a b c s at. absurd (omega arith)))

  pub looks_and : code ≡ 4 → Looked Seen.Both bytes k r mask d
  unfolding alternatives_of looked_at of_two first_comes second_comes
  looks_and four =
      record {
        second = λ l. omega arith;
        first = λ l m. omega arith;
        both = λ l. omega arith;
        says = λ f s fs at. by_and bytes k (At Seen.Both fs at) f s (omega arith) (λ f g s. refl);
      }

  pub looks_always : code ≡ 11 → Looked Seen.Second bytes k r mask d
  unfolding alternatives_of looked_at staying stays second_comes
  looks_always eleven =
      record {
        second = λ l. omega arith;
        first = λ l. absurd (true≢false (sym l));
        both = λ l. absurd (cc);
        says = λ f s fs at. by_always bytes k (At Seen.Second fs at) f s (omega arith) (λ t g s. refl);
      }

  -- The second part of an until ends it.
  module _ (twelve : code ≡ 12) (p : ℕ) (h : Bool) (second : p ≡ second_of bytes k) (held : HoldsAt h bytes p mask) where
    pub looks_until_ends : h ≡ true → Looked Seen.Passes bytes k r mask d
    unfolding alternatives_of looked_at if_so
    looks_until_ends so =
        settled Seen.Passes refl refl (λ f s fs at. by_until bytes k (At Seen.Passes fs at) f s (omega arith)
        (λ t f g s. rw (← held.says g (until_second bytes k p t f g s second) at, so) refl))

    pub looks_until_late : h ≡ false → r.0 < d.0 → Looked Seen.Broken bytes k r mask d
    unfolding alternatives_of looked_at if_so at_most
    looks_until_late not_so late =
        settled Seen.Broken refl refl (λ f s fs at. by_until bytes k (At Seen.Broken fs at) f s (omega arith)
        (λ t f g s. rw (← held.says g (until_second bytes k p t f g s second) at, not_so, lt-leb d.0 r.0 late) refl))

    pub looks_until : h ≡ false → d.0 ≤ r.0 → Looked Seen.First bytes k r mask d
    unfolding alternatives_of looked_at if_so at_most staying stays first_comes
    looks_until not_so early =
        record {
          second = λ l. omega arith;
          first = λ l m. omega arith;
          both = λ l. absurd (cc);
          says = λ f s fs at. by_until bytes k (At Seen.First fs at) f s (omega arith)
              (λ t f g s. rw (← held.says g (until_second bytes k p t f g s second) at, not_so, le-leb d.0 r.0 early) refl);
        }

  -- Any other code from 7 on is a next.
  module _ (high : 7 ≤ code) (not_always : code ≡ 11 → ⊥) (not_until : code ≡ 12 → ⊥) (m : ℕ) (a : Bool) (number : m ≡ number_of bytes k)
      (compared : Compares a code d (ticks m)) where
    said : (c : Comparison) (t : Tick) (g : Formula) → Stored bytes (next c t g) k → compares c d t ≡ a
    unfolding Stored node_code node_number
    said c t g s =
        ap (compares c d) (ap (λ n. ticks n) (sym (number ∙ s.0.number))) ∙ sym (compared.says c (e ∙ s.0.code))

    pub looks_next : a ≡ true → Looked Seen.Part bytes k r mask d
    unfolding alternatives_of looked_at if_so part_pending
    looks_next so =
        record {
          second = λ l. omega arith;
          first = λ l. absurd (true≢false (sym l));
          both = λ l. absurd (cc);
          says = λ f s fs at. by_kind bytes k (At Seen.Part fs at) f s
              (λ b s lo. absurd (omega arith)) (λ a b s lo up. absurd (omega arith)) (λ a b s at. absurd (omega arith))
              (λ a b s lo up. absurd (omega arith)) (λ c t g s lo up. rw (said c t g s, so) refl)
              (λ a b s at. absurd (omega arith)) (λ a b c s at. absurd (omega arith));
        }

    pub looks_next_fails : a ≡ false → Looked Seen.Broken bytes k r mask d
    unfolding alternatives_of looked_at if_so
    looks_next_fails not_so =
        settled Seen.Broken refl refl (λ f s fs at. by_kind bytes k (At Seen.Broken fs at) f s
        (λ b s lo. absurd (omega arith)) (λ a b s lo up. absurd (omega arith)) (λ a b s at. absurd (omega arith))
        (λ a b s lo up. absurd (omega arith)) (λ c t g s lo up. rw (said c t g s, not_so) refl)
        (λ a b s at. absurd (omega arith)) (λ a b c s at. absurd (omega arith)))

  -- An or whose first side is timed: both sides, if the second is timed too,
  module _ (five : code ≡ 5) (p : ℕ) (b : Bool) (second : p ≡ second_of bytes k) (is_timed : TimedAt b bytes p) where
    left_timed : (f g : Formula) → Stored bytes (or f g) k → timed f ≡ true
    unfolding Stored node_code
    left_timed f g s = first_timed (timed f) (sym s.0.code ∙ sym e ∙ five)

    right_timed : (f g : Formula) → Stored bytes (or f g) k → timed g ≡ b
    right_timed f g s = sym (is_timed.says g (or_second bytes k p f g s second))

    pub looks_or_both : b ≡ true → Looked Seen.Both bytes k r mask d
    unfolding alternatives_of looked_at of_two first_comes second_comes
    looks_or_both so =
        record {
          second = λ l. omega arith;
          first = λ l m. omega arith;
          both = λ l. omega arith;
          says = λ f s fs at. by_or bytes k (At Seen.Both fs at) f s (omega arith) (omega arith)
              (λ f g s. rw (left_timed f g s, right_timed f g s, so) refl);
        }

    -- and else the first, if the second does not hold.
    module _ (untimed : b ≡ false) (h : Bool) (held : HoldsAt h bytes p mask) where
      pub looks_or_second_holds : h ≡ true → Looked Seen.Passes bytes k r mask d
      unfolding alternatives_of looked_at if_so
      looks_or_second_holds so =
          settled Seen.Passes refl refl (λ f s fs at. by_or bytes k (At Seen.Passes fs at) f s (omega arith) (omega arith)
          (λ f g s. rw (left_timed f g s, right_timed f g s, untimed, ← held.says g (or_second bytes k p f g s second) at, so) refl))

      pub looks_or_first : h ≡ false → Looked Seen.First bytes k r mask d
      unfolding alternatives_of looked_at staying stays first_comes
      looks_or_first not_so =
          record {
            second = λ l. omega arith;
            first = λ l m. omega arith;
            both = λ l. absurd (cc);
            says = λ f s fs at. by_or bytes k (At Seen.First fs at) f s (omega arith) (omega arith)
                (λ f g s. rw (left_timed f g s, right_timed f g s, untimed, ← held.says g (or_second bytes k p f g s second) at, not_so) refl);
          }

  -- An or whose first side is untimed: the second, if the first does not hold.
  module _ (low : 3 < code) (high : code < 7) (not_four : code ≡ 4 → ⊥) (not_five : code ≡ 5 → ⊥) (p : ℕ) (h : Bool) (first : p ≡ first_of bytes k)
      (held : HoldsAt h bytes p mask) where
    left_untimed : (f g : Formula) → Stored bytes (or f g) k → timed f ≡ false
    unfolding Stored node_code
    left_untimed f g s = first_untimed (timed f) (λ c. not_five (e ∙ s.0.code ∙ c))

    pub looks_or_first_holds : h ≡ true → Looked Seen.Passes bytes k r mask d
    unfolding alternatives_of looked_at if_so
    looks_or_first_holds so =
        settled Seen.Passes refl refl (λ f s fs at. by_or bytes k (At Seen.Passes fs at) f s (omega arith) (omega arith)
        (λ f g s. rw (left_untimed f g s, ← held.says f (or_first bytes k p f g s first) at, so) refl))

    pub looks_or_second : h ≡ false → Looked Seen.Second bytes k r mask d
    unfolding alternatives_of looked_at staying stays second_comes
    looks_or_second not_so =
        record {
          second = λ l. omega arith;
          first = λ l. absurd (true≢false (sym l));
          both = λ l. absurd (cc);
          says = λ f s fs at. by_or bytes k (At Seen.Second fs at) f s (omega arith) (omega arith)
              (λ f g s. rw (left_untimed f g s, ← held.says f (or_first bytes k p f g s first) at, not_so) refl);
        }
