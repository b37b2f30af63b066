-- A pass over any view: looking the same is an equivalence that buckets respect; new classes, one pair after the other.
use Prim.Native.Nat.{ℕ, zero, suc, ◌+◌, ◌≤◌, ◌<◌}
use native.Mathlib.Omega.{arith}
use native.Mathlib.Decide.{dec_lt}
use mathlib.Core.Path.{◌≡◌, refl, sym, ◌∙◌}
use mathlib.Core.Bool.{true}
use Rattle.area_chains.proofs.Walks.{one_more}
use Rattle.maker_view.specs.View.{View, AlikePairs, bucket_upto, bucket_of}
use Rattle.maker_classes.specs.Passes.{ClassesNumbered, Suits}

module _ (v : View) where
  -- A pair looks the same as itself.
  pub alike_refl : (i : ℕ) → AlikePairs v i i
  alike_refl i = record { state = refl; class = refl; shows = λ a l. refl }

  -- Looking the same goes both ways.
  pub alike_sym : {i j : ℕ} → AlikePairs v i j → AlikePairs v j i
  alike_sym e = record { state = sym e.state; class = sym e.class; shows = λ a l. sym (e.shows a l) }

  -- It goes along.
  pub alike_trans : {i j k : ℕ} → AlikePairs v i j → AlikePairs v j k → AlikePairs v i k
  alike_trans e f =
      record { state = e.state ∙ f.state; class = e.class ∙ f.class; shows = λ a l. e.shows a l ∙ f.shows a l }

  upto_same : {i j : ℕ} → AlikePairs v i j → (a : ℕ) → a ≤ v.actions → bucket_upto v i a ≡ bucket_upto v j a
  unfolding bucket_upto
  upto_same e zero l = rw (e.state, e.class)
  upto_same e (suc a) l = let ih = upto_same e a (omega arith) in let f = e.shows a (omega arith) in rw (ih, f)

  -- Pairs that look the same are of one bucket.
  pub alike_bucket : {i j : ℕ} → AlikePairs v i j → bucket_of v i ≡ bucket_of v j
  unfolding bucket_of
  alike_bucket e = upto_same e v.actions (omega arith)

  -- ---- new classes

  -- At first none has a new class.
  pub numbered_none : (new : ℕ → ℕ) → ClassesNumbered v new 0
  numbered_none new =
      record {
        most = λ k l. absurd (omega arith);
        is_safe = λ k l. absurd (omega arith);
        alike = λ k l. absurd (omega arith);
        joined = λ k l lk ll p q e. absurd (omega arith);
      }

  -- safe pairs k and l are of one class if they look the same
  abbrev Joined : (ℕ → ℕ) → ℕ → ℕ → Type 0
  Joined new k l = v.safe k ≡ true → v.safe l ≡ true → AlikePairs v k l → new k ≡ new l

  -- The next pair gets a class that suits.
  pub numbered_more : (new after : ℕ → ℕ) (i r : ℕ) → ClassesNumbered v new i → Suits v new i r → ((k : ℕ) → k < i → after k ≡ new k)
      → after i ≡ r → ClassesNumbered v after (i + 1)
  numbered_more new after i r h s else here =
      record {
        most = one_more (λ k. after k ≤ k) i (λ k l. rw (else k l) (h.most k l)) (rw here s.most);
        is_safe =
            one_more (λ k. v.safe k ≡ true → v.safe (after k) ≡ true) i (λ k l. rw (else k l) (h.is_safe k l)) (rw here s.is_safe);
        alike =
            one_more (λ k. v.safe k ≡ true → AlikePairs v k (after k)) i (λ k l. rw (else k l) (h.alike k l)) (rw here s.alike);
        joined = λ k l lk ll. one_more (λ k. Joined after k l) i (λ k m. one_more (Joined after k) i (λ l n. below k l m n) (last k m) l ll) (first l ll) k lk;
      }
    where
      below : (k l : ℕ) → k < i → l < i → Joined after k l
      below k l m n p q e = else k m ∙ h.joined k l m n p q e ∙ sym (else l n)

      last : (k : ℕ) → k < i → Joined after k i
      last k m p q e = else k m ∙ s.joined q k m p e ∙ sym here

      first : (l : ℕ) → l < i + 1 → Joined after i l
      first = one_more (Joined after i) i (λ l n p q e. sym (last l n q p (alike_sym e))) (λ p q e. refl)

  -- Equal classes are as good.
  pub numbered_as : (new other : ℕ → ℕ) (i : ℕ) → ClassesNumbered v new i → ((k : ℕ) → k < i → other k ≡ new k) → ClassesNumbered v other i
  numbered_as new other i h same =
      record {
        most = λ k l. rw (same k l) (h.most k l);
        is_safe = λ k l. rw (same k l) (h.is_safe k l);
        alike = λ k l. rw (same k l) (h.alike k l);
        joined = λ k l lk ll p q e. same k lk ∙ h.joined k l lk ll p q e ∙ sym (same l ll);
      }

  module _ (n : ℕ) (most : (k : ℕ) → k < n → v.class k ≤ k)
      (itself : (k : ℕ) → k < n → v.safe k ≡ true → v.class (v.class k) ≡ v.class k) where
    -- The first of a class keeps its number.
    pub first_keeps : (new : ℕ → ℕ) (i c : ℕ) → ClassesNumbered v new i → i ≤ n → c < i → v.safe c ≡ true → v.class c ≡ c → new c ≡ c
    first_keeps new i c h le l p own =
        let low = h.most c l in
        let same = (h.alike c l p).class in
        omega (arith, most (new c) (omega arith))

    -- A pair that looks like the first of its class stays in it, and so does one that is not safe.
    pub stays_suits : (new : ℕ → ℕ) (i : ℕ) → ClassesNumbered v new i → i < n
        → (v.safe i ≡ true → v.safe (v.class i) ≡ true) → (v.safe i ≡ true → AlikePairs v i (v.class i)) → Suits v new i (v.class i)
    stays_suits new i h l first_safe alike =
        record { most = most i l; is_safe = first_safe; alike = alike; joined = joined }
      where
        joined : v.safe i ≡ true → (k : ℕ) → k < i → v.safe k ≡ true → AlikePairs v k i → new k ≡ v.class i
        joined p k m q e =
            elim (dec_lt (v.class i) i) [
              | yes before ↦
                  h.joined k (v.class i) m before q (first_safe p) (alike_trans e (alike p))
                  ∙ first_keeps new i (v.class i) h (omega arith) before (first_safe p) (itself i l p)
              | no after ↦ absurd (omega (arith, most k (omega arith), e.class))
            ]
