-- Laws of chains: none, more numbers that stand in no bucket, one more number at a head; and the walk from a head along the links.
use Prim.Native.Nat.{ℕ, zero, suc, ◌+◌, ◌-◌, ◌≤◌, ◌<◌}
use native.Mathlib.Omega.{arith}
use native.Mathlib.Decide.{dec_lt, ℕ_discrete}
use mathlib.Core.Path.{◌≡◌, refl, sym, ap, ◌∙◌, subst}
use Rattle.area_chains.specs.Chains.{Member, Chained}

-- What holds below i and at i holds below i + 1.
pub one_more : (P : ℕ → Type 0) (i : ℕ) → ((k : ℕ) → k < i → P k) → P i → (k : ℕ) → k < i + 1 → P k
one_more P i all here k l = elim (dec_lt k i) [ yes m ↦ all k m | no m ↦ (let same : i ≡ k = omega arith in subst P same here) ]

-- Where the numbers below n stand in the same buckets, the chains are the same.
pub chained_stands : (Stands Other : ℕ → ℕ → Type 0) (buckets : ℕ) (head link : ℕ → ℕ) (n : ℕ)
    → ((k h : ℕ) → k < n → Stands k h → Other k h) → ((k h : ℕ) → k < n → Other k h → Stands k h)
    → Chained Stands buckets head link n → Chained Other buckets head link n
chained_stands Stands Other buckets head link n to_other to_stands c =
    record {
      heads = λ h k l e. let m = c.heads h k l e in record { there = m.there; stands = to_other k h m.there m.stands };
      links =
          λ l k h less o s e.
          let m = c.links l k h less o (to_stands l h less s) e in
          record { there = m.there; stands = to_other k h (omega (arith, m.there)) m.stands };
      all_heads = λ l h less o s. c.all_heads l h less o (to_stands l h less s);
      all_links = λ l k h less o s p t. c.all_links l k h less o (to_stands l h less s) p (to_stands k h (omega arith) t);
    }

module _ (Stands : ℕ → ℕ → Type 0) (buckets : ℕ) where
  -- At first the chains are empty.
  pub chained_none : (head link : ℕ → ℕ) → ((h : ℕ) → h < buckets → head h ≡ 0) → Chained Stands buckets head link 0
  chained_none head link empty =
      record {
        heads = λ h k l e. absurd (omega (arith, empty h l));
        links = λ l k h less m s e. absurd (omega arith);
        all_heads = λ l h less m s. absurd (omega arith);
        all_links = λ l k h less m s o t. absurd (omega arith);
      }

  -- Numbers up to m that stand in no bucket change nothing.
  pub chained_skip : (head link : ℕ → ℕ) (n m : ℕ) → Chained Stands buckets head link n → n ≤ m
      → ((k h : ℕ) → n ≤ k → k < m → h < buckets → Stands k h → ⊥) → Chained Stands buckets head link m
  chained_skip head link n m c le none =
      record {
        heads = λ h k l e. let old = c.heads h k l e in record { there = omega (arith, old.there); stands = old.stands };
        links = λ l k h less o s e. c.links l k h (within l h less o s) o s e;
        all_heads = λ l h less o s. c.all_heads l h (within l h less o s) o s;
        all_links = λ l k h less o s p t. c.all_links l k h (within l h less o s) o s p t;
      }
    where
      within : (l h : ℕ) → l < m → h < buckets → Stands l h → l < n
      within l h less o s = elim (dec_lt l n) [ yes y ↦ y | no y ↦ absurd (none l h (omega arith) less o s) ]

  -- Equal heads and links are chains of the same.
  pub chained_same : (head link head' link' : ℕ → ℕ) (n : ℕ) → Chained Stands buckets head link n
      → ((h : ℕ) → h < buckets → head' h ≡ head h) → ((k : ℕ) → k < n → link' k ≡ link k) → Chained Stands buckets head' link' n
  chained_same head link head' link' n c same_heads same_links =
      record {
        heads = λ h k l e. c.heads h k l (sym (same_heads h l) ∙ e);
        links = λ l k h less o s e. c.links l k h less o s (sym (same_links l less) ∙ e);
        all_heads = λ l h less o s. omega (arith, same_heads h o, c.all_heads l h less o s);
        all_links = λ l k h less o s p t. omega (arith, same_links l less, c.all_links l k h less o s p t);
      }

  module _ (head link head' link' : ℕ → ℕ) (i h : ℕ) (c : Chained Stands buckets head link i) (small : h < buckets) (in_h : Stands i h)
      (only : (g : ℕ) → Stands i g → g ≡ h) (Link_here : link' i ≡ head h) (link_else : (k : ℕ) → k < i → link' k ≡ link k)
      (head_here : head' h ≡ suc i) (head_else : (g : ℕ) → g < buckets → (g ≡ h → ⊥) → head' g ≡ head g) where
    new_heads : (g k : ℕ) → g < buckets → head' g ≡ suc k → Dec (g ≡ h) → Member Stands (i + 1) k g
    new_heads g k l e (yes same) =
        let ki : i ≡ k = omega (arith, ap head' same) in
        subst (λ x. Member Stands (i + 1) x g) ki (record { there = omega arith; stands = subst (Stands i) (sym same) in_h })
    new_heads g k l e (no other) =
        let old = c.heads g k l (sym (head_else g l other) ∙ e) in
        record { there = omega (arith, old.there); stands = old.stands }

    new_all : (l g : ℕ) → l < i → g < buckets → Stands l g → Dec (g ≡ h) → l < head' g
    new_all l g less o s (yes same) = omega (arith, ap head' same)
    new_all l g less o s (no other) = omega (arith, head_else g o other, c.all_heads l g less o s)

    -- The next number stands at the head of its bucket.
    pub chained_more : Chained Stands buckets head' link' (i + 1)
    chained_more =
        record {
          heads = λ g k l e. new_heads g k l e (ℕ_discrete g h);
          links =
              λ l k g less o.
              one_more (λ l. Stands l g → link' l ≡ suc k → Member Stands l k g) i
              (λ l m s e. c.links l k g m o s (sym (link_else l m) ∙ e))
              (λ s e. let same = only g s in
              c.heads g k o (ap head same ∙ sym Link_here ∙ e)) l less;
          all_heads =
              λ l g less o.
              one_more (λ l. Stands l g → l < head' g) i (λ l m s. new_all l g m o s (ℕ_discrete g h))
              (λ s. omega (arith, ap head' (only g s))) l less;
          all_links =
              λ l k g less o.
              one_more (λ l. Stands l g → k < l → Stands k g → k < link' l) i
              (λ l m s p t. omega (arith, link_else l m, c.all_links l k g m o s p t))
              (λ s p t. omega (arith, c.all_heads k g p o t, ap head (only g s))) l less;
        }

  -- ---- the walk through a bucket

  -- The walk has come to number `at` of bucket h: a member plus 1, or 0 at the end.
  pub record Walking (n h at : ℕ) : Type 0 where
    pub node : (k : ℕ) → at ≡ suc k → Member Stands n k h

  -- Before the end it is at a member.
  pub walk_node : (n h at : ℕ) → Walking n h at → 0 < at → Member Stands n (at - 1) h
  walk_node n h at w more = w.node (at - 1) (omega arith)

  -- It is at no more than n.
  pub walk_most : (n h at : ℕ) → Walking n h at → at ≤ n
  walk_most n h zero w = omega arith
  walk_most n h (suc k) w = (w.node k refl).there

  module _ (head link : ℕ → ℕ) (n h : ℕ) (c : Chained Stands buckets head link n) (small : h < buckets) where
    -- It begins at the head,
    pub walk_start : (at : ℕ) → at ≡ head h → Walking n h at
    walk_start at e = record { node = λ k f. c.heads h k small (sym e ∙ f) }

    -- with every member of the bucket ahead.
    pub walk_first : (at : ℕ) → at ≡ head h → (j : ℕ) → j < n → Stands j h → j < at
    walk_first at e j l s = omega (arith, c.all_heads j h l small s)

    module _ (at next : ℕ) (w : Walking n h at) (more : 0 < at) (to_next : next ≡ link (at - 1)) where
      -- It goes on along a link,
      pub walk_on : Walking n h next
      walk_on =
          let m = walk_node n h at w more in
          record {
            node =
                λ j e.
                let old = c.links (at - 1) j h m.there small m.stands (sym to_next ∙ e) in
                record { there = omega (arith, m.there, old.there); stands = old.stands };
          }

      -- which leads to a smaller number,
      pub walk_falls : next < at
      walk_falls = go next to_next
        where
          go : (x : ℕ) → x ≡ link (at - 1) → x < at
          go zero e = omega arith
          go (suc j) e =
              let m = walk_node n h at w more in
              omega (arith, (c.links (at - 1) j h m.there small m.stands (sym e)).there)

      -- and leaves out no member but the one that it came from.
      pub walk_ahead : (j : ℕ) → Stands j h → j < at → (j ≡ at - 1 → ⊥) → j < next
      walk_ahead j s l other =
          let m = walk_node n h at w more in
          let less : j < at - 1 = omega (arith, other) in
          omega (arith, c.all_links (at - 1) j h m.there small m.stands less s)
