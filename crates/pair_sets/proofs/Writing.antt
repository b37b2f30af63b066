-- Entry n is written: its alternatives from where it begins, and then its head.
use Prim.Native.Nat.{ℕ, ◌+◌, ◌-◌, ◌*◌, ◌≤◌, ◌<◌}
use native.Mathlib.Omega.{arith}
use native.Mathlib.Decide.{dec_lt}
use mathlib.Core.Path.{◌≡◌, refl, sym, ◌∙◌, ap, ap₂}
use mathlib.Core.Logic.{◌⊎◌, inl, inr}
use mathlib.Core.List.{List, [], ◌∷◌}
use lib.ListN.{length}
use lib.Seq.{sets}
use Rattle.base.specs.Bytes.{byte_at, number_bytes}
use Rattle.base.specs.Lists.{count_from, below}
use Rattle.pending.specs.Pending.{Pending}
use Rattle.alternatives.specs.Alternatives.{these}
use Rattle.reading.specs.BookArea.{nodes_in}
use Rattle.book_progression.specs.PendingBytes.{pending_of, part}
use Rattle.book_progression.specs.NodeBytes.{IsHeld}
use Rattle.book_progression.specs.Promises.{Beside}
use Rattle.alternative_bytes.specs.AlternativeBytes.{alternative_in}
use Rattle.set_bytes.specs.SetBytes.{set_in}
use Rattle.set_index.specs.Entries.{entries_size, entry_heads, entry_first, Heads, Headed, SameBefore}
use Rattle.set_index.proofs.Laws.{before_by, before_chained, entries_agree, heads_agree, put_length, put_number, put_end, put_firsts, put_bytes, put_before, put_headed}
use Rattle.pair_sets.specs.PairSets.{entry_set, Blank, Stays, Holds, Repeated, Taken}
use Rattle.pair_sets.proofs.Alternatives.{beside_byte, set_by}

-- So many alternatives from t on are these. What lies before them and the heads stay, and what was blank is so.
pub record Filled (nodes area : List ℕ) (t count : ℕ) (these_are : List Pending) (mid : List ℕ) : Type 0 where
  pub size : length mid ≡ length area
  pub beside : (p : ℕ) → (p < 60 * t) ⊎ (60960 ≤ p) → byte_at mid p ≡ byte_at area p
  pub blank : Blank nodes area → Blank nodes mid
  pub is : set_in mid (nodes_in nodes) (60 * t) count ≡ these_are

-- ---- the ways to fill them

-- The nodes of one are written,
pub filled_one : (nodes area : List ℕ) (t : ℕ) (mid : List ℕ) → IsHeld nodes → t < 1016 → Beside area (60 * t) (nodes_in nodes) mid
    → Filled nodes area t 1 (pending_of (part mid (60 * t) (nodes_in nodes)) ∷ []) mid
unfolding set_in below count_from alternative_in
filled_one nodes area t mid held inside b =
    record {
      size = b.size;
      beside = λ p side. beside_byte area (60 * t) (nodes_in nodes) mid b p (far p side);
      blank = λ blank. record {
        zeros = λ s p l m k. beside_byte area (60 * t) (nodes_in nodes) mid b (60 * s + p) (gap s p m k) ∙ blank.zeros s p l m k;
      };
      is = let place : 60 * t + 60 * 0 ≡ 60 * t = omega arith in rw place refl;
    }
  where
    far : (p : ℕ) → (p < 60 * t) ⊎ (60960 ≤ p) → (p < 60 * t) ⊎ (60 * t + nodes_in nodes ≤ p)
    far p (inl l) = inl l
    far p (inr l) = inr (omega (arith, held.few))

    gap : (s p : ℕ) → nodes_in nodes ≤ p → p < 60 → (60 * s + p < 60 * t) ⊎ (60 * t + nodes_in nodes ≤ 60 * s + p)
    gap s p m k = elim (dec_lt s t) [ yes l ↦ inl (omega arith) | no l ↦ inr (omega arith) ]

-- those of entry j are copied,
pub filled_repeated : (nodes area : List ℕ) (j s t count : ℕ) (mid : List ℕ) → IsHeld nodes → entries_size ≤ length area → s ≡ entry_first area j
    → count ≡ entry_first area (j + 1) - s → s + count ≤ t → t + count ≤ 1016 → Repeated area s t count mid
    → Filled nodes area t count (entry_set nodes area j) mid
unfolding entry_set
filled_repeated nodes area j s t count mid held room at_s counted low inside r =
    record {
      size = r.size;
      beside = λ p side. r.beside p (far p side);
      blank = λ blank. record { zeros = λ z p l m k. zero_at blank z p l m k (dec_lt z t) (dec_lt z (t + count)) };
      is =
          set_by mid area (nodes_in nodes) (60 * t) (60 * s) count held.few (omega (arith, r.size)) (omega arith) r.same
          ∙ ap₂ (λ a b. set_in area (nodes_in nodes) (60 * a) b) at_s (rw (← at_s) counted);
    }
  where
    far : (p : ℕ) → (p < 60 * t) ⊎ (60960 ≤ p) → (p < 60 * t) ⊎ (60 * (t + count) ≤ p)
    far p (inl l) = inl l
    far p (inr l) = inr (omega arith)

    zero_at : Blank nodes area → (z p : ℕ) → z < 1016 → nodes_in nodes ≤ p → p < 60 → Dec (z < t) → Dec (z < t + count) → byte_at mid (60 * z + p) ≡ 0
    zero_at blank z p l m k (yes before) _ = r.beside (60 * z + p) (inl (omega arith)) ∙ blank.zeros z p l m k
    zero_at blank z p l m k (no _) (no behind) = r.beside (60 * z + p) (inr (omega arith)) ∙ blank.zeros z p l m k
    zero_at blank z p l m k (no before) (yes behind) =
        let to : 60 * z + p ≡ 60 * t + (60 * (z - t) + p) = omega arith in
        let from : 60 * s + (60 * (z - t) + p) ≡ 60 * (s + (z - t)) + p = omega arith in
        ap (byte_at mid) to ∙ r.same (60 * (z - t) + p) (omega arith) ∙ ap (byte_at area) from
        ∙ blank.zeros (s + (z - t)) p (omega arith) m k

-- or they are taken from another area.
pub filled_taken : (nodes area : List ℕ) (t : ℕ) (room : List ℕ) (at count : ℕ) (mid : List ℕ) → t + count ≤ 1016
    → Taken (nodes_in nodes) area t room at count mid → Filled nodes area t count (set_in room (nodes_in nodes) at count) mid
filled_taken nodes area t room at count mid inside taken =
    record {
      size = taken.size;
      beside = λ p side. taken.beside p (far p side);
      blank = λ blank. record { zeros = λ s p l m k. taken.behind s p m k ∙ blank.zeros s p l m k };
      is = taken.is;
    }
  where
    far : (p : ℕ) → (p < 60 * t) ⊎ (60960 ≤ p) → (p < 60 * t) ⊎ (60 * (t + count) ≤ p)
    far p (inl l) = inl l
    far p (inr l) = inr (omega arith)

-- ---- what stays, and what entry n holds

stays_by : (nodes area : List ℕ) (n : ℕ) (after : List ℕ) → Heads area n → SameBefore area after n → (Blank nodes area → Blank nodes after)
    → Stays nodes area n after
stays_by nodes area n after heads same blank =
    record {
      size = sym same.lengths;
      kept = λ j l. sym (entries_agree area after n heads.rising same j l);
      heads = heads_agree area after n same;
      blank = blank;
    }

module _ (nodes area : List ℕ) (n t count : ℕ) (s : List Pending) (mid : List ℕ) (heads : Heads area n) (at_t : t ≡ entry_first area n)
    (filled : Filled nodes area t count s mid) where
  filled_before : SameBefore area mid n
  filled_before =
      before_by area mid n (sym filled.size) (λ p l. sym (filled.beside p (inl (omega arith)))) (λ p l m. sym (filled.beside p (inr l)))

  -- The alternatives are written.
  pub filled_stays : Stays nodes area n mid
  filled_stays = stays_by nodes area n mid heads filled_before filled.blank

  -- So is the head.
  module _ (number : ℕ) (after : List ℕ)
      (written : after ≡ sets (sets mid (entry_heads + 4 * n) (number_bytes 2 number)) (entry_heads + 4 * n + 6) (number_bytes 2 (t + count)))
      (room : entries_size ≤ length area) (few : n ≤ 1000) where
    mid_room : entries_size ≤ length mid
    mid_room = omega (arith, filled.size)

    mid_heads : Heads mid n
    mid_heads = heads_agree area mid n filled_before heads

    mid_first : entry_first mid n ≡ t
    mid_first = sym (filled_before.firsts n (omega arith)) ∙ sym at_t

    pub written_stays : Stays nodes area n after
    written_stays =
        stays_by nodes area n after heads
        (before_chained area mid after n filled_before (put_before mid after n number (t + count) written mid_heads))
        (λ blank. record {
          zeros = λ z p l m k.
              put_bytes mid after n number (t + count) written (60 * z + p) (omega arith) ∙ (filled.blank blank).zeros z p l m k;
        })

    module _ (small : number < 65536) (least : 1 ≤ count) (inside : t + count ≤ 1016) where
      pub written_headed : Headed after n
      written_headed =
          put_headed mid after n number (t + count) written mid_heads mid_room (omega (arith, mid_first)) inside

      set_is : entry_set nodes after n ≡ set_in after (nodes_in nodes) (60 * t) count
      unfolding entry_set
      set_is =
          let first = put_firsts mid after n number (t + count) written n (omega arith) ∙ mid_first in
          let end = put_end mid after n number (t + count) written few mid_room (omega arith) in
          let left : t + count - t ≡ count = omega arith in
          ap₂ (λ (a b : ℕ). set_in after (nodes_in nodes) (60 * a) (b - a)) first end ∙ ap (set_in after (nodes_in nodes) (60 * t)) left

      pub written_set : IsHeld nodes → entry_set nodes after n ≡ s
      written_set held =
          let long = put_length mid after n number (t + count) written in
          set_is
          ∙ set_by after mid (nodes_in nodes) (60 * t) (60 * t) count held.few (omega (arith, mid_room)) (omega (arith, mid_room)) (λ k l.
          put_bytes mid after n number (t + count) written (60 * t + k) (omega arith))
          ∙ filled.is

      pub written_holds : IsHeld nodes → Holds nodes number n (these s) after
      written_holds held =
          record {
            headed = written_headed;
            number_is = put_number mid after n number (t + count) written few mid_room small;
            set_is = ap these (sym (written_set held));
          }
