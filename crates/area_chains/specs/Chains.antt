-- Buckets of numbers, each a chain from its head along links. `Stands k h` is whatever says that number k stands in bucket h.
use Rattle.std.specs.Prelude.{ℕ, suc, ◌+◌, ◌*◌, ◌≤◌, ◌<◌, ◌≡◌, ◌⊎◌, List}
use Rattle.std.proofs.lemmas.List.Edits.{sets}
use Rattle.base.specs.Bytes.{number_at, number_bytes}

-- ---- chains

-- Number k is below n and stands in bucket h.
pub record Member (Stands : ℕ → ℕ → Type 0) (n k h : ℕ) : Type 0 where
  pub there : k < n
  pub stands : Stands k h

-- The chains have every number below n that stands in a bucket. A head or a link is a number plus 1, or 0 at the end of the chain; each
-- number of a chain is smaller than the one before.
pub record Chained (Stands : ℕ → ℕ → Type 0) (buckets : ℕ) (head link : ℕ → ℕ) (n : ℕ) : Type 0 where
  pub heads : (h k : ℕ) → h < buckets → head h ≡ suc k → Member Stands n k h
  pub links : (l k h : ℕ) → l < n → h < buckets → Stands l h → link l ≡ suc k → Member Stands l k h
  pub all_heads : (l h : ℕ) → l < n → h < buckets → Stands l h → l < head h
  pub all_links : (l k h : ℕ) → l < n → h < buckets → Stands l h → k < l → Stands k h → k < link l

-- ---- chains in an area

-- the head of bucket h, where the heads begin at some place
unfoldable pub head_in : ℕ → List ℕ → ℕ → ℕ
head_in heads_at area h = number_at 2 area (heads_at + 2 * h)

-- the link of number k, where the links begin at some place
unfoldable pub link_in : ℕ → List ℕ → ℕ → ℕ
link_in links_at area k = number_at 2 area (links_at + 2 * k)

-- the area with number k at the head of bucket h
unfoldable pub added : ℕ → ℕ → List ℕ → ℕ → ℕ → List ℕ
added heads_at links_at area h k =
    sets (sets area (links_at + 2 * k) (number_bytes 2 (head_in heads_at area h))) (heads_at + 2 * h) (number_bytes 2 (k + 1))

-- So many heads and so many links do not overlap.
unfoldable pub Apart : ℕ → ℕ → ℕ → ℕ → Type 0
Apart heads_at buckets links_at numbers = (heads_at + 2 * buckets ≤ links_at) ⊎ (links_at + 2 * numbers ≤ heads_at)
