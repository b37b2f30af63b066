-- A law for each way through the code.
use Prim.Native.Nat.{ℕ}
use mathlib.Core.Path.{◌≡◌}
use mathlib.Core.List.{List, [], ◌∷◌}
use lib.ListN.{length, take}
use Rattle.base.specs.Text.{ascii}
use Rattle.program_texts.specs.Decimal.{decimal}
use Rattle.program_texts.specs.Putting.{Puts, PrintedLine}
use Rattle.program_texts.proofs.Fitting.{more, last, line_cut}
use Rattle.program_files.specs.Names.{temporary_name}

-- The name of a temporary file.
pub temporary_way : (path : List ℕ) (k : ℕ) (o₀ o₁ o₂ o₃ o₄ : List ℕ) (n r₁ r₂ r₃ r₄ : ℕ) → Puts r₄ (ascii ".tmp") o₃ r₃ o₄
    → Puts r₃ (decimal n) o₂ r₂ o₃ → n ≡ k → Puts r₂ (46 ∷ []) o₁ r₁ o₂ → Puts r₁ path o₀ 0 o₁ → length o₀ ≡ 4096
    → PrintedLine r₄ (take 4096 (temporary_name path k)) o₄
unfolding temporary_name ascii
temporary_way path k o₀ o₁ o₂ o₃ o₄ n r₁ r₂ r₃ r₄ s r e q p f =
    rw (← f) (line_cut r₄ (temporary_name path k) o₀ o₄
    (more r₁ r₄ 0 path ((46 ∷ []) ∷ decimal k ∷ ascii ".tmp" ∷ []) o₀ o₁ o₄ p
    (more r₂ r₄ r₁ (46 ∷ []) (decimal k ∷ ascii ".tmp" ∷ []) o₁ o₂ o₄ q
    (more r₃ r₄ r₂ (decimal k) (ascii ".tmp" ∷ []) o₂ o₃ o₄ (rw e at r) (last r₄ r₃ (ascii ".tmp") o₃ o₄ s)))))
