-- Names of files.
use Rattle.std.specs.Prelude.{ℕ, suc, ◌≤◌, ◌<◌, ◌≡◌, List, [], ◌∷◌, length, get_or}
use Rattle.base.specs.Lists.{joined}
use Rattle.base.specs.Text.{byte, ascii}
use Rattle.program_texts.specs.Decimal.{decimal}

-- the name of a temporary file beside a file: the file's own, a number and `tmp`
unfoldable pub temporary_name : List ℕ → ℕ → List ℕ
temporary_name path n = joined (path ∷ ascii "." ∷ decimal n ∷ ascii ".tmp" ∷ [])

-- The folder's part of a name ends behind its last slash, or is empty.
pub record FolderEnd (end : ℕ) (path : List ℕ) : Type 0 where
  pub within : end ≤ length path
  pub slash : (i : ℕ) → end ≡ suc i → get_or path i 0 ≡ byte "/"
  pub no_other : (i : ℕ) → end ≤ i → i < length path → get_or path i 0 ≡ byte "/" → ⊥
