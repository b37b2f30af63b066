-- A law for each way through the code.
use Prim.Native.Nat.{ℕ, ◌+◌, ◌-◌, ◌≤◌}
use native.Mathlib.Omega.{arith}
use mathlib.Core.Path.{◌≡◌, sym, ◌∙◌, ap}
use mathlib.Core.List.{List, ◌++◌}
use lib.ListN.{length, get_or, drop, replicate, get_or-replicate}
use Rattle.std.proofs.lemmas.List.{get_or-append-add, get_or-drop}
use Rattle.program_status.specs.Paths.{Ended}

-- Behind n bytes of the path, 4,095 at most, an area of zeros ends in a zero.
pub ended_way : (path : List ℕ) (n : ℕ) → length path ≡ n → n ≤ 4095 → Ended (path ++ drop n (replicate 4096 0))
ended_way path n e l =
    let place : length path + (4095 - n) ≡ 4095 = omega arith in
    let inside : n + (4095 - n) ≡ 4095 = omega arith in
    ap (λ i. get_or (path ++ drop n (replicate 4096 0)) i 1) (sym place)
    ∙ get_or-append-add path (drop n (replicate 4096 0)) (4095 - n) 1
    ∙ get_or-drop n (replicate 4096 0) (4095 - n) 1
    ∙ ap (λ i. get_or (replicate 4096 0) i 1) inside
    ∙ get_or-replicate 4096 4095 0 1 (omega arith)
