-- The version of the interface for C and Rust.
use Rattle.std.specs.Prelude.{ℕ}

-- It goes up where a caller of before has to change: the answer's fields, parameters, least lengths of areas.
abbrev pub interface_version : ℕ
interface_version = 2
