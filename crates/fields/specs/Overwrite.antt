-- Bytes written over others.
use Rattle.std.specs.Prelude.{ℕ, ◌+◌, List, ◌++◌, length, take, drop}

-- `bytes` with `new` written over it from index `at`
unfoldable pub overwritten : ℕ → List ℕ → List ℕ → List ℕ
overwritten at new bytes = take at bytes ++ (new ++ drop (at + length new) bytes)
