-- Bytes written into a buffer.
use Rattle.std.specs.Prelude.{ℕ, ◌+◌, List, ◌++◌, length, take, drop}

-- the buffer with the bytes from a place on
abbrev pub written : List ℕ → ℕ → List ℕ → List ℕ
written buffer at bytes = take at buffer ++ bytes ++ drop (at + length bytes) buffer
