-- Counting telegrams.
use Rattle.std.specs.Prelude.{ℕ, ◌+◌, ◌%◌, ◌^◌}

-- one telegram more: after 2^64 - 1 comes 0
abbrev pub one_more : ℕ → ℕ
one_more n = (n + 1) % 2 ^ 64
