-- Registers that follow one another.
use Rattle.std.specs.Prelude.{◌≡◌, ℕ, ◌+◌, ◌-◌, ◌<◌, Bool, ◌&&◌, nat_le}
use Rattle.stations.specs.declared.range.Registers.{Registers}

abbrev pub span : ℕ → ℕ → Registers
span first last = record { first = first; last = last }

-- a register is one of them
abbrev pub among : Registers → ℕ → Bool
among g r = nat_le g.first r && nat_le r g.last

-- the others begin and end among them
abbrev pub all_among : Registers → Registers → Bool
all_among g others = nat_le g.first others.first && nat_le others.last g.last

-- how many they are
abbrev pub count : Registers → ℕ
count g = g.last + 1 - g.first

-- so many registers, one at least, from one on
abbrev pub Starts : ℕ → ℕ → Registers → Type 0
Starts first n g = (0 < n) × (g.first ≡ first) × (g.last + 1 ≡ first + n)
