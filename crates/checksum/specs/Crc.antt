-- CRC-16/Modbus, by its rule for a single bit: start 0xFFFF, polynomial 0xA001 (reflected, so that the low bit goes first),
-- no change of the value at the end.
use Rattle.std.specs.Prelude.{◌≡◌, ℕ, ◌/◌, ◌%◌, cond, List, ◌++◌, fold, ◌==◌, bit_xor}

-- the value shifted by one bit: where the bit that falls out is 1, the polynomial comes in
unfoldable pub shift : ℕ → ℕ
shift c = cond (c % 2 == 0) (c / 2) (bit_xor (c / 2) 40961)

-- the shifts of a whole byte
unfoldable pub eight : ℕ → ℕ
eight c = shift (shift (shift (shift (shift (shift (shift (shift c)))))))

-- the value after one byte more
unfoldable pub next : ℕ → ℕ → ℕ
next c b = eight (bit_xor c b)

-- the value after all of the bytes, where it was c before them
abbrev pub crc_from : ℕ → List ℕ → ℕ
crc_from c bytes = fold next c bytes

-- the checksum of the bytes
abbrev pub crc : List ℕ → ℕ
crc bytes = crc_from 65535 bytes

-- the law of parts: the value of two parts joined is that of the second part, started from that of the first
abbrev pub GoesOn : Type 0
GoesOn = (c : ℕ) (front back : List ℕ) → crc_from c (front ++ back) ≡ crc_from (crc_from c front) back
