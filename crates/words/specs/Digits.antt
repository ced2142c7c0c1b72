-- What the digits of a number say. Digits are given as the bytes that they are written with.
use Rattle.std.specs.Prelude.{ℕ, ◌+◌, ◌-◌, ◌*◌, cond, List, [], ◌∷◌, fold, nat_le}
use Rattle.words.specs.declared.number.Base.{Base}
use Rattle.words.specs.declared.number.Base.TheVariants.{Decimal, Hexadecimal}

-- how many digits a base has
abbrev pub radix_of : Base → ℕ
radix_of Decimal = 10
radix_of Hexadecimal = 16

-- what a hexadecimal digit counts, 0 to 9, A to F or a to f; for 0 to 9 it is what a decimal digit counts
abbrev pub digit_value : ℕ → ℕ
digit_value byte = cond (nat_le byte 57) (byte - 48) (cond (nat_le byte 70) (byte - 55) (byte - 87))

-- a number to this base with one digit more behind it
abbrev pub with_byte : ℕ → ℕ → ℕ → ℕ
with_byte base n byte = base * n + digit_value byte

-- the number that the digits of a word say, the most significant first
abbrev pub value_of : ℕ → List ℕ → ℕ
value_of base word = fold (with_byte base) 0 word

-- the bytes that the digits of a word say, two hexadecimal digits each
abbrev pub bytes_said : List ℕ → List ℕ
bytes_said (high ∷ (low ∷ rest)) = value_of 16 (high ∷ low ∷ []) ∷ bytes_said rest
bytes_said _ = []
