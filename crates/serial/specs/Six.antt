-- The six bytes of a number, the numbers that are serials, masks, and the order of bytes.
use Rattle.std.specs.Prelude.{ℕ, ◌+◌, ◌*◌, ◌/◌, ◌%◌, ◌^◌, Bool, true, false, cond, List, [], ◌∷◌, ◌==◌, nat_lt}

-- the six low bytes of a number, the most significant first
abbrev pub six : ℕ → List ℕ
six n = (n / 1099511627776 % 256) ∷ (n / 4294967296 % 256) ∷ (n / 16777216 % 256) ∷ (n / 65536 % 256) ∷ (n / 256 % 256) ∷ (n % 256) ∷ []

-- a number with more bytes behind it
abbrev pub number_from : ℕ → List ℕ → ℕ
number_from n [] = n
number_from n (b ∷ bs) = number_from (n * 256 + b) bs

-- the number that bytes make, the most significant first
abbrev pub number : List ℕ → ℕ
number bytes = number_from 0 bytes

-- no byte is zero
abbrev pub no_zero : List ℕ → Bool
no_zero [] = true
no_zero (b ∷ bs) = cond (b == 0) false (no_zero bs)

-- the number is a serial: it has no more than six bytes, and none of them is zero
abbrev pub fair : ℕ → Bool
fair n = cond (nat_lt n (2 ^ 48)) (no_zero (six n)) false

-- the mask fits the bytes: each byte of the mask is zero or the byte at its place
abbrev pub fitting : List ℕ → List ℕ → Bool
fitting [] bs = true
fitting (m ∷ ms) [] = false
fitting (m ∷ ms) (b ∷ bs) = cond (m == 0) (fitting ms bs) (cond (m == b) (fitting ms bs) false)

-- the first bytes come before the second: at the first place where they differ theirs is the smaller byte, or they end there
abbrev pub before : List ℕ → List ℕ → Bool
before [] [] = false
before [] (y ∷ ys) = true
before (x ∷ xs) [] = false
before (x ∷ xs) (y ∷ ys) = cond (nat_lt x y) true (cond (x == y) (before xs ys) false)
