-- The run over two parts, and the step by the table: the eight shifts let the bits above the low byte through untouched.
use Rattle.std.proofs.Common.{◌≡◌, ℕ, suc, ◌*◌, ◌/◌, ◌%◌, ◌^◌, ◌<◌, Bool, true, false, cond, eqb, [], ◌∷◌, sym, refl, ap, ◌∙◌, arith}
use lib.Bits.{bit_xor, xor_shr, xor_mod, xor_assoc, xor_zero_l, xor_zero_r, xor_shifted, shifted_half, shifted_even}
use Rattle.checksum.specs.Crc.{shift, eight, next, GoesOn}

pub goes_on : GoesOn
goes_on c [] back = refl
goes_on c (b ∷ front) back = goes_on (next c b) front back

-- In the lemmas below h is what stands above the low k bits, and r is what is left.

pick : (b : Bool) (h q : ℕ) → cond b (bit_xor h q) (bit_xor (bit_xor h q) 40961) ≡ bit_xor h (cond b q (bit_xor q 40961))
pick true h q = refl
pick false h q = xor_assoc h q 40961

half : (h k r : ℕ) → bit_xor (h * 2 ^ suc k) r / 2 ≡ bit_xor (h * 2 ^ k) (r / 2)
half h k r = xor_shr (h * 2 ^ suc k) r 1 ∙ ap (λ n. bit_xor n (r / 2)) (shifted_half h k)

odd : (h k r : ℕ) → bit_xor (h * 2 ^ suc k) r % 2 ≡ r % 2
odd h k r = xor_mod (h * 2 ^ suc k) r 1 ∙ ap (λ n. bit_xor n (r % 2)) (shifted_even h k) ∙ xor_zero_l (r % 2)

up : (h k r : ℕ) → shift (bit_xor (h * 2 ^ suc k) r) ≡ bit_xor (h * 2 ^ k) (shift r)
unfolding shift
up h k r = rw (half h k r, odd h k r) (pick (eqb (r % 2) 0) (h * 2 ^ k) (r / 2))

pub eight-up : (h r : ℕ) → eight (bit_xor (h * 2 ^ 8) r) ≡ bit_xor (h * 2 ^ 0) (eight r)
unfolding eight
eight-up h r = rw (up h 7, up h 6, up h 5, up h 4, up h 3, up h 2, up h 1, up h 0)

-- the table is asked for the low byte of both, and the high byte is that of the value so far
pub by_table : (c b : ℕ) → b < 256 → bit_xor (c / 256) (eight (bit_xor c b % 256)) ≡ next c b
unfolding next
by_table c b low =
    let x : ℕ = bit_xor c b in
    let top : x / 256 ≡ c / 256 = xor_shr c b 8 ∙ ap (bit_xor (c / 256)) (omega arith) ∙ xor_zero_r (c / 256) in
    let whole : bit_xor (x / 256 * 2 ^ 8) (x % 256) ≡ x = xor_shifted (x / 256) 8 (x % 256) (omega arith) ∙ omega arith in
    sym (ap eight (sym whole) ∙ eight-up (x / 256) (x % 256) ∙ ap (λ n. bit_xor n (eight (x % 256))) (omega (arith, top)))

-- the same by the two bytes of the value
pub by_bytes : (c b : ℕ) → c < 65536 → b < 256 → bit_xor (c / 256 % 256) (eight (bit_xor (c % 256) b)) ≡ next c b
by_bytes c b short low =
    let high : c / 256 % 256 ≡ c / 256 = omega arith in
    let byte : bit_xor (c % 256) b ≡ bit_xor c b % 256 = ap (bit_xor (c % 256)) (omega arith) ∙ sym (xor_mod c b 8) in
    (λ i. bit_xor (high i) (eight (byte i))) ∙ by_table c b low
