-- What a serial has, and that serials with the same bytes are the same.
use Rattle.std.proofs.Common.{◌≡◌, ℕ, ◌^◌, ◌<◌, true, false, ltb, List, Some, None, Option, sym, ap, ◌∙◌, MatchOption}
use mathlib.Core.Bool.{Bool-set}
use mathlib.Core.HLevel.{is_prop→PathP}
use Rattle.serial.specs.Six.{six, no_zero, fair, before}
use Rattle.serial.specs.declared.Serial.{Serial}
use Rattle.serial.proofs.Bytes.{fair_parts, fair-is, value-from-six, before-six}

pub serial-lt : (s : Serial) → s.value < 2 ^ 48
serial-lt s = (fair_parts s.value s.ok).0

pub serial-no-zero : (s : Serial) → no_zero (six s.value) ≡ true
serial-no-zero s = (fair_parts s.value s.ok).1

-- the order of the numbers is the order of the bytes
pub serial-before : (s t : Serial) → before (six s.value) (six t.value) ≡ ltb s.value t.value
serial-before s t = before-six s.value t.value (serial-lt s) (serial-lt t)

-- a serial is its number, and so its bytes
pub serial-from-value : (s t : Serial) → s.value ≡ t.value → s ≡ t
serial-from-value s t e = λ i. record { value = e i; ok = is_prop→PathP (λ k. fair (e k) ≡ true) (λ k. Bool-set _ _) s.ok t.ok i }

pub serial-from-six : (s t : Serial) → six s.value ≡ six t.value → s ≡ t
serial-from-six s t e = serial-from-value s t (value-from-six s.value t.value (serial-lt s) (serial-lt t) e)

-- what is read from the bytes of a serial is that serial
pub serial-back : (o : Option Serial) (bs : List ℕ) → MatchOption o (no_zero bs ≡ false) (λ t. six t.value ≡ bs) → (s : Serial) → six s.value ≡ bs → o ≡ Some s
serial-back None bs h s e = let f = serial-no-zero s in let g = ap no_zero e in cc
serial-back (Some t) bs h s e = ap Some (serial-from-six t s (h ∙ sym e))

-- what is made of the number that bytes have
pub serial-made : (o : Option Serial) (v : ℕ) (bs : List ℕ) → v < 2 ^ 48 → six v ≡ bs → MatchOption o (fair v ≡ false) (λ s. s.value ≡ v) → MatchOption o (no_zero bs ≡ false) (λ s. six s.value ≡ bs)
serial-made None v bs short same h = sym (fair-is v bs short same) ∙ h
serial-made (Some s) v bs short same h = ap six h ∙ same
