-- Six bytes and their number, the order of both, and lists of bytes under a mask.
use Rattle.std.proofs.Common.{◌≡◌, ℕ, ◌+◌, ◌*◌, ◌/◌, ◌%◌, ◌^◌, ◌<◌, ◌≤◌, Bool, true, false, cond, not, ◌&&◌, ◌||◌, eqb, ltb, List, [], ◌∷◌, length, get_or, sym, refl, ap, ◌∙◌, arith, ltb-true, lt-ltb}
use Rattle.std.proofs.lemmas.Bool.Decides.{nat_tests}
use Rattle.std.specs.List.{list_any, list_all, zip}
use Rattle.serial.specs.Six.{six, number, no_zero, fair, fitting, before}

-- the elements at the first six places
abbrev pub at_places : List ℕ → List ℕ
at_places bs = get_or bs 0 0 ∷ get_or bs 1 0 ∷ get_or bs 2 0 ∷ get_or bs 3 0 ∷ get_or bs 4 0 ∷ get_or bs 5 0 ∷ []

pub spelled : (bs : List ℕ) → length bs ≡ 6 → bs ≡ at_places bs
spelled [] h = absurd (omega arith)
spelled (a ∷ []) h = absurd (omega arith)
spelled (a ∷ b ∷ []) h = absurd (omega arith)
spelled (a ∷ b ∷ c ∷ []) h = absurd (omega arith)
spelled (a ∷ b ∷ c ∷ d ∷ []) h = absurd (omega arith)
spelled (a ∷ b ∷ c ∷ d ∷ e ∷ []) h = absurd (omega arith)
spelled (a ∷ b ∷ c ∷ d ∷ e ∷ f ∷ []) h = refl
spelled (a ∷ b ∷ c ∷ d ∷ e ∷ f ∷ g ∷ bs) h = absurd (omega arith)

-- the six bytes of the number that six bytes make are those bytes
pub six-is : (v a b c d e f : ℕ) → a < 256 → b < 256 → c < 256 → d < 256 → e < 256 → f < 256 → v ≡ a * 1099511627776 + b * 4294967296 + c * 16777216 + d * 65536 + e * 256 + f → six v ≡ a ∷ b ∷ c ∷ d ∷ e ∷ f ∷ []
six-is v a b c d e f ha hb hc hd he hf is =
    let p : v / 1099511627776 % 256 ≡ a = omega arith in
    let q : v / 4294967296 % 256 ≡ b = omega arith in
    let r : v / 16777216 % 256 ≡ c = omega arith in
    let s : v / 65536 % 256 ≡ d = omega arith in
    let t : v / 256 % 256 ≡ e = omega arith in
    let u : v % 256 ≡ f = omega arith in
    cc

pub six-number : (v : ℕ) (bs : List ℕ) → length bs ≡ 6 → get_or bs 0 0 < 256 → get_or bs 1 0 < 256 → get_or bs 2 0 < 256 → get_or bs 3 0 < 256 → get_or bs 4 0 < 256 → get_or bs 5 0 < 256 → v ≡ number (at_places bs) → six v ≡ bs
six-number v bs h ha hb hc hd he hf is = six-is v _ _ _ _ _ _ ha hb hc hd he hf (is ∙ omega arith) ∙ sym (spelled bs h)

-- numbers of six bytes with the same bytes are the same
pub value-from-six : (v w : ℕ) → v < 2 ^ 48 → w < 2 ^ 48 → six v ≡ six w → v ≡ w
value-from-six v w hv hw e =
    let p : v / 1099511627776 % 256 ≡ w / 1099511627776 % 256 = cc in
    let q : v / 4294967296 % 256 ≡ w / 4294967296 % 256 = cc in
    let r : v / 16777216 % 256 ≡ w / 16777216 % 256 = cc in
    let s : v / 65536 % 256 ≡ w / 65536 % 256 = cc in
    let t : v / 256 % 256 ≡ w / 256 % 256 = cc in
    let u : v % 256 ≡ w % 256 = cc in
    omega arith

pub fair-is : (v : ℕ) (bs : List ℕ) → v < 2 ^ 48 → six v ≡ bs → fair v ≡ no_zero bs
fair-is v bs h e = ap (λ t. cond t (no_zero (six v)) false) (lt-ltb v (2 ^ 48) h) ∙ ap no_zero e

both : (t u : Bool) → cond t u false ≡ true → (t ≡ true) × (u ≡ true)
both true u h = (refl, h)
both false u h = cc

pub fair_parts : (v : ℕ) → fair v ≡ true → (v < 2 ^ 48) × (no_zero (six v) ≡ true)
fair_parts v h = let p = both (ltb v (2 ^ 48)) (no_zero (six v)) h in (ltb-true _ _ p.0, p.1)

none_first : (t u : Bool) → cond t false (not u) ≡ not (t || u)
none_first true u = refl
none_first false u = refl

-- no byte is zero where none of them is found to be
pub no_zero_from_list_any : (bs : List ℕ) → no_zero bs ≡ not (list_any (λ b. eqb b 0) bs)
no_zero_from_list_any [] = refl
no_zero_from_list_any (b ∷ bs) = ap (cond (eqb b 0) false) (no_zero_from_list_any bs) ∙ none_first (eqb b 0) (list_any (λ a. eqb a 0) bs)

-- a byte of a mask fits the byte at its place
abbrev pub fits_place : ℕ × ℕ → Bool
fits_place p = eqb p.0 0 || eqb p.0 p.1

place_first : (t u f : Bool) → ((t || u) && f) ≡ cond t f (cond u f false)
place_first true u f = refl
place_first false true f = refl
place_first false false f = refl

-- a mask that is no longer than the bytes fits them where it does at each of its places
pub fitting-from_pairs : (ms bs : List ℕ) → length ms ≤ length bs → list_all fits_place (zip ms bs) ≡ fitting ms bs
fitting-from_pairs [] bs h = refl
fitting-from_pairs (m ∷ ms) [] h = absurd (omega arith)
fitting-from_pairs (m ∷ ms) (b ∷ bs) h =
    ap (λ f. (eqb m 0 || eqb m b) && f) (fitting-from_pairs ms bs (omega arith)) ∙ place_first (eqb m 0) (eqb m b) (fitting ms bs)

-- one byte more in front: it decides the order, and where both have the same one, what stands behind it does
order_step : (t : Bool) (a b p q v w : ℕ) → (a < b → v < w) → (b < a → w < v) → (a ≡ b → p < q → v < w) → (a ≡ b → v < w → p < q) → t ≡ ltb p q → cond (ltb a b) true (cond (eqb a b) t false) ≡ ltb v w
order_step t a b p q v w less more same-to same_from e = grind (arith, nat_tests)

-- the order of the bytes is the order of the numbers: so it is for the last byte alone, and then with each byte in front
pub before-six : (v w : ℕ) → v < 2 ^ 48 → w < 2 ^ 48 → before (six v) (six w) ≡ ltb v w
before-six v w hv hw =
    order_step _ (v / 1099511627776 % 256) (w / 1099511627776 % 256) (v % 1099511627776) (w % 1099511627776) v w (λ h. omega arith) (λ h. omega arith) (λ e h. omega arith) (λ e h. omega arith) (
    order_step _ (v / 4294967296 % 256) (w / 4294967296 % 256) (v % 4294967296) (w % 4294967296) (v % 1099511627776) (w % 1099511627776) (λ h. omega arith) (λ h. omega arith) (λ e h. omega arith) (λ e h. omega arith) (
    order_step _ (v / 16777216 % 256) (w / 16777216 % 256) (v % 16777216) (w % 16777216) (v % 4294967296) (w % 4294967296) (λ h. omega arith) (λ h. omega arith) (λ e h. omega arith) (λ e h. omega arith) (
    order_step _ (v / 65536 % 256) (w / 65536 % 256) (v % 65536) (w % 65536) (v % 16777216) (w % 16777216) (λ h. omega arith) (λ h. omega arith) (λ e h. omega arith) (λ e h. omega arith) (
    order_step _ (v / 256 % 256) (w / 256 % 256) (v % 256) (w % 256) (v % 65536) (w % 65536) (λ h. omega arith) (λ h. omega arith) (λ e h. omega arith) (λ e h. omega arith) (
    order_step false (v % 256) (w % 256) 0 0 (v % 256) (w % 256) (λ h. h) (λ h. h) (λ e h. omega arith) (λ e h. omega arith) refl)))))
