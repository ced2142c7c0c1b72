-- The place of the first mark, and what stands behind a place.
use Rattle.std.proofs.Common.{◌≡◌, ◌-◌, Bool, true, false, ℕ, List, Some, None, cond, length, nat_lt, take, drop, arith}
use Rattle.std.proofs.lemmas.Grind.{common_steps}
use Rattle.std.specs.List.{position, position_or_len}

some-from_cond : (b : Bool) (n i : ℕ) → cond b (Some n) None ≡ Some i → n ≡ i
some-from_cond true n i e = cc
some-from_cond false n i e = cc

-- a place that was found is that of the first
pub first_place : {X : Type 0} (p : X → Bool) (xs : List X) (i : ℕ) → position p xs ≡ Some i → position_or_len p xs ≡ i
first_place p xs i found = some-from_cond (nat_lt (position_or_len p xs) (length xs)) (position_or_len p xs) i found

pub rest-is-drop : {X : Type 0} (xs : List X) (n : ℕ) → take (length xs - n) (drop n xs) ≡ drop n xs
rest-is-drop xs n = grind (arith, common_steps)
