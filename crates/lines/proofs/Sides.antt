-- Whose a socket of a joint is.
use Rattle.std.proofs.Common.{◌≡◌, ℕ, Bool, true, false, cond, refl}
use Rattle.lines.specs.declared.joint.Side.TheVariants.{Left, Right}

pub is_left : (b : Bool) (n k : ℕ) → Left n ≡ cond b (Left k) (Right k) → (b ≡ true) × (n ≡ k)
is_left true n k e = (refl, cc)
is_left false n k e = cc

pub is_right : (b : Bool) (n k : ℕ) → Right n ≡ cond b (Left k) (Right k) → (b ≡ false) × (n ≡ k)
is_right true n k e = cc
is_right false n k e = (refl, cc)
