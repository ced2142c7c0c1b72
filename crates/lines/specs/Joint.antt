-- Two lines joined, as a value.
use Rattle.std.specs.Prelude.{ℕ, ◌/◌, ◌%◌, Bool, cond, List, [], ◌∷◌, None, Option, ◌==◌}
use Rattle.wall.specs.declared.card.Socket.{Socket}
use Rattle.wall.specs.Counts.{one_more}
use Rattle.wall.specs.Wall.{Wall, Reply}
use Rattle.lines.specs.Blends.{both}

pub record JointState (P Q : Type 0) : Type 0 where
  pub left : P
  pub right : Q
  pub tally : ℕ

-- the sockets of two lines in turn; where one line is longer, there is no such socket at the other's numbers
abbrev pub woven : List (Option Socket) → List (Option Socket) → List (Option Socket)
woven [] [] = []
woven [] (b ∷ bs) = None ∷ b ∷ woven [] bs
woven (a ∷ rest) [] = a ∷ None ∷ woven rest []
woven (a ∷ rest) (b ∷ bs) = a ∷ b ∷ woven rest bs

abbrev pub even : ℕ → Bool
even n = n % 2 == 0

module _ {P Q : Type 0} where
  abbrev pub with_left : JointState P Q → P → JointState P Q
  with_left j p = record { left = p; right = j.right; tally = j.tally }

  abbrev pub with_right : JointState P Q → Q → JointState P Q
  with_right j q = record { left = j.left; right = q; tally = j.tally }

  abbrev pub joint_wall : (P → Wall) → (Q → Wall) → JointState P Q → Wall
  joint_wall v w j = record { sockets = woven (v j.left).sockets (w j.right).sockets; tally = j.tally }

  abbrev pub joint_reply : (P → List ℕ → Reply) → (Q → List ℕ → Reply) → JointState P Q → List ℕ → Reply
  joint_reply f g j t = both (f j.left t) (g j.right t)

  abbrev pub joint_next : (P → List ℕ → P) → (Q → List ℕ → Q) → JointState P Q → List ℕ → JointState P Q
  joint_next f g j t = record { left = f j.left t; right = g j.right t; tally = one_more j.tally }

  -- number 2n is the left line's n, number 2n + 1 the right line's n
  abbrev pub joint_fits : (P → ℕ → ℕ → ℕ → Bool → P) → (Q → ℕ → ℕ → ℕ → Bool → Q) → JointState P Q → ℕ → ℕ → ℕ → Bool → JointState P Q
  joint_fits f g j n serial address defective = cond (even n) (with_left j (f j.left (n / 2) serial address defective)) (with_right j (g j.right (n / 2) serial address defective))

  abbrev pub joint_pulls : (P → ℕ → P) → (Q → ℕ → Q) → JointState P Q → ℕ → JointState P Q
  joint_pulls f g j n = cond (even n) (with_left j (f j.left (n / 2))) (with_right j (g j.right (n / 2)))
