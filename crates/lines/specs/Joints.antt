-- What a joint in memory is as a value, its socket numbers, and that it keeps the laws of a line.
use Rattle.std.specs.Prelude.{◌≡◌, ℕ, ◌+◌, ◌*◌}
use Rattle.wall.specs.declared.line.Line.{Ghosts}
use Rattle.wall.specs.Lines.{at}
use Rattle.wall.specs.LineLaws.{LineLaws}
use Rattle.lines.specs.declared.joint.Joint.{Joint}
use Rattle.lines.specs.Joint.{JointState, joint_wall, joint_reply, joint_next, joint_fits, joint_pulls}
use Rattle.lines.specs.LawsOfJoints.{joint_laws_of}

module _ {P Q : Type 0} (p : Ghosts P) (q : Ghosts Q) where
  abbrev pub joint_state : Joint P Q → JointState p.State q.State
  joint_state j = record { left = p.state j.left; right = q.state j.right; tally = j.tally.value }

  -- number 2n shows the left line's n, number 2n + 1 the right line's n
  pub record Sides (left : P) (right : Q) (j : Joint P Q) : Type 0 where
    pub evens : (n : ℕ) → at (joint_wall p.wall q.wall (joint_state j)).sockets (2 * n) ≡ at (p.wall (p.state left)).sockets n
    pub odds : (n : ℕ) → at (joint_wall p.wall q.wall (joint_state j)).sockets (2 * n + 1) ≡ at (q.wall (q.state right)).sockets n

  pub joint_laws : LineLaws joint_state (joint_wall p.wall q.wall) (joint_reply p.reply q.reply) (joint_next p.next q.next) (joint_fits p.fits q.fits) (joint_pulls p.pulls q.pulls)
  joint_laws = joint_laws_of (λ (j : Joint P Q). j.left) (λ (j : Joint P Q). j.right) (λ (j : Joint P Q). j.tally.value) p.laws q.laws
