use Rattle.std.proofs.Common.{◌/◌}
use Rattle.wall.specs.Lines.{pull_fault}
use Rattle.lines.specs.Joint.{even, with_left, with_right}
use Rattle.lines.specs.Joints.{joint_state}
use Rattle.lines.specs.LawsOfJoints.{at_left, at_right}
use Rattle.lines.proofs.Refusals.{whole_after}
use Rattle.lines.proofs.Sides.{is_left, is_right}
use Rattle.lines.proofs.joint.JointLine.pull.Goals as goal

pub returns-in-Left : goal.returns-in-Left
returns-in-Left g c =
    let p = g.P.Line in
    let q = g.Q.Line in
    let j = joint_state p q c.args.self.now in
    let n = c.args.socket in
    let s = is_left (even n) c.in-Left.n (n / 2) c.in-Left.ensures in
    let at = at_left (p.wall j.left).sockets (q.wall j.right).sockets n s.0 in
    record {
      value = rw (at, ← s.1) c.pull.ensures.value;
      after = rw (at, s.0, ← s.1) (whole_after (with_left j) (pull_fault (p.wall j.left) c.in-Left.n) _ _ c.pull.ensures.after);
    }

pub returns-in-Right : goal.returns-in-Right
returns-in-Right g c =
    let p = g.P.Line in
    let q = g.Q.Line in
    let j = joint_state p q c.args.self.now in
    let n = c.args.socket in
    let s = is_right (even n) c.in-Right.n (n / 2) c.in-Right.ensures in
    let at = at_right (p.wall j.left).sockets (q.wall j.right).sockets n s.0 in
    record {
      value = rw (at, ← s.1) c.pull-in-Right.ensures.value;
      after = rw (at, s.0, ← s.1) (whole_after (with_right j) (pull_fault (q.wall j.right) c.in-Right.n) _ _ c.pull-in-Right.ensures.after);
    }
