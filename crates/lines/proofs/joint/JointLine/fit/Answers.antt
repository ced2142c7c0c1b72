use Rattle.std.proofs.Common.{◌/◌}
use Rattle.serial.specs.Six.{number}
use Rattle.wall.specs.Lines.{fit_fault}
use Rattle.lines.specs.Joint.{even, with_left, with_right}
use Rattle.lines.specs.Joints.{joint_state}
use Rattle.lines.specs.LawsOfJoints.{at_left, at_right}
use Rattle.lines.proofs.Refusals.{whole_after}
use Rattle.lines.proofs.Sides.{is_left, is_right}
use Rattle.lines.proofs.joint.JointLine.fit.Goals as goal

pub returns-in-Left : goal.returns-in-Left
returns-in-Left g c =
    let p = g.P.Line in
    let q = g.Q.Line in
    let j = joint_state p q c.args.self.now in
    let n = c.args.socket in
    let who = c.args.newcomer in
    let k = c.in-Left.n in
    let s = is_left (even n) k (n / 2) c.in-Left.ensures in
    let at = at_left (p.wall j.left).sockets (q.wall j.right).sockets n s.0 in
    record {
      value = rw (at, ← s.1) c.fit.ensures.value;
      after = rw (at, s.0, ← s.1) (whole_after (with_left j) (fit_fault (p.wall j.left) k who.serial who.address) j.left (p.fits j.left k (number who.serial) who.address who.defective) c.fit.ensures.after);
    }

pub returns-in-Right : goal.returns-in-Right
returns-in-Right g c =
    let p = g.P.Line in
    let q = g.Q.Line in
    let j = joint_state p q c.args.self.now in
    let n = c.args.socket in
    let who = c.args.newcomer in
    let k = c.in-Right.n in
    let s = is_right (even n) k (n / 2) c.in-Right.ensures in
    let at = at_right (p.wall j.left).sockets (q.wall j.right).sockets n s.0 in
    record {
      value = rw (at, ← s.1) c.fit-in-Right.ensures.value;
      after = rw (at, s.0, ← s.1) (whole_after (with_right j) (fit_fault (q.wall j.right) k who.serial who.address) j.right (q.fits j.right k (number who.serial) who.address who.defective) c.fit-in-Right.ensures.after);
    }
