use Rattle.std.proofs.Common.{◌/◌}
use Rattle.lines.specs.Joint.{even}
use Rattle.lines.specs.Joints.{joint_state}
use Rattle.lines.specs.LawsOfJoints.{at_left, at_right}
use Rattle.lines.proofs.Sides.{is_left, is_right}
use Rattle.lines.proofs.joint.JointLine.socket.Goals as goal

pub returns-in-Left : goal.returns-in-Left
returns-in-Left g c =
    let p = g.P.Line in
    let q = g.Q.Line in
    let j = joint_state p q c.args.self.now in
    let n = c.args.n in
    let s = is_left (even n) c.in-Left.n (n / 2) c.in-Left.ensures in
    rw (at_left (p.wall j.left).sockets (q.wall j.right).sockets n s.0, ← s.1) c.socket.ensures

pub returns-in-Right : goal.returns-in-Right
returns-in-Right g c =
    let p = g.P.Line in
    let q = g.Q.Line in
    let j = joint_state p q c.args.self.now in
    let n = c.args.n in
    let s = is_right (even n) c.in-Right.n (n / 2) c.in-Right.ensures in
    rw (at_right (p.wall j.left).sockets (q.wall j.right).sockets n s.0, ← s.1) c.socket-in-Right.ensures
