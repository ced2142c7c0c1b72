use Rattle.std.proofs.Common.{◌≡◌, ◌≤◌, length, rules}
use Rattle.wall.specs.Lines.{outcome_of}
use Rattle.lines.specs.Joints.{joint_state}
use Rattle.lines.proofs.Blending.{both_buffer}
use Rattle.lines.proofs.joint.JointLine.ask.Goals as goal

pub returns-clause-bytes : goal.returns-clause-bytes
returns-clause-bytes g c =
    let p = g.P.Line in
    let q = g.Q.Line in
    let j = joint_state p q c.args.self.now in
    let t = c.args.telegram.now in
    let b = c.args.buffer.now in
    let f = c.in_ok-front.front.now in
    let h : 23 ≤ length b = search rules in
    let k : length f ≡ 23 = search rules in
    let heard : c.in_ok-first.first ≡ outcome_of (p.reply j.left t) = search rules in
    both_buffer (p.reply j.left t) b f h k (q.reply j.right t) c.in_ok-first.first c.ask.new.buffer c.ask_beside.new.front heard c.ask.ensures.bytes c.ask_beside.ensures.bytes
