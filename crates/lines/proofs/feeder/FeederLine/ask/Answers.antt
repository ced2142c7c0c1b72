use Rattle.std.proofs.Common.{◌≡◌, ◌≤◌, length, rules}
use Rattle.lines.proofs.Blending.{whole_buffer}
use Rattle.lines.proofs.feeder.FeederLine.ask.Goals as goal

pub returns-then-self-clause-bytes : goal.returns-then-self-clause-bytes
returns-then-self-clause-bytes g c =
    let l = g.L.Line in
    let b = c.args.buffer.now in
    let f = c.in_ok-front.front.now in
    let h : 23 ≤ length b = search rules in
    let k : length f ≡ 23 = search rules in
    rw c.if-self.true (whole_buffer (l.reply (l.state c.args.self.now.line) c.args.telegram.now) b f h k c.ask.new.buffer c.ask.ensures.bytes)
