use Rattle.lines.specs.LawsOfJoints.{at_twice, at_twice_more}
use Rattle.lines.proofs.joint.Joint.new.Goals as goal

pub returns-clause-numbers : goal.returns-clause-numbers
returns-clause-numbers g c =
    let left = (g.P.Line.wall (g.P.Line.state c.args.left)).sockets in
    let right = (g.Q.Line.wall (g.Q.Line.state c.args.right)).sockets in
    record { evens = at_twice left right; odds = at_twice_more left right }
