use Rattle.stations.proofs.Commands.{none-known}
use Rattle.stations.proofs.kind.Kind.known.Goals as goal

pub returns-in_default : goal.returns-in_default
returns-in_default c = none-known c.args.self c.args.byte c.in_default.ensures
