use Rattle.std.proofs.Common.{sym}
use Rattle.telegram.specs.Parts.{fields}
use Rattle.stations.specs.Parts.{state}
use Rattle.stations.specs.Sizes.{asked-question}
use Rattle.stations.proofs.stations.StationOf.answer.Goals as goal

pub obey-requires : goal.obey-requires
obey-requires g c = asked-question g.K.FixedKind.KIND (state c.args.self.now.device) c.args.telegram.now (fields c.in-Asked.q.telegram) (sym c.in-Asked.ensures)
