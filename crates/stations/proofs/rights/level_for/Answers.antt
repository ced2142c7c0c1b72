use Rattle.stations.specs.Rights.{level_needed}
use Rattle.stations.proofs.rights.level_for.Goals as goal

pub returns : goal.returns
unfolding level_needed
returns c = c.level_in.ensures
