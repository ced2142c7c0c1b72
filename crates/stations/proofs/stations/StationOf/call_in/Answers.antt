use Rattle.std.proofs.Common.{◌≡◌, sym, ap, ◌∙◌}
use Rattle.telegram.specs.Commands.{byte_of}
use Rattle.telegram.specs.Parts.{fields, opened}
use Rattle.stations.specs.Kinds.{action}
use Rattle.stations.proofs.Commands.{asked-command}
use Rattle.stations.proofs.stations.StationOf.call_in.Goals as goal

pub invariant_of-q : goal.invariant_of-q
invariant_of-q g c =
    let same : c.in-Ok.telegram.command ≡ byte_of c.in-Some.command = asked-command (opened c.args.envelope.now) (fields c.in-Ok.telegram) (sym c.in-Ok.ensures) ∙ sym c.in-Some.ensures.0 in
    record { known = same; asks = c.from.ensures ∙ ap action (sym same) }
