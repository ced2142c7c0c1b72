-- What a station of a kind shows of its state, and that it keeps the laws of a station.
use Rattle.std.specs.Prelude.{true, false}
use Rattle.wall.specs.Laws.{StationLaws}
use Rattle.stations.specs.declared.stations.StationOf.{StationOf}
use Rattle.stations.specs.declared.kind.FanKind.{FanKind}
use Rattle.stations.specs.declared.kind.OlderFanKind.{OlderFanKind}
use Rattle.stations.specs.declared.kind.ControllerKind.{ControllerKind}
use Rattle.stations.specs.declared.kind.Kind.{Kind}
use Rattle.stations.specs.declared.kind.Kind.TheVariants as kind
use Rattle.stations.specs.Kinds.{speaks}
use Rattle.stations.specs.Calls.{card, says, becomes}
use Rattle.stations.specs.Device.{State, fresh}
use Rattle.stations.specs.Laws.{device_laws, device_good}
use Rattle.stations.specs.Parts.{state}

abbrev pub shown_state : {T : Type 0} → StationOf T → State
shown_state s = state s.device

pub shown_laws : {T : Type 0} (K : Kind) → StationLaws (shown_state {T = T}) (speaks K) (card K) (says K) (becomes K) fresh
shown_laws {T = T} K = device_laws K (shown_state {T = T}) (λ s. device_good K s.device)

-- each kind

pub fan_laws : StationLaws (shown_state {T = FanKind}) true (card kind.Fan) (says kind.Fan) (becomes kind.Fan) fresh
fan_laws = shown_laws kind.Fan

pub older_laws : StationLaws (shown_state {T = OlderFanKind}) false (card kind.OlderFan) (says kind.OlderFan) (becomes kind.OlderFan) fresh
older_laws = shown_laws kind.OlderFan

pub controller_laws : StationLaws (shown_state {T = ControllerKind}) false (card kind.Controller) (says kind.Controller) (becomes kind.Controller) fresh
controller_laws = shown_laws kind.Controller
