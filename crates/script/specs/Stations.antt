-- The station alone on the bench, and what telling the bench gives.
use Rattle.std.specs.Prelude.{ℕ, List, cond, length, Some, None, Ok, Err, Option, Result}
use Rattle.std.specs.Option.{option_map}
use Rattle.wall.specs.Tells.{is_short, told_buffer, told_state}
use Rattle.stations.specs.declared.kind.Kind.{Kind}
use Rattle.stations.specs.declared.kind.Kind.TheVariants as kind
use Rattle.stations.specs.Device.{State}
use Rattle.stations.specs.Calls.{says, becomes}
use Rattle.stations.specs.Shows.{shown_state}
use Rattle.script.specs.declared.bench.Alone.{Alone}
use Rattle.script.specs.declared.bench.Alone.TheVariants.{Fan, OlderFan, Controller}
use Rattle.script.specs.declared.bench.Bench.{Bench}
use Rattle.script.specs.declared.bench.Untold.{Untold}
use Rattle.script.specs.declared.bench.Untold.TheVariants.{NoStation, Short}

abbrev pub kind_of : Alone → Kind
kind_of (Fan fan) = kind.Fan
kind_of (OlderFan fan) = kind.OlderFan
kind_of (Controller controller) = kind.Controller

abbrev pub state_of : Alone → State
state_of (Fan fan) = shown_state fan
state_of (OlderFan fan) = shown_state fan
state_of (Controller controller) = shown_state controller

-- the kind and the state of the station on the bench
abbrev pub on_bench : Bench → Option (Kind × State)
on_bench bench = option_map (λ s. (kind_of s, state_of s)) bench.station

abbrev pub bench_result : Option (Kind × State) → List ℕ → List ℕ → Result (Option ℕ) Untold
bench_result None telegram buffer = Err NoStation
bench_result (Some s) telegram buffer = cond (is_short buffer) (Err (Short (record {}))) (Ok (option_map length (says s.0 s.1 telegram)))

abbrev pub bench_buffer : Option (Kind × State) → List ℕ → List ℕ → List ℕ
bench_buffer None telegram buffer = buffer
bench_buffer (Some s) telegram buffer = told_buffer (says s.0 s.1 telegram) buffer

abbrev pub bench_after : Option (Kind × State) → List ℕ → List ℕ → Option (Kind × State)
bench_after station telegram buffer = option_map (λ s. (s.0, told_state buffer s.1 (becomes s.0 s.1 telegram))) station
