-- What the structs of the code hold, as values.
use Rattle.telegram.specs.Parts.{fields}
use Rattle.stations.specs.declared.device.Device.{Device}
use Rattle.stations.specs.declared.calls.Call as code
use Rattle.stations.specs.declared.calls.Call.TheVariants.{Nothing, Unknown, Asked}
use Rattle.stations.specs.Device.{State}
use Rattle.stations.specs.Calls.{Call, nothing, unknown, asked}

abbrev pub state : Device → State
state d = record { serial = d.serial.value; address = d.address.value; stored = d.stored; defective = d.defective; level = d.level; page = d.page }

abbrev pub called : code.Call → Call
called Nothing = nothing
called (Unknown c) = unknown c
called (Asked q) = asked (fields q.telegram)
