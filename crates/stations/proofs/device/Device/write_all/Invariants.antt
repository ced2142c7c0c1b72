use Rattle.std.proofs.Common.{◌≡◌, length}
use Rattle.std.specs.Slice.Iter.{iter_rest}
use Rattle.std.specs.Range.{range_inclusive_end}
use Rattle.stations.specs.Parts.{state}
use Rattle.stations.specs.Device.{all_written}
use Rattle.stations.proofs.Turns.{words_written, place}
use Rattle.stations.proofs.device.Device.write_all.Given as goal

abbrev pub invariant-loop-register : goal.invariant-loop-register
invariant-loop-register l =
    (words_written (state l.self) (place l.register-iterator.a) (iter_rest l.register-iterator.b) ≡ all_written (state l.initial.self) l.first l.bytes)
    × (range_inclusive_end l.register-iterator.a ≡ 65535)
    × (length (state l.self).page ≡ 331)
