use Rattle.std.proofs.Common.{◌≡◌, MatchOption, false, rules}
use Rattle.serial.specs.Six.{six, no_zero}
use Rattle.serial.proofs.Bytes.{six-number}
use Rattle.serial.proofs.Serials.{serial-made, serial-back}
use Rattle.serial.proofs.Serial.from_bytes.Goals as goal

pub returns : goal.returns
returns c =
    let bs = c.args.bytes in
    let v = c.from_be_bytes.result in
    let same : six v ≡ bs = six-number v bs (search rules) (search rules) (search rules) (search rules) (search rules) (search rules) (search rules) (search rules) in
    let made : MatchOption c.new.result (no_zero bs ≡ false) (λ s. six s.value ≡ bs) = serial-made _ v bs (search rules) same c.new.ensures in
    record { made = made; value = search rules; back = serial-back _ bs made }
