use Rattle.std.proofs.Common.{◌≡◌, ltb, ◌∙◌, sym, rules}
use Rattle.serial.proofs.Serials.{serial-before}
use Rattle.serial.proofs.Serial.precedes.Goals as goal

pub returns-clause-bytes : goal.returns-clause-bytes
returns-clause-bytes c =
    let number : c.lt.result ≡ ltb c.args.self.value c.args.other.value = search rules in
    number ∙ sym (serial-before c.args.self c.args.other)
