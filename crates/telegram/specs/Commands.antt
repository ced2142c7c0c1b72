-- The commands that are known, and their bytes.
use Rattle.std.specs.Prelude.{◌≡◌, ◌≢◌, ℕ, Result, MatchResult}
use Rattle.telegram.specs.declared.command.Command.{Command}
use Rattle.telegram.specs.declared.command.Command.TheVariants.{ReadHolding, ReadInput, WriteOne, Diagnostics, WriteSeveral, ReadHoldingBySerial, ReadInputBySerial, WriteOneBySerial, WriteSeveralBySerial}
use Rattle.telegram.specs.declared.command.UnknownCommand.{UnknownCommand}

abbrev pub byte_of : Command → ℕ
byte_of ReadHolding = 0x03
byte_of ReadInput = 0x04
byte_of WriteOne = 0x06
byte_of Diagnostics = 0x08
byte_of WriteSeveral = 0x10
byte_of ReadHoldingBySerial = 0x43
byte_of ReadInputBySerial = 0x44
byte_of WriteOneBySerial = 0x46
byte_of WriteSeveralBySerial = 0x50

-- the command with this byte; it is unknown only where no command has it
abbrev pub Decodes : ℕ → Result Command UnknownCommand → Type 0
Decodes byte r = MatchResult r (λ c. byte_of c ≡ byte) (λ _. (c : Command) → byte_of c ≢ byte)
