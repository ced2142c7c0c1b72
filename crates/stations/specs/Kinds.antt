-- What tells the kinds of station apart.
use Rattle.std.specs.Prelude.{ℕ, Bool, true, false, cond, ◌||◌, is_some, Some, None, Option, ◌==◌}
use Rattle.telegram.specs.Forms.{by_serial, question_form}
use Rattle.stations.specs.declared.kind.Kind.{Kind}
use Rattle.stations.specs.declared.kind.Kind.TheVariants.{Fan, OlderFan, Controller}
use Rattle.stations.specs.declared.kind.Action.{Action}
use Rattle.stations.specs.declared.kind.Action.TheVariants.{Echo, ReadHolding, ReadInput, WriteOne, WriteSeveral}
use Rattle.stations.specs.declared.range.Registers.{Registers}
use Rattle.stations.specs.Spans.{span}
use Rattle.stations.specs.declared.kind.Refusal.{Refusal}
use Rattle.stations.specs.declared.kind.Refusal.TheVariants.{Function, Register, Count, Write}

-- only the socket of a V5.00 fan speaks serials
abbrev pub speaks : Kind → Bool
speaks Fan = true
speaks OlderFan = false
speaks Controller = false

abbrev pub longest : Kind → ℕ
longest Fan = 23
longest OlderFan = 17
longest Controller = 17

-- a fan knows every command of the table, an older fan not 43, 44 and 50, a controller only 03, 04, 06 and 10
abbrev pub knows : Kind → ℕ → Bool
knows Fan c = is_some (question_form c)
knows OlderFan c = c == 0x03 || (c == 0x04 || (c == 0x06 || (c == 0x08 || (c == 0x10 || c == 0x46))))
knows Controller c = c == 0x03 || (c == 0x04 || (c == 0x06 || c == 0x10))

-- the most registers that one question may read
abbrev pub most_read : Kind → ℕ → ℕ
most_read Fan c = cond (by_serial c) 6 9
most_read OlderFan c = 6
most_read Controller c = 6

-- what a command asks for, by serial or not
abbrev pub action : ℕ → Action
action c =
    cond (c == 0x03 || c == 0x43) ReadHolding
    (cond (c == 0x04 || c == 0x44) ReadInput
    (cond (c == 0x06 || c == 0x46) WriteOne
    (cond (c == 0x10 || c == 0x50) WriteSeveral Echo)))

-- the registers that there are; a controller has no holding registers
abbrev pub holding : Kind → Option Registers
holding Fan = Some (span 0xD000 0xD37F)
holding OlderFan = Some (span 0xD000 0xD37F)
holding Controller = None

abbrev pub input : Kind → Option Registers
input Fan = Some (span 0xD000 0xD024)
input OlderFan = Some (span 0xD000 0xD01F)
input Controller = Some (span 100 131)

abbrev pub range_of : Kind → Action → Option Registers
range_of K Echo = holding K
range_of K ReadHolding = holding K
range_of K ReadInput = input K
range_of K WriteOne = holding K
range_of K WriteSeveral = holding K

-- the code of the exception
abbrev pub code_of : Refusal → ℕ
code_of Function = 1
code_of Register = 2
code_of Count = 3
code_of Write = 4
