-- The forms of telegrams: which fields stand between the command and the checksum.
use Rattle.std.specs.Prelude.{ℕ, ◌+◌, ◌-◌, Bool, true, false, cond, not, ◌&&◌, ◌||◌, Some, None, Option, ◌==◌, nat_le, nat_lt}
use Rattle.telegram.specs.declared.forms.Form.{Form}

-- register and value (or count)
abbrev pub registers : Bool → Form
registers serial = record { serial = serial; subfunction = false; register = true; value = true; size = false; code = false; «data» = false }

-- register, count, byte count and data
abbrev pub several : Bool → Form
several serial = record { serial = serial; subfunction = false; register = true; value = true; size = true; code = false; «data» = true }

-- byte count and data
abbrev pub contents : Bool → Form
contents serial = record { serial = serial; subfunction = false; register = false; value = false; size = true; code = false; «data» = true }

-- subfunction and data
abbrev pub diagnostics : Form
diagnostics = record { serial = false; subfunction = true; register = false; value = false; size = false; code = false; «data» = true }

abbrev pub exception : Bool → Form
exception serial = record { serial = serial; subfunction = false; register = false; value = false; size = false; code = true; «data» = false }

-- the commands that address by serial: 43, 44, 46, 50
abbrev pub by_serial : ℕ → Bool
by_serial c = c == 0x43 || (c == 0x44 || (c == 0x46 || c == 0x50))

abbrev pub question_form : ℕ → Option Form
question_form c =
    cond (c == 0x03 || (c == 0x04 || c == 0x06)) (Some (registers false))
    (cond (c == 0x08) (Some diagnostics)
    (cond (c == 0x10) (Some (several false))
    (cond (c == 0x43 || (c == 0x44 || c == 0x46)) (Some (registers true))
    (cond (c == 0x50) (Some (several true)) None))))

-- the answer to a command that was carried out
abbrev pub done_form : ℕ → Option Form
done_form c =
    cond (c == 0x03 || c == 0x04) (Some (contents false))
    (cond (c == 0x06 || c == 0x10) (Some (registers false))
    (cond (c == 0x08) (Some diagnostics)
    (cond (c == 0x43 || c == 0x44) (Some (contents true))
    (cond (c == 0x46 || c == 0x50) (Some (registers true)) None))))

-- whether an exception to a command holds the serial: of those by serial, unless its code is 01
abbrev pub exception_tells_serial : ℕ → ℕ → Bool
exception_tells_serial c code = by_serial c && not (code == 1)

abbrev pub exception_form : ℕ → ℕ → Option Form
exception_form c code =
    cond (c == 0x03 || (c == 0x04 || (c == 0x06 || (c == 0x08 || c == 0x10)))) (Some (exception false))
    (cond (by_serial c) (Some (exception (exception_tells_serial c code))) None)

-- an answer: of 80 and above an exception to the command less 80
abbrev pub answer_form : ℕ → ℕ → Option Form
answer_form c code = cond (nat_lt c 0x80) (done_form c) (exception_form (c - 0x80) code)

-- n bytes where the field is there
abbrev pub span : Bool → ℕ → ℕ
span has n = cond has n 0

-- how many bytes the fields before the data have
abbrev pub fixed : Form → ℕ
fixed F = span F.serial 6 + (span F.subfunction 2 + (span F.register 2 + (span F.value 2 + (span F.size 1 + span F.code 1))))

-- whether a body of n bytes has the form: a subfunction is followed by one byte at least
abbrev pub fits : Form → ℕ → Bool
fits F n = cond F.«data» (nat_le (fixed F + span F.subfunction 1) n) (n == fixed F)
