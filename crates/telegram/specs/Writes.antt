-- What writing a telegram gives: the first refusal in the fixed order, or the length; and what the buffer holds then.
use Rattle.std.specs.Prelude.{ℕ, ◌+◌, false, cond, List, [], ◌∷◌, ◌++◌, length, drop, Some, None, Ok, Err, Option, Result, nat_le, nat_lt}
use Rattle.telegram.specs.declared.fault.TelegramFault.{TelegramFault}
use Rattle.telegram.specs.declared.fault.TelegramFault.TheVariants.{Length, Command, FormLength, Buffer}
use Rattle.telegram.specs.declared.forms.Form.{Form}
use Rattle.telegram.specs.Forms.{question_form, answer_form, exception_tells_serial, span, fixed, fits}
use Rattle.telegram.specs.Layout.{Fields, part, sealed, encode}

-- a command that is not known has no fields between it and the checksum
abbrev pub no_fields : Form
no_fields = record { serial = false; subfunction = false; register = false; value = false; size = false; code = false; «data» = false }

abbrev pub or_none : Option Form → Form
or_none None = no_fields
or_none (Some F) = F

-- the telegram that the fields make, as a question and as an answer
abbrev pub question : Fields → List ℕ
question f = encode (or_none (question_form f.command)) f

abbrev pub answer : Fields → List ℕ
answer f = encode (or_none (answer_form f.command f.code)) f

-- how long the body is
abbrev pub extent : Form → Fields → ℕ
extent F f = fixed F + span F.«data» (length f.contents)

abbrev pub write_as_result : Option Form → Fields → ℕ → Result ℕ TelegramFault
write_as_result None f room = Err Command
write_as_result (Some F) f room =
    cond (nat_le (4 + extent F f) 23)
    (cond (fits F (extent F f))
    (cond (nat_le 23 room) (Ok (4 + extent F f)) (Err Buffer))
    (Err FormLength))
    (Err Length)

abbrev pub write_question_result : Fields → ℕ → Result ℕ TelegramFault
write_question_result f room = write_as_result (question_form f.command) f room

abbrev pub write_answer_result : Fields → ℕ → Result ℕ TelegramFault
write_answer_result f room = write_as_result (answer_form f.command f.code) f room

-- the buffer after it: the telegram in front of what was there, or as it was
abbrev pub filled : Result ℕ TelegramFault → List ℕ → List ℕ → List ℕ
filled (Ok n) telegram buffer = telegram ++ drop n buffer
filled (Err e) telegram buffer = buffer

-- an exception adds 80 to a command below 80 and keeps a higher one
abbrev pub raised : ℕ → ℕ
raised c = cond (nat_lt c 0x80) (c + 0x80) c

-- the exception to any command, known or not
abbrev pub exception_to : ℕ → ℕ → List ℕ → ℕ → List ℕ
exception_to address c serial code = sealed (address ∷ raised c ∷ (part (exception_tells_serial c code) serial ++ code ∷ []))

abbrev pub exception_length : ℕ → ℕ → ℕ
exception_length c code = cond (exception_tells_serial c code) 11 5

abbrev pub write_exception_result : ℕ → ℕ → ℕ → Result ℕ TelegramFault
write_exception_result c code room = cond (nat_le 23 room) (Ok (exception_length c code)) (Err Buffer)
