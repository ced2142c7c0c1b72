-- Whether an answer is one to a question: the first question that fails, in the fixed order.
use Rattle.std.specs.Prelude.{ℕ, ◌+◌, ◌*◌, Bool, true, cond, not, ◌&&◌, ◌||◌, length, Ok, Err, Result, ◌==◌, nat_le}
use Rattle.std.specs.Str.{bytes_eq}
use Rattle.serial.specs.Six.{no_zero, fitting}
use Rattle.telegram.specs.declared.fault.TelegramFault.{TelegramFault}
use Rattle.telegram.specs.declared.fault.AnswerFault.{AnswerFault}
use Rattle.telegram.specs.declared.fault.AnswerFault.TheVariants.{Broken, OtherCommand, OtherAddress, OtherSerial, Exception, Content}
use Rattle.telegram.specs.Forms.{answer_form}
use Rattle.telegram.specs.Layout.{Fields}
use Rattle.telegram.specs.Writes.{or_none}

abbrev pub is_address : ℕ → Bool
is_address a = nat_le 1 a && nat_le a 247

abbrev pub to_command : Fields → Fields → Bool
to_command q a = a.command == q.command || a.command == q.command + 0x80

-- after address 0 any station may answer
abbrev pub from_address : Fields → Fields → Bool
from_address q a = cond (q.address == 0) (is_address a.address) (a.address == q.address)

abbrev pub holds_serial : Fields → Bool
holds_serial a = (or_none (answer_form a.command a.code)).serial

abbrev pub from_serial : Fields → Fields → Bool
from_serial q a = cond (holds_serial a) (fitting q.serial a.serial && no_zero a.serial) true

abbrev pub is_read : ℕ → Bool
is_read c = c == 0x03 || (c == 0x04 || (c == 0x43 || c == 0x44))

-- a read holds twice the count, as byte count and in data; the others repeat what was asked
abbrev pub content_of : Fields → Fields → Bool
content_of q a =
    cond (is_read q.command) (a.size == 2 * q.value && length a.contents == 2 * q.value)
    (cond (q.command == 0x08) (a.subfunction == q.subfunction && bytes_eq a.contents q.contents)
    (a.register == q.register && a.value == q.value))

abbrev pub held_against : Fields → Fields → Result Fields AnswerFault
held_against q a =
    cond (not (to_command q a)) (Err OtherCommand)
    (cond (not (from_address q a)) (Err OtherAddress)
    (cond (not (from_serial q a)) (Err OtherSerial)
    (cond (not (a.command == q.command)) (Err (Exception a.code))
    (cond (not (content_of q a)) (Err Content) (Ok a)))))

-- the faults of the telegram come first
abbrev pub read_answer_to_result : Fields → Result Fields TelegramFault → Result Fields AnswerFault
read_answer_to_result q (Ok a) = held_against q a
read_answer_to_result q (Err e) = Err (Broken e)
