-- What a station answers to any list of bytes, and what it becomes.
use Rattle.std.specs.Prelude.{ℕ, ◌+◌, ◌*◌, Bool, true, false, cond, not, ◌&&◌, ◌||◌, List, [], length, Some, None, Ok, Err, Option, Result, ◌==◌, nat_le}
use Rattle.serial.specs.Six.{six, no_zero, fitting}
use Rattle.telegram.specs.declared.fault.TelegramFault.{TelegramFault}
use Rattle.telegram.specs.Forms.{by_serial}
use Rattle.telegram.specs.Layout.{Fields, word}
use Rattle.telegram.specs.Reads.{Opened, opening, as_question}
use Rattle.telegram.specs.Writes.{answer, exception_to}
use Rattle.wall.specs.declared.card.Card.{Card}
use Rattle.stations.specs.declared.kind.Kind.{Kind}
use Rattle.stations.specs.declared.kind.Action.{Action}
use Rattle.stations.specs.declared.kind.Action.TheVariants.{Echo, ReadHolding, ReadInput, WriteOne, WriteSeveral}
use Rattle.stations.specs.declared.range.Registers.{Registers}
use Rattle.stations.specs.declared.kind.Refusal.{Refusal}
use Rattle.stations.specs.declared.kind.Refusal.TheVariants.{Function, Register, Count, Write}
use Rattle.stations.specs.Kinds.{speaks, longest, knows, most_read, action, range_of, code_of}
use Rattle.stations.specs.Device.{State, register_at, read_out, all_allowed, all_written}

abbrev pub card : Kind → State → Card
card K x = record { serial = cond (speaks K) (Some x.serial) None; address = x.address; stored = x.stored; defective = x.defective }

-- what a telegram is to a station: nothing, a command that it does not know, or a question for it
pub data Call : Type 0 where
  nothing : Call
  unknown : ℕ → Call
  asked : Fields → Call

-- a question by serial is for a fan whose serial the mask fits, also at address 0; for an older fan only at its own
-- address and with exactly its serial, which is a mask without a zero that fits
abbrev pub meant : Kind → State → Fields → Bool
meant K x q = cond (by_serial q.command) (cond (speaks K) (fitting q.serial (six x.serial)) (not (q.address == 0) && (no_zero q.serial && fitting q.serial (six x.serial)))) true

abbrev pub if_meant : Kind → State → Result Fields TelegramFault → Call
if_meant K x (Ok q) = cond (meant K x q) (asked q) nothing
if_meant K x (Err e) = nothing

abbrev pub call_in : Kind → State → Opened → Call
call_in K x o = cond (knows K o.command) (if_meant K x (as_question o)) (cond (o.address == 0) nothing (unknown o.command))

-- only telegrams of good length and checksum to address 0 or its own
abbrev pub if_opened : Kind → State → ℕ → Result Opened TelegramFault → Call
if_opened K x n (Ok o) = cond (nat_le n (longest K) && (o.address == 0 || o.address == x.address)) (call_in K x o) nothing
if_opened K x n (Err e) = nothing

abbrev pub call : Kind → State → List ℕ → Call
call K x t = if_opened K x (length t) (opening t)

-- how many registers are named
abbrev pub named : Action → Fields → ℕ
named Echo q = 0
named ReadHolding q = q.value
named ReadInput q = q.value
named WriteOne q = 1
named WriteSeveral q = q.value

-- the bytes to be written
abbrev pub payload : Action → Fields → List ℕ
payload Echo q = []
payload ReadHolding q = []
payload ReadInput q = []
payload WriteOne q = word q.value
payload WriteSeveral q = q.contents

abbrev pub count_right : Kind → Action → Fields → Bool
count_right K Echo q = true
count_right K ReadHolding q = nat_le 1 q.value && nat_le q.value (most_read K q.command)
count_right K ReadInput q = nat_le 1 q.value && nat_le q.value (most_read K q.command)
count_right K WriteOne q = true
count_right K WriteSeveral q = nat_le 1 q.value && (q.size == 2 * q.value && length q.contents == 2 * q.value)

-- the first and the last of n registers from the one at r on lie in the range
abbrev pub in_range : Option Registers → ℕ → ℕ → Bool
in_range None r n = false
in_range (Some range) r n = nat_le range.first r && nat_le (r + n) (range.last + 1)

abbrev pub may_do : State → Action → Fields → Bool
may_do x Echo q = true
may_do x ReadHolding q = true
may_do x ReadInput q = true
may_do x WriteOne q = all_allowed x q.register 1
may_do x WriteSeveral q = all_allowed x q.register q.value

-- why it is not carried out: first the count, then the registers, then the right
abbrev pub refused_by : Kind → State → Action → Fields → Option Refusal
refused_by K x a q =
    cond (not (count_right K a q)) (Some Count)
    (cond (not (in_range (range_of K a) q.register (named a q))) (Some Register)
    (cond (not (may_do x a q)) (Some Write) None))

abbrev pub refusal : Kind → State → Action → Fields → Option Refusal
refusal K x Echo q = cond (q.subfunction == 0) None (Some Function)
refusal K x ReadHolding q = refused_by K x ReadHolding q
refusal K x ReadInput q = refused_by K x ReadInput q
refusal K x WriteOne q = refused_by K x WriteOne q
refusal K x WriteSeveral q = refused_by K x WriteSeveral q

-- the data of an answer: what was read, or the question's data again
abbrev pub told : Kind → State → Action → Fields → List ℕ
told K x Echo q = q.contents
told K x ReadHolding q = read_out (register_at K x ReadHolding) q.register q.value
told K x ReadInput q = read_out (register_at K x ReadInput) q.register q.value
told K x WriteOne q = []
told K x WriteSeveral q = []

-- the answer to a question: what was asked again, with data of its own
abbrev pub answer_to : State → Fields → List ℕ → Fields
answer_to x q bytes = record { address = x.address; command = q.command; serial = six x.serial; subfunction = q.subfunction; register = q.register; value = q.value; size = length bytes; code = 0; contents = bytes }

-- the answer to a question that was carried out, from the state after it
abbrev pub done : Kind → State → Fields → Fields
done K x q = answer_to x q (told K x (action q.command) q)

abbrev pub after : State → Fields → Option Refusal → State
after x q (Some f) = x
after x q None = all_written x q.register (payload (action q.command) q)

abbrev pub carried : Kind → State → Fields → State
carried K x q = after x q (refusal K x (action q.command) q)

abbrev pub exception : State → ℕ → Refusal → List ℕ
exception x c f = exception_to x.address c (six x.serial) (code_of f)

abbrev pub reply_of : Kind → State → Fields → Option Refusal → List ℕ
reply_of K x q (Some f) = exception x q.command f
reply_of K x q None = answer (done K (after x q None) q)

-- plain commands to address 0 are not answered
abbrev pub reply : Kind → State → Fields → Option (List ℕ)
reply K x q = cond (q.address == 0 && not (by_serial q.command)) None (Some (reply_of K x q (refusal K x (action q.command) q)))

abbrev pub says_to : Kind → State → Call → Option (List ℕ)
says_to K x nothing = None
says_to K x (unknown c) = Some (exception x c Function)
says_to K x (asked q) = reply K x q

abbrev pub becomes_by : Kind → State → Call → State
becomes_by K x nothing = x
becomes_by K x (unknown c) = x
becomes_by K x (asked q) = carried K x q

abbrev pub says : Kind → State → List ℕ → Option (List ℕ)
says K x t = says_to K x (call K x t)

abbrev pub becomes : Kind → State → List ℕ → State
becomes K x t = becomes_by K x (call K x t)
