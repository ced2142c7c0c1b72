-- What reading a telegram gives: the first refusal in the fixed order, or its fields.
use Rattle.std.specs.Prelude.{ℕ, ◌-◌, cond, List, length, Some, None, Ok, Err, Option, Result, slice_index}
use Rattle.telegram.specs.declared.fault.TelegramFault.{TelegramFault}
use Rattle.telegram.specs.declared.fault.TelegramFault.TheVariants.{Length, Checksum, Command, FormLength}
use Rattle.telegram.specs.declared.forms.Form.{Form}
use Rattle.telegram.specs.Forms.{question_form, answer_form, fits}
use Rattle.telegram.specs.Layout.{Fields, body_of, in_size, has_seal, decode}

-- a telegram whose length and checksum are right
pub record Opened : Type 0 where
  pub address : ℕ
  pub command : ℕ
  pub body : List ℕ

abbrev pub inside : List ℕ → Opened
inside bytes = record { address = slice_index bytes 0; command = slice_index bytes 1; body = body_of bytes }

abbrev pub opening : List ℕ → Result Opened TelegramFault
opening bytes = cond (in_size bytes) (cond (has_seal bytes) (Ok (inside bytes)) (Err Checksum)) (Err Length)

abbrev pub and_then : {X Y E : Type 0} → Result X E → (X → Result Y E) → Result Y E
and_then (Ok x) k = k x
and_then (Err e) k = Err e

-- with the form of its command, if there is one
abbrev pub read_as_result : Option Form → Opened → Result Fields TelegramFault
read_as_result None o = Err Command
read_as_result (Some F) o = cond (fits F (length o.body)) (Ok (decode F o.address o.command o.body)) (Err FormLength)

abbrev pub as_question : Opened → Result Fields TelegramFault
as_question o = read_as_result (question_form o.command) o

-- the code of an exception is the last byte before the checksum
abbrev pub as_answer : Opened → Result Fields TelegramFault
as_answer o = read_as_result (answer_form o.command (slice_index o.body (length o.body - 1))) o

abbrev pub read_question_result : List ℕ → Result Fields TelegramFault
read_question_result bytes = and_then (opening bytes) as_question

abbrev pub read_answer_result : List ℕ → Result Fields TelegramFault
read_answer_result bytes = and_then (opening bytes) as_answer
