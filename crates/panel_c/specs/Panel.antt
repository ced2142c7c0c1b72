-- What a caller in C finds after each call, of success and of each refusal.
use Rattle.std.specs.Prelude.{ℕ, ◌-◌, cond, List, ◌++◌, length, take, drop, Ok, Err, Result, ◌==◌}
use Rattle.telegram.specs.declared.fault.TelegramFault.{TelegramFault}
use Rattle.telegram.specs.Layout.{Fields}
use Rattle.telegram.specs.Numbers.{telegram_number}
use Rattle.telegram.specs.Reads.{read_question_result}
use Rattle.telegram.specs.Writes.{question, write_question_result}
use Rattle.panel_c.specs.declared.fields.PanelFields.{PanelFields}

-- the struct with the data beside it
abbrev pub fields_with : PanelFields → List ℕ → Fields
fields_with p bytes = record {
  address = p.address;
  command = p.command;
  serial = p.serial;
  subfunction = p.subfunction;
  register = p.register;
  value = p.value;
  size = p.size;
  code = p.code;
  contents = bytes;
}

-- the data that the struct points to in the caller's bytes
abbrev pub data_of : PanelFields → List ℕ → List ℕ
data_of p bytes = take p.data_len (drop p.data_at bytes)

-- the data is the last part before the two bytes of the checksum; of none the place is 0
abbrev pub data_place : ℕ → ℕ → ℕ
data_place n len = cond (len == 0) 0 (n - 2 - len)

-- the fields of a telegram of n bytes as the struct has them
abbrev pub located : ℕ → Fields → PanelFields
located n f = record {
  address = f.address;
  command = f.command;
  serial = f.serial;
  subfunction = f.subfunction;
  register = f.register;
  value = f.value;
  size = f.size;
  code = f.code;
  data_at = data_place n (length f.contents);
  data_len = length f.contents;
}

-- after a reading: the result and the struct

pub record Reading : Type 0 where
  pub number : ℕ
  pub panel : PanelFields

abbrev pub reading : Result Fields TelegramFault → ℕ → PanelFields → Reading
reading (Ok f) n before = record { number = 0; panel = located n f }
reading (Err e) n before = record { number = telegram_number e; panel = before }

abbrev pub question_read : List ℕ → PanelFields → Reading
question_read bytes before = reading (read_question_result bytes) (length bytes) before

-- after a writing: the result, the buffer and the count of bytes written

pub record Writing : Type 0 where
  pub number : ℕ
  pub bytes : List ℕ
  pub count : ℕ

abbrev pub writing : Result ℕ TelegramFault → List ℕ → List ℕ → ℕ → Writing
writing (Ok n) telegram buffer before = record { number = 0; bytes = telegram ++ drop n buffer; count = n }
writing (Err e) telegram buffer before = record { number = telegram_number e; bytes = buffer; count = before }

abbrev pub question_written : Fields → List ℕ → ℕ → Writing
question_written f buffer before = writing (write_question_result f (length buffer)) (question f) buffer before
