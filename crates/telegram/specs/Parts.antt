-- What the structs of the code hold, as values.
use Rattle.std.specs.Prelude.{Ok, Err, Result}
use Rattle.telegram.specs.declared.message.Telegram.{Telegram}
use Rattle.telegram.specs.declared.envelope.Envelope.{Envelope}
use Rattle.telegram.specs.Layout.{Fields}
use Rattle.telegram.specs.Reads.{Opened}

abbrev pub fields : Telegram → Fields
fields q = record {
  address = q.address;
  command = q.command;
  serial = q.serial;
  subfunction = q.subfunction;
  register = q.register;
  value = q.value;
  size = q.size;
  code = q.code;
  contents = q.«data».now;
}

abbrev pub opened : Envelope → Opened
opened e = record { address = e.address; command = e.command; body = e.body.now }

-- a result with what it holds, as values
abbrev pub shown : {X Y E : Type 0} → (X → Y) → Result X E → Result Y E
shown f (Ok x) = Ok (f x)
shown f (Err e) = Err e
