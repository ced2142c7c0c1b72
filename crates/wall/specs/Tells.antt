-- What putting a telegram to a station gives, and what it leaves in the buffer.
use Rattle.std.specs.Prelude.{ℕ, Bool, cond, List, ◌++◌, length, drop, Some, None, Ok, Err, Option, Result, nat_lt}
use Rattle.std.specs.Option.{option_map}
use Rattle.serial.specs.declared.Serial.{Serial}
use Rattle.wall.specs.declared.card.ShortBuffer.{ShortBuffer}

abbrev pub number_of : Serial → ℕ
number_of s = s.value

abbrev pub is_short : List ℕ → Bool
is_short buffer = nat_lt (length buffer) 23

abbrev pub told_result : Option (List ℕ) → List ℕ → Result (Option ℕ) ShortBuffer
told_result said buffer = cond (is_short buffer) (Err (record {})) (Ok (option_map length said))

-- the answer in front of what was there
abbrev pub laid : Option (List ℕ) → List ℕ → List ℕ
laid None buffer = buffer
laid (Some bytes) buffer = bytes ++ drop (length bytes) buffer

abbrev pub told_buffer : Option (List ℕ) → List ℕ → List ℕ
told_buffer said buffer = cond (is_short buffer) buffer (laid said buffer)

abbrev pub told_state : {X : Type 0} → List ℕ → X → X → X
told_state buffer before after = cond (is_short buffer) before after
