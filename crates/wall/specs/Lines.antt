-- What fit, pull and ask do, over the wall that a line shows.
use Rattle.std.specs.Prelude.{◌≡◌, ℕ, Bool, true, false, cond, List, ◌++◌, length, drop, replicate, is_some, Some, None, Ok, Err, Option, Result, slice_index_or, slice_set}
use Rattle.serial.specs.Six.{number, no_zero}
use Rattle.telegram.specs.Answers.{is_address}
use Rattle.wall.specs.declared.card.Card.{Card}
use Rattle.wall.specs.declared.card.ShortBuffer.{ShortBuffer}
use Rattle.wall.specs.declared.card.Socket.{Socket}
use Rattle.wall.specs.declared.faults.FitFault.{FitFault}
use Rattle.wall.specs.declared.faults.FitFault.TheVariants.{NoSocket, Taken, NoSerial, NoAddress}
use Rattle.wall.specs.declared.faults.PullFault.{PullFault}
use Rattle.wall.specs.declared.faults.PullFault.TheVariants as pull
use Rattle.wall.specs.declared.outcome.Outcome.{Outcome}
use Rattle.wall.specs.declared.outcome.Outcome.TheVariants.{Silence, Answer, Clash}
use Rattle.wall.specs.Tells.{is_short, laid}
use Rattle.wall.specs.Wall.{Wall, Reply, silence, answer, clash}
use Rattle.wall.specs.Laws.{new_card}

-- the socket with this number, if there is one
abbrev pub at : List (Option Socket) → ℕ → Option Socket
at sockets n = slice_index_or sockets n None

-- done, or refused with what stands in the way
abbrev pub done_unless : {F : Type 0} → Option F → Result (Unit {0}) F
done_unless None = Ok tt
done_unless (Some fault) = Err fault

-- a call that is refused changes nothing
abbrev pub after_unless : {F X : Type 0} → Option F → X → X → X
after_unless None before after = after
after_unless (Some fault) before after = before

-- fit: is there such a socket, is it empty, is no byte of the serial zero, is the address 1 to 247

abbrev pub new_fault : List ℕ → ℕ → Option FitFault
new_fault serial address = cond (no_zero serial) (cond (is_address address) None (Some NoAddress)) (Some NoSerial)

abbrev pub fit_fault_at : Option Socket → List ℕ → ℕ → Option FitFault
fit_fault_at None serial address = Some NoSocket
fit_fault_at (Some s) serial address = cond (is_some s.station) (Some Taken) (new_fault serial address)

abbrev pub fit_fault : Wall → ℕ → List ℕ → ℕ → Option FitFault
fit_fault w n serial address = fit_fault_at (at w.sockets n) serial address

-- pull: is there such a socket, is it taken

abbrev pub pull_fault_at : Option Socket → Option PullFault
pull_fault_at None = Some pull.NoSocket
pull_fault_at (Some s) = cond (is_some s.station) None (Some pull.Empty)

abbrev pub pull_fault : Wall → ℕ → Option PullFault
pull_fault w n = pull_fault_at (at w.sockets n)

-- the serial and the address of a new station, from the six bytes and the number that a caller hands in
pub record Accepted (bytes : List ℕ) (given serial address : ℕ) : Type 0 where
  pub fault : new_fault bytes given ≡ None
  pub made : serial ≡ number bytes
  pub kept : address ≡ given

abbrev pub RefusedFor : List ℕ → ℕ → FitFault → Type 0
RefusedFor serial address fault = new_fault serial address ≡ Some fault

-- the same socket with another station in it, or none; a station can depend on whether its socket speaks serials
abbrev pub holding : (Bool → Option Card) → Option Socket → Option Socket
holding station None = None
holding station (Some s) = Some (record { live = s.live; speaks = s.speaks; station = station s.speaks })

abbrev pub refilled : (Bool → Option Card) → Wall → ℕ → Wall
refilled station w n = record { sockets = slice_set w.sockets n (holding station (at w.sockets n)); tally = w.tally }

abbrev pub fitted : Wall → ℕ → ℕ → ℕ → Bool → Wall
fitted w n serial address defective = refilled (λ speaks. Some (new_card speaks serial address defective)) w n

abbrev pub pulled : Wall → ℕ → Wall
pulled w n = refilled (λ speaks. None) w n

-- ask

abbrev pub outcome_of : Reply → Outcome
outcome_of silence = Silence
outcome_of (answer bytes) = Answer (length bytes)
outcome_of clash = Clash

abbrev pub is_silence : Outcome → Bool
is_silence Silence = true
is_silence (Answer n) = false
is_silence Clash = false

abbrev pub answered : Reply → Option (List ℕ)
answered silence = None
answered (answer bytes) = Some bytes
answered clash = None

abbrev pub asked_result : Reply → List ℕ → Result Outcome ShortBuffer
asked_result r buffer = cond (is_short buffer) (Err (record {})) (Ok (outcome_of r))

-- 23 bytes: the answer, if there is one, and zeros behind it
abbrev pub front : Reply → List ℕ
front r = laid (answered r) (replicate 23 0)

abbrev pub asked_buffer : Reply → List ℕ → List ℕ
asked_buffer r buffer = cond (is_short buffer) buffer (front r ++ drop 23 buffer)
