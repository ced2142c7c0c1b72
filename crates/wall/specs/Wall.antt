-- What a wall is, as a value, and what is heard of it.
use Rattle.std.specs.Prelude.{◌≡◌, ℕ, ◌+◌, ◌%◌, ◌^◌, ◌<◌, Bool, true, cond, List, [], ◌∷◌, map, is_some, Some, None, Option}
use Rattle.std.specs.Option.{option_map}
use Rattle.wall.specs.declared.card.Card.{Card}
use Rattle.wall.specs.declared.card.Socket.{Socket}
use Rattle.serial.specs.Six.{fair}
use Rattle.telegram.specs.Answers.{is_address}

-- the sockets by their numbers (there may be gaps), and how many telegrams were put on the line
pub record Wall : Type 0 where
  pub sockets : List (Option Socket)
  pub tally : ℕ

-- what comes back of a telegram
pub data Reply : Type 0 where
  silence : Reply
  answer : List ℕ → Reply
  clash : Reply

abbrev pub somes : {X : Type 0} → List (Option X) → List X
somes [] = []
somes (None ∷ os) = somes os
somes (Some x ∷ os) = x ∷ somes os

-- silence, the answer or a clash, as none, one or more answer
abbrev pub joined : List (List ℕ) → Reply
joined [] = silence
joined (a ∷ []) = answer a
joined (a ∷ b ∷ more) = clash

abbrev pub together : List (Option (List ℕ)) → Reply
together os = joined (somes os)

-- only stations in live sockets are heard
abbrev pub heard_in : Option Socket → Option Card
heard_in None = None
heard_in (Some s) = cond s.live s.station None

abbrev pub heard : Wall → List Card
heard w = somes (map heard_in w.sockets)

-- the same change at each station that is heard
abbrev pub changed_in : (Card → Card) → Option Socket → Option Socket
changed_in f None = None
changed_in f (Some s) = Some (record { live = s.live; speaks = s.speaks; station = cond s.live (option_map f s.station) s.station })

abbrev pub changed : (Card → Card) → Wall → Wall
changed f w = record { sockets = map (changed_in f) w.sockets; tally = w.tally }

-- one telegram more: after 2^64 - 1 comes 0
abbrev pub counted : Wall → Wall
counted w = record { sockets = w.sockets; tally = (w.tally + 1) % 2 ^ 64 }

-- a card that can be: a serial has six bytes and none is zero, an address in force is 1 to 247, a stored one is a byte
pub record GoodCard (c : Card) : Type 0 where
  pub serial : (s : ℕ) → c.serial ≡ Some s → fair s ≡ true
  pub address : is_address c.address ≡ true
  pub stored : c.stored < 256

-- a station has a serial exactly where its socket speaks serials
abbrev pub GoodStation : Bool → Option Card → Type 0
GoodStation speaks None = Unit {0}
GoodStation speaks (Some c) = GoodCard c × (is_some c.serial ≡ speaks)

abbrev pub GoodSocket : Option Socket → Type 0
GoodSocket None = Unit {0}
GoodSocket (Some s) = GoodStation s.speaks s.station

abbrev pub GoodSockets : List (Option Socket) → Type 0
GoodSockets [] = Unit {0}
GoodSockets (s ∷ ss) = GoodSocket s × GoodSockets ss
