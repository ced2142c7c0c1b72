-- A bank as a value: the states of the stations in its sockets, over any type of states.
use Rattle.std.specs.Prelude.{ℕ, Bool, true, List, [], ◌∷◌, map, Some, None, Option, slice_set}
use Rattle.std.specs.Option.{option_map}
use Rattle.wall.specs.declared.card.Card.{Card}
use Rattle.wall.specs.declared.card.Socket.{Socket}
use Rattle.wall.specs.declared.station.Station.{Ghosts}
use Rattle.wall.specs.Counts.{one_more}
use Rattle.wall.specs.Wall.{Wall, Reply, together}

pub record BankState (X : Type 0) : Type 0 where
  pub sockets : List (Option X)
  pub tally : ℕ

module _ {X : Type 0} where
  -- what a bank shows of a socket: it is live
  abbrev pub socket_of : Bool → (X → Card) → Option X → Option Socket
  socket_of speaks card o = Some (record { live = true; speaks = speaks; station = option_map card o })

  -- what the station in a socket answers, and what it becomes
  abbrev pub said_in : (X → List ℕ → Option (List ℕ)) → List ℕ → Option X → Option (List ℕ)
  said_in says t None = None
  said_in says t (Some x) = says x t

  abbrev pub become_in : (X → List ℕ → X) → List ℕ → Option X → Option X
  become_in becomes t o = option_map (λ x. becomes x t) o

  abbrev pub bank_wall : Bool → (X → Card) → BankState X → Wall
  bank_wall speaks card b = record { sockets = map (socket_of speaks card) b.sockets; tally = b.tally }

  -- the outcome joins what the stations answer, whatever the telegram
  abbrev pub bank_reply : (X → List ℕ → Option (List ℕ)) → BankState X → List ℕ → Reply
  bank_reply says b t = together (map (said_in says t) b.sockets)

  abbrev pub bank_next : (X → List ℕ → X) → BankState X → List ℕ → BankState X
  bank_next becomes b t = record { sockets = map (become_in becomes t) b.sockets; tally = one_more b.tally }

  abbrev pub bank_fits : (ℕ → ℕ → Bool → X) → BankState X → ℕ → ℕ → ℕ → Bool → BankState X
  bank_fits fresh b n serial address defective = record { sockets = slice_set b.sockets n (Some (fresh serial address defective)); tally = b.tally }

  abbrev pub bank_pulls : BankState X → ℕ → BankState X
  bank_pulls b n = record { sockets = slice_set b.sockets n None; tally = b.tally }

-- the same of a row of sockets in memory, for one kind of station
module _ {S : Type 0} (m : Ghosts S) where
  abbrev pub states : List (Option S) → List (Option m.State)
  states row = map (option_map m.state) row

  abbrev pub shown : Option S → Option Socket
  shown o = socket_of m.speaks m.card (option_map m.state o)

  abbrev pub sockets_of : List (Option S) → List (Option Socket)
  sockets_of row = map (socket_of m.speaks m.card) (states row)

  abbrev pub chorus : List (Option S) → List ℕ → Reply
  chorus row t = together (map (said_in m.says t) (states row))

  abbrev pub voice : Option S → List ℕ → Reply
  voice o t = together (said_in m.says t (option_map m.state o) ∷ [])
