-- What every station owes, as one record over its ghost members.
use Rattle.std.specs.Prelude.{◌≡◌, ℕ, Bool, true, cond, List, [], ◌∷◌, Some, None, Option}
use Rattle.wall.specs.declared.card.Card.{Card}
use Rattle.wall.specs.Wall.{Wall, together, counted, GoodStation}
use Rattle.wall.specs.Rules.{Rules}

-- a wall of one live socket, with a station
abbrev pub alone : Bool → Card → Wall
alone speaks c = record { sockets = Some (record { live = true; speaks = speaks; station = Some c }) ∷ []; tally = 0 }

-- the card of a new station: both addresses so, and the serial if its socket speaks serials
abbrev pub new_card : Bool → ℕ → ℕ → Bool → Card
new_card speaks serial address defective = record { serial = cond speaks (Some serial) None; address = address; stored = address; defective = defective }

pub record StationLaws {Y X : Type 0} (state : Y → X) (speaks : Bool) (card : X → Card) (says : X → List ℕ → Option (List ℕ)) (becomes : X → List ℕ → X) (fresh : ℕ → ℕ → Bool → X) : Type 0 where
  -- a wall with this one station keeps the rules
  pub rules : (x : X) (t : List ℕ) → Rules (alone speaks (card x)) t (together (says x t ∷ [])) (counted (alone speaks (card (becomes x t))))
  pub made : (serial address : ℕ) (defective : Bool) → card (fresh serial address defective) ≡ new_card speaks serial address defective
  -- the card of every station is one that can be
  pub good : (y : Y) → GoodStation speaks (Some (card (state y)))
