-- What every line owes, as one record over its ghost members.
use Rattle.std.specs.Prelude.{◌≡◌, ℕ, Bool, List, map, None, Option}
use Rattle.wall.specs.declared.card.Socket.{Socket}
use Rattle.wall.specs.Counts.{one_more}
use Rattle.wall.specs.Wall.{Wall, Reply, GoodSockets}
use Rattle.wall.specs.Rules.{Rules}
use Rattle.wall.specs.Lines.{fitted, pulled, holding}

-- the sockets without their stations: which numbers there are, which sockets are live, and which speak serials
abbrev pub marks : Wall → List (Option Socket)
marks w = map (holding (λ speaks. None)) w.sockets

pub record LineLaws {Y X : Type 0} (state : Y → X) (wall : X → Wall) (reply : X → List ℕ → Reply) (next : X → List ℕ → X) (fits : X → ℕ → ℕ → ℕ → Bool → X) (pulls : X → ℕ → X) : Type 0 where
  -- every telegram keeps the six rules, and moves the tally on by one
  pub rules : (x : X) (t : List ℕ) → Rules (wall x) t (reply x t) (wall (next x t))
  pub tally : (x : X) (t : List ℕ) → (wall (next x t)).tally ≡ one_more (wall x).tally
  -- fit and pull change the station of that socket and nothing else
  pub fit : (x : X) (n serial address : ℕ) (defective : Bool) → wall (fits x n serial address defective) ≡ fitted (wall x) n serial address defective
  pub pull : (x : X) (n : ℕ) → wall (pulls x n) ≡ pulled (wall x) n
  -- ask, fit and pull leave the marks of the sockets
  pub ask_marks : (x : X) (t : List ℕ) → marks (wall (next x t)) ≡ marks (wall x)
  pub fit-marks : (x : X) (n serial address : ℕ) (defective : Bool) → marks (wall (fits x n serial address defective)) ≡ marks (wall x)
  pub pull-marks : (x : X) (n : ℕ) → marks (wall (pulls x n)) ≡ marks (wall x)
  -- the sockets that a line shows are such as can be
  pub good : (y : Y) → GoodSockets (wall (state y)).sockets
