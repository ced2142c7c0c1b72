-- The laws of a line, from its rules and from what fit and pull do.
use Rattle.std.proofs.Common.{◌≡◌, ℕ, Bool, List, map, set, Some, None, Option, sym, ap, ◌∙◌, arith}
use Rattle.std.proofs.Math.ListN.{get_or-map}
use Rattle.std.proofs.lemmas.List.{map-set, set-get_or}
use Rattle.std.proofs.lemmas.Simd.{map-map}
use Rattle.wall.specs.declared.card.Card.{Card}
use Rattle.wall.specs.declared.card.Socket.{Socket}
use Rattle.wall.specs.Wall.{Wall, Reply, changed_in, changed, counted, GoodSockets}
use Rattle.wall.specs.Laws.{new_card}
use Rattle.wall.specs.Rules.{Rules, bare}
use Rattle.wall.specs.Lines.{at, holding, fitted, pulled}
use Rattle.wall.specs.LineLaws.{LineLaws, marks}

abbrev blank : Option Socket → Option Socket
blank = holding (λ speaks. None)

changed_cell : (f : Card → Card) (o : Option Socket) → blank (changed_in f o) ≡ blank o
changed_cell f o = grind arith

changed_cells : (f : Card → Card) (ss : List (Option Socket)) → map blank (map (changed_in f) ss) ≡ map blank ss
changed_cells f ss = map-map blank (changed_in f) ss ∙ ap (λ (g : Option Socket → Option Socket). map g ss) (λ i o. changed_cell f o i)

refilled_cell : (station : Bool → Option Card) (o : Option Socket) → blank (holding station o) ≡ blank o
refilled_cell station o = grind arith

refilled_cells : (station : Bool → Option Card) (ss : List (Option Socket)) (n : ℕ) → map blank (set ss n (holding station (at ss n))) ≡ map blank ss
refilled_cells station ss n = map-set blank ss n (holding station (at ss n)) ∙ ap (set (map blank ss) n) (refilled_cell station (at ss n) ∙ sym (get_or-map blank ss n None)) ∙ set-get_or (map blank ss) n None

-- a telegram leaves the marks, since it changes no more than the addresses
asked-marks : (w v : Wall) → changed bare v ≡ counted (changed bare w) → marks v ≡ marks w
asked-marks w v e = sym (changed_cells bare v.sockets) ∙ ap marks e ∙ changed_cells bare w.sockets

module _ {Y X : Type 0} {state : Y → X} {wall : X → Wall} {reply : X → List ℕ → Reply} {next : X → List ℕ → X} {fits : X → ℕ → ℕ → ℕ → Bool → X} {pulls : X → ℕ → X} where
  pub line_laws : ((x : X) (t : List ℕ) → Rules (wall x) t (reply x t) (wall (next x t))) → ((x : X) (n serial address : ℕ) (defective : Bool) → wall (fits x n serial address defective) ≡ fitted (wall x) n serial address defective) → ((x : X) (n : ℕ) → wall (pulls x n) ≡ pulled (wall x) n) → ((y : Y) → GoodSockets (wall (state y)).sockets) → LineLaws state wall reply next fits pulls
  line_laws rules fit pull good = record {
    rules = rules;
    tally = λ x t. ap (λ (w : Wall). w.tally) (rules x t).others;
    fit = fit;
    pull = pull;
    ask_marks = λ x t. asked-marks (wall x) (wall (next x t)) (rules x t).others;
    fit-marks = λ x n serial address defective. ap marks (fit x n serial address defective) ∙ refilled_cells (λ speaks. Some (new_card speaks serial address defective)) (wall x).sockets n;
    pull-marks = λ x n. ap marks (pull x n) ∙ refilled_cells (λ speaks. None) (wall x).sockets n;
    good = good;
  }
