-- A line behind a switch, as a value.
use Rattle.std.specs.Prelude.{ℕ, Bool, cond, ◌&&◌, List, map, Some, None, Option}
use Rattle.wall.specs.declared.card.Socket.{Socket}
use Rattle.wall.specs.Counts.{one_more}
use Rattle.wall.specs.Wall.{Wall, Reply, silence}

pub record FeederState (X : Type 0) : Type 0 where
  pub line : X
  pub on : Bool
  pub tally : ℕ

-- switched off, no socket is live
abbrev pub gate : Bool → Option Socket → Option Socket
gate on None = None
gate on (Some s) = Some (record { live = s.live && on; speaks = s.speaks; station = s.station })

module _ {X : Type 0} where
  abbrev pub with_line : FeederState X → X → FeederState X
  with_line f x = record { line = x; on = f.on; tally = f.tally }

  abbrev pub feeder_wall : (X → Wall) → FeederState X → Wall
  feeder_wall wall f = record { sockets = map (gate f.on) (wall f.line).sockets; tally = f.tally }

  -- switched off, nothing is passed on
  abbrev pub feeder_reply : (X → List ℕ → Reply) → FeederState X → List ℕ → Reply
  feeder_reply reply f t = cond f.on (reply f.line t) silence

  abbrev pub feeder_next : (X → List ℕ → X) → FeederState X → List ℕ → FeederState X
  feeder_next next f t = record { line = cond f.on (next f.line t) f.line; on = f.on; tally = one_more f.tally }

  -- fit and pull pass either way
  abbrev pub feeder_fits : (X → ℕ → ℕ → ℕ → Bool → X) → FeederState X → ℕ → ℕ → ℕ → Bool → FeederState X
  feeder_fits fits f n serial address defective = with_line f (fits f.line n serial address defective)

  abbrev pub feeder_pulls : (X → ℕ → X) → FeederState X → ℕ → FeederState X
  feeder_pulls pulls f n = with_line f (pulls f.line n)
