-- What a feeder in memory is as a value, and that it keeps the laws of a line.
use Rattle.wall.specs.declared.line.Line.{Ghosts}
use Rattle.wall.specs.LineLaws.{LineLaws}
use Rattle.lines.specs.declared.feeder.Feeder.{Feeder}
use Rattle.lines.specs.Feeder.{FeederState, feeder_wall, feeder_reply, feeder_next, feeder_fits, feeder_pulls}
use Rattle.lines.specs.LawsOfFeeders.{feeder_laws_of}

module _ {L : Type 0} (m : Ghosts L) where
  abbrev pub feeder_state : Feeder L → FeederState m.State
  feeder_state f = record { line = m.state f.line; on = f.on; tally = f.tally.value }

  pub feeder_laws : LineLaws feeder_state (feeder_wall m.wall) (feeder_reply m.reply) (feeder_next m.next) (feeder_fits m.fits) (feeder_pulls m.pulls)
  feeder_laws = feeder_laws_of (λ (f : Feeder L). f.line) (λ (f : Feeder L). f.on) (λ (f : Feeder L). f.tally.value) m.laws
