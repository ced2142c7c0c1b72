-- What a bank in memory is as a value, and that it keeps the laws of a line.
use Rattle.std.specs.Prelude.{◌≡◌, List, take, drop}
use Rattle.std.specs.Borrow.{MutBor}
use Rattle.wall.specs.declared.station.Station.{Ghosts}
use Rattle.wall.specs.Wall.{Wall}
use Rattle.wall.specs.LineLaws.{LineLaws}
use Rattle.lines.specs.declared.bank.Bank.{Bank}
use Rattle.lines.specs.Bank.{BankState, bank_wall, bank_reply, bank_next, bank_fits, bank_pulls, states}
use Rattle.lines.specs.LawsOfBanks.{bank_laws_of}

-- what every call leaves of the lent row: the places past the first 64, and whose it is
pub record SameLoan {X : Type 0} (before after : MutBor (List X)) : Type 0 where
  pub rest : drop 64 after.now ≡ drop 64 before.now
  pub lender : after.ghost_name ≡ before.ghost_name

module _ {S : Type 0} (m : Ghosts S) where
  -- of the row the first 64 places
  abbrev pub bank_state : Bank S → BankState m.State
  bank_state b = record { sockets = states m (take 64 b.sockets.now); tally = b.tally.value }

  abbrev pub wall_of : Bank S → Wall
  wall_of b = bank_wall m.speaks m.card (bank_state b)

  pub bank_laws : LineLaws bank_state (bank_wall m.speaks m.card) (bank_reply m.says) (bank_next m.becomes) (bank_fits m.fresh) bank_pulls
  bank_laws = bank_laws_of (λ (b : Bank S). take 64 b.sockets.now) (λ (b : Bank S). b.tally.value) m.laws
