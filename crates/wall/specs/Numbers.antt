-- The number of each refusal.
use Rattle.std.specs.Prelude.{ℕ}
use Rattle.wall.specs.declared.faults.FitFault.{FitFault}
use Rattle.wall.specs.declared.faults.FitFault.TheVariants.{NoSocket, Taken, NoSerial, NoAddress}
use Rattle.wall.specs.declared.faults.PullFault.{PullFault}
use Rattle.wall.specs.declared.faults.PullFault.TheVariants as pull

-- a buffer of under 23 bytes
abbrev pub short_number : ℕ
short_number = 15

abbrev pub fit_number : FitFault → ℕ
fit_number NoSocket = 10
fit_number Taken = 11
fit_number NoSerial = 12
fit_number NoAddress = 13

abbrev pub pull_number : PullFault → ℕ
pull_number pull.NoSocket = 10
pull_number pull.Empty = 14
