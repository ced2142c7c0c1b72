-- Who may write which register.
use Rattle.std.specs.Prelude.{ℕ, Bool, true, false, cond, List, [], ◌∷◌, Some, None, Option, ◌==◌}
use Rattle.stations.specs.declared.rights.Level.{Level}
use Rattle.stations.specs.declared.rights.Level.TheVariants.{EndCustomer, Customer, Factory}
use Rattle.stations.specs.declared.rights.Right.{Right}
use Rattle.stations.specs.Spans.{span, among}

abbrev from : ℕ → ℕ → Level → Right
from first last level = record { registers = span first last; level = level }

-- the registers that may be written, and from which level on; nobody may write the others
abbrev pub rights : List Right
rights =
    from 0xD000 0xD002 EndCustomer ∷ from 0xD100 0xD10D EndCustomer ∷ from 0xD147 0xD147 EndCustomer
    ∷ from 0xD10E 0xD10E Customer ∷ from 0xD145 0xD145 Customer ∷ from 0xD149 0xD14A Customer
    ∷ from 0xD009 0xD00A Factory ∷ from 0xD13B 0xD13B Factory ∷ []

abbrev pub level_in_table : List Right → ℕ → Option Level
level_in_table [] r = None
level_in_table (p ∷ ps) r = cond (among p.registers r) (Some p.level) (level_in_table ps r)

unfoldable pub level_needed : ℕ → Option Level
level_needed r = level_in_table rights r

-- each level has the rights of those below it
abbrev pub covers : Level → Level → Bool
covers l EndCustomer = true
covers EndCustomer Customer = false
covers Customer Customer = true
covers Factory Customer = true
covers EndCustomer Factory = false
covers Customer Factory = false
covers Factory Factory = true

abbrev pub may_write : Level → ℕ → Bool
may_write level r = elim (level_needed r) [ None ↦ false | Some need ↦ covers level need ]

-- the level that a password sets
abbrev pub level_set : ℕ → Level
level_set v = cond (v == 0x4321) Customer (cond (v == 0x8765) Factory EndCustomer)
