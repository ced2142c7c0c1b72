-- The telegrams that the rules of a wall speak of, each as what its fields write.
use Rattle.std.specs.Prelude.{ℕ, List, []}
use Rattle.telegram.specs.Layout.{Fields, zeros}
use Rattle.telegram.specs.Writes.{question}

abbrev pub registers : ℕ → ℕ → List ℕ → ℕ → ℕ → Fields
registers address command serial register value = record { address = address; command = command; serial = serial; subfunction = 0; register = register; value = value; size = 0; code = 0; contents = [] }

-- asks every fan whose serial the mask fits for its stored address
abbrev pub finder : List ℕ → List ℕ
finder mask = question (registers 0 0x43 mask 0xD100 1)

-- has the fan with this serial store an address
abbrev pub store : List ℕ → ℕ → List ℕ
store serial address = question (registers 0 0x46 serial 0xD100 address)

-- has the fan with this serial bring its stored address into force
abbrev pub adopt : List ℕ → List ℕ
adopt serial = question (registers 0 0x46 serial 0xD000 2)

-- asks the station at this address for its stored address
abbrev pub probe : ℕ → List ℕ
probe address = question (registers address 0x03 zeros 0xD100 1)
