-- What a telegram does to a wall, and what is heard: six rules, as one relation.
use Rattle.std.specs.Prelude.{◌≡◌, ℕ, zero, suc, ◌≤◌, Bool, true, false, cond, not, ◌&&◌, List, [], ◌∷◌, map, length, Some, None, Option, ◌==◌}
use Rattle.serial.specs.Six.{six, no_zero, fitting}
use Rattle.telegram.specs.Answers.{is_address}
use Rattle.telegram.specs.Layout.{word, in_size, has_seal}
use Rattle.telegram.specs.Writes.{exception_to}
use Rattle.telegram.specs.Writes as writes
use Rattle.wall.specs.declared.card.Card.{Card}
use Rattle.wall.specs.Telegrams.{registers, finder, store, adopt, probe}
use Rattle.wall.specs.Wall.{Wall, Reply, silence, answer, clash, together, heard, changed, counted, GoodSockets}

-- whether the mask fits the station's serial; a mask without a zero fits just that serial
abbrev pub bears : List ℕ → Card → Bool
bears mask c = elim c.serial [ None ↦ false | Some s ↦ fitting mask (six s) ]

abbrev pub serial_bytes : Card → List ℕ
serial_bytes c = elim c.serial [ None ↦ [] | Some s ↦ six s ]

-- what the stations that bear a mask answer
abbrev pub if_bears : List ℕ → (Card → List ℕ) → Card → Option (List ℕ)
if_bears mask says c = cond (bears mask c) (Some (says c)) None

-- the finder's answer holds the stored address
abbrev pub found : Card → List ℕ
found c = writes.answer (record { address = c.address; command = 0x43; serial = serial_bytes c; subfunction = 0; register = 0; value = 0; size = 2; code = 0; contents = word c.stored })

-- store: a defective station changes nothing and answers exception 04
abbrev pub store_said : ℕ → Card → List ℕ
store_said address c = cond c.defective (exception_to c.address 0x46 (serial_bytes c) 4) (writes.answer (registers c.address 0x46 (serial_bytes c) 0xD100 address))

abbrev pub storing : List ℕ → ℕ → Card → Card
storing mask address c = record { serial = c.serial; address = c.address; stored = cond (bears mask c && not c.defective) address c.stored; defective = c.defective }

-- adopt: a stored address of 1 to 247 comes into force, defective or not, and the answer begins with what is then in force
abbrev pub adopting : List ℕ → Card → Card
adopting mask c = record { serial = c.serial; address = cond (bears mask c && is_address c.stored) c.stored c.address; stored = c.stored; defective = c.defective }

abbrev pub adopt_said : List ℕ → Card → List ℕ
adopt_said mask c = writes.answer (registers (adopting mask c).address 0x46 (serial_bytes c) 0xD000 2)

-- how many of the stations have the address in force
abbrev pub hits : ℕ → List Card → ℕ
hits a [] = 0
hits a (c ∷ cs) = cond (c.address == a) (suc (hits a cs)) (hits a cs)

-- silence, an answer that begins with the address, or a clash, as none, one or more have it in force
abbrev pub Probed : ℕ → ℕ → Reply → Type 0
Probed a zero r = r ≡ silence
Probed a (suc zero) r = (rest : List ℕ) × (r ≡ answer (a ∷ rest))
Probed a (suc (suc n)) r = r ≡ clash

-- a card but for its addresses
abbrev pub bare : Card → Card
bare c = record { serial = c.serial; address = 0; stored = 0; defective = c.defective }

-- an answer has 4 to 23 bytes
abbrev pub Sized : Reply → Type 0
Sized silence = Unit {0}
Sized (answer bytes) = (4 ≤ length bytes) × (length bytes ≤ 23)
Sized clash = Unit {0}

pub record Rules (w : Wall) (t : List ℕ) (r : Reply) (v : Wall) : Type 0 where
  -- 1. a wrong length or checksum: silence, no station changes
  pub broken : (in_size t && has_seal t) ≡ false → (r ≡ silence) × (v ≡ counted w)
  -- 2. finder
  pub finder : (mask : List ℕ) → length mask ≡ 6 → t ≡ finder mask → (r ≡ together (map (if_bears mask found) (heard w))) × (v ≡ counted w)
  -- 3. store, for a serial without a zero and an address of 1 to 247
  pub store : (serial : List ℕ) (a : ℕ) → length serial ≡ 6 → no_zero serial ≡ true → is_address a ≡ true → t ≡ store serial a → (r ≡ together (map (if_bears serial (store_said a)) (heard w))) × (v ≡ counted (changed (storing serial a) w))
  -- 4. adopt
  pub adopt : (serial : List ℕ) → length serial ≡ 6 → no_zero serial ≡ true → t ≡ adopt serial → (r ≡ together (map (if_bears serial (adopt_said serial)) (heard w))) × (v ≡ counted (changed (adopting serial) w))
  -- 5. probe: the rest of the answer is left open
  pub probe : (a : ℕ) → is_address a ≡ true → t ≡ probe a → Probed a (hits a (heard w)) r × (v ≡ counted w)
  -- 6. any telegram: nothing but the addresses of heard stations and the tally changes
  pub others : changed bare v ≡ counted (changed bare w)
  pub keeps : GoodSockets w.sockets → GoodSockets v.sockets
  -- where nobody is heard there is silence, and an answer has its length
  pub quiet : heard w ≡ [] → r ≡ silence
  pub sized : Sized r
