-- A station's registers, and what reading and writing them does.
use Rattle.std.specs.List.{flat_map}
use Rattle.std.specs.Prelude.{◌≡◌, ◌≤◌, take, ℕ, zero, suc, ◌+◌, ◌-◌, ◌*◌, ◌/◌, ◌%◌, min, Bool, true, cond, not, ◌&&◌, ◌||◌, List, [], ◌∷◌, ◌++◌, replicate, is_some, ◌==◌, nat_le, slice_index, slice_set}
use Rattle.telegram.specs.Answers.{is_address}
use Rattle.telegram.specs.Layout.{word}
use Rattle.stations.specs.declared.kind.Kind.{Kind}
use Rattle.stations.specs.declared.kind.Kind.TheVariants.{Fan, OlderFan, Controller}
use Rattle.stations.specs.declared.kind.Action.{Action}
use Rattle.stations.specs.declared.kind.Action.TheVariants.{Echo, ReadHolding, ReadInput, WriteOne, WriteSeveral}
use Rattle.stations.specs.declared.rights.Level.{Level}
use Rattle.stations.specs.declared.rights.Level.TheVariants.{EndCustomer}
use Rattle.stations.specs.Rights.{level_needed, may_write, level_set}

-- the page holds the values of the registers from D000 on that are kept as written
pub record State : Type 0 where
  pub serial : ℕ
  pub address : ℕ
  pub stored : ℕ
  pub defective : Bool
  pub level : Level
  pub page : List ℕ

-- a new one has its address stored and in force, D149 = 4, all else 0, at end customer
abbrev pub fresh : ℕ → ℕ → Bool → State
fresh serial address defective = record { serial = serial; address = address; stored = address; defective = defective; level = EndCustomer; page = slice_set (replicate 331 0) 0x149 4 }

-- D000 acts and D002 sets the level, so both read 0; D100 is the stored address; D1A2 to D1A4 are the serial in order;
-- of the others those that someone may write show what was written, and the rest read 0
abbrev pub holding_at : State → ℕ → ℕ
holding_at x r =
    cond (r == 0xD000 || r == 0xD002) 0
    (cond (r == 0xD100) x.stored
    (cond (r == 0xD1A2) (x.serial / 4294967296 % 65536)
    (cond (r == 0xD1A3) (x.serial / 65536 % 65536)
    (cond (r == 0xD1A4) (x.serial % 65536)
    (cond (is_some (level_needed r)) (slice_index x.page (r - 0xD000)) 0)))))

-- a fan's input D010 is its D001 but at most FF00, D011 tells a defect; a controller's 111 is its address
abbrev pub input_at : Kind → State → ℕ → ℕ
input_at Fan x r = cond (r == 0xD010) (min (slice_index x.page 1) 0xFF00) (cond (r == 0xD011) (cond x.defective 0x18 0) 0)
input_at OlderFan x r = cond (r == 0xD010) (min (slice_index x.page 1) 0xFF00) (cond (r == 0xD011) (cond x.defective 0x18 0) 0)
input_at Controller x r = cond (r == 111) x.address 0

-- the register that an action reads
abbrev pub register_at : Kind → State → Action → ℕ → ℕ
register_at K x Echo r = holding_at x r
register_at K x ReadHolding r = holding_at x r
register_at K x ReadInput r = input_at K x r
register_at K x WriteOne r = holding_at x r
register_at K x WriteSeveral r = holding_at x r

-- the bytes of n registers from the one at r on
abbrev pub read_out : (ℕ → ℕ) → ℕ → ℕ → List ℕ
read_out at r zero = []
read_out at r (suc n) = read_out at r n ++ word (at (r + n))

-- words whose front is the bytes of the registers from the one at r on, for up to as many as were read, nine at most, that
-- there can be
abbrev pub ReadsOut : (ℕ → ℕ) → ℕ → ℕ → List (List ℕ) → Type 0
ReadsOut at r read words = (n : ℕ) → n ≤ read → n ≤ 9 → r + n ≤ 65536 → take (2 * n) (flat_map (λ x. x) words) ≡ read_out at r n

-- a right by the level held, and a defective station stores nothing from D100 on
abbrev pub allowed : State → ℕ → Bool
allowed x r = may_write x.level r && not (x.defective && nat_le 0xD100 r)

abbrev pub all_allowed : State → ℕ → ℕ → Bool
all_allowed x r zero = true
all_allowed x r (suc n) = allowed x r && all_allowed x (suc r) n

-- a value kept on the page
abbrev pub keeping : State → ℕ → ℕ → State
keeping x r v = record { serial = x.serial; address = x.address; stored = x.stored; defective = x.defective; level = x.level; page = slice_set x.page (r - 0xD000) v }

-- 2 in D000 brings a stored address of 1 to 247 into force; D002 sets the level; D100 keeps the low byte
abbrev pub written : State → ℕ → ℕ → State
written x r v = record {
  serial = x.serial;
  address = cond (r == 0xD000 && (v == 2 && is_address x.stored)) x.stored x.address;
  stored = cond (r == 0xD100) (v % 256) x.stored;
  defective = x.defective;
  level = cond (r == 0xD002) (level_set v) x.level;
  page = cond (r == 0xD000 || (r == 0xD002 || r == 0xD100)) x.page (slice_set x.page (r - 0xD000) v);
}

-- the values, two bytes each, into the registers from the one at r on, in ascending order
abbrev pub all_written : State → ℕ → List ℕ → State
all_written x r [] = x
all_written x r (high ∷ []) = x
all_written x r (high ∷ low ∷ rest) = all_written (written x r (high * 256 + low)) (suc r) rest
