-- How fields are laid out as bytes, and found in them.
use Rattle.std.specs.Prelude.{ℕ, ◌+◌, ◌-◌, ◌*◌, ◌/◌, ◌%◌, Bool, cond, ◌&&◌, List, [], ◌∷◌, ◌++◌, length, take, drop, ◌==◌, nat_le, slice_index}
use Rattle.checksum.specs.Crc.{crc}
use Rattle.telegram.specs.declared.forms.Form.{Form}
use Rattle.telegram.specs.Forms.{span}

-- the fields of a telegram, as values; the contents are its data bytes
pub record Fields : Type 0 where
  pub address : ℕ
  pub command : ℕ
  pub serial : List ℕ
  pub subfunction : ℕ
  pub register : ℕ
  pub value : ℕ
  pub size : ℕ
  pub code : ℕ
  pub contents : List ℕ

-- a number of two bytes, the high byte first
abbrev pub word : ℕ → List ℕ
word w = (w / 256 % 256) ∷ (w % 256) ∷ []

-- the bytes of a field that the form has
abbrev pub part : Bool → List ℕ → List ℕ
part has bytes = cond has bytes []

-- what stands between the command and the checksum
abbrev pub body : Form → Fields → List ℕ
body F f =
    part F.serial f.serial
    ++ (part F.subfunction (word f.subfunction)
    ++ (part F.register (word f.register)
    ++ (part F.value (word f.value)
    ++ (part F.size (f.size ∷ [])
    ++ (part F.code (f.code ∷ [])
    ++ part F.«data» f.contents)))))

-- the two bytes of the checksum, the low byte first
abbrev pub seal : List ℕ → List ℕ
seal bytes = (crc bytes % 256) ∷ (crc bytes / 256 % 256) ∷ []

-- a telegram: the checksum comes last
unfoldable pub sealed : List ℕ → List ℕ
sealed bytes = bytes ++ seal bytes

abbrev pub encode : Form → Fields → List ℕ
encode F f = sealed (f.address ∷ f.command ∷ body F f)

-- the part before the checksum, and the part between the command and the checksum
abbrev pub unsealed : List ℕ → List ℕ
unsealed bytes = take (length bytes - 2) bytes

abbrev pub body_of : List ℕ → List ℕ
body_of bytes = take (length bytes - 4) (drop 2 bytes)

-- 4 to 23 bytes
abbrev pub in_size : List ℕ → Bool
in_size bytes = nat_le 4 (length bytes) && nat_le (length bytes) 23

-- whether the last two bytes are the checksum of those before them
unfoldable pub has_seal : List ℕ → Bool
has_seal bytes =
    (slice_index bytes (length bytes - 2) == crc (unsealed bytes) % 256)
    && slice_index bytes (length bytes - 1) == crc (unsealed bytes) / 256 % 256

-- the first two bytes as a number
abbrev pub word_of : List ℕ → ℕ
word_of bytes = slice_index bytes 0 * 256 + slice_index bytes 1

abbrev pub zeros : List ℕ
zeros = 0 ∷ 0 ∷ 0 ∷ 0 ∷ 0 ∷ 0 ∷ []

-- what is left of a body after each of its fields
abbrev pub past_serial : Form → List ℕ → List ℕ
past_serial F b = drop (span F.serial 6) b

abbrev pub past_subfunction : Form → List ℕ → List ℕ
past_subfunction F b = drop (span F.subfunction 2) (past_serial F b)

abbrev pub past_register : Form → List ℕ → List ℕ
past_register F b = drop (span F.register 2) (past_subfunction F b)

abbrev pub past_value : Form → List ℕ → List ℕ
past_value F b = drop (span F.value 2) (past_register F b)

abbrev pub past_size : Form → List ℕ → List ℕ
past_size F b = drop (span F.size 1) (past_value F b)

abbrev pub past_code : Form → List ℕ → List ℕ
past_code F b = drop (span F.code 1) (past_size F b)

-- the fields of a body: those that the form lacks are zero
abbrev pub decode : Form → ℕ → ℕ → List ℕ → Fields
decode F a c b = record {
  address = a;
  command = c;
  serial = cond F.serial (take 6 b) zeros;
  subfunction = cond F.subfunction (word_of (past_serial F b)) 0;
  register = cond F.register (word_of (past_subfunction F b)) 0;
  value = cond F.value (word_of (past_register F b)) 0;
  size = cond F.size (slice_index (past_value F b) 0) 0;
  code = cond F.code (slice_index (past_size F b) 0) 0;
  contents = cond F.«data» (past_code F b) [];
}

-- the fields that the form has; the others are zero
abbrev pub plain : Form → Fields → Fields
plain F f = record {
  address = f.address;
  command = f.command;
  serial = cond F.serial f.serial zeros;
  subfunction = cond F.subfunction f.subfunction 0;
  register = cond F.register f.register 0;
  value = cond F.value f.value 0;
  size = cond F.size f.size 0;
  code = cond F.code f.code 0;
  contents = cond F.«data» f.contents [];
}
