-- Whatever is written, a station keeps its serial and whether it is defective, and its addresses stay ones that can be.
use Rattle.std.specs.Prelude.{◌≡◌, ℕ, suc, ◌+◌, ◌*◌, ◌%◌, ◌<◌, Bool, true, false, cond, ◌&&◌, List, [], ◌∷◌, Some, None, Option, ◌==◌, refl}
use Rattle.std.proofs.Common.{◌∙◌, arith}
use Rattle.telegram.specs.Answers.{is_address}
use Rattle.telegram.specs.Layout.{Fields}
use Rattle.stations.specs.declared.kind.Kind.{Kind}
use Rattle.stations.specs.declared.kind.Refusal.{Refusal}
use Rattle.stations.specs.Kinds.{action}
use Rattle.stations.specs.Device.{State, written, all_written}
use Rattle.stations.specs.Calls.{Call, nothing, unknown, asked, refusal, payload, after, becomes_by}

-- y is what became of x
pub record Became (x y : State) : Type 0 where
  pub serial : y.serial ≡ x.serial
  pub defective : y.defective ≡ x.defective
  pub address : is_address x.address ≡ true → is_address y.address ≡ true
  pub stored : x.stored < 256 → y.stored < 256

itself : (x : State) → Became x x
itself x = record { serial = refl; defective = refl; address = λ h. h; stored = λ h. h }

in_turn : (x y z : State) → Became x y → Became y z → Became x z
in_turn x y z p q = record {
  serial = q.serial ∙ p.serial;
  defective = q.defective ∙ p.defective;
  address = λ h. q.address (p.address h);
  stored = λ h. q.stored (p.stored h);
}

-- only an address that can be one comes into force
adopted : (b : Bool) (stored address : ℕ) → is_address stored ≡ b → is_address address ≡ true → is_address (cond b stored address) ≡ true
adopted true stored address e h = e
adopted false stored address e h = h

adopted_if : (r v : Bool) (stored address : ℕ) → is_address address ≡ true → is_address (cond (r && (v && is_address stored)) stored address) ≡ true
adopted_if true true stored address h = adopted (is_address stored) stored address refl h
adopted_if true false stored address h = h
adopted_if false v stored address h = h

low_byte : (b : Bool) (v stored : ℕ) → stored < 256 → cond b (v % 256) stored < 256
low_byte true v stored h = omega arith
low_byte false v stored h = h

became-written : (x : State) (r v : ℕ) → Became x (written x r v)
became-written x r v = record {
  serial = refl;
  defective = refl;
  address = adopted_if (r == 0xD000) (v == 2) x.stored x.address;
  stored = low_byte (r == 0xD100) v x.stored;
}

became-all : (x : State) (r : ℕ) (bytes : List ℕ) → Became x (all_written x r bytes)
became-all x r [] = itself x
became-all x r (high ∷ []) = itself x
became-all x r (high ∷ low ∷ rest) = in_turn x _ _ (became-written x r (high * 256 + low)) (became-all (written x r (high * 256 + low)) (suc r) rest)

became-after : (x : State) (q : Fields) (r : Option Refusal) → Became x (after x q r)
became-after x q (Some f) = itself x
became-after x q None = became-all x q.register (payload (action q.command) q)

pub became_by : (K : Kind) (x : State) (c : Call) → Became x (becomes_by K x c)
became_by K x nothing = itself x
became_by K x (unknown c) = itself x
became_by K x (asked q) = became-after x q (refusal K x (action q.command) q)
