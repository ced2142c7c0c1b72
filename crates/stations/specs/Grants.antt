-- A question that is not refused stays within its registers and its answer within a telegram.
use Rattle.std.specs.Prelude.{◌≡◌, ◌⊎◌, ℕ, ◌+◌, ◌*◌, ◌/◌, ◌<◌, ◌≤◌, Bool, true, false, cond, not, ◌&&◌, List, length, Some, None, ◌==◌, nat_le, refl}
use Rattle.std.proofs.Common.{sym, subst, inl, inr, arith}
use Rattle.std.proofs.lemmas.Bool.{leb-true, eqb-true, and_parts}
use Rattle.telegram.specs.Layout.{Fields}
use Rattle.stations.specs.declared.kind.Kind.{Kind}
use Rattle.stations.specs.declared.kind.Kind.TheVariants.{Fan, OlderFan, Controller}
use Rattle.stations.specs.declared.kind.Action.{Action}
use Rattle.stations.specs.declared.kind.Action.TheVariants.{Echo, ReadHolding, ReadInput, WriteOne, WriteSeveral}
use Rattle.stations.specs.declared.kind.Refusal.TheVariants.{Register, Count, Write}
use Rattle.stations.specs.Kinds.{most_read, holding, input, range_of}
use Rattle.stations.specs.Device.{State, register_at, read_out, all_allowed}
use Rattle.stations.specs.Calls.{named, payload, count_right, in_range, may_do, refused_by, refusal, told, answer_to}
use Rattle.stations.specs.Sizes.{Answers, few}

-- not refused, by a station in some state
pub record Granted (K : Kind) (a : Action) (q : Fields) : Type 0 where
  pub state : State
  pub none : refusal K state a q ≡ None

-- the answer can be written, with its byte count in a byte
pub record Answerable (x : State) (q : Fields) (bytes : List ℕ) : Type 0 where
  pub few : length bytes ≤ 19
  pub form : Answers (answer_to x q bytes)

passed : (count range may : Bool) → cond (not count) (Some Count) (cond (not range) (Some Register) (cond (not may) (Some Write) None)) ≡ None → (count ≡ true) × (range ≡ true)
passed true true may h = (refl, refl)
passed true false may h = cc
passed false range may h = cc

in_range_fits : (first last r n : ℕ) → last < 65536 → (nat_le first r && nat_le (r + n) (last + 1)) ≡ true → r + n ≤ 65536
in_range_fits first last r n small h = omega (arith, leb-true (r + n) (last + 1) (and_parts (nat_le first r) (nat_le (r + n) (last + 1)) h).1)

in_holding : (K : Kind) (r n : ℕ) → in_range (holding K) r n ≡ true → r + n ≤ 65536
in_holding Fan r n h = in_range_fits 0xD000 0xD37F r n (omega arith) h
in_holding OlderFan r n h = in_range_fits 0xD000 0xD37F r n (omega arith) h
in_holding Controller r n h = cc

in_input : (K : Kind) (r n : ℕ) → in_range (input K) r n ≡ true → r + n ≤ 65536
in_input Fan r n h = in_range_fits 0xD000 0xD024 r n (omega arith) h
in_input OlderFan r n h = in_range_fits 0xD000 0xD01F r n (omega arith) h
in_input Controller r n h = in_range_fits 100 131 r n (omega arith) h

-- what a question names lies below 65536
pub range_fits : (K : Kind) (a : Action) (r n : ℕ) → in_range (range_of K a) r n ≡ true → r + n ≤ 65536
range_fits K Echo r n h = in_holding K r n h
range_fits K ReadHolding r n h = in_holding K r n h
range_fits K ReadInput r n h = in_input K r n h
range_fits K WriteOne r n h = in_holding K r n h
range_fits K WriteSeveral r n h = in_holding K r n h

abbrev Holds : Kind → Action → Fields → Type 0
Holds K a q = (count_right K a q ≡ true) × (q.register + named a q ≤ 65536)

holds : (K : Kind) (x : State) (a : Action) (q : Fields) → refused_by K x a q ≡ None → Holds K a q
holds K x a q h =
    let p = passed (count_right K a q) (in_range (range_of K a) q.register (named a q)) (may_do x a q) h in
    (p.0, range_fits K a q.register (named a q) p.1)

-- the registers to be written lie below 65536
pub carry_fits : (K : Kind) (x : State) (a : Action) (q : Fields) → q.register < 65536 → refusal K x a q ≡ None → q.register + length (payload a q) / 2 ≤ 65536
carry_fits K x Echo q r h = omega arith
carry_fits K x ReadHolding q r h = omega arith
carry_fits K x ReadInput q r h = omega arith
carry_fits K x WriteOne q r h = omega (arith, (holds K x WriteOne q h).1)
carry_fits K x WriteSeveral q r h =
    let p = holds K x WriteSeveral q h in
    let count = and_parts (nat_le 1 q.value) (q.size == 2 * q.value && length q.contents == 2 * q.value) p.0 in
    let long = eqb-true (length q.contents) (2 * q.value) (and_parts (q.size == 2 * q.value) (length q.contents == 2 * q.value) count.1).1 in
    omega (arith, p.1)

-- at most nine registers are read, and they lie below 65536
read-few : (K : Kind) (c n : ℕ) → (nat_le 1 n && nat_le n (most_read K c)) ≡ true → n ≤ 9
read-few K c n h = omega (arith, leb-true n (most_read K c) (and_parts (nat_le 1 n) (nat_le n (most_read K c)) h).1, few K c)

pub read-fits : (K : Kind) (a : Action) (q : Fields) → (a ≡ ReadHolding) ⊎ (a ≡ ReadInput) → Granted K a q → (q.value ≤ 9) × (q.register + q.value ≤ 65536)
read-fits K ReadHolding q e g = let p = holds K g.state ReadHolding q g.none in (read-few K q.command q.value p.0, p.1)
read-fits K ReadInput q e g = let p = holds K g.state ReadInput q g.none in (read-few K q.command q.value p.0, p.1)
read-fits K Echo q (inl e) g = cc
read-fits K Echo q (inr e) g = cc
read-fits K WriteOne q (inl e) g = cc
read-fits K WriteOne q (inr e) g = cc
read-fits K WriteSeveral q (inl e) g = cc
read-fits K WriteSeveral q (inr e) g = cc

-- a write may be done where all that it names may be written
pub may_do-write : (x : State) (a : Action) (q : Fields) → (a ≡ WriteOne) ⊎ (a ≡ WriteSeveral) → may_do x a q ≡ all_allowed x q.register (named a q)
may_do-write x a q (inl e) = subst (λ (b : Action). may_do x b q ≡ all_allowed x q.register (named b q)) (sym e) refl
may_do-write x a q (inr e) = subst (λ (b : Action). may_do x b q ≡ all_allowed x q.register (named b q)) (sym e) refl

-- what is told of a read
pub told-read : (K : Kind) (x : State) (a : Action) (q : Fields) → (a ≡ ReadHolding) ⊎ (a ≡ ReadInput) → told K x a q ≡ read_out (register_at K x a) q.register q.value
told-read K x a q (inl e) = subst (λ (b : Action). told K x b q ≡ read_out (register_at K x b) q.register q.value) (sym e) refl
told-read K x a q (inr e) = subst (λ (b : Action). told K x b q ≡ read_out (register_at K x b) q.register q.value) (sym e) refl
