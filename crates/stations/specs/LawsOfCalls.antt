-- What the telegrams that the rules of a wall speak of are to a station, what it answers and what it becomes.
use Rattle.std.specs.Prelude.{◌≡◌, ℕ, ◌+◌, ◌*◌, ◌/◌, ◌%◌, ◌<◌, ◌≤◌, Bool, true, false, cond, not, ◌&&◌, ◌||◌, List, ◌∷◌, length, Some, None, Ok, Option, Result, ◌==◌, nat_le, refl}
use Rattle.std.proofs.Common.{sym, ap, ◌∙◌, inl, inr, arith}
use Rattle.std.proofs.lemmas.Bool.{leb-true, and_parts, eqb-true, eq-eqb, ne_eqb, cases_eq}
use Rattle.serial.specs.Six.{six}
use Rattle.telegram.specs.declared.fault.TelegramFault.{TelegramFault}
use Rattle.telegram.specs.declared.forms.Form.{Form}
use Rattle.telegram.specs.Answers.{is_address}
use Rattle.telegram.specs.Forms as forms
use Rattle.telegram.specs.Layout.{Fields, zeros, body}
use Rattle.telegram.specs.Reads.{Opened}
use Rattle.telegram.specs.Writes.{answer, question, extent}
use Rattle.telegram.proofs.Questions.{Written, question_opens, sealed_begins}
use Rattle.wall.specs.Telegrams.{registers, finder, store, adopt, probe}
use Rattle.wall.specs.Rules.{bears, if_bears, found, store_said, storing, adopt_said, adopting}
use Rattle.stations.specs.declared.kind.Kind.{Kind}
use Rattle.stations.specs.declared.kind.Kind.TheVariants.{Fan, OlderFan, Controller}
use Rattle.stations.specs.declared.kind.Action.TheVariants.{ReadHolding, WriteOne}
use Rattle.stations.specs.declared.kind.Refusal.{Refusal}
use Rattle.stations.specs.declared.kind.Refusal.TheVariants.{Write}
use Rattle.stations.specs.declared.rights.Level.{Level}
use Rattle.stations.specs.Rights.{level_needed, may_write}
use Rattle.stations.specs.Device.{State}
use Rattle.stations.specs.Calls.{card, Call, nothing, asked, if_meant, if_opened, call, refusal, after, carried, reply_of, reply, says_to, becomes_by, says, becomes}

-- a question to address 0 or to one station, of four fields

abbrev opened : Form → Fields → Opened
opened F f = record { address = f.address; command = f.command; body = body F f }

call-written : (K : Kind) (x : State) (f : Fields) (F : Form) → Written f F → call K x (question f) ≡ if_opened K x (4 + extent F f) (Ok (opened F f))
call-written K x f F w = (λ i. if_opened K x (w.long i) (w.opened i))

-- by serial to all: only for a fan whose serial the mask fits

abbrev by_mask : Kind → State → Fields → Call
by_mask K x f = cond (bears f.serial (card K x)) (asked f) nothing

module _ (x : State) (mask : List ℕ) (six : length mask ≡ 6) where
  finder-written : Written (registers 0 0x43 mask 0xD100 1) (forms.registers true)
  finder-written = question_opens (registers 0 0x43 mask 0xD100 1) (record { six = six; subfunction16 = omega arith; register16 = omega arith; value16 = omega arith }) (forms.registers true) refl refl (omega arith)

  finder-call : (K : Kind) → call K x (finder mask) ≡ by_mask K x (registers 0 0x43 mask 0xD100 1)
  finder-call Fan = call-written Fan x _ _ finder-written ∙ ap (if_meant Fan x) finder-written.fields
  finder-call OlderFan = call-written OlderFan x _ _ finder-written
  finder-call Controller = call-written Controller x _ _ finder-written

  write_written : (r v : ℕ) → r < 65536 → v < 65536 → Written (registers 0 0x46 mask r v) (forms.registers true)
  write_written r v hr hv = question_opens (registers 0 0x46 mask r v) (record { six = six; subfunction16 = omega arith; register16 = hr; value16 = hv }) (forms.registers true) refl refl (omega arith)

  write_call : (K : Kind) (r v : ℕ) → r < 65536 → v < 65536 → call K x (question (registers 0 0x46 mask r v)) ≡ by_mask K x (registers 0 0x46 mask r v)
  write_call Fan r v hr hv = call-written Fan x _ _ (write_written r v hr hv) ∙ ap (if_meant Fan x) (write_written r v hr hv).fields
  write_call OlderFan r v hr hv = call-written OlderFan x _ _ (write_written r v hr hv) ∙ ap (if_meant OlderFan x) (write_written r v hr hv).fields
  write_call Controller r v hr hv = call-written Controller x _ _ (write_written r v hr hv)

said_if : (b : Bool) (x : State) (f : Fields) (s : List ℕ) → reply Fan x f ≡ Some s → says_to Fan x (cond b (asked f) nothing) ≡ cond b (Some s) None
said_if true x f s h = h
said_if false x f s h = refl

-- finder

same_if : (b : Bool) (x : State) (f : Fields) → carried Fan x f ≡ x → becomes_by Fan x (cond b (asked f) nothing) ≡ x
same_if true x f h = h
same_if false x f h = refl

pub finder-says : (K : Kind) (x : State) (mask : List ℕ) → length mask ≡ 6 → says K x (finder mask) ≡ if_bears mask found (card K x)
finder-says Fan x mask six = ap (says_to Fan x) (finder-call x mask six Fan) ∙ said_if (bears mask (card Fan x)) x (registers 0 0x43 mask 0xD100 1) (found (card Fan x)) refl
finder-says OlderFan x mask six = ap (says_to OlderFan x) (finder-call x mask six OlderFan)
finder-says Controller x mask six = ap (says_to Controller x) (finder-call x mask six Controller)

pub finder-becomes : (K : Kind) (x : State) (mask : List ℕ) → length mask ≡ 6 → becomes K x (finder mask) ≡ x
finder-becomes Fan x mask six = ap (becomes_by Fan x) (finder-call x mask six Fan) ∙ same_if (bears mask (card Fan x)) x (registers 0 0x43 mask 0xD100 1) refl
finder-becomes OlderFan x mask six = ap (becomes_by OlderFan x) (finder-call x mask six OlderFan)
finder-becomes Controller x mask six = ap (becomes_by Controller x) (finder-call x mask six Controller)

-- everybody may write D100 and D000

store_may : (l : Level) → may_write l 0xD100 ≡ true
unfolding level_needed
store_may l = refl

adopt_may : (l : Level) → may_write l 0xD000 ≡ true
unfolding level_needed
adopt_may l = refl

-- store: refused where the station is defective

store_refused_if : (m d : Bool) → m ≡ true → cond (not ((m && not (d && true)) && true)) (Some Write) None ≡ cond d (Some Write) None
store_refused_if true true e = refl
store_refused_if true false e = refl
store_refused_if false d e = cc

module _ (x : State) (serial : List ℕ) (a : ℕ) (fit : a < 256) where
  abbrev storing_it : Fields
  storing_it = registers 0 0x46 serial 0xD100 a

  store_refused : refusal Fan x WriteOne storing_it ≡ cond x.defective (Some Write) None
  store_refused = store_refused_if (may_write x.level 0xD100) x.defective (store_may x.level)

  store_reply_if : (d : Bool) → reply_of Fan x storing_it (cond d (Some Write) None) ≡ cond d (reply_of Fan x storing_it (Some Write)) (reply_of Fan x storing_it None)
  store_reply_if true = refl
  store_reply_if false = refl

  store-reply : reply Fan x storing_it ≡ Some (store_said a (card Fan x))
  store-reply = ap (λ (r : Option Refusal). Some (reply_of Fan x storing_it r)) store_refused ∙ ap Some (store_reply_if x.defective)

  stored_if : (d : Bool) → card Fan (after x storing_it (cond d (Some Write) None)) ≡ record { serial = Some x.serial; address = x.address; stored = cond (not d) a x.stored; defective = x.defective }
  stored_if true = refl
  stored_if false =
      let e : (a / 256 % 256 * 256 + a % 256) % 256 ≡ a = omega arith in
      λ i. record { serial = Some x.serial; address = x.address; stored = e i; defective = x.defective }

  stored_by : (b : Bool) → card Fan (becomes_by Fan x (cond b (asked storing_it) nothing)) ≡ record { serial = Some x.serial; address = x.address; stored = cond (b && not x.defective) a x.stored; defective = x.defective }
  stored_by true = ap (λ (r : Option Refusal). card Fan (after x storing_it r)) store_refused ∙ stored_if x.defective
  stored_by false = refl

pub store-says : (K : Kind) (x : State) (serial : List ℕ) (a : ℕ) → length serial ≡ 6 → a < 256 → says K x (store serial a) ≡ if_bears serial (store_said a) (card K x)
store-says Fan x serial a six fit = ap (says_to Fan x) (write_call x serial six Fan 0xD100 a (omega arith) (omega arith)) ∙ said_if (bears serial (card Fan x)) x (registers 0 0x46 serial 0xD100 a) (store_said a (card Fan x)) (store-reply x serial a fit)
store-says OlderFan x serial a six fit = ap (says_to OlderFan x) (write_call x serial six OlderFan 0xD100 a (omega arith) (omega arith))
store-says Controller x serial a six fit = ap (says_to Controller x) (write_call x serial six Controller 0xD100 a (omega arith) (omega arith))

pub store-becomes : (K : Kind) (x : State) (serial : List ℕ) (a : ℕ) → length serial ≡ 6 → a < 256 → card K (becomes K x (store serial a)) ≡ storing serial a (card K x)
store-becomes Fan x serial a six fit = ap (λ (c : Call). card Fan (becomes_by Fan x c)) (write_call x serial six Fan 0xD100 a (omega arith) (omega arith)) ∙ stored_by x serial a fit (bears serial (card Fan x))
store-becomes OlderFan x serial a six fit = ap (λ (c : Call). card OlderFan (becomes_by OlderFan x c)) (write_call x serial six OlderFan 0xD100 a (omega arith) (omega arith))
store-becomes Controller x serial a six fit = ap (λ (c : Call). card Controller (becomes_by Controller x c)) (write_call x serial six Controller 0xD100 a (omega arith) (omega arith))

-- adopt: never refused

adopt_refused_if : (m d : Bool) → m ≡ true → cond (not ((m && not (d && false)) && true)) (Some Write) None ≡ None
adopt_refused_if true true e = refl
adopt_refused_if true false e = refl
adopt_refused_if false d e = cc

module _ (x : State) (serial : List ℕ) where
  abbrev adopting_it : Fields
  adopting_it = registers 0 0x46 serial 0xD000 2

  adopt_refused : refusal Fan x WriteOne adopting_it ≡ None
  adopt_refused = adopt_refused_if (may_write x.level 0xD000) x.defective (adopt_may x.level)

  -- the address in force after it, where the station is meant
  abbrev forced : Bool → ℕ
  forced b = cond (b && is_address x.stored) x.stored x.address

  adopt-said : (b : Bool) → says_to Fan x (cond b (asked adopting_it) nothing) ≡ cond b (Some (answer (registers (forced b) 0x46 (six x.serial) 0xD000 2))) None
  adopt-said true = ap (λ (r : Option Refusal). Some (reply_of Fan x adopting_it r)) adopt_refused
  adopt-said false = refl

  adopted_by : (b : Bool) → card Fan (becomes_by Fan x (cond b (asked adopting_it) nothing)) ≡ record { serial = Some x.serial; address = forced b; stored = x.stored; defective = x.defective }
  adopted_by true = ap (λ (r : Option Refusal). card Fan (after x adopting_it r)) adopt_refused
  adopted_by false = refl

pub adopt-says : (K : Kind) (x : State) (serial : List ℕ) → length serial ≡ 6 → says K x (adopt serial) ≡ if_bears serial (adopt_said serial) (card K x)
adopt-says Fan x serial six = ap (says_to Fan x) (write_call x serial six Fan 0xD000 2 (omega arith) (omega arith)) ∙ adopt-said x serial (bears serial (card Fan x))
adopt-says OlderFan x serial six = ap (says_to OlderFan x) (write_call x serial six OlderFan 0xD000 2 (omega arith) (omega arith))
adopt-says Controller x serial six = ap (says_to Controller x) (write_call x serial six Controller 0xD000 2 (omega arith) (omega arith))

pub adopt-becomes : (K : Kind) (x : State) (serial : List ℕ) → length serial ≡ 6 → card K (becomes K x (adopt serial)) ≡ adopting serial (card K x)
adopt-becomes Fan x serial six = ap (λ (c : Call). card Fan (becomes_by Fan x c)) (write_call x serial six Fan 0xD000 2 (omega arith) (omega arith)) ∙ adopted_by x serial (bears serial (card Fan x))
adopt-becomes OlderFan x serial six = ap (λ (c : Call). card OlderFan (becomes_by OlderFan x c)) (write_call x serial six OlderFan 0xD000 2 (omega arith) (omega arith))
adopt-becomes Controller x serial six = ap (λ (c : Call). card Controller (becomes_by Controller x c)) (write_call x serial six Controller 0xD000 2 (omega arith) (omega arith))

-- probe: the station at the address answers

not-all : (a : ℕ) → is_address a ≡ true → (a == 0) ≡ false
not-all a h =
    let one : 1 ≤ a = leb-true 1 a (and_parts (nat_le 1 a) (nat_le a 247) h).0 in
    ne_eqb a 0 (λ e. omega arith)

same-eqb : (a b : ℕ) → (a == b) ≡ (b == a)
same-eqb a b = elim (cases_eq a b) [
  | inl e ↦ eq-eqb a b e ∙ sym (eq-eqb b a (sym e))
  | inr n ↦ ne_eqb a b n ∙ sym (ne_eqb b a (λ e. n (sym e)))
]

module _ (x : State) (a : ℕ) (is : is_address a ≡ true) where
  abbrev probing : Fields
  probing = registers a 0x03 zeros 0xD100 1

  probe-written : Written probing (forms.registers false)
  probe-written = question_opens probing (record { six = refl; subfunction16 = omega arith; register16 = omega arith; value16 = omega arith }) (forms.registers false) refl refl (omega arith)

  abbrev by_address : Bool → Call → Call
  by_address all inner = cond (all || a == x.address) inner nothing

  to_address : by_address (a == 0) (asked probing) ≡ cond (x.address == a) (asked probing) nothing
  to_address = ap (λ (z : Bool). by_address z (asked probing)) (not-all a is) ∙ ap (λ (z : Bool). cond z (asked probing) nothing) (same-eqb a x.address)

  probe-call : (K : Kind) → call K x (probe a) ≡ cond (x.address == a) (asked probing) nothing
  probe-call Fan = call-written Fan x _ _ probe-written ∙ ap (λ (r : Result Fields TelegramFault). by_address (a == 0) (if_meant Fan x r)) probe-written.fields ∙ to_address
  probe-call OlderFan = call-written OlderFan x _ _ probe-written ∙ ap (λ (r : Result Fields TelegramFault). by_address (a == 0) (if_meant OlderFan x r)) probe-written.fields ∙ to_address
  probe-call Controller = call-written Controller x _ _ probe-written ∙ ap (λ (r : Result Fields TelegramFault). by_address (a == 0) (if_meant Controller x r)) probe-written.fields ∙ to_address

  -- a controller has no such register, and says so
  probe_replies : (K : Kind) → (rest : List ℕ) × (reply_of K x probing (refusal K x ReadHolding probing) ≡ x.address ∷ rest)
  probe_replies Fan = (_, sealed_begins x.address _)
  probe_replies OlderFan = (_, sealed_begins x.address _)
  probe_replies Controller = (_, sealed_begins x.address _)

  probe-reply : (K : Kind) → (rest : List ℕ) × (reply K x probing ≡ Some (x.address ∷ rest))
  probe-reply K =
      let p = probe_replies K in
      (p.0, ap (λ (z : Bool). cond (z && true) None (Some (reply_of K x probing (refusal K x ReadHolding probing)))) (not-all a is) ∙ ap Some p.1)

  probe-same : (K : Kind) → carried K x probing ≡ x
  probe-same Fan = refl
  probe-same OlderFan = refl
  probe-same Controller = refl

  probe-said : (K : Kind) (b : Bool) → (x.address == a) ≡ b → cond b ((rest : List ℕ) × (says K x (probe a) ≡ Some (a ∷ rest))) (says K x (probe a) ≡ None)
  probe-said K true e =
      let p = probe-reply K in
      (p.0, ap (says_to K x) (probe-call K ∙ ap (λ (z : Bool). cond z (asked probing) nothing) e) ∙ p.1 ∙ ap (λ n. Some (n ∷ p.0)) (eqb-true x.address a e))
  probe-said K false e = ap (says_to K x) (probe-call K ∙ ap (λ (z : Bool). cond z (asked probing) nothing) e)

  pub probe-says : (K : Kind) → cond (x.address == a) ((rest : List ℕ) × (says K x (probe a) ≡ Some (a ∷ rest))) (says K x (probe a) ≡ None)
  probe-says K = probe-said K (x.address == a) refl

  probed-same : (K : Kind) (b : Bool) → becomes_by K x (cond b (asked probing) nothing) ≡ x
  probed-same K true = probe-same K
  probed-same K false = refl

  pub probe-becomes : (K : Kind) → becomes K x (probe a) ≡ x
  probe-becomes K = ap (becomes_by K x) (probe-call K) ∙ probed-same K (x.address == a)
