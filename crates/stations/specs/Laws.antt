-- What every kind of station owes.
use Rattle.std.specs.Prelude.{◌≡◌, ℕ, ◌<◌, ◌≤◌, Bool, true, false, cond, not, ◌&&◌, List, [], ◌∷◌, length, is_some, Some, None, Option, ◌==◌, nat_le, refl}
use Rattle.std.proofs.Common.{sym, ap, ◌∙◌, subst, arith}
use Rattle.std.proofs.lemmas.Bool.{leb-true, and_parts}
use Rattle.serial.specs.Six.{six, fair}
use Rattle.telegram.specs.Answers.{is_address}
use Rattle.telegram.specs.Forms.{by_serial, exception_tells_serial}
use Rattle.telegram.specs.Layout.{Fields}
use Rattle.telegram.proofs.Questions.{IsQuestion, exception-long, opening-broken}
use Rattle.wall.specs.declared.card.Card.{Card}
use Rattle.wall.specs.Wall.{Wall, Reply, answer, together, counted, GoodStation}
use Rattle.wall.specs.Telegrams.{finder, store, adopt, probe}
use Rattle.wall.specs.Rules.{Probed, Sized, Rules, bare}
use Rattle.wall.specs.Laws.{alone, new_card, StationLaws}
use Rattle.stations.specs.declared.kind.Kind.{Kind}
use Rattle.stations.specs.declared.kind.Refusal.{Refusal}
use Rattle.stations.specs.declared.kind.Refusal.TheVariants.{Function}
use Rattle.stations.specs.declared.device.Device.{Device}
use Rattle.stations.specs.Kinds.{speaks, action, code_of}
use Rattle.stations.specs.Device.{State, fresh}
use Rattle.stations.specs.Calls.{card, Call, nothing, unknown, asked, if_opened, call, refusal, after, done, exception, reply_of, says_to, becomes_by, says, becomes}
use Rattle.stations.specs.Parts.{state}
use Rattle.stations.specs.Sizes.{done_answers, answers_long, asked-question}
use Rattle.stations.specs.LawsOfWrites.{Became, became_by}
use Rattle.stations.specs.LawsOfCalls.{finder-says, finder-becomes, store-says, store-becomes, adopt-says, adopt-becomes, probe-says, probe-becomes}

abbrev one : Option (List ℕ) → Reply
one o = together (o ∷ [])

abbrev lone : Kind → Card → Wall
lone K c = counted (alone (speaks K) c)

-- an answer has 4 to 23 bytes

eleven_or_five : (t : Bool) (n : ℕ) → n ≡ cond t 11 5 → (4 ≤ n) × (n ≤ 23)
eleven_or_five true n e = (omega arith, omega arith)
eleven_or_five false n e = (omega arith, omega arith)

exception-sized : (x : State) (c : ℕ) (f : Refusal) → Sized (answer (exception x c f))
exception-sized x c f = eleven_or_five (exception_tells_serial c (code_of f)) _ (exception-long x.address c (six x.serial) (code_of f) refl)

reply-sized : (K : Kind) (x : State) (q : Fields) (r : Option Refusal) → IsQuestion q → refusal K x (action q.command) q ≡ r → Sized (answer (reply_of K x q r))
reply-sized K x q (Some f) is e = exception-sized x q.command f
reply-sized K x q None is e = answers_long (done K (after x q None) q) (done_answers K x (after x q None) q is e) refl

unless_sized : (b : Bool) (bytes : List ℕ) → Sized (answer bytes) → Sized (one (cond b None (Some bytes)))
unless_sized true bytes h = tt
unless_sized false bytes h = h

call-sized : (K : Kind) (x : State) (c : Call) → ((q : Fields) → c ≡ asked q → IsQuestion q) → Sized (one (says_to K x c))
call-sized K x nothing is = tt
call-sized K x (unknown c) is = exception-sized x c Function
call-sized K x (asked q) is =
    let r = refusal K x (action q.command) q in
    unless_sized (q.address == 0 && not (by_serial q.command)) (reply_of K x q r) (reply-sized K x q r (is q refl) refl)

-- a card but for its addresses stays, and one that can be stays one

bare-same : (K : Kind) (x y : State) → Became x y → bare (card K y) ≡ bare (card K x)
bare-same K x y b = λ i. record { serial = cond (speaks K) (Some (b.serial i)) None; address = 0; stored = 0; defective = b.defective i }

good_stays : (K : Kind) (x y : State) → Became x y → GoodStation (speaks K) (Some (card K x)) → GoodStation (speaks K) (Some (card K y))
good_stays K x y b g =
    let same : (card K y).serial ≡ (card K x).serial = ap (λ (n : ℕ). cond (speaks K) (Some n) None) b.serial in (
      record {
        serial = λ s e. g.0.serial s (sym same ∙ e);
        address = b.address g.0.address;
        stored = b.stored g.0.stored;
      },
      ap is_some same ∙ g.1,
    )

-- probe: as many answer as have the address in force
probed : (a : ℕ) (b : Bool) (said : Option (List ℕ)) → cond b ((rest : List ℕ) × (said ≡ Some (a ∷ rest))) (said ≡ None) → Probed a (cond b 1 0) (one said)
probed a true said p = (p.0, ap one p.1)
probed a false said p = ap one p

byte : (a : ℕ) → is_address a ≡ true → a < 256
byte a h =
    let most : a ≤ 247 = leb-true a 247 (and_parts (nat_le 1 a) (nat_le a 247) h).1 in
    omega arith

pub device_rules : (K : Kind) (x : State) (t : List ℕ) → Rules (alone (speaks K) (card K x)) t (together (says K x t ∷ [])) (counted (alone (speaks K) (card K (becomes K x t))))
device_rules K x t =
    let became = became_by K x (call K x t) in
    let said : (u : List ℕ) → t ≡ u → one (says K x t) ≡ one (says K x u) = λ u e. ap (λ (l : List ℕ). one (says K x l)) e in
    let turned : (u : List ℕ) → t ≡ u → lone K (card K (becomes K x t)) ≡ lone K (card K (becomes K x u)) = λ u e. ap (λ (l : List ℕ). lone K (card K (becomes K x l))) e in
    record {
      broken = λ h.
          let c : call K x t ≡ nothing = ap (if_opened K x (length t)) (opening-broken t h).1 in
          (ap (λ (k : Call). one (says_to K x k)) c, ap (λ (k : Call). lone K (card K (becomes_by K x k))) c);
      finder = λ mask l e. (
        said (finder mask) e ∙ ap one (finder-says K x mask l),
        turned (finder mask) e ∙ ap (λ (y : State). lone K (card K y)) (finder-becomes K x mask l),
      );
      store = λ serial a l z is e. (
        said (store serial a) e ∙ ap one (store-says K x serial a l (byte a is)),
        turned (store serial a) e ∙ ap (lone K) (store-becomes K x serial a l (byte a is)),
      );
      adopt = λ serial l z e. (
        said (adopt serial) e ∙ ap one (adopt-says K x serial l),
        turned (adopt serial) e ∙ ap (lone K) (adopt-becomes K x serial l),
      );
      probe = λ a is e. (
        subst (Probed a (cond (x.address == a) 1 0)) (sym (said (probe a) e)) (probed a (x.address == a) (says K x (probe a)) (probe-says x a is K)),
        turned (probe a) e ∙ ap (λ (y : State). lone K (card K y)) (probe-becomes x a is K),
      );
      others = ap (lone K) (bare-same K x (becomes K x t) became);
      keeps = λ g. (good_stays K x (becomes K x t) became g.0, tt);
      quiet = λ h. cc;
      sized = call-sized K x (call K x t) (asked-question K x t);
    }

pub device_made : (K : Kind) (serial address : ℕ) (defective : Bool) → card K (fresh serial address defective) ≡ new_card (speaks K) serial address defective
device_made K serial address defective = refl

-- a card that can be, from a state that can be

shown-serial : (speaks : Bool) (n s : ℕ) → cond speaks (Some n) None ≡ Some s → n ≡ s
shown-serial true n s e = cc
shown-serial false n s e = cc

shown_or_none : (speaks : Bool) (n : ℕ) → is_some (cond speaks (Some n) None) ≡ speaks
shown_or_none true n = refl
shown_or_none false n = refl

pub state-good : (K : Kind) (x : State) → fair x.serial ≡ true → is_address x.address ≡ true → x.stored < 256 → GoodStation (speaks K) (Some (card K x))
state-good K x serial address stored = (
  record {
    serial = λ s e. subst (λ (n : ℕ). fair n ≡ true) (shown-serial (speaks K) x.serial s e) serial;
    address = address;
    stored = stored;
  },
  shown_or_none (speaks K) x.serial,
)

pub device_good : (K : Kind) (d : Device) → GoodStation (speaks K) (Some (card K (state d)))
device_good K d = state-good K (state d) d.serial.ok d.address.ok d.byte

-- the laws of whatever holds such a state
pub device_laws : {Y : Type 0} (K : Kind) (show : Y → State) → ((y : Y) → GoodStation (speaks K) (Some (card K (show y)))) → StationLaws show (speaks K) (card K) (says K) (becomes K) fresh
device_laws K show good = record { rules = device_rules K; made = device_made K; good = good }
