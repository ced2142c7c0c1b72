-- A question that is carried out has an answer of at most 23 bytes.
use Rattle.std.specs.Prelude.{◌≡◌, ℕ, zero, suc, ◌+◌, ◌*◌, ◌≤◌, Bool, true, false, cond, not, ◌&&◌, ◌||◌, List, length, Some, None, Ok, Err, Option, Result, ◌==◌, ◌≢◌, nat_le, refl}
use Rattle.std.proofs.Common.{sym, ap, subst, ◌∙◌, arith}
use Rattle.std.proofs.lemmas.List.{length-append}
use Rattle.std.proofs.lemmas.Bool.{leb-true, le-leb, and_parts, cond-true}
use Rattle.telegram.specs.declared.fault.TelegramFault.{TelegramFault}
use Rattle.telegram.specs.declared.forms.Form.{Form}
use Rattle.telegram.specs.Forms.{registers, contents, diagnostics, by_serial, answer_form, fits}
use Rattle.telegram.specs.Layout.{Fields, word, encode}
use Rattle.telegram.specs.Reads.{Opened, opening, as_question}
use Rattle.telegram.specs.Writes.{or_none, answer, extent, write_as_result, write_answer_result}
use Rattle.telegram.proofs.Accepts.{encode-long}
use Rattle.telegram.proofs.Questions.{IsQuestion, is-question, each_question, opening-short}
use Rattle.stations.specs.declared.kind.Kind.{Kind}
use Rattle.stations.specs.declared.kind.Kind.TheVariants.{Fan, OlderFan, Controller}
use Rattle.stations.specs.declared.kind.Action.{Action}
use Rattle.stations.specs.declared.kind.Action.TheVariants.{ReadHolding, ReadInput}
use Rattle.stations.specs.declared.kind.Refusal.{Refusal}
use Rattle.stations.specs.declared.kind.Refusal.TheVariants.{Count}
use Rattle.stations.specs.Kinds.{longest, knows, most_read, action}
use Rattle.stations.specs.Device.{State, register_at, read_out}
use Rattle.stations.specs.Calls.{Call, nothing, unknown, asked, meant, if_meant, if_opened, call, count_right, refused_by, refusal, told, done}

pub read_out-long : (at : ℕ → ℕ) (r n : ℕ) → length (read_out at r n) ≡ 2 * n
read_out-long at r zero = refl
read_out-long at r (suc n) = omega (arith, length-append (read_out at r n) (word (at (r + n))), read_out-long at r n)

-- the same fields under a command
abbrev under : ℕ → Fields → Fields
under c q = record { address = q.address; command = c; serial = q.serial; subfunction = q.subfunction; register = q.register; value = q.value; size = q.size; code = q.code; contents = q.contents }

-- the answer has a form, which it fits, and the length of a telegram
pub record Answers (f : Fields) : Type 0 where
  pub form : Form
  pub known : answer_form f.command f.code ≡ Some form
  pub fit : fits form (extent form f) ≡ true
  pub short : extent form f ≤ 19

-- what is not refused has its count right
counted_if : (count : Bool) (rest : Option Refusal) → cond (not count) (Some Count) rest ≡ None → count ≡ true
counted_if true rest h = refl
counted_if false rest h = cc

few_if : (b : Bool) → cond b 6 9 ≤ 9
few_if true = omega arith
few_if false = omega arith

pub few : (K : Kind) (c : ℕ) → most_read K c ≤ 9
few Fan c = few_if (by_serial c)
few OlderFan c = omega arith
few Controller c = omega arith

fewer : (K : Kind) (c : ℕ) → by_serial c ≡ true → most_read K c ≤ 6
fewer Fan c h = subst (λ (b : Bool). cond b 6 9 ≤ 6) (sym h) (omega arith)
fewer OlderFan c h = omega arith
fewer Controller c h = omega arith

-- the answers that hold what was read, and those that repeat register and value
read_answers : (f : Fields) (serial : Bool) (n : ℕ) → answer_form f.command f.code ≡ Some (contents serial) → length f.contents ≡ 2 * n → n ≤ cond serial 6 9 → Answers f
read_answers f true n k e h = record { form = contents true; known = k; fit = le-leb _ _ (omega arith); short = omega arith }
read_answers f false n k e h = record { form = contents false; known = k; fit = le-leb _ _ (omega arith); short = omega arith }

write_answers : (f : Fields) (serial : Bool) → answer_form f.command f.code ≡ Some (registers serial) → Answers f
write_answers f true k = record { form = registers true; known = k; fit = refl; short = omega arith }
write_answers f false k = record { form = registers false; known = k; fit = refl; short = omega arith }

abbrev Answered : Kind → State → State → ℕ → Type 0
Answered K x y c = (q : Fields) → IsQuestion (under c q) → refusal K x (action c) (under c q) ≡ None → Answers (done K y (under c q))

module _ (K : Kind) (x y : State) where
  read_count : (a : Action) (q : Fields) → refused_by K x a q ≡ None → count_right K a q ≡ true
  read_count a q h = counted_if (count_right K a q) _ h

  most : (m n : ℕ) → (nat_le 1 n && nat_le n m) ≡ true → n ≤ m
  most m n h = leb-true n m (and_parts (nat_le 1 n) (nat_le n m) h).1

  at03 : Answered K x y 0x03
  at03 q is h =
      let n = most (most_read K 0x03) q.value (read_count ReadHolding (under 0x03 q) h) in
      read_answers (done K y (under 0x03 q)) false q.value refl (read_out-long (register_at K y ReadHolding) q.register q.value) (omega (arith, few K 0x03))

  at04 : Answered K x y 0x04
  at04 q is h =
      let n = most (most_read K 0x04) q.value (read_count ReadInput (under 0x04 q) h) in
      read_answers (done K y (under 0x04 q)) false q.value refl (read_out-long (register_at K y ReadInput) q.register q.value) (omega (arith, few K 0x04))

  at43 : Answered K x y 0x43
  at43 q is h =
      let n = most (most_read K 0x43) q.value (read_count ReadHolding (under 0x43 q) h) in
      read_answers (done K y (under 0x43 q)) true q.value refl (read_out-long (register_at K y ReadHolding) q.register q.value) (omega (arith, fewer K 0x43 refl))

  at44 : Answered K x y 0x44
  at44 q is h =
      let n = most (most_read K 0x44) q.value (read_count ReadInput (under 0x44 q) h) in
      read_answers (done K y (under 0x44 q)) true q.value refl (read_out-long (register_at K y ReadInput) q.register q.value) (omega (arith, fewer K 0x44 refl))

  -- the data of an echo are those of the question
  at08 : Answered K x y 0x08
  at08 q is h =
      let e : is.form ≡ diagnostics = let k = is.known in cc in
      record {
        form = diagnostics;
        known = refl;
        fit = subst (λ (F : Form). fits F (extent F (under 0x08 q)) ≡ true) e is.fit;
        short = subst (λ (F : Form). extent F (under 0x08 q) ≤ 19) e is.short;
      }

  pub done_answers : (q : Fields) → IsQuestion q → refusal K x (action q.command) q ≡ None → Answers (done K y q)
  done_answers q is h =
      each_question (Answered K x y) at03 at04 (λ q is h. write_answers (done K y (under 0x06 q)) false refl) at08 (λ q is h. write_answers (done K y (under 0x10 q)) false refl)
      at43 at44 (λ q is h. write_answers (done K y (under 0x46 q)) true refl) (λ q is h. write_answers (done K y (under 0x50 q)) true refl)
      q.command is.form is.known q is h

-- and at most 19 bytes of data

abbrev Short : Kind → State → State → ℕ → Type 0
Short K x y c = (q : Fields) → IsQuestion (under c q) → refusal K x (action c) (under c q) ≡ None → length (told K y (action c) (under c q)) ≤ 19

module _ (K : Kind) (x y : State) where
  short-read : (c : ℕ) (at : ℕ → ℕ) (r n : ℕ) → n ≤ most_read K c → length (read_out at r n) ≤ 19
  short-read c at r n h = omega (arith, read_out-long at r n, few K c)

  short08 : Short K x y 0x08
  short08 q is h =
      let e : is.form ≡ diagnostics = let k = is.known in cc in
      let n = subst (λ (F : Form). extent F (under 0x08 q) ≤ 19) e is.short in
      omega arith

  pub told-short : (q : Fields) → IsQuestion q → refusal K x (action q.command) q ≡ None → length (told K y (action q.command) q) ≤ 19
  told-short q is h =
      each_question (Short K x y)
      (λ q is h. short-read 0x03 (register_at K y ReadHolding) q.register q.value (most K x y (most_read K 0x03) q.value (read_count K x y ReadHolding (under 0x03 q) h)))
      (λ q is h. short-read 0x04 (register_at K y ReadInput) q.register q.value (most K x y (most_read K 0x04) q.value (read_count K x y ReadInput (under 0x04 q) h)))
      (λ q is h. omega arith) short08 (λ q is h. omega arith)
      (λ q is h. short-read 0x43 (register_at K y ReadHolding) q.register q.value (most K x y (most_read K 0x43) q.value (read_count K x y ReadHolding (under 0x43 q) h)))
      (λ q is h. short-read 0x44 (register_at K y ReadInput) q.register q.value (most K x y (most_read K 0x44) q.value (read_count K x y ReadInput (under 0x44 q) h)))
      (λ q is h. omega arith) (λ q is h. omega arith)
      q.command is.form is.known q is h

-- such fields are written, and the answer has 4 to 23 bytes

pub answers_long : (f : Fields) → Answers f → length f.serial ≡ 6 → (4 ≤ length (answer f)) × (length (answer f) ≤ 23)
answers_long f a six =
    let long : length (answer f) ≡ 4 + extent a.form f = ap (λ (k : Option Form). length (encode (or_none k) f)) a.known ∙ encode-long a.form f six in
    (omega arith, omega arith)

pub answers_write : (f : Fields) → Answers f → length f.serial ≡ 6 → (room : ℕ) → 23 ≤ room → write_answer_result f room ≡ Ok (length (answer f))
answers_write f a six room h =
    let F = a.form in
    let W : Option Form → Type 0 = λ k. write_as_result k f room ≡ Ok (length (encode (or_none k) f)) in
    let at : W (Some F) =
    cond-true (nat_le (4 + extent F f) 23) _ _ (le-leb (4 + extent F f) 23 (omega arith))
    ∙ cond-true (fits F (extent F f)) _ _ a.fit
    ∙ cond-true (nat_le 23 room) _ _ (le-leb 23 room h)
    ∙ ap Ok (sym (encode-long F f six)) in
    subst W (sym a.known) at

-- a question that a station takes was read from a telegram

untaken : (q : Fields) → nothing ≢ asked q
untaken q h = cc

taken_if : (b k z : Bool) (c : ℕ) (inner : Call) (q : Fields) → cond b (cond k inner (cond z nothing (unknown c))) nothing ≡ asked q → inner ≡ asked q
taken_if true true z c inner q h = h
taken_if true false true c inner q h = absurd (untaken q h)
taken_if true false false c inner q h = cc
taken_if false k z c inner q h = absurd (untaken q h)

meant_if : (b : Bool) (p q : Fields) → cond b (asked p) nothing ≡ asked q → p ≡ q
meant_if true p q h = cc
meant_if false p q h = absurd (untaken q h)

taken-read : (K : Kind) (x : State) (r : Result Fields TelegramFault) (q : Fields) → if_meant K x r ≡ asked q → r ≡ Ok q
taken-read K x (Ok p) q h = ap Ok (meant_if (meant K x p) p q h)
taken-read K x (Err e) q h = absurd (untaken q h)

taken-opened : (K : Kind) (x : State) (n : ℕ) (r : Result Opened TelegramFault) (q : Fields) → if_opened K x n r ≡ asked q → (o : Opened) × (r ≡ Ok o) × (as_question o ≡ Ok q)
taken-opened K x n (Ok o) q h = (o, refl, taken-read K x (as_question o) q (taken_if (nat_le n (longest K) && (o.address == 0 || o.address == x.address)) (knows K o.command) (o.address == 0) o.command (if_meant K x (as_question o)) q h))
taken-opened K x n (Err e) q h = absurd (untaken q h)

pub asked-question : (K : Kind) (x : State) (t : List ℕ) (q : Fields) → call K x t ≡ asked q → IsQuestion q
asked-question K x t q h =
    let o = taken-opened K x (length t) (opening t) q h in
    is-question o.0 q o.2 (opening-short t o.0 o.1)
