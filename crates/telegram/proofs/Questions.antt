-- What a question that was read holds, and what is read of a question that was written.
use Rattle.std.proofs.Common.{◌≡◌, ℕ, ◌+◌, ◌-◌, ◌≤◌, Bool, true, false, cond, ◌&&◌, leb, List, [], ◌∷◌, ◌++◌, length, drop, Some, None, Ok, Err, Option, Result, sym, refl, ap, ◌∙◌, subst, inl, inr, arith}
use Rattle.std.proofs.lemmas.List.{length-drop, length-take, length-append}
use Rattle.std.proofs.lemmas.Bool.{leb-true, and_parts, cond-true, cases_Bool, cases_eq, ne_eqb}
use Rattle.telegram.specs.declared.fault.TelegramFault.{TelegramFault}
use Rattle.telegram.specs.declared.fault.TelegramFault.TheVariants.{Length, Checksum}
use Rattle.telegram.specs.declared.forms.Form.{Form}
use Rattle.telegram.specs.Forms.{span, question_form, exception_tells_serial, fits}
use Rattle.telegram.specs.Layout.{Fields, part, seal, sealed, has_seal, in_size, body_of, body, encode, decode, plain, past_serial, past_subfunction, past_register, past_value, past_size, past_code}
use Rattle.telegram.specs.Reads.{Opened, inside, opening, read_as_result, as_question}
use Rattle.telegram.specs.Writes.{or_none, question, extent, exception_to, exception_length, raised}
use Rattle.telegram.proofs.Bodies.{Sized, part-long, body-long, decode-body, long_enough, long_exactly}
use Rattle.telegram.proofs.Seals.{sealed-long, opening-sealed}
use Rattle.telegram.proofs.Accepts.{no_err, found_as, encode-long}

pub exception-long : (address c : ℕ) (serial : List ℕ) (code : ℕ) → length serial ≡ 6 → length (exception_to address c serial code) ≡ exception_length c code
exception-long address c serial code six =
    let long = sealed-long (address ∷ raised c ∷ (part (exception_tells_serial c code) serial ++ code ∷ [])) in
    let tail = length-append (part (exception_tells_serial c code) serial) (code ∷ []) in
    let p = part-long (exception_tells_serial c code) 6 serial six in
    let e : (t : Bool) → span t 6 + 5 ≡ cond t 11 5 = λ t. elim t as (λ (s : Bool). span s 6 + 5 ≡ cond s 11 5) [ true ↦ refl | false ↦ refl ] in
    omega (arith, e (exception_tells_serial c code))

-- a sealed telegram begins with its address
pub sealed_begins : (a : ℕ) (b : List ℕ) → sealed (a ∷ b) ≡ a ∷ (b ++ seal (a ∷ b))
unfolding sealed
sealed_begins a b = refl

-- what is opened has a body of at most 19 bytes

opened-long : (bs : List ℕ) → in_size bs ≡ true → length (body_of bs) ≤ 19
opened-long bs h =
    let l : length bs ≤ 23 = leb-true (length bs) 23 (and_parts (leb 4 (length bs)) _ h).1 in
    omega (arith, length-take (length bs - 4) (drop 2 bs))

opened_if : (s k : Bool) (x o : Opened) → ◌≡◌ {A = Result Opened TelegramFault} (cond s (cond k (Ok x) (Err Checksum)) (Err Length)) (Ok o) → (s ≡ true) × (x ≡ o)
opened_if true true x o h = (refl, (cc))
opened_if true false x o h = absurd (no_err Checksum o h)
opened_if false k x o h = absurd (no_err Length o h)

pub opening-short : (bs : List ℕ) (o : Opened) → opening bs ≡ Ok o → length o.body ≤ 19
opening-short bs o h =
    let p = opened_if (in_size bs) (has_seal bs) (inside bs) o h in
    subst (λ (w : Opened). length w.body ≤ 19) p.1 (opened-long bs p.0)

-- and where a length or a checksum is wrong there is nothing to open
opened-no : (s k : Bool) (x : Opened) → (s && k) ≡ false → (e : TelegramFault) × (◌≡◌ {A = Result Opened TelegramFault} (cond s (cond k (Ok x) (Err Checksum)) (Err Length)) (Err e))
opened-no true true x h = cc
opened-no true false x h = (Checksum, refl)
opened-no false k x h = (Length, refl)

pub opening-broken : (bs : List ℕ) → (in_size bs && has_seal bs) ≡ false → (e : TelegramFault) × (opening bs ≡ Err e)
opening-broken bs h = opened-no (in_size bs) (has_seal bs) (inside bs) h

-- the fields of a body are as long as it
pub decode-extent : (F : Form) (a c : ℕ) (b : List ℕ) → fits F (length b) ≡ true → extent F (decode F a c b) ≡ length b
decode-extent F a c b fit =
    let n = long_enough F (length b) fit in
    let l1 = length-drop (span F.serial 6) b in
    let l2 = length-drop (span F.subfunction 2) (past_serial F b) in
    let l3 = length-drop (span F.register 2) (past_subfunction F b) in
    let l4 = length-drop (span F.value 2) (past_register F b) in
    let l5 = length-drop (span F.size 1) (past_value F b) in
    let l6 = length-drop (span F.code 1) (past_size F b) in
    elim (cases_Bool F.«data») [
      | inl has ↦
          let e : span F.«data» (length (cond F.«data» (past_code F b) [])) ≡ length (past_code F b) = simp has in
          omega arith
      | inr lacks ↦
          let e : span F.«data» (length (cond F.«data» (past_code F b) [])) ≡ 0 = simp lacks in
          omega (arith, long_exactly F (length b) fit lacks)
    ]

-- a question that was read: its fields fit the form of its command, and a telegram
pub record IsQuestion (q : Fields) : Type 0 where
  pub form : Form
  pub known : question_form q.command ≡ Some form
  pub fit : fits form (extent form q) ≡ true
  pub short : extent form q ≤ 19

pub is-question : (o : Opened) (q : Fields) → as_question o ≡ Ok q → length o.body ≤ 19 → IsQuestion q
is-question o q h short =
    let r = found_as (question_form o.command) o q h in
    let F = r.form in
    let long : extent F q ≡ length o.body = ap (extent F) (sym r.fields) ∙ decode-extent F o.address o.command o.body r.fit in
    let c : q.command ≡ o.command = ap (λ (g : Fields). g.command) (sym r.fields) in
    record { form = F; known = ap question_form c ∙ r.known; fit = ap (fits F) long ∙ r.fit; short = omega arith }

-- the commands of questions are nine

no-form : (F : Form) → ◌≡◌ {A = Option Form} None (Some F) → ⊥
no-form F e = cc

else_by : (P : ℕ → Type 0) (c k : ℕ) → P k → ((c ≡ k → ⊥) → P c) → P c
else_by P c k p other = elim (cases_eq c k) [ inl e ↦ subst P (sym e) p | inr n ↦ other n ]

pub each_question : (P : ℕ → Type 0) → P 0x03 → P 0x04 → P 0x06 → P 0x08 → P 0x10 → P 0x43 → P 0x44 → P 0x46 → P 0x50 → (c : ℕ) (F : Form) → question_form c ≡ Some F → P c
each_question P p03 p04 p06 p08 p10 p43 p44 p46 p50 c F h =
    else_by P c 0x03 p03 (λ n03.
    else_by P c 0x04 p04 (λ n04.
    else_by P c 0x06 p06 (λ n06.
    else_by P c 0x08 p08 (λ n08.
    else_by P c 0x10 p10 (λ n10.
    else_by P c 0x43 p43 (λ n43.
    else_by P c 0x44 p44 (λ n44.
    else_by P c 0x46 p46 (λ n46.
    else_by P c 0x50 p50 (λ n50.
    let none : question_form c ≡ None = simp (ne_eqb c 0x03 n03, ne_eqb c 0x04 n04, ne_eqb c 0x06 n06, ne_eqb c 0x08 n08, ne_eqb c 0x10 n10, ne_eqb c 0x43 n43, ne_eqb c 0x44 n44, ne_eqb c 0x46 n46, ne_eqb c 0x50 n50) in
    absurd (no-form F (sym none ∙ h)))))))))))

-- a question that was written is opened, and read as the fields that its form has

pub record Written (f : Fields) (F : Form) : Type 0 where
  pub long : length (question f) ≡ 4 + extent F f
  pub opened : opening (question f) ≡ Ok (record { address = f.address; command = f.command; body = body F f })
  pub fields : as_question (record { address = f.address; command = f.command; body = body F f }) ≡ Ok (plain F f)

pub question_opens : (f : Fields) → Sized f → (F : Form) → question_form f.command ≡ Some F → fits F (extent F f) ≡ true → 4 + extent F f ≤ 23 → Written f F
question_opens f s F known fit short =
    let is : question f ≡ encode F f = ap (λ (k : Option Form). encode (or_none k) f) known in
    let o : Opened = record { address = f.address; command = f.command; body = body F f } in
    let long = body-long F f s.six in
    record {
      long = ap length is ∙ encode-long F f s.six;
      opened = ap opening is ∙ opening-sealed f.address f.command (body F f) (omega arith);
      fields = ap (λ (k : Option Form). read_as_result k o) known ∙ cond-true _ _ _ (ap (fits F) long ∙ fit) ∙ ap Ok (decode-body F f s);
    }
