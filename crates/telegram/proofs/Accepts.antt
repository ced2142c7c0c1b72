-- What is written reads as the same fields, and what is accepted is what its fields write.
use Rattle.std.proofs.Common.{◌≡◌, ℕ, suc, ◌+◌, ◌-◌, ◌≤◌, Bool, true, false, cond, ltb, List, [], ◌∷◌, length, get_or, take, drop, IfOk, Some, None, Ok, Err, Option, Result, sym, refl, ap, ◌∙◌, subst, inl, inr, arith}
use Rattle.std.proofs.lemmas.List.{length-take, take_at, get_or-take, get_or-drop, get_or_past, length-append, get_or_at}
use Rattle.std.proofs.lemmas.Bool.{leb-true, and_parts, cond-true, cases_lt}
use Rattle.telegram.specs.declared.fault.TelegramFault.{TelegramFault}
use Rattle.telegram.specs.declared.fault.TelegramFault.TheVariants.{Length, Checksum, Command, FormLength, Buffer}
use Rattle.telegram.specs.declared.forms.Form.{Form}
use Rattle.telegram.specs.Forms.{exception, exception_tells_serial, by_serial, done_form, question_form, exception_form, answer_form, fixed, fits}
use Rattle.telegram.specs.Layout.{Fields, sealed, unsealed, has_seal, in_size, body_of, body, encode, decode, plain}
use Rattle.telegram.specs.Reads.{Opened, inside, opening, and_then, read_as_result, read_question_result, read_answer_result}
use Rattle.telegram.specs.Writes.{or_none, question, answer, extent, write_as_result, filled}
use Rattle.telegram.specs.Parts.{shown}
use Rattle.telegram.proofs.Bodies.{Sized, Bytes, small_past, decode-body, body-decode, body-long, long_exactly}
use Rattle.telegram.proofs.Seals.{sealed-long, opening-sealed, sealed-back}

-- an Ok is no Err
pub no_err : {X E : Type 0} (e : E) (x : X) → ◌≡◌ {A = Result X E} (Err e) (Ok x) → ⊥
no_err e x h = cc

-- what held where a reading gave fields

pub record OpenedAs (bs : List ℕ) (f : Fields) (k : Opened → Result Fields TelegramFault) : Type 0 where
  pub in_size : in_size bs ≡ true
  pub has_seal : has_seal bs ≡ true
  pub fields : k (inside bs) ≡ Ok f

opened_if : (s k : Bool) (x : Opened) (g : Opened → Result Fields TelegramFault) (f : Fields) → and_then (cond s (cond k (Ok x) (Err Checksum)) (Err Length)) g ≡ Ok f → (s ≡ true) × (k ≡ true) × (g x ≡ Ok f)
opened_if true true x g f h = (refl, refl, h)
opened_if true false x g f h = absurd (no_err Checksum f h)
opened_if false k x g f h = absurd (no_err Length f h)

pub opened-as : (bs : List ℕ) (f : Fields) (k : Opened → Result Fields TelegramFault) → and_then (opening bs) k ≡ Ok f → OpenedAs bs f k
opened-as bs f k h =
    let p = opened_if (in_size bs) (has_seal bs) (inside bs) k f h in
    record { in_size = p.0; has_seal = p.1; fields = p.2 }

pub record FoundAs (found : Option Form) (o : Opened) (f : Fields) : Type 0 where
  pub form : Form
  pub known : found ≡ Some form
  pub fit : fits form (length o.body) ≡ true
  pub fields : decode form o.address o.command o.body ≡ f

found_if : (F : Form) (o : Opened) (f : Fields) (t : Bool) → fits F (length o.body) ≡ t → cond t (Ok (decode F o.address o.command o.body)) (Err FormLength) ≡ Ok f → FoundAs (Some F) o f
found_if F o f true e h = record { form = F; known = refl; fit = e; fields = cc }
found_if F o f false e h = absurd (no_err FormLength f h)

pub found_as : (found : Option Form) (o : Opened) (f : Fields) → read_as_result found o ≡ Ok f → FoundAs found o f
found_as None o f h = absurd (no_err Command f h)
found_as (Some F) o f h = found_if F o f (fits F (length o.body)) refl h

-- a telegram of two bytes or more, from its parts
two_up : (bs : List ℕ) → 4 ≤ length bs → unsealed bs ≡ get_or bs 0 0 ∷ get_or bs 1 0 ∷ body_of bs
two_up [] h = absurd (omega arith)
two_up (a ∷ []) h = absurd (omega arith)
two_up (a ∷ c ∷ bs) h =
    let n : length (a ∷ c ∷ bs) - 2 ≡ length bs = omega arith in
    let m : length bs - 2 ≡ length (a ∷ c ∷ bs) - 4 = omega arith in
    let k : length bs ≡ suc (suc (length bs - 2)) = omega arith in
    ap (λ j. take j (a ∷ c ∷ bs)) (n ∙ k) ∙ ap (λ j. a ∷ c ∷ take j bs) m

small_take : (n : ℕ) (b : List ℕ) → Bytes b → Bytes (take n b)
small_take n b h i =
    elim (cases_lt i n) [
      | inl lt ↦ rw (get_or-take n b i 0 lt) (h i)
      | inr le ↦ rw (get_or_past (take n b) i 0 (omega (arith, length-take n b))) (omega arith)
    ]

small_body : (bs : List ℕ) → Bytes bs → Bytes (body_of bs)
small_body bs h = small_take (length bs - 4) (drop 2 bs) (small_past 2 bs h)

-- what is accepted is what its fields write, with the form found
pub accepted_as : (bs : List ℕ) (f : Fields) (F : Form) → Bytes bs → 4 ≤ length bs → has_seal bs ≡ true → fits F (length (body_of bs)) ≡ true → decode F (get_or bs 0 0) (get_or bs 1 0) (body_of bs) ≡ f → encode F f ≡ bs
accepted_as bs f F small long is fit e =
    ap (encode F) (sym e)
    ∙ ap (λ l. sealed (get_or bs 0 0 ∷ get_or bs 1 0 ∷ l)) (body-decode F (get_or bs 0 0) (get_or bs 1 0) (body_of bs) fit (small_body bs small))
    ∙ ap sealed (sym (two_up bs long))
    ∙ sealed-back bs (omega arith) is

pub long-four : (bs : List ℕ) → in_size bs ≡ true → 4 ≤ length bs
long-four bs h = leb-true 4 (length bs) (and_parts _ _ h).0

pub accepted_question : (bs : List ℕ) → Bytes bs → (f : Fields) → read_question_result bs ≡ Ok f → question f ≡ bs
accepted_question bs small f h =
    let o = opened-as bs f _ h in
    let r = found_as (question_form (get_or bs 1 0)) (inside bs) f o.fields in
    let c : get_or bs 1 0 ≡ f.command = ap (λ (g : Fields). g.command) r.fields in
    ap (λ (k : Option Form). encode (or_none k) f) (ap question_form (sym c) ∙ r.known)
    ∙ accepted_as bs f r.form small (long-four bs o.in_size) o.has_seal r.fit r.fields

-- the form of an answer and the code: below 80 the code plays no part, and an exception's code is its last byte

some_inj : (F G : Form) → ◌≡◌ {A = Option Form} (Some F) (Some G) → F ≡ G
some_inj F G e = cc

none-some : (F : Form) → ◌≡◌ {A = Option Form} None (Some F) → ⊥
none-some F e = cc

shape_if : (plainly serially t : Bool) (F : Form) → cond plainly (Some (exception false)) (cond serially (Some (exception t)) None) ≡ Some F → (s : Bool) × (F ≡ exception s)
shape_if true serially t F h = (false, sym (some_inj _ _ h))
shape_if false true t F h = (t, sym (some_inj _ _ h))
shape_if false false t F h = absurd (none-some F h)

shape : (c k : ℕ) (F : Form) → exception_form c k ≡ Some F → (s : Bool) × (F ≡ exception s)
shape c k F h = shape_if _ (by_serial c) (exception_tells_serial c k) F h

steady_if : (t : Bool) (c d k j : ℕ) (F : Form) → cond t (done_form c) (exception_form d k) ≡ Some F → ((s : Bool) → F ≡ exception s → j ≡ k) → cond t (done_form c) (exception_form d j) ≡ Some F
steady_if true c d k j F h same = h
steady_if false c d k j F h same = let e = shape d k F h in ap (exception_form d) (same e.0 e.1) ∙ h

steady : (c k j : ℕ) (F : Form) → answer_form c k ≡ Some F → ((s : Bool) → F ≡ exception s → j ≡ k) → answer_form c j ≡ Some F
steady c k j F h same = steady_if (ltb c 0x80) c (c - 0x80) k j F h same

-- the byte that an exception's form finds as its code is the last
last_code : (s : Bool) (a c : ℕ) (b : List ℕ) → length b ≡ fixed (exception s) → (decode (exception s) a c b).code ≡ get_or b (length b - 1) 0
last_code true a c b h = get_or-drop 6 b 0 0 ∙ ap (λ k. get_or b k 0) (omega arith)
last_code false a c b h = ap (λ k. get_or b k 0) (omega arith)

code-last : (s : Bool) (f : Fields) → get_or (body (exception s) f) (length (body (exception s) f) - 1) 0 ≡ f.code
code-last true f = get_or_at f.serial f.code [] 0 _ (omega (arith, length-append f.serial (f.code ∷ [])))
code-last false f = refl

pub accepted_answer : (bs : List ℕ) → Bytes bs → (f : Fields) → read_answer_result bs ≡ Ok f → answer f ≡ bs
accepted_answer bs small f h =
    let o = opened-as bs f _ h in
    let b = body_of bs in
    let k = get_or b (length b - 1) 0 in
    let r = found_as (answer_form (get_or bs 1 0) k) (inside bs) f o.fields in
    let c : get_or bs 1 0 ≡ f.command = ap (λ (g : Fields). g.command) r.fields in
    let last : (s : Bool) → r.form ≡ exception s → f.code ≡ k = λ s e.
    ap (λ (g : Fields). g.code) (sym r.fields)
    ∙ ap (λ (G : Form). (decode G (get_or bs 0 0) (get_or bs 1 0) b).code) e
    ∙ last_code s (get_or bs 0 0) (get_or bs 1 0) b (long_exactly r.form (length b) r.fit (ap (λ (G : Form). G.«data») e) ∙ ap fixed e) in
    ap (λ (g : Option Form). encode (or_none g) f) (ap (λ n. answer_form n f.code) (sym c) ∙ steady (get_or bs 1 0) k f.code r.form r.known last)
    ∙ accepted_as bs f r.form small (long-four bs o.in_size) o.has_seal r.fit r.fields

-- what is written reads as the same fields, where the command's form is the one found

write_if : (F : Form) (n : ℕ) (room m : ℕ) (l t k : Bool) → ◌≡◌ {A = Result ℕ TelegramFault} (cond l (cond t (cond k (Ok n) (Err Buffer)) (Err FormLength)) (Err Length)) (Ok m) → (l ≡ true) × (t ≡ true) × (m ≡ n)
write_if F n room m true true true h = (refl, refl, (cc))
write_if F n room m true true false h = absurd (no_err Buffer m h)
write_if F n room m true false k h = absurd (no_err FormLength m h)
write_if F n room m false t k h = absurd (no_err Length m h)

pub record WrittenAs (found : Option Form) (f : Fields) (n : ℕ) : Type 0 where
  pub form : Form
  pub known : found ≡ Some form
  pub short : 4 + extent form f ≤ 23
  pub fit : fits form (extent form f) ≡ true
  pub long : n ≡ 4 + extent form f

pub written_as : (found : Option Form) (f : Fields) (room n : ℕ) → write_as_result found f room ≡ Ok n → WrittenAs found f n
written_as None f room n h = absurd (no_err Command n h)
written_as (Some F) f room n h =
    let p = write_if F (4 + extent F f) room n _ _ _ h in
    record { form = F; known = refl; short = leb-true _ _ p.0; fit = p.1; long = p.2 }

-- the length of a telegram, whatever its values
pub encode-long : (F : Form) (f : Fields) → length f.serial ≡ 6 → length (encode F f) ≡ 4 + extent F f
encode-long F f six = omega (arith, sealed-long (f.address ∷ f.command ∷ body F f), body-long F f six)

module _ (f : Fields) (s : Sized f) where
  reads_as : (F : Form) → fits F (extent F f) ≡ true → read_as_result (Some F) (record { address = f.address; command = f.command; body = body F f }) ≡ Ok (plain F f)
  reads_as F fit = cond-true _ _ _ (ap (fits F) (body-long F f s.six) ∙ fit) ∙ ap Ok (decode-body F f s)

  opens_as : (F : Form) (k : Opened → Result Fields TelegramFault) → 4 + extent F f ≤ 23 → and_then (opening (encode F f)) k ≡ k (record { address = f.address; command = f.command; body = body F f })
  opens_as F k short = ap (λ (r : Result Opened TelegramFault). and_then r k) (opening-sealed f.address f.command (body F f) (omega (arith, body-long F f s.six)))

  pub question-back : (room n : ℕ) → write_as_result (question_form f.command) f room ≡ Ok n → (n ≡ length (question f)) × (read_question_result (question f) ≡ Ok (plain (or_none (question_form f.command)) f))
  question-back room n h =
      let w = written_as (question_form f.command) f room n h in
      let G : Option Form → Type 0 = λ found. (n ≡ length (encode (or_none found) f)) × (read_question_result (encode (or_none found) f) ≡ Ok (plain (or_none found) f)) in
      let at : G (Some w.form) = (
        w.long ∙ sym (encode-long w.form f s.six),
        opens_as w.form _ w.short ∙ ap (λ (found : Option Form). read_as_result found (record { address = f.address; command = f.command; body = body w.form f })) w.known ∙ reads_as w.form w.fit,
      ) in
      subst G (sym w.known) at

  pub answer_back : (room n : ℕ) → write_as_result (answer_form f.command f.code) f room ≡ Ok n → (n ≡ length (answer f)) × (read_answer_result (answer f) ≡ Ok (plain (or_none (answer_form f.command f.code)) f))
  answer_back room n h =
      let w = written_as (answer_form f.command f.code) f room n h in
      let F = w.form in
      let G : Option Form → Type 0 = λ found. (n ≡ length (encode (or_none found) f)) × (read_answer_result (encode (or_none found) f) ≡ Ok (plain (or_none found) f)) in
      let last : (e : Bool) → F ≡ exception e → get_or (body F f) (length (body F f) - 1) 0 ≡ f.code = λ e is. ap (λ (H : Form). get_or (body H f) (length (body H f) - 1) 0) is ∙ code-last e f in
      let at : G (Some F) = (
        w.long ∙ sym (encode-long F f s.six),
        opens_as F _ w.short ∙ ap (λ (found : Option Form). read_as_result found (record { address = f.address; command = f.command; body = body F f })) (steady f.command f.code _ F w.known last) ∙ reads_as F w.fit,
      ) in
      subst G (sym w.known) at

-- from a result to what it shows
pub made-shown : {X : Type 0} (show : X → Fields) (P : Fields → Type 0) (r : Result X TelegramFault) (R : Result Fields TelegramFault) → shown show r ≡ R → ((f : Fields) → R ≡ Ok f → P f) → IfOk r (λ x. P (show x))
made-shown show P (Ok x) R e h = h (show x) (sym e)
made-shown show P (Err x) R e h = tt

-- what stands in the buffer up to the length that was written reads back
pub reads-back : (read : List ℕ → Result Fields TelegramFault) (f : Fields) (telegram before after : List ℕ) (r : Result ℕ TelegramFault) → after ≡ filled r telegram before → ((n : ℕ) → r ≡ Ok n → (n ≡ length telegram) × (read telegram ≡ Ok f)) → IfOk r (λ n. read (take n after) ≡ Ok f)
reads-back read f telegram before after (Ok n) is back =
    let p = back n refl in
    ap (λ (l : List ℕ). read (take n l)) is ∙ ap read (take_at telegram (drop n before) n (sym p.0)) ∙ p.1
reads-back read f telegram before after (Err e) is back = tt
