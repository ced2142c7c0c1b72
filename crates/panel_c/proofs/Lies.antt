-- Where the data of a question lies in its bytes.
use Rattle.std.proofs.Common.{◌≡◌, ℕ, ◌+◌, ◌-◌, ◌<◌, ◌≤◌, Bool, true, false, cond, List, [], length, get_or, take, drop, Ok, sym, refl, ap, ◌∙◌, subst, inl, inr, arith}
use Rattle.std.proofs.lemmas.List.{length-take-le, length-drop, drop-drop, drop-take, drop_all}
use Rattle.std.proofs.lemmas.Bool.{leb-true, and_parts, ne_eqb, cases_lt}
use Rattle.telegram.specs.declared.forms.Form.{Form}
use Rattle.telegram.specs.Forms.{question_form, span}
use Rattle.telegram.specs.Layout.{Fields, body_of, past_code, past_size, past_value, past_register, past_subfunction, past_serial}
use Rattle.telegram.specs.Reads.{inside, read_question_result}
use Rattle.telegram.proofs.Accepts.{opened-as, found_as}
use Rattle.panel_c.specs.Panel.{data_place}

-- the data d lies in the bytes before the checksum
pub record Lies (bs d : List ℕ) : Type 0 where
  pub long : length d + 4 ≤ length bs
  pub there : take (length d) (drop (data_place (length bs) (length d)) bs) ≡ d

module _ (bs : List ℕ) (four : 4 ≤ length bs) where
  none-lies : Lies bs []
  none-lies = record { long = omega arith; there = refl }

  body-long : length (body_of bs) ≡ length bs - 4
  body-long = length-take-le (length bs - 4) (drop 2 bs) (omega (arith, length-drop 2 bs))

  -- what is left of the body past k bytes, where some is left
  tail-is : (k m : ℕ) → k + m ≡ length bs - 4 → drop k (body_of bs) ≡ take m (drop (2 + k) bs)
  tail-is k m e = ap (λ j. drop k (take j (drop 2 bs))) (sym e) ∙ drop-take k m (drop 2 bs) ∙ ap (take m) (drop-drop k 2 bs)

  tail-lies : (k m : ℕ) → k + m ≡ length bs - 4 → 0 < m → Lies bs (drop k (body_of bs))
  tail-lies k m e some =
      let long : length (drop k (body_of bs)) ≡ m = omega (arith, length-drop k (body_of bs), body-long) in
      let none = ne_eqb m 0 (λ z. omega arith) in
      let at : data_place (length bs) m ≡ 2 + k = ap (λ t. cond t 0 (length bs - 2 - m)) none ∙ omega arith in
      record {
        long = omega arith;
        there = (λ i. take (long i) (drop (data_place (length bs) (long i)) bs)) ∙ ap (λ j. take m (drop j bs)) at ∙ sym (tail-is k m e);
      }

  past-lies : (k : ℕ) → Lies bs (drop k (body_of bs))
  past-lies k =
      elim (cases_lt k (length bs - 4)) [
        | inl lt ↦ tail-lies k (length bs - 4 - k) (omega arith) (omega arith)
        | inr le ↦ subst (Lies bs) (sym (drop_all k (body_of bs) (omega (arith, body-long)))) none-lies
      ]

  contents_lie : (has : Bool) (k : ℕ) → Lies bs (cond has (drop k (body_of bs)) [])
  contents_lie true k = past-lies k
  contents_lie false k = none-lies

further : (m k : ℕ) (x b : List ℕ) → x ≡ drop k b → drop m x ≡ drop (k + m) b
further m k x b e = ap (drop m) e ∙ drop-drop m k b

-- past the fields of a form lies what is left past some number of bytes
past-code : (F : Form) (b : List ℕ) → (k : ℕ) × (past_code F b ≡ drop k b)
past-code F b =
    let e1 : past_subfunction F b ≡ _ = further (span F.subfunction 2) (span F.serial 6) (past_serial F b) b refl in
    let e2 : past_register F b ≡ _ = further (span F.register 2) _ (past_subfunction F b) b e1 in
    let e3 : past_value F b ≡ _ = further (span F.value 2) _ (past_register F b) b e2 in
    let e4 : past_size F b ≡ _ = further (span F.size 1) _ (past_value F b) b e3 in
    (_, further (span F.code 1) _ (past_size F b) b e4)

pub record Found (bs : List ℕ) (f : Fields) : Type 0 where
  pub lies : Lies bs f.contents
  pub short : length bs ≤ 23

pub found : (bs : List ℕ) (f : Fields) → read_question_result bs ≡ Ok f → Found bs f
found bs f h =
    let o = opened-as bs f _ h in
    let r = found_as (question_form (get_or bs 1 0)) (inside bs) f o.fields in
    let size = and_parts _ _ o.in_size in
    let four : 4 ≤ length bs = leb-true 4 (length bs) size.0 in
    let past = past-code r.form (body_of bs) in
    let is : cond r.form.«data» (drop past.0 (body_of bs)) [] ≡ f.contents = ap (λ (l : List ℕ). cond r.form.«data» l []) (sym past.1) ∙ ap (λ (g : Fields). g.contents) r.fields in
    record { lies = subst (Lies bs) is (contents_lie bs four r.form.«data» past.0); short = leb-true (length bs) 23 size.1 }
