use Rattle.std.proofs.Common.{◌≡◌, List, ℕ, cond, length, drop, slice_index, ap, ◌∙◌, arith}
use Rattle.std.proofs.lemmas.List.{length-drop}
use Rattle.telegram.specs.Forms.{span}
use Rattle.telegram.specs.Layout.{part, word_of, past_serial, past_subfunction, past_register, past_value, past_size, past_code}
use Rattle.telegram.proofs.Bodies.{word-taken, byte-taken}
use Rattle.telegram.proofs.reading.read_fields.Goals as goal

pub returns : goal.returns
returns c =
    let F = c.args.form in
    let e = c.args.envelope.now in
    let b = e.body.now in
    let l1 = length-drop (span F.serial 6) b in
    let l2 = length-drop (span F.subfunction 2) (past_serial F b) in
    let l3 = length-drop (span F.register 2) (past_subfunction F b) in
    let l4 = length-drop (span F.value 2) (past_register F b) in
    let l5 = length-drop (span F.size 1) (past_value F b) in
    let b1 : c.take_field.result.1.now ≡ past_serial F b = c.take_field.ensures.rest (omega arith) in
    let k1 = ap length b1 in
    let b2 : c.take_field-2.result.1.now ≡ past_subfunction F b = c.take_field-2.ensures.rest (omega arith) ∙ ap (drop (span F.subfunction 2)) b1 in
    let k2 = ap length b2 in
    let b3 : c.take_field-3.result.1.now ≡ past_register F b = c.take_field-3.ensures.rest (omega arith) ∙ ap (drop (span F.register 2)) b2 in
    let k3 = ap length b3 in
    let b4 : c.take_field-4.result.1.now ≡ past_value F b = c.take_field-4.ensures.rest (omega arith) ∙ ap (drop (span F.value 2)) b3 in
    let k4 = ap length b4 in
    let b5 : c.take_field-5.result.1.now ≡ past_size F b = c.take_field-5.ensures.rest (omega arith) ∙ ap (drop (span F.size 1)) b4 in
    let k5 = ap length b5 in
    let b6 : c.take_field-6.result.1.now ≡ past_code F b = c.take_field-6.ensures.rest (omega arith) ∙ ap (drop (span F.code 1)) b5 in
    let f1 = c.take_field.ensures.field (omega arith) in
    let f2 = c.from_be_bytes.ensures ∙ word-taken F.subfunction _ _ (c.take_field-2.ensures.field (omega arith)) ∙ ap (λ (l : List ℕ). cond F.subfunction (word_of l) 0) b1 in
    let f3 = c.from_be_bytes-2.ensures ∙ word-taken F.register _ _ (c.take_field-3.ensures.field (omega arith)) ∙ ap (λ (l : List ℕ). cond F.register (word_of l) 0) b2 in
    let f4 = c.from_be_bytes-3.ensures ∙ word-taken F.value _ _ (c.take_field-4.ensures.field (omega arith)) ∙ ap (λ (l : List ℕ). cond F.value (word_of l) 0) b3 in
    let f5 = byte-taken F.size _ c.take_field-5.result.0 (c.take_field-5.ensures.field (omega arith)) ∙ ap (λ (l : List ℕ). cond F.size (slice_index l 0) 0) b4 in
    let f6 = byte-taken F.code _ c.take_field-6.result.0 (c.take_field-6.ensures.field (omega arith)) ∙ ap (λ (l : List ℕ). cond F.code (slice_index l 0) 0) b5 in
    let f7 = c.part.ensures.bytes ∙ ap (part F.«data») b6 in
    λ i. record { address = e.address; command = e.command; serial = f1 i; subfunction = f2 i; register = f3 i; value = f4 i; size = f5 i; code = f6 i; contents = f7 i }
