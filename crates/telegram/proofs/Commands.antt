-- What is known of a byte that no command has.
use Rattle.std.proofs.Common.{◌≡◌, ℕ, ◌-◌, ◌<◌, ◌≤◌, false, ◌&&◌, eqb, ltb, None, sym, ◌∙◌, arith, lt-ltb}
use Rattle.std.proofs.lemmas.Bool.Decides.{nat_tests}
use Rattle.std.proofs.lemmas.Bool.{ne_eqb, cond-true}
use Rattle.telegram.specs.declared.command.Command.{Command}
use Rattle.telegram.specs.declared.command.Command.TheVariants.{ReadHolding, ReadInput, WriteOne, Diagnostics, WriteSeveral, ReadHoldingBySerial, ReadInputBySerial, WriteOneBySerial, WriteSeveralBySerial}
use Rattle.telegram.specs.Commands.{byte_of}
use Rattle.telegram.specs.Answers.{content_of}
use Rattle.telegram.specs.Layout.{Fields}
use Rattle.telegram.specs.Forms.{by_serial, question_form, done_form, exception_form, answer_form}

abbrev pub IsUnknown : ℕ → Type 0
IsUnknown b = (c : Command) → byte_of c ≡ b → ⊥

module _ (b : ℕ) (h : IsUnknown b) where
  pub other : (c : Command) → eqb b (byte_of c) ≡ false
  other c = ne_eqb b (byte_of c) (λ e. h c (sym e))

  pub by_serial_unknown : by_serial b ≡ false
  by_serial_unknown = simp (other ReadHoldingBySerial, other ReadInputBySerial, other WriteOneBySerial, other WriteSeveralBySerial)

  pub question_form_unknown : question_form b ≡ None
  question_form_unknown = simp (other ReadHolding, other ReadInput, other WriteOne, other Diagnostics, other WriteSeveral, other ReadHoldingBySerial, other ReadInputBySerial, other WriteOneBySerial, other WriteSeveralBySerial)

  done_form_unknown : done_form b ≡ None
  done_form_unknown = simp (other ReadHolding, other ReadInput, other WriteOne, other Diagnostics, other WriteSeveral, other ReadHoldingBySerial, other ReadInputBySerial, other WriteOneBySerial, other WriteSeveralBySerial)

  exception_form_unknown : (code : ℕ) → exception_form b code ≡ None
  exception_form_unknown code = simp (other ReadHolding, other ReadInput, other WriteOne, other Diagnostics, other WriteSeveral, other ReadHoldingBySerial, other ReadInputBySerial, other WriteOneBySerial, other WriteSeveralBySerial)

pub answer_form_unknown : (c code : ℕ) → c < 0x80 → IsUnknown c → answer_form c code ≡ None
answer_form_unknown c code low h = cond-true (ltb c 0x80) _ _ (lt-ltb c 0x80 low) ∙ done_form_unknown c h

pub answer_form_unknown_raised : (c code : ℕ) → 0x80 ≤ c → IsUnknown (c - 0x80) → answer_form c code ≡ None
answer_form_unknown_raised c code high h =
    let e : ltb c 0x80 ≡ false = grind (arith, nat_tests) in
    simp e (exception_form_unknown (c - 0x80) h code)

-- an answer to such a question repeats register and value
pub content_of_unknown : (q a : Fields) → IsUnknown q.command → content_of q a ≡ (eqb a.register q.register && eqb a.value q.value)
content_of_unknown q a h =
    simp (other q.command h ReadHolding, other q.command h ReadInput, other q.command h ReadHoldingBySerial, other q.command h ReadInputBySerial, other q.command h Diagnostics)
