use Rattle.std.proofs.Common.{length, Option, sym, ap, ◌∙◌, rules}
use Rattle.telegram.specs.declared.forms.Form.{Form}
use Rattle.telegram.specs.Layout.{encode}
use Rattle.telegram.specs.Parts.{fields}
use Rattle.telegram.specs.Reads.{read_answer_result}
use Rattle.telegram.specs.Writes.{or_none, answer, write_as_result, filled}
use Rattle.telegram.proofs.Bodies.{Sized}
use Rattle.telegram.proofs.Accepts.{answer_back, reads-back}
use Rattle.telegram.proofs.writing.write_answer.Goals as goal

pub returns-clause-back : goal.returns-clause-back
returns-clause-back c =
    let f = fields c.args.q.now in
    let b = c.args.buffer.now in
    let r = c.write_as.result in
    let s : Sized f = record { six = search rules; subfunction16 = search rules; register16 = search rules; value16 = search rules } in
    let form = c.in_ok-of_answer.ensures in
    reads-back read_answer_result _ (answer f) b _ r
    (c.write_as.ensures.bytes ∙ ap (λ (k : Option Form). filled r (encode (or_none k) f) b) form)
    (λ n e. answer_back f s (length b) n (ap (λ (k : Option Form). write_as_result k f (length b)) (sym form) ∙ sym c.write_as.ensures.value ∙ e))
