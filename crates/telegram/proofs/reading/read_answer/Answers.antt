use Rattle.std.proofs.Common.{◌≡◌, Result, ap, ◌∙◌}
use Rattle.telegram.specs.declared.fault.TelegramFault.{TelegramFault}
use Rattle.telegram.specs.Parts.{fields, shown}
use Rattle.telegram.specs.Reads.{Opened, and_then, as_answer, read_answer_result}
use Rattle.telegram.specs.Writes.{answer}
use Rattle.telegram.proofs.Accepts.{accepted_answer, made-shown}
use Rattle.telegram.proofs.reading.read_answer.Goals as goal

pub returns-clause-accepted : goal.returns-clause-accepted
returns-clause-accepted c =
    let bs = c.args.bytes.now in
    let is : shown fields c.answer.result ≡ read_answer_result bs = c.answer.ensures ∙ ap (λ (r : Result Opened TelegramFault). and_then r as_answer) c.in_ok-open_telegram.ensures in
    made-shown fields (λ f. answer f ≡ bs) c.answer.result (read_answer_result bs) is (accepted_answer bs (λ i. (c.type_inv.bytes i).fits))
