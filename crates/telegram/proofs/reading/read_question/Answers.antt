use Rattle.std.proofs.Common.{◌≡◌, Result, ap, ◌∙◌}
use Rattle.telegram.specs.declared.fault.TelegramFault.{TelegramFault}
use Rattle.telegram.specs.Parts.{fields, shown}
use Rattle.telegram.specs.Reads.{Opened, and_then, as_question, read_question_result}
use Rattle.telegram.specs.Writes.{question}
use Rattle.telegram.proofs.Accepts.{accepted_question, made-shown}
use Rattle.telegram.proofs.reading.read_question.Goals as goal

pub returns-clause-accepted : goal.returns-clause-accepted
returns-clause-accepted c =
    let bs = c.args.bytes.now in
    let is : shown fields c.question.result ≡ read_question_result bs = c.question.ensures ∙ ap (λ (r : Result Opened TelegramFault). and_then r as_question) c.in_ok-open_telegram.ensures in
    made-shown fields (λ f. question f ≡ bs) c.question.result (read_question_result bs) is (accepted_question bs (λ i. (c.type_inv.bytes i).fits))
