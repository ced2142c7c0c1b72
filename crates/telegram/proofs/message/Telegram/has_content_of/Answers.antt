use Rattle.std.proofs.Common.{sym, ◌∙◌}
use Rattle.telegram.specs.Parts.{fields}
use Rattle.telegram.proofs.Commands.{content_of_unknown}
use Rattle.telegram.proofs.message.Telegram.has_content_of.Goals as goal

pub returns-in_default : goal.returns-in_default
returns-in_default c =
    c.repeats_register.ensures ∙ sym (content_of_unknown (fields c.args.q.now) (fields c.args.self.now) c.in_default.ensures)
