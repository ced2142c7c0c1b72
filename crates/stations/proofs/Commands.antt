-- The commands of the questions that a station reads.
use Rattle.std.proofs.Common.{◌≡◌, ℕ, false, is_some, Ok, sym, ap}
use Rattle.telegram.specs.declared.command.Command.TheVariants.{ReadHolding, ReadInput, WriteOne, Diagnostics, WriteSeveral, WriteOneBySerial}
use Rattle.telegram.specs.Forms.{question_form}
use Rattle.telegram.specs.Layout.{Fields}
use Rattle.telegram.specs.Reads.{Opened, as_question}
use Rattle.telegram.proofs.Accepts.{found_as}
use Rattle.telegram.proofs.Commands.{IsUnknown, other, question_form_unknown}
use Rattle.stations.specs.declared.kind.Kind.{Kind}
use Rattle.stations.specs.declared.kind.Kind.TheVariants.{Fan, OlderFan, Controller}
use Rattle.stations.specs.Kinds.{knows}

-- what is the byte of no command, no kind knows
pub none-known : (K : Kind) (b : ℕ) → IsUnknown b → knows K b ≡ false
none-known Fan b h = ap is_some (question_form_unknown b h)
none-known OlderFan b h = simp (other b h ReadHolding, other b h ReadInput, other b h WriteOne, other b h Diagnostics, other b h WriteSeveral, other b h WriteOneBySerial)
none-known Controller b h = simp (other b h ReadHolding, other b h ReadInput, other b h WriteOne, other b h WriteSeveral)

-- a question has the command of its telegram
pub asked-command : (o : Opened) (q : Fields) → as_question o ≡ Ok q → q.command ≡ o.command
asked-command o q h = ap (λ (g : Fields). g.command) (sym (found_as (question_form o.command) o q h).fields)
