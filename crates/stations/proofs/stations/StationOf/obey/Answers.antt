use Rattle.std.proofs.Common.{◌≡◌, ℕ, List, Some, Option, ◌++◌, drop, length, sym, ap, ◌∙◌, subst}
use Rattle.std.specs.Option.{option_map}
use Rattle.telegram.specs.Parts.{fields}
use Rattle.telegram.specs.Writes.{answer}
use Rattle.wall.specs.Tells.{laid}
use Rattle.stations.specs.declared.kind.Action.{Action}
use Rattle.stations.specs.Calls.{refusal, told, answer_to, exception}
use Rattle.stations.specs.Grants.{Answerable}
use Rattle.stations.specs.Kinds.{action}
use Rattle.stations.specs.Parts.{state}
use Rattle.stations.specs.Sizes.{told-short, done_answers}
use Rattle.stations.proofs.Replies.{granted, kept, refused-reply, done-carried, done-reply}
use Rattle.stations.proofs.stations.StationOf.obey.Goals as goal

pub returns-then-silent-2-clause-after : goal.returns-then-silent-2-clause-after
returns-then-silent-2-clause-after g c =
    done-carried g.K.FixedKind.KIND (state c.args.self.now.device) (fields c.args.q.now.telegram) c.args.q.now.action c.args.q.now.asks c.refusal.result c.refusal.ensures _ _ c.in-Ok.is c.carry_out.ensures

pub put_done-requires : goal.put_done-requires
put_done-requires g c =
    let K = g.K.FixedKind.KIND in
    let x = state c.args.self.now.device in
    let y = state c.carry_out.new.self in
    let q = fields c.args.q.now.telegram in
    let a = c.args.q.now.action in
    let asks = c.args.q.now.asks in
    let at : refusal K x (action q.command) q ≡ _ = granted K x q a asks c.refusal.result c.refusal.ensures _ c.in-Ok.is in
    let able : Answerable y q (told K y (action q.command) q) = record { few = told-short K x y q c.requires at; form = done_answers K x y q c.requires at } in
    (record { state = x; none = subst (λ (b : Action). refusal K x b q ≡ _) (sym asks) at }, subst (λ (b : Action). Answerable y q (told K y b q)) (sym asks) able)

pub returns-else-silent-clause-size : goal.returns-else-silent-clause-size
returns-else-silent-clause-size g c =
    let said = refused-reply g.K.FixedKind.KIND (state c.args.self.now.device) (fields c.args.q.now.telegram) c.args.q.now.action c.args.q.now.asks c.refusal.result c.refusal.ensures _ c.in-Err.is c.if-silent.ensures in
    ap Some c.put_exception.ensures.size ∙ sym (ap (option_map length) said)

pub returns-else-silent-clause-bytes : goal.returns-else-silent-clause-bytes
returns-else-silent-clause-bytes g c =
    let said = refused-reply g.K.FixedKind.KIND (state c.args.self.now.device) (fields c.args.q.now.telegram) c.args.q.now.action c.args.q.now.asks c.refusal.result c.refusal.ensures _ c.in-Err.is c.if-silent.ensures in
    c.put_exception.ensures.bytes ∙ ap (λ (n : ℕ). exception (state c.args.self.now.device) c.args.q.now.telegram.command c.in-Err.refusal ++ drop n c.args.buffer.now) c.put_exception.ensures.size ∙ sym (ap (λ (o : Option (List ℕ)). laid o c.args.buffer.now) said)

pub returns-else-silent-clause-after : goal.returns-else-silent-clause-after
returns-else-silent-clause-after g c =
    kept g.K.FixedKind.KIND (state c.args.self.now.device) (fields c.args.q.now.telegram) c.args.q.now.action c.args.q.now.asks c.refusal.result c.refusal.ensures _ c.in-Err.is

pub returns-else-silent-2-clause-size : goal.returns-else-silent-2-clause-size
returns-else-silent-2-clause-size g c =
    let said = done-reply g.K.FixedKind.KIND (state c.args.self.now.device) (fields c.args.q.now.telegram) c.args.q.now.action c.args.q.now.asks c.refusal.result c.refusal.ensures _ _ c.in-Ok.is c.carry_out.ensures c.if-silent-2.ensures in
    ap Some c.put_done.ensures.size ∙ sym (ap (option_map length) said)

pub returns-else-silent-2-clause-bytes : goal.returns-else-silent-2-clause-bytes
returns-else-silent-2-clause-bytes g c =
    let y = state c.carry_out.new.self in
    let q = fields c.args.q.now.telegram in
    let a = c.args.q.now.action in
    let said = done-reply g.K.FixedKind.KIND (state c.args.self.now.device) (fields c.args.q.now.telegram) c.args.q.now.action c.args.q.now.asks c.refusal.result c.refusal.ensures _ _ c.in-Ok.is c.carry_out.ensures c.if-silent-2.ensures in
    c.put_done.ensures.bytes ∙ ap (λ (n : ℕ). answer (answer_to y q (told g.K.FixedKind.KIND y a q)) ++ drop n c.args.buffer.now) c.put_done.ensures.size ∙ sym (ap (λ (o : Option (List ℕ)). laid o c.args.buffer.now) said)

pub returns-else-silent-2-clause-after : goal.returns-else-silent-2-clause-after
returns-else-silent-2-clause-after g c =
    done-carried g.K.FixedKind.KIND (state c.args.self.now.device) (fields c.args.q.now.telegram) c.args.q.now.action c.args.q.now.asks c.refusal.result c.refusal.ensures _ _ c.in-Ok.is c.carry_out.ensures
