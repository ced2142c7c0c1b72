use Rattle.std.proofs.Common.{ℕ, List, ◌++◌, length, drop, sym, ap, ◌∙◌, subst}
use Rattle.telegram.specs.Parts.{fields}
use Rattle.telegram.specs.Writes.{answer}
use Rattle.stations.specs.Calls.{answer_to}
use Rattle.stations.specs.Grants.{Answerable, read-fits, told-read}
use Rattle.stations.specs.Parts.{state}
use Rattle.stations.proofs.stations.StationOf.put_done.Goals as goal

pub put_read-requires : goal.put_read-requires
put_read-requires g c =
    let x = state c.args.self.now.device in
    let q = fields c.args.q.now.telegram in
    let K = g.K.FixedKind.KIND in
    let fit = read-fits K c.args.q.now.action q c.in-ReadHolding.is c.requires.0 in
    (fit.0, (fit.1, subst (Answerable x q) (told-read K x c.args.q.now.action q c.in-ReadHolding.is) c.requires.1))

pub returns-in-ReadHolding-clause-size : goal.returns-in-ReadHolding-clause-size
returns-in-ReadHolding-clause-size g c =
    let x = state c.args.self.now.device in
    let q = fields c.args.q.now.telegram in
    c.put_read.ensures.size ∙ ap (λ (l : List ℕ). length (answer (answer_to x q l))) (sym (told-read g.K.FixedKind.KIND x c.args.q.now.action q c.in-ReadHolding.is))

pub returns-in-ReadHolding-clause-bytes : goal.returns-in-ReadHolding-clause-bytes
returns-in-ReadHolding-clause-bytes g c =
    let x = state c.args.self.now.device in
    let q = fields c.args.q.now.telegram in
    c.put_read.ensures.bytes ∙ ap (λ (l : List ℕ). answer (answer_to x q l) ++ drop c.put_read.result c.args.buffer.now) (sym (told-read g.K.FixedKind.KIND x c.args.q.now.action q c.in-ReadHolding.is))
