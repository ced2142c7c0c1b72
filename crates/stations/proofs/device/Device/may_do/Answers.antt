use Rattle.std.proofs.Common.{◌≡◌, sym, ◌∙◌, arith}
use Rattle.telegram.specs.Parts.{fields}
use Rattle.stations.specs.Calls.{named}
use Rattle.stations.specs.Device.{all_allowed}
use Rattle.stations.specs.Grants.{may_do-write}
use Rattle.stations.specs.Parts.{state}
use Rattle.stations.specs.Spans.{count}
use Rattle.stations.proofs.device.Device.may_do.Goals as goal

pub returns-in-WriteOne : goal.returns-in-WriteOne
returns-in-WriteOne c =
    let x = state c.args.self.now in
    let q = fields c.args.q.now.telegram in
    let a = c.args.q.now.action in
    let first = c.requires.1 in
    let n : count c.args.registers ≡ named a q = omega (arith, c.requires.1, c.requires.2) in
    c.may_write_all.ensures ∙ (λ i. all_allowed x (first i) (n i)) ∙ sym (may_do-write x a q c.in-WriteOne.is)
