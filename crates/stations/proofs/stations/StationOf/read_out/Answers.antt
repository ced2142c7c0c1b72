use Rattle.std.proofs.Common.{◌≡◌, ℕ, ◌+◌, ◌<◌, min, List, [], ap, ◌∙◌, rules, arith}
use Rattle.telegram.specs.Layout.{word}
use Rattle.stations.specs.Device.{register_at}
use Rattle.stations.specs.Parts.{state}
use Rattle.stations.proofs.Made.{each_made}
use Rattle.stations.proofs.Turns.{read-front}
use Rattle.stations.proofs.stations.StationOf.read_out.Goals as goal

pub returns : goal.returns
returns g c = λ n read few fit.
    let at = register_at g.K.FixedKind.KIND (state c.args.self.now.device) c.args.action in
    let first = c.args.first in
    let words = c.from_fn.result in
    let long = c.from_fn.ensures.items.long in
    let Made : ℕ → List ℕ → Type 0 = λ i w. i < c.args.count → w ≡ word (at (min (first + i) 65535)) in
    read-front at words first n (omega arith)
    (λ i k. each_made _ _ words Made (λ i y q did. search rules) 9 0 c.from_fn.ensures.items.each i [] (omega arith) (omega arith) (omega arith) ∙ ap (λ (j : ℕ). word (at j)) (omega arith))
