use Rattle.std.proofs.Common.{◌≡◌, ap, ◌∙◌, rules, tests}
use Rattle.std.proofs.lemmas.Iterator.Search.{all_from_yields_List}
use Rattle.std.specs.List.{list_all}
use Rattle.stations.specs.Device.{allowed}
use Rattle.stations.specs.Parts.{state}
use Rattle.stations.specs.Spans.{count}
use Rattle.stations.proofs.Turns.{left_of, inclusive-yields, left_of-new, all_allowed-are}
use Rattle.stations.proofs.device.Device.may_write_all.Goals as goal

pub returns : goal.returns
returns c =
    let x = state c.args.self.now in
    let g = c.args.registers in
    let went : c.all.result ≡ list_all (allowed x) (left_of c.new.result) = all_from_yields_List (allowed x) _ _ c.all.result c.all.ensures.ran (inclusive-yields c.new.result) (λ r b q k. search (rules, tests)) in
    went
    ∙ ap (list_all (allowed x)) (left_of-new c.new.result g.first g.last c.new.ensures.start c.new.ensures.end c.new.ensures.exhausted)
    ∙ all_allowed-are x g.first (count g)
