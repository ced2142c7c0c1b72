use Rattle.std.proofs.Common.{◌≡◌, sym, ap, ◌∙◌, rules, tests}
use Rattle.std.proofs.lemmas.Iterator.{YieldsList-from_slice}
use Rattle.std.proofs.lemmas.Iterator.Search.{find_from_yields_List}
use Rattle.std.specs.Option.{option_map}
use Rattle.stations.specs.declared.rights.Right.{Right}
use Rattle.stations.specs.Spans.{among}
use Rattle.stations.proofs.Turns.{level-found}
use Rattle.stations.proofs.rights.level_in.Goals as goal

pub returns : goal.returns
returns c =
    let table = c.args.table.now in
    let r = c.args.register in
    let found = find_from_yields_List (λ (p : Right). among p.registers r) _ _ c.find.result c.find.ensures.ran (YieldsList-from_slice table cc) (λ x b q k. search (rules, tests)) in
    let level : c.map.result ≡ option_map (λ (p : Right). p.level) (option_map (λ y. y.now) c.find.result) = search rules in
    level ∙ ap (option_map (λ (p : Right). p.level)) found ∙ sym (level-found table r)
