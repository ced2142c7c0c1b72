use Rattle.std.proofs.Common.{◌≡◌, ℕ, List, length, Ok, sym, ap, ◌∙◌}
use Rattle.telegram.specs.Parts.{fields}
use Rattle.telegram.specs.Reads.{read_question_result}
use Rattle.panel_c.specs.declared.fields.PanelFields.{PanelFields}
use Rattle.panel_c.specs.Panel.{located, data_of, fields_with}
use Rattle.panel_c.proofs.Lies.{found}
use Rattle.panel_c.proofs.fanwall_read_question.Goals as goal

pub of-requires : goal.of-requires
of-requires c =
    let h = found c.args.bytes.now (fields c.in-Ok.q) (sym c.in-Ok.ensures.value) in
    (h.lies.long, h.short)

pub returns-in-Ok-clause-place : goal.returns-in-Ok-clause-place
returns-in-Ok-clause-place c =
    let bs = c.args.bytes.now in
    let f = fields c.in-Ok.q in
    let is : read_question_result bs ≡ Ok f = sym c.in-Ok.ensures.value in
    let there = (found bs f is).lies.there in
    λ _. is ∙ ap (λ (d : List ℕ). Ok (fields_with (located (length bs) f) d)) (sym there) ∙ ap (λ (p : PanelFields). Ok (fields_with p (data_of p bs))) (sym c.of.ensures)
