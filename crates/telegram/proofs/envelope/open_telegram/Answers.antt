use Rattle.std.proofs.Common.{sym, ◌∙◌}
use Rattle.std.proofs.lemmas.Bool.{cond-true, cond-false}
use Rattle.telegram.proofs.Seals.{opening-split}
use Rattle.telegram.proofs.envelope.open_telegram.Goals as goal

pub returns-then-ne : goal.returns-then-ne
returns-then-ne c =
    let parts = c.in-Some.ensures.cases in
    let is = opening-split c.args.bytes.now c.in-Some.front.now c.in-Some.seal.now _ _ _ parts.2 parts.0 parts.1 c.in-len2-up.len_at_least c.if-body-gt19.false c.checksum.ensures c.to_le_bytes.ensures c.ne.ensures in
    sym (is ∙ cond-true c.ne.result _ _ c.if-ne.true)

pub returns : goal.returns
returns c =
    let parts = c.in-Some.ensures.cases in
    let is = opening-split c.args.bytes.now c.in-Some.front.now c.in-Some.seal.now _ _ _ parts.2 parts.0 parts.1 c.in-len2-up.len_at_least c.if-body-gt19.false c.checksum.ensures c.to_le_bytes.ensures c.ne.ensures in
    sym (is ∙ cond-false c.ne.result _ _ c.if-ne.false)
