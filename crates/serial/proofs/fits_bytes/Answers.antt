use Rattle.std.proofs.Common.{◌∙◌, arith, rules, tests}
use Rattle.std.proofs.lemmas.Iterator.{YieldsList-from_slice, YieldsList-from_zip}
use Rattle.std.proofs.lemmas.Iterator.Search.{all_from_yields_List}
use Rattle.serial.proofs.Bytes.{fits_place, fitting-from_pairs}
use Rattle.serial.proofs.fits_bytes.Goals as goal

pub returns : goal.returns
returns c =
    let m = c.args.mask in
    let b = c.args.bytes in
    all_from_yields_List fits_place c.all.new.self _ _ c.all.ensures.ran (YieldsList-from_zip (YieldsList-from_slice m cc) (YieldsList-from_slice b cc)) (λ x t q k. search (rules, tests))
    ∙ fitting-from_pairs m b (omega arith)
