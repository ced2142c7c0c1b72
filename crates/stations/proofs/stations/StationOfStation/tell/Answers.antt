use Rattle.std.proofs.Common.{◌≡◌, false, length, sym, ◌∙◌, rules}
use Rattle.std.proofs.lemmas.Bool.{le-ltb, cond-false}
use Rattle.wall.specs.Tells.{is_short}
use Rattle.stations.specs.Calls.{says}
use Rattle.stations.specs.Laws.{device_rules}
use Rattle.stations.specs.Parts.{state}
use Rattle.stations.proofs.Replies.{laid_in_room}
use Rattle.stations.proofs.stations.StationOfStation.tell.Goals as goal

pub returns-clause-bytes : goal.returns-clause-bytes
returns-clause-bytes g c =
    let K = g.K.FixedKind.KIND in
    let x = state c.args.self.now.device in
    let t = c.args.telegram.now in
    let b = c.args.buffer.now in
    let long : is_short b ≡ false = le-ltb (length b) 23 (search rules) in
    laid_in_room (says K x t) b _ _ (device_rules K x t).sized (search rules) (search rules) c.answer-said.ensures.bytes
    ∙ sym (cond-false _ _ _ long)
