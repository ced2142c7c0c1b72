use Rattle.std.proofs.Common.{◌≡◌, ◌<◌, length, get_or, take, arith}
use Rattle.std.proofs.lemmas.Grind.{common_steps}
use Rattle.lines.specs.Bank.{chorus, voice}
use Rattle.lines.proofs.Blending.{blended-both, kept-both}
use Rattle.lines.proofs.Choruses.{chorus-more}
use Rattle.lines.proofs.sockets.ask_sockets.Goals as goal

pub loop-socket-preserved : goal.loop-socket-preserved
loop-socket-preserved g c =
    let m = g.S.Station in
    let t = c.args.telegram.now in
    let row = c.args.sockets.now in
    let i = c.loop-socket.socket-index in
    let o = c.socket-item.result in
    let inside : i < length row = omega arith in
    let here : o ≡ get_or row i o = grind (arith, common_steps) in
    let more = chorus-more m row t i o inside here in
    let said = blended-both (chorus m (take i row) t) (voice m o t) in
    let left = kept-both (chorus m (take i row) t) (voice m o t) in
    record {
      told = grind (arith, common_steps);
      rest = grind (arith, common_steps);
      heard = cc;
      front = cc;
    }
