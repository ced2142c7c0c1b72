use Rattle.std.proofs.Common.{◌≡◌, ◌<◌, length, get_or, rules}
use Rattle.lines.proofs.Places.{seen_in, placed}
use Rattle.lines.proofs.sockets.fit_socket.Goals as goal

pub returns : goal.returns
returns g c =
    let m = g.S.Station in
    let row = c.args.sockets.now in
    let n = c.args.n in
    let o = c.in_ok-socket.socket.now in
    let h : n < length row = search rules in
    let is : o ≡ get_or row n o = search rules in
    record {
      value = rw (seen_in m row n o h is) c.fit_one.ensures.value;
      after = rw (seen_in m row n o h is) (placed m row n o h is _ _ _ c.fit_one.ensures.after);
    }
