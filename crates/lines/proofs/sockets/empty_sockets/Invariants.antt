use Rattle.std.proofs.Common.{◌≡◌, take, replicate, None}
use Rattle.lines.proofs.sockets.empty_sockets.Given as goal

abbrev pub invariant-loop-socket : goal.invariant-loop-socket
invariant-loop-socket g l = take l.socket-index l.sockets ≡ replicate l.socket-index None
