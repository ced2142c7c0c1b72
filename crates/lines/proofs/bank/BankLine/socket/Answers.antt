use Rattle.lines.proofs.Cuts.{lent}
use Rattle.lines.proofs.bank.BankLine.socket.Goals as goal

pub returns : goal.returns
returns g c = rw (← lent 64 c.in_use-used.result c.args.self.now.sockets.now c.in_use-used.ensures) c.socket_at.ensures
