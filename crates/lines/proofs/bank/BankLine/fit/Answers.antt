use Rattle.std.proofs.Common.{◌-◌, List, take, Option, refl}
use Rattle.wall.specs.Lines.{at, fit_fault_at}
use Rattle.lines.specs.Bank.{BankState, sockets_of}
use Rattle.lines.proofs.Cuts.{lent, front_back, rest_back}
use Rattle.lines.proofs.Refusals.{whole_after}
use Rattle.lines.proofs.bank.BankLine.fit.Goals as goal

pub returns : goal.returns
returns g c =
    let m = g.S.Station in
    let row = c.args.self.now.sockets.now in
    let n = c.in_use-n.result in
    let is = c.in_use-n.ensures in
    let last = c.fit_socket.new.sockets in
    let long = c.fit_socket.auto.sockets in
    let whole : List (Option m.State) → BankState m.State = λ ss. record { sockets = ss; tally = c.args.self.now.tally.value } in
    record {
      value = rw (← lent 64 n row is) c.fit_socket.ensures.value;
      after = rw (front_back 64 n row is last long, ← lent 64 n row is) (whole_after whole (fit_fault_at (at (sockets_of m (take (n - 0) row)) c.args.socket) c.args.newcomer.serial c.args.newcomer.address) _ _ c.fit_socket.ensures.after);
      loan = record { rest = rest_back 64 n row is last long; lender = refl };
    }
