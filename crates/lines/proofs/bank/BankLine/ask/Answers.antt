use Rattle.std.proofs.Common.{◌≡◌, ◌≤◌, false, ◌++◌, length, drop, Ok, refl, ap, rules}
use Rattle.std.proofs.lemmas.Bool.{le-ltb}
use Rattle.wall.specs.Tells.{is_short}
use Rattle.lines.proofs.Cuts.{lent, front_back, rest_back}
use Rattle.lines.proofs.bank.BankLine.ask.Goals as goal

pub returns : goal.returns
returns g c =
    let b = c.args.buffer.now in
    let h : 23 ≤ length b = search rules in
    let enough : is_short b ≡ false = le-ltb (length b) 23 h in
    let row = c.args.self.now.sockets.now in
    let n = c.in_use-n.result in
    let is = c.in_use-n.ensures in
    let last = c.ask_sockets.new.sockets in
    let long = c.ask_sockets.auto.sockets in
    let asked = c.ask_sockets.ensures in
    record {
      value = rw (enough, ← lent 64 n row is) (ap Ok asked.outcome);
      bytes = rw (enough, ← lent 64 n row is) (ap (λ f. f ++ drop 23 b) asked.bytes);
      after = rw (enough, front_back 64 n row is last long, ← lent 64 n row is) (λ i. record { sockets = asked.after i; tally = c.count.ensures i });
      loan = record { rest = rest_back 64 n row is last long; lender = refl };
    }
