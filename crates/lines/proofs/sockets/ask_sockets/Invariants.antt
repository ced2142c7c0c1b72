use Rattle.std.proofs.Common.{◌≡◌, map, take, drop}
use Rattle.wall.specs.Lines.{outcome_of, front}
use Rattle.lines.specs.Bank.{become_in, states, chorus}
use Rattle.lines.proofs.sockets.ask_sockets.Given as goal

-- the stations up to here were told, and what they said is heard
abbrev pub invariant-loop-socket : goal.invariant-loop-socket
invariant-loop-socket g l =
    let m = g.S.Station in
    let i = l.socket-index in
    let row = l.initial.sockets in
    record {
      told : states m (take i l.sockets) ≡ map (become_in m.becomes l.telegram) (states m (take i row));
      rest : drop i l.sockets ≡ drop i row;
      heard : l.heard ≡ outcome_of (chorus m (take i row) l.telegram);
      front : l.front ≡ front (chorus m (take i row) l.telegram);
    }
