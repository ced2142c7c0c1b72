use Rattle.std.proofs.Common.{◌≡◌, ℕ, List, Some, None, Option, sym, ◌∙◌, MatchOption, IsSomeAnd, Bor}
use Rattle.std.specs.Slice.{IsItemAt}
use Rattle.wall.specs.declared.station.Station.{Ghosts}
use Rattle.wall.specs.declared.card.Socket.{Socket}
use Rattle.wall.specs.Lines.{at}
use Rattle.lines.specs.Bank.{shown, sockets_of}
use Rattle.lines.proofs.Places.{seen_past, seen_in}
use Rattle.lines.proofs.sockets.socket_at.Goals as goal

at_place : {S : Type 0} (m : Ghosts S) (row : List (Option S)) (n : ℕ) (r : Option (Bor (Option S))) (q : Option Socket) → IsItemAt row n r → MatchOption r (q ≡ None) (λ x. IsSomeAnd q (λ s. Some s ≡ shown m x.now)) → q ≡ at (sockets_of m row) n
at_place m row n None q i k = k ∙ sym (seen_past m row n i.3)
at_place m row n (Some x) None i k = absurd k
at_place m row n (Some x) (Some s) i k = k ∙ sym (seen_in m row n x.now i.3.0 i.1)

pub returns : goal.returns
returns g c = at_place g.S.Station c.args.sockets.now c.args.n c.get.result c.map.result c.get.ensures.lookup c.map.ensures.cases
