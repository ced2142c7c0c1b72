use Rattle.std.proofs.Common.{◌≡◌, ℕ, zero, suc, ◌-◌, min, ◌∷◌, map, length, take, replicate, None, refl, ap, arith}
use Rattle.std.proofs.lemmas.List.{length-take}
use Rattle.std.specs.Option.{option_map}
use Rattle.lines.proofs.Cuts.{front_back, rest_back}
use Rattle.lines.proofs.bank.Bank.new.Goals as goal

nones : {Y X : Type 0} (state : Y → X) (n : ℕ) → map (option_map state) (replicate n None) ≡ replicate n None
nones state zero = refl
nones state (suc n) = ap (λ os. None ∷ os) (nones state n)

pub returns : goal.returns
returns g c =
    let row = c.args.sockets.now in
    let n = c.in_use-n.result in
    let is = c.in_use-n.ensures in
    let last = c.empty_sockets.new.sockets in
    let long = c.empty_sockets.auto.sockets in
    let places : length (take (n - 0) row) ≡ min (length row) 64 = simp length-take (omega arith) in
    record {
      state = rw (front_back 64 n row is last long, c.empty_sockets.ensures, places, nones g.S.Station.state (min (length row) 64), c.new.ensures);
      loan = record { rest = rest_back 64 n row is last long; lender = refl };
    }
