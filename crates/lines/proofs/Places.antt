-- One socket of a row, inside it and past its end.
use Rattle.std.proofs.Common.{◌≡◌, ℕ, ◌<◌, ◌≤◌, List, length, get_or, set, Some, None, Option, sym, ap, ◌∙◌}
use Rattle.std.proofs.lemmas.List.{map-set, get_or-map, length-map, get_or_past, set-get_or}
use Rattle.std.specs.Option.{option_map}
use Rattle.wall.specs.declared.station.Station.{Ghosts}
use Rattle.wall.specs.Lines.{at, after_unless}
use Rattle.lines.specs.Bank.{socket_of, states, shown, sockets_of}

module _ {S : Type 0} (m : Ghosts S) (row : List (Option S)) (n : ℕ) where
  pub seen_past : length row ≤ n → at (sockets_of m row) n ≡ None
  seen_past h = get_or_past (sockets_of m row) n None (simp length-map h)

  -- o stands at n in the row
  module _ (o : Option S) (h : n < length row) (is : o ≡ get_or row n o) where
    read : get_or (states m row) n None ≡ option_map m.state o
    read = get_or-map (option_map m.state) row n o None h ∙ ap (option_map m.state) (sym is)

    pub seen_in : at (sockets_of m row) n ≡ shown m o
    seen_in = get_or-map (socket_of m.speaks m.card) (states m row) n None None (simp length-map h) ∙ ap (socket_of m.speaks m.card) read

    -- y stands there after a call
    pub placed : {F : Type 0} (fault : Option F) (y : Option S) (v : Option m.State) → option_map m.state y ≡ after_unless fault (option_map m.state o) v → states m (set row n y) ≡ after_unless fault (states m row) (set (states m row) n v)
    placed None y v e = map-set (option_map m.state) row n y ∙ ap (set (states m row) n) e
    placed (Some why) y v e = map-set (option_map m.state) row n y ∙ ap (set (states m row) n) (e ∙ sym read) ∙ set-get_or (states m row) n None
