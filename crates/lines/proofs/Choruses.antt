-- One socket more of those that were told.
use Rattle.std.proofs.Common.{◌≡◌, ℕ, ◌+◌, ◌<◌, List, [], ◌∷◌, ◌++◌, length, get_or, take, Option, refl}
use Rattle.std.proofs.lemmas.List.{take_more, map-append}
use Rattle.wall.specs.declared.station.Station.{Ghosts}
use Rattle.wall.specs.Wall.{together}
use Rattle.lines.specs.Bank.{chorus, voice}
use Rattle.lines.specs.Blends.{both}
use Rattle.lines.specs.LawsOfJoints.{both_assoc, together_cons}

together_push : (os : List (Option (List ℕ))) (o : Option (List ℕ)) → together (os ++ (o ∷ [])) ≡ both (together os) (together (o ∷ []))
together_push [] o = refl
together_push (p ∷ os) o =
    let a = together_cons p (os ++ (o ∷ [])) in
    let b = together_push os o in
    let c = both_assoc (together (p ∷ [])) (together os) (together (o ∷ [])) in
    let d = together_cons p os in
    cc

-- o stands at i in the row
pub chorus-more : {S : Type 0} (m : Ghosts S) (row : List (Option S)) (t : List ℕ) (i : ℕ) (o : Option S) → i < length row → o ≡ get_or row i o → chorus m (take (i + 1) row) t ≡ both (chorus m (take i row) t) (voice m o t)
chorus-more m row t i o h is = rw (take_more row i o h, ← is) (simp (map-append, together_push))
