-- The laws of a feeder, from those of its line.
use Rattle.std.specs.Prelude.{◌≡◌, ℕ, Bool, true, false, List, [], ◌∷◌, map, Some, None, Option, slice_set, refl}
use Rattle.std.proofs.Common.{sym, ap, subst, ◌∙◌, arith}
use Rattle.std.proofs.Math.ListN.{get_or-map}
use Rattle.std.proofs.lemmas.List.{map-set}
use Rattle.wall.specs.declared.card.Card.{Card}
use Rattle.wall.specs.declared.card.Socket.{Socket}
use Rattle.wall.specs.Counts.{one_more}
use Rattle.wall.specs.Wall.{Wall, Reply, silence, somes, together, heard_in, changed_in, GoodSocket, GoodSockets}
use Rattle.wall.specs.Laws.{new_card}
use Rattle.wall.specs.Rules.{Rules, Probed, hits, if_bears, found, store_said, storing, adopt_said, adopting}
use Rattle.wall.specs.Lines.{at, fit_fault_at, pull_fault_at, holding}
use Rattle.wall.specs.LineLaws.{LineLaws}
use Rattle.wall.proofs.Lines.{line_laws}
use Rattle.lines.specs.Feeder.{FeederState, gate, feeder_wall, feeder_reply, feeder_next, feeder_fits, feeder_pulls}

-- a feeder that is on shows its line as it is

on_one : (o : Option Socket) → gate true o ≡ o
on_one o = grind arith

on-all : (ss : List (Option Socket)) → map (gate true) ss ≡ ss
on-all [] = refl
on-all (s ∷ ss) = λ i. on_one s i ∷ on-all ss i

-- what the rules say of a wall does not hang on its tally
retallied : (n : ℕ) (w v : Wall) (t : List ℕ) (r : Reply) → Rules w t r v → Rules (record { sockets = w.sockets; tally = n }) t r (record { sockets = v.sockets; tally = one_more n })
retallied n w v t r h =
    let seal : Wall → Wall = λ u. record { sockets = u.sockets; tally = one_more n } in
    record {
      broken = λ e. ((h.broken e).0, ap seal (h.broken e).1);
      finder = λ m l e. ((h.finder m l e).0, ap seal (h.finder m l e).1);
      store = λ s a l z i e. ((h.store s a l z i e).0, ap seal (h.store s a l z i e).1);
      adopt = λ s l z e. ((h.adopt s l z e).0, ap seal (h.adopt s l z e).1);
      probe = λ a i e. ((h.probe a i e).0, ap seal (h.probe a i e).1);
      others = ap seal h.others;
      keeps = h.keeps;
      quiet = h.quiet;
      sized = h.sized;
    }

-- sockets none of which is heard: silence, and no station changes

unheard : (n : ℕ) (ss : List (Option Socket)) (t : List ℕ) → somes (map heard_in ss) ≡ [] → ((f : Card → Card) → ss ≡ map (changed_in f) ss) → Rules (record { sockets = ss; tally = n }) t silence (record { sockets = ss; tally = one_more n })
unheard n ss t none still =
    let seal : List (Option Socket) → Wall = λ u. record { sockets = u; tally = one_more n } in
    let say : (f : Card → Option (List ℕ)) → silence ≡ together (map f (somes (map heard_in ss))) = λ f. ap (λ (cs : List Card). together (map f cs)) (sym none) in
    record {
      broken = λ e. (refl, refl);
      finder = λ m l e. (say (if_bears m found), refl);
      store = λ s a l z i e. (say (if_bears s (store_said a)), ap seal (still (storing s a)));
      adopt = λ s l z e. (say (if_bears s (adopt_said s)), ap seal (still (adopting s)));
      probe = λ a i e. (subst (λ (cs : List Card). Probed a (hits a cs) silence) (sym none) refl, refl);
      others = refl;
      keeps = λ k. k;
      quiet = λ _. refl;
      sized = tt;
    }

off_heard : (s : Socket) → heard_in (gate false (Some s)) ≡ None
off_heard s = grind arith

off_heards : (ss : List (Option Socket)) → somes (map heard_in (map (gate false) ss)) ≡ []
off_heards [] = refl
off_heards (None ∷ ss) = off_heards ss
off_heards (Some s ∷ ss) = ap (λ (o : Option Card). somes (o ∷ map heard_in (map (gate false) ss))) (off_heard s) ∙ off_heards ss

off_one : (f : Card → Card) (o : Option Socket) → gate false o ≡ changed_in f (gate false o)
off_one f o = grind arith

off_all : (f : Card → Card) (ss : List (Option Socket)) → map (gate false) ss ≡ map (changed_in f) (map (gate false) ss)
off_all f [] = refl
off_all f (s ∷ ss) = λ i. off_one f s i ∷ off_all f ss i

module _ {X : Type 0} (wall : X → Wall) (reply : X → List ℕ → Reply) (next : X → List ℕ → X) (law : (x : X) (t : List ℕ) → Rules (wall x) t (reply x t) (wall (next x t))) where
  rules-at : (on : Bool) (x : X) (n : ℕ) (t : List ℕ) → let f : FeederState X = record { line = x; on = on; tally = n } in Rules (feeder_wall wall f) t (feeder_reply reply f t) (feeder_wall wall (feeder_next next f t))
  rules-at true x n t =
      subst (λ (p : List (Option Socket)). Rules (record { sockets = p; tally = n }) t (reply x t) (record { sockets = map (gate true) (wall (next x t)).sockets; tally = one_more n })) (sym (on-all (wall x).sockets))
      (subst (λ (p : List (Option Socket)). Rules (record { sockets = (wall x).sockets; tally = n }) t (reply x t) (record { sockets = p; tally = one_more n })) (sym (on-all (wall (next x t)).sockets))
      (retallied n (wall x) (wall (next x t)) t (reply x t) (law x t)))
  rules-at false x n t = unheard n (map (gate false) (wall x).sockets) t (off_heards (wall x).sockets) (λ f. off_all f (wall x).sockets)

-- sockets behind the switch, for fit and pull

pub at-gate : (on : Bool) (ss : List (Option Socket)) (n : ℕ) → at (map (gate on) ss) n ≡ gate on (at ss n)
at-gate on ss n = get_or-map (gate on) ss n None

-- a switch changes nothing of what is refused

fit-fault-one : (on : Bool) (o : Option Socket) (serial : List ℕ) (address : ℕ) → fit_fault_at (gate on o) serial address ≡ fit_fault_at o serial address
fit-fault-one on o serial address = grind arith

pub fit-fault-gate : (on : Bool) (ss : List (Option Socket)) (n : ℕ) (serial : List ℕ) (address : ℕ) → fit_fault_at (at (map (gate on) ss) n) serial address ≡ fit_fault_at (at ss n) serial address
fit-fault-gate on ss n serial address = ap (λ (o : Option Socket). fit_fault_at o serial address) (at-gate on ss n) ∙ fit-fault-one on (at ss n) serial address

pull-fault-one : (on : Bool) (o : Option Socket) → pull_fault_at (gate on o) ≡ pull_fault_at o
pull-fault-one on o = grind arith

pub pull-fault-gate : (on : Bool) (ss : List (Option Socket)) (n : ℕ) → pull_fault_at (at (map (gate on) ss) n) ≡ pull_fault_at (at ss n)
pull-fault-gate on ss n = ap pull_fault_at (at-gate on ss n) ∙ pull-fault-one on (at ss n)

gate-holding : (on : Bool) (station : Bool → Option Card) (o : Option Socket) → gate on (holding station o) ≡ holding station (gate on o)
gate-holding on station o = grind arith

gate-refilled : (on : Bool) (station : Bool → Option Card) (ss : List (Option Socket)) (n : ℕ) → map (gate on) (slice_set ss n (holding station (at ss n))) ≡ slice_set (map (gate on) ss) n (holding station (at (map (gate on) ss) n))
gate-refilled on station ss n = map-set (gate on) ss n (holding station (at ss n)) ∙ ap (slice_set (map (gate on) ss) n) (gate-holding on station (at ss n) ∙ sym (ap (holding station) (at-gate on ss n)))

good-one : (on : Bool) (o : Option Socket) → GoodSocket o → GoodSocket (gate on o)
good-one on None h = h
good-one on (Some s) h = h

good-all : (on : Bool) (ss : List (Option Socket)) → GoodSockets ss → GoodSockets (map (gate on) ss)
good-all on [] h = tt
good-all on (s ∷ ss) h = (good-one on s h.0, good-all on ss h.1)

-- Z is the feeder, over a line Y
pub feeder_laws_of : {Z Y X : Type 0} (line : Z → Y) (on : Z → Bool) (tally : Z → ℕ) → {state : Y → X} {wall : X → Wall} {reply : X → List ℕ → Reply} {next : X → List ℕ → X} {fits : X → ℕ → ℕ → ℕ → Bool → X} {pulls : X → ℕ → X} → LineLaws state wall reply next fits pulls → LineLaws (λ (z : Z). record { line = state (line z); on = on z; tally = tally z }) (feeder_wall wall) (feeder_reply reply) (feeder_next next) (feeder_fits fits) (feeder_pulls pulls)
feeder_laws_of {Z} {Y} {X} line on tally {state} {wall} {reply} {next} {fits} {pulls} h =
    let shown : FeederState X → Wall → Wall = λ f w. record { sockets = map (gate f.on) w.sockets; tally = f.tally } in
    let refill : FeederState X → List (Option Socket) → Wall = λ f ss. record { sockets = ss; tally = f.tally } in
    line_laws
    (λ f t. rules-at wall reply next h.rules f.on f.line f.tally t)
    (λ f n serial address defective. ap (shown f) (h.fit f.line n serial address defective) ∙ ap (refill f) (gate-refilled f.on (λ speaks. Some (new_card speaks serial address defective)) (wall f.line).sockets n))
    (λ f n. ap (shown f) (h.pull f.line n) ∙ ap (refill f) (gate-refilled f.on (λ speaks. None) (wall f.line).sockets n))
    (λ z. good-all (on z) (wall (state (line z))).sockets (h.good (line z)))
