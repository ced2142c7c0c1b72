-- The laws of a bank, from those of each of its stations alone.
use Rattle.std.specs.Prelude.{◌≡◌, ℕ, zero, suc, ◌+◌, Bool, true, false, cond, List, [], ◌∷◌, map, length, Some, None, Option, ◌==◌, slice_set, refl}
use Rattle.std.proofs.Common.{sym, ap, subst, ◌∙◌, arith}
use Rattle.std.specs.Option.{option_map}
use Rattle.wall.specs.declared.card.Card.{Card}
use Rattle.wall.specs.declared.card.Socket.{Socket}
use Rattle.wall.specs.Counts.{one_more}
use Rattle.wall.specs.Wall.{Wall, answer, somes, joined, together, heard_in, changed_in, changed, counted, GoodStation, GoodSockets}
use Rattle.wall.specs.Rules.{Rules, Probed, Sized, hits, bare, if_bears, found, store_said, storing, adopt_said, adopting}
use Rattle.wall.specs.Lines.{at, holding}
use Rattle.wall.specs.Laws.{new_card, alone, StationLaws}
use Rattle.wall.specs.LineLaws.{LineLaws}
use Rattle.wall.proofs.Lines.{line_laws}
use Rattle.lines.specs.LawsOfJoints.{hit_one}
use Rattle.lines.specs.Bank.{BankState, socket_of, said_in, become_in, bank_wall, bank_reply, bank_next, bank_fits, bank_pulls}

-- what the rules of a wall with one station say of the station

one-said : (x y : Option (List ℕ)) → together (x ∷ []) ≡ together (y ∷ []) → x ≡ y
one-said x y e = grind arith

abbrev card_or : Card → Option Card → Card
card_or d None = d
card_or d (Some c) = c

abbrev card_in : Card → List (Option Socket) → Card
card_in d [] = d
card_in d (None ∷ ss) = d
card_in d (Some s ∷ ss) = card_or d s.station

one-card : (c : Card) (w v : Wall) → w ≡ v → card_in c w.sockets ≡ card_in c v.sockets
one-card c w v e = ap (λ (u : Wall). card_in c u.sockets) e

probed-one : (a : ℕ) (k : Bool) (x : Option (List ℕ)) → Probed a (cond k 1 0) (together (x ∷ [])) → (length (somes (x ∷ [])) ≡ cond k 1 0) × ((bytes : List ℕ) → x ≡ Some bytes → (rest : List ℕ) × (bytes ≡ a ∷ rest))
probed-one a true None p = (let z = p.1 in cc, λ bytes e. cc)
probed-one a true (Some b) p = (refl, λ bytes e. (p.0, let z = p.1 in cc))
probed-one a false None p = (refl, λ bytes e. cc)
probed-one a false (Some b) p = (cc, λ bytes e. cc)

-- lists of what is said

length-somes : {X : Type 0} (o : Option X) (os : List (Option X)) → length (somes (o ∷ os)) ≡ length (somes (o ∷ [])) + length (somes os)
length-somes o os = grind arith

somes_cons : {X : Type 0} (o : Option X) (os us : List (Option X)) → somes os ≡ somes us → somes (o ∷ os) ≡ somes (o ∷ us)
somes_cons o os us e = grind arith

-- each of these begins with the address
abbrev Begins : ℕ → List (List ℕ) → Type 0
Begins a [] = Unit {0}
Begins a (x ∷ xs) = ((rest : List ℕ) × (x ≡ a ∷ rest)) × Begins a xs

probed-joined : (a : ℕ) (xs : List (List ℕ)) → Begins a xs → Probed a (length xs) (joined xs)
probed-joined a [] h = refl
probed-joined a (x ∷ []) h = (h.0.0, ap answer h.0.1)
probed-joined a (x ∷ y ∷ xs) h = refl

begins_cons : (a : ℕ) (o : Option (List ℕ)) (os : List (Option (List ℕ))) → ((bytes : List ℕ) → o ≡ Some bytes → (rest : List ℕ) × (bytes ≡ a ∷ rest)) → Begins a (somes os) → Begins a (somes (o ∷ os))
begins_cons a None os h k = k
begins_cons a (Some bytes) os h k = (h bytes refl, k)

sized-joined : (a : List ℕ) (xs : List (List ℕ)) → Sized (answer a) → Sized (joined (a ∷ xs))
sized-joined a [] h = h
sized-joined a (x ∷ xs) h = tt

sized_cons : (o : Option (List ℕ)) (os : List (Option (List ℕ))) → Sized (together (o ∷ [])) → Sized (together os) → Sized (together (o ∷ os))
sized_cons None os h k = k
sized_cons (Some a) os h k = sized-joined a (somes os) h

-- a row of stations that each keep the rules alone, at one telegram

module _ {X : Type 0} (speaks : Bool) (card : X → Card) (says : X → List ℕ → Option (List ℕ)) (becomes : X → List ℕ → X) (t : List ℕ) where
  abbrev said : List (Option X) → List (Option (List ℕ))
  said xs = map (said_in says t) xs

  abbrev shown : List (Option X) → List (Option Socket)
  shown xs = map (socket_of speaks card) xs

  abbrev after : List (Option X) → List (Option X)
  after xs = map (become_in becomes t) xs

  all_said : (f : Card → Option (List ℕ)) → ((x : X) → says x t ≡ f (card x)) → (xs : List (Option X)) → somes (said xs) ≡ somes (map f (somes (map heard_in (shown xs))))
  all_said f h [] = refl
  all_said f h (None ∷ xs) = all_said f h xs
  all_said f h (Some x ∷ xs) = ap (λ (o : Option (List ℕ)). somes (o ∷ said xs)) (h x) ∙ somes_cons (f (card x)) (said xs) (map f (somes (map heard_in (shown xs)))) (all_said f h xs)

  none_said : ((x : X) → says x t ≡ None) → (xs : List (Option X)) → somes (said xs) ≡ []
  none_said h [] = refl
  none_said h (None ∷ xs) = none_said h xs
  none_said h (Some x ∷ xs) = ap (λ (o : Option (List ℕ)). somes (o ∷ said xs)) (h x) ∙ none_said h xs

  none-heard : (xs : List (Option X)) → somes (map heard_in (shown xs)) ≡ [] → somes (said xs) ≡ []
  none-heard [] e = refl
  none-heard (None ∷ xs) e = none-heard xs e
  none-heard (Some x ∷ xs) e = cc

  all-hits : (a : ℕ) → ((x : X) → length (somes (says x t ∷ [])) ≡ cond ((card x).address == a) 1 0) → (xs : List (Option X)) → length (somes (said xs)) ≡ hits a (somes (map heard_in (shown xs)))
  all-hits a h [] = refl
  all-hits a h (None ∷ xs) = all-hits a h xs
  all-hits a h (Some x ∷ xs) = length-somes (says x t) (said xs) ∙ (λ i. h x i + all-hits a h xs i) ∙ sym (hit_one ((card x).address == a) (hits a (somes (map heard_in (shown xs)))))

  all_begin : (a : ℕ) → ((x : X) (bytes : List ℕ) → says x t ≡ Some bytes → (rest : List ℕ) × (bytes ≡ a ∷ rest)) → (xs : List (Option X)) → Begins a (somes (said xs))
  all_begin a h [] = tt
  all_begin a h (None ∷ xs) = all_begin a h xs
  all_begin a h (Some x ∷ xs) = begins_cons a (says x t) (said xs) (h x) (all_begin a h xs)

  all-sized : ((x : X) → Sized (together (says x t ∷ []))) → (xs : List (Option X)) → Sized (together (said xs))
  all-sized h [] = tt
  all-sized h (None ∷ xs) = all-sized h xs
  all-sized h (Some x ∷ xs) = sized_cons (says x t) (said xs) (h x) (all-sized h xs)

  -- the stations after the telegram, as the wall shows them
  all_changed : (f : Card → Card) → ((x : X) → card (becomes x t) ≡ f (card x)) → (xs : List (Option X)) → shown (after xs) ≡ map (changed_in f) (shown xs)
  all_changed f h [] = refl
  all_changed f h (None ∷ xs) = ap (λ ss. socket_of speaks card None ∷ ss) (all_changed f h xs)
  all_changed f h (Some x ∷ xs) = λ i. Some (record { live = true; speaks = speaks; station = Some (h x i) }) ∷ all_changed f h xs i

  all_same : ((x : X) → card (becomes x t) ≡ card x) → (xs : List (Option X)) → shown (after xs) ≡ shown xs
  all_same h [] = refl
  all_same h (None ∷ xs) = ap (λ ss. socket_of speaks card None ∷ ss) (all_same h xs)
  all_same h (Some x ∷ xs) = λ i. Some (record { live = true; speaks = speaks; station = Some (h x i) }) ∷ all_same h xs i

  all-bare : ((x : X) → bare (card (becomes x t)) ≡ bare (card x)) → (xs : List (Option X)) → map (changed_in bare) (shown (after xs)) ≡ map (changed_in bare) (shown xs)
  all-bare h [] = refl
  all-bare h (None ∷ xs) = ap (λ ss. socket_of speaks card None ∷ ss) (all-bare h xs)
  all-bare h (Some x ∷ xs) = λ i. Some (record { live = true; speaks = speaks; station = Some (h x i) }) ∷ all-bare h xs i

  all_keep : ((x : X) → GoodStation speaks (Some (card x)) → GoodStation speaks (Some (card (becomes x t)))) → (xs : List (Option X)) → GoodSockets (shown xs) → GoodSockets (shown (after xs))
  all_keep h [] g = tt
  all_keep h (None ∷ xs) g = (tt, all_keep h xs g.1)
  all_keep h (Some x ∷ xs) g = (h x g.0, all_keep h xs g.1)

  bank_rules : ((x : X) → Rules (alone speaks (card x)) t (together (says x t ∷ [])) (counted (alone speaks (card (becomes x t))))) → (xs : List (Option X)) (n : ℕ) → Rules (record { sockets = shown xs; tally = n }) t (together (said xs)) (record { sockets = shown (after xs); tally = one_more n })
  bank_rules law xs n =
      let seal : List (Option Socket) → Wall = λ ss. record { sockets = ss; tally = one_more n } in
      let now : X → Card = λ x. card (becomes x t) in
      let same : ((x : X) → counted (alone speaks (now x)) ≡ counted (alone speaks (card x))) → seal (shown (after xs)) ≡ seal (shown xs) = λ h. ap seal (all_same (λ x. one-card (card x) (counted (alone speaks (now x))) (counted (alone speaks (card x))) (h x)) xs) in
      let moved : (f : Card → Card) → ((x : X) → counted (alone speaks (now x)) ≡ counted (changed f (alone speaks (card x)))) → seal (shown (after xs)) ≡ seal (map (changed_in f) (shown xs)) = λ f h. ap seal (all_changed f (λ x. one-card (card x) (counted (alone speaks (now x))) (counted (changed f (alone speaks (card x)))) (h x)) xs) in
      let say : (f : Card → Option (List ℕ)) → ((x : X) → together (says x t ∷ []) ≡ together (f (card x) ∷ [])) → together (said xs) ≡ together (map f (somes (map heard_in (shown xs)))) = λ f h. ap joined (all_said f (λ x. one-said (says x t) (f (card x)) (h x)) xs) in
      record {
        broken = λ e. (ap joined (none_said (λ x. one-said (says x t) None ((law x).broken e).0) xs), same (λ x. ((law x).broken e).1));
        finder = λ m l e. (say (if_bears m found) (λ x. ((law x).finder m l e).0), same (λ x. ((law x).finder m l e).1));
        store = λ s a l z b e. (say (if_bears s (store_said a)) (λ x. ((law x).store s a l z b e).0), moved (storing s a) (λ x. ((law x).store s a l z b e).1));
        adopt = λ s l z e. (say (if_bears s (adopt_said s)) (λ x. ((law x).adopt s l z e).0), moved (adopting s) (λ x. ((law x).adopt s l z e).1));
        probe = λ a b e. (
          subst (λ (k : ℕ). Probed a k (together (said xs))) (all-hits a (λ x. (probed-one a ((card x).address == a) (says x t) ((law x).probe a b e).0).0) xs) (probed-joined a (somes (said xs)) (all_begin a (λ x. (probed-one a ((card x).address == a) (says x t) ((law x).probe a b e).0).1) xs)),
          same (λ x. ((law x).probe a b e).1),
        );
        others = ap seal (all-bare (λ x. one-card (card x) (changed bare (counted (alone speaks (now x)))) (counted (changed bare (alone speaks (card x)))) (law x).others) xs);
        keeps = all_keep (λ x g. ((law x).keeps (g, tt)).0) xs;
        quiet = λ e. ap joined (none-heard xs e);
        sized = all-sized (λ x. (law x).sized) xs;
      }

module _ {X : Type 0} (speaks : Bool) (card : X → Card) where
  -- another station in a socket, or none
  all-refilled : (o : Option X) (station : Bool → Option Card) → option_map card o ≡ station speaks → (xs : List (Option X)) (n : ℕ) → map (socket_of speaks card) (slice_set xs n o) ≡ slice_set (map (socket_of speaks card) xs) n (holding station (at (map (socket_of speaks card) xs) n))
  all-refilled o station h [] n = refl
  all-refilled o station h (x ∷ xs) zero = ap (λ c. Some (record { live = true; speaks = speaks; station = c }) ∷ map (socket_of speaks card) xs) h
  all-refilled o station h (x ∷ xs) (suc n) = ap (λ ss. socket_of speaks card x ∷ ss) (all-refilled o station h xs n)

  all-good : {Y : Type 0} (state : Y → X) → ((y : Y) → GoodStation speaks (Some (card (state y)))) → (ys : List (Option Y)) → GoodSockets (map (socket_of speaks card) (map (option_map state) ys))
  all-good state h [] = tt
  all-good state h (None ∷ ys) = (tt, all-good state h ys)
  all-good state h (Some y ∷ ys) = (h y, all-good state h ys)

-- Z is the bank, with stations Y in its row
pub bank_laws_of : {Z Y X : Type 0} (row : Z → List (Option Y)) (tally : Z → ℕ) → {state : Y → X} {speaks : Bool} {card : X → Card} {says : X → List ℕ → Option (List ℕ)} {becomes : X → List ℕ → X} {fresh : ℕ → ℕ → Bool → X} → StationLaws state speaks card says becomes fresh → LineLaws (λ (z : Z). record { sockets = map (option_map state) (row z); tally = tally z }) (bank_wall speaks card) (bank_reply says) (bank_next becomes) (bank_fits fresh) bank_pulls
bank_laws_of {Z} {Y} {X} row tally {state} {speaks} {card} {says} {becomes} {fresh} h =
    let refill : BankState X → List (Option Socket) → Wall = λ b ss. record { sockets = ss; tally = b.tally } in
    line_laws
    (λ b t. bank_rules speaks card says becomes t (λ x. h.rules x t) b.sockets b.tally)
    (λ b n serial address defective. ap (refill b) (all-refilled speaks card (Some (fresh serial address defective)) (λ s. Some (new_card s serial address defective)) (ap Some (h.made serial address defective)) b.sockets n))
    (λ b n. ap (refill b) (all-refilled speaks card None (λ s. None) refl b.sockets n))
    (λ z. all-good speaks card state h.good (row z))
