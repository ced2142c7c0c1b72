-- The laws of a joint, from those of its two lines.
use Rattle.std.specs.Prelude.{◌≡◌, ℕ, zero, suc, ◌+◌, ◌*◌, ◌/◌, ◌%◌, ◌<◌, ◌≤◌, Bool, true, false, cond, List, [], ◌∷◌, map, Some, None, Option, ◌==◌, ◌≢◌, slice_set, refl}
use Rattle.std.proofs.Common.{sym, ap, subst, ◌∙◌, arith}
use Rattle.std.proofs.lemmas.Bool.{eqb-true, eqb-false}
use Rattle.wall.specs.declared.card.Card.{Card}
use Rattle.wall.specs.declared.card.Socket.{Socket}
use Rattle.wall.specs.Counts.{one_more}
use Rattle.wall.specs.Wall.{Wall, Reply, silence, answer, clash, somes, joined, together, heard_in, changed_in, changed, counted, GoodSockets}
use Rattle.wall.specs.Laws.{new_card}
use Rattle.wall.specs.Rules.{Rules, Probed, Sized, hits, bare, if_bears, found, store_said, storing, adopt_said, adopting}
use Rattle.wall.specs.Lines.{at, holding}
use Rattle.wall.specs.LineLaws.{LineLaws}
use Rattle.wall.proofs.Lines.{line_laws}
use Rattle.lines.specs.Blends.{both}
use Rattle.lines.specs.Joint.{JointState, woven, even, with_left, with_right, joint_wall, joint_reply, joint_next, joint_fits, joint_pulls}

abbrev Sockets : Type 0
Sockets = List (Option Socket)

-- two replies on one wire, in any order and any grouping

pub both-silence : (r : Reply) → both r silence ≡ r
both-silence r = grind arith

both_swap : (r s : Reply) → both r s ≡ both s r
both_swap r s = grind arith

pub both_assoc : (r s u : Reply) → both (both r s) u ≡ both r (both s u)
both_assoc r s u = grind arith

both_pairs : (a b r s : Reply) → both a (both b (both r s)) ≡ both (both a r) (both b s)
both_pairs a b r s = grind arith

joined_cons : (a : List ℕ) (xs : List (List ℕ)) → joined (a ∷ xs) ≡ both (answer a) (joined xs)
joined_cons a xs = grind arith

pub together_cons : (o : Option (List ℕ)) (os : List (Option (List ℕ))) → together (o ∷ os) ≡ both (together (o ∷ [])) (together os)
together_cons None os = refl
together_cons (Some a) os = joined_cons a (somes os)

-- what the heard stations of both lines say is what those of each say, on one wire

module _ (f : Card → Option (List ℕ)) where
  abbrev said_by : Sockets → Reply
  said_by ss = together (map f (somes (map heard_in ss)))

  heard_cons : (h : Option Card) (hs : List (Option Card)) → together (map f (somes (h ∷ hs))) ≡ both (together (map f (somes (h ∷ [])))) (together (map f (somes hs)))
  heard_cons None hs = refl
  heard_cons (Some c) hs = together_cons (f c) (map f (somes hs))

  said_cons : (s : Option Socket) (ss : Sockets) → said_by (s ∷ ss) ≡ both (said_by (s ∷ [])) (said_by ss)
  said_cons s ss = heard_cons (heard_in s) (map heard_in ss)

  said-woven : (xs ys : Sockets) → said_by (woven xs ys) ≡ both (said_by xs) (said_by ys)
  said-woven [] [] = refl
  said-woven [] (y ∷ ys) = let p = said_cons y (woven [] ys) in let r = said-woven [] ys in let u = said_cons y ys in cc
  said-woven (x ∷ xs) [] =
      let p = said_cons x (None ∷ woven xs []) in
      let r = said-woven xs [] in
      let u = said_cons x xs in
      let a = both_assoc (said_by (x ∷ [])) (said_by xs) silence in
      cc
  said-woven (x ∷ xs) (y ∷ ys) =
      let p = said_cons x (y ∷ woven xs ys) in
      let q = said_cons y (woven xs ys) in
      let r = said-woven xs ys in
      let u = said_cons x xs in
      let v = said_cons y ys in
      let a = both_pairs (said_by (x ∷ [])) (said_by (y ∷ [])) (said_by xs) (said_by ys) in
      cc

-- as many have an address in force as in both lines together

pub hit_one : (k : Bool) (n : ℕ) → cond k (suc n) n ≡ cond k 1 0 + n
hit_one k n = grind arith

module _ (a : ℕ) where
  abbrev hits_in : Sockets → ℕ
  hits_in ss = hits a (somes (map heard_in ss))

  hit_cons : (h : Option Card) (hs : List (Option Card)) → hits a (somes (h ∷ hs)) ≡ hits a (somes (h ∷ [])) + hits a (somes hs)
  hit_cons None hs = omega arith
  hit_cons (Some c) hs = hit_one (c.address == a) (hits a (somes hs))

  hits_cons : (s : Option Socket) (ss : Sockets) → hits_in (s ∷ ss) ≡ hits_in (s ∷ []) + hits_in ss
  hits_cons s ss = hit_cons (heard_in s) (map heard_in ss)

  hits-woven : (xs ys : Sockets) → hits_in (woven xs ys) ≡ hits_in xs + hits_in ys
  hits-woven [] [] = refl
  hits-woven [] (y ∷ ys) = let p = hits_cons y (woven [] ys) in let r = hits-woven [] ys in let u = hits_cons y ys in omega arith
  hits-woven (x ∷ xs) [] = let p = hits_cons x (None ∷ woven xs []) in let r = hits-woven xs [] in let u = hits_cons x xs in omega arith
  hits-woven (x ∷ xs) (y ∷ ys) =
      let p = hits_cons x (y ∷ woven xs ys) in
      let q = hits_cons y (woven xs ys) in
      let r = hits-woven xs ys in
      let u = hits_cons x xs in
      let v = hits_cons y ys in
      omega arith

  probed-at : (n k : ℕ) (r s : Reply) → n ≡ k → r ≡ s → Probed a n r → Probed a k s
  probed-at n k r s e f p = subst (λ (m : ℕ). Probed a m s) e (subst (Probed a n) f p)

  probed-clash : (n : ℕ) (r : Reply) → 2 ≤ n → r ≡ clash → Probed a n r
  probed-clash zero r h e = absurd (omega arith)
  probed-clash (suc zero) r h e = absurd (omega arith)
  probed-clash (suc (suc n)) r h e = e

  probed-both : (n m : ℕ) (r s : Reply) → Probed a n r → Probed a m s → Probed a (n + m) (both r s)
  probed-both zero m r s p q = probed-at m (0 + m) s (both r s) (omega arith) (sym (ap (λ u. both u s) p)) q
  probed-both (suc zero) zero r s p q = probed-at 1 (1 + 0) r (both r s) (omega arith) (sym (ap (both r) q ∙ both-silence r)) p
  probed-both (suc zero) (suc zero) r s p q = probed-clash (1 + 1) (both r s) (omega arith) (λ i. both (p.1 i) (q.1 i))
  probed-both (suc zero) (suc (suc m)) r s p q = probed-clash (1 + suc (suc m)) (both r s) (omega arith) (λ i. both (p.1 i) (q i))
  probed-both (suc (suc n)) zero r s p q = probed-clash (suc (suc n) + 0) (both r s) (omega arith) (λ i. both (p i) (q i))
  probed-both (suc (suc n)) (suc zero) r s p q = probed-clash (suc (suc n) + 1) (both r s) (omega arith) (λ i. both (p i) (q.1 i))
  probed-both (suc (suc n)) (suc (suc m)) r s p q = probed-clash (suc (suc n) + suc (suc m)) (both r s) (omega arith) (λ i. both (p i) (q i))

woven-changed : (f : Card → Card) (xs ys : Sockets) → woven (map (changed_in f) xs) (map (changed_in f) ys) ≡ map (changed_in f) (woven xs ys)
woven-changed f [] [] = refl
woven-changed f [] (y ∷ ys) = ap (λ l. None ∷ changed_in f y ∷ l) (woven-changed f [] ys)
woven-changed f (x ∷ xs) [] = ap (λ l. changed_in f x ∷ None ∷ l) (woven-changed f xs [])
woven-changed f (x ∷ xs) (y ∷ ys) = ap (λ l. changed_in f x ∷ changed_in f y ∷ l) (woven-changed f xs ys)

-- nobody is heard of both together, so nobody of either

none_cons : (h : Option Card) (hs : List (Option Card)) → somes (h ∷ hs) ≡ [] → (h ≡ None) × (somes hs ≡ [])
none_cons None hs e = (refl, e)
none_cons (Some c) hs e = (cc, cc)

none_join : (h : Option Card) (hs : List (Option Card)) → h ≡ None → somes hs ≡ [] → somes (h ∷ hs) ≡ []
none_join h hs e f = ap (λ (o : Option Card). somes (o ∷ hs)) e ∙ f

none-woven : (xs ys : Sockets) → somes (map heard_in (woven xs ys)) ≡ [] → (somes (map heard_in xs) ≡ []) × (somes (map heard_in ys) ≡ [])
none-woven [] [] e = (refl, refl)
none-woven [] (y ∷ ys) e =
    let p = none_cons (heard_in y) (map heard_in (woven [] ys)) e in
    (refl, none_join (heard_in y) (map heard_in ys) p.0 (none-woven [] ys p.1).1)
none-woven (x ∷ xs) [] e =
    let p = none_cons (heard_in x) (map heard_in (None ∷ woven xs [])) e in
    (none_join (heard_in x) (map heard_in xs) p.0 (none-woven xs [] p.1).0, refl)
none-woven (x ∷ xs) (y ∷ ys) e =
    let p = none_cons (heard_in x) (map heard_in (y ∷ woven xs ys)) e in
    let o = none_cons (heard_in y) (map heard_in (woven xs ys)) p.1 in
    let q = none-woven xs ys o.1 in
    (none_join (heard_in x) (map heard_in xs) p.0 q.0, none_join (heard_in y) (map heard_in ys) o.0 q.1)

woven-good : (xs ys : Sockets) → GoodSockets xs → GoodSockets ys → GoodSockets (woven xs ys)
woven-good [] [] h k = tt
woven-good [] (y ∷ ys) h k = (tt, (k.0, woven-good [] ys h k.1))
woven-good (x ∷ xs) [] h k = (h.0, (tt, woven-good xs [] h.1 k))
woven-good (x ∷ xs) (y ∷ ys) h k = (h.0, (k.0, woven-good xs ys h.1 k.1))

woven_parts : (xs ys : Sockets) → GoodSockets (woven xs ys) → GoodSockets xs × GoodSockets ys
woven_parts [] [] h = (tt, tt)
woven_parts [] (y ∷ ys) h = (tt, (h.1.0, (woven_parts [] ys h.1.1).1))
woven_parts (x ∷ xs) [] h = ((h.0, (woven_parts xs [] h.1.1).0), tt)
woven_parts (x ∷ xs) (y ∷ ys) h = let p = woven_parts xs ys h.1.1 in ((h.0, p.0), (h.1.0, p.1))

sized-both : (r s : Reply) → Sized r → Sized s → Sized (both r s)
sized-both silence s h k = k
sized-both (answer a) silence h k = h
sized-both (answer a) (answer b) h k = tt
sized-both (answer a) clash h k = tt
sized-both clash silence h k = tt
sized-both clash (answer b) h k = tt
sized-both clash clash h k = tt

joint_rules : (n : ℕ) (w v x y : Wall) (t : List ℕ) (r s : Reply) → Rules w t r v → Rules x t s y → Rules (record { sockets = woven w.sockets x.sockets; tally = n }) t (both r s) (record { sockets = woven v.sockets y.sockets; tally = one_more n })
joint_rules n w v x y t r s h k =
    let seal : Wall → Wall → Wall = λ a b. record { sockets = woven a.sockets b.sockets; tally = one_more n } in
    let meet : (f : Card → Card) → v ≡ counted (changed f w) → y ≡ counted (changed f x) → seal v y ≡ counted (changed f (record { sockets = woven w.sockets x.sockets; tally = n })) = λ f p q. (λ i. seal (p i) (q i)) ∙ ap (λ (l : Sockets). record { sockets = l; tally = one_more n }) (woven-changed f w.sockets x.sockets) in
    let say : (f : Card → Option (List ℕ)) → r ≡ said_by f w.sockets → s ≡ said_by f x.sockets → both r s ≡ said_by f (woven w.sockets x.sockets) = λ f p q. (λ i. both (p i) (q i)) ∙ sym (said-woven f w.sockets x.sockets) in
    record {
      broken = λ e. ((λ i. both ((h.broken e).0 i) ((k.broken e).0 i)), (λ i. seal ((h.broken e).1 i) ((k.broken e).1 i)));
      finder = λ m l e. (say (if_bears m found) (h.finder m l e).0 (k.finder m l e).0, (λ i. seal ((h.finder m l e).1 i) ((k.finder m l e).1 i)));
      store = λ u a l z b e. (say (if_bears u (store_said a)) (h.store u a l z b e).0 (k.store u a l z b e).0, meet (storing u a) (h.store u a l z b e).1 (k.store u a l z b e).1);
      adopt = λ u l z e. (say (if_bears u (adopt_said u)) (h.adopt u l z e).0 (k.adopt u l z e).0, meet (adopting u) (h.adopt u l z e).1 (k.adopt u l z e).1);
      probe = λ a b e. (
        probed-at a (hits_in a w.sockets + hits_in a x.sockets) (hits_in a (woven w.sockets x.sockets)) (both r s) (both r s) (sym (hits-woven a w.sockets x.sockets)) refl (probed-both a (hits_in a w.sockets) (hits_in a x.sockets) r s (h.probe a b e).0 (k.probe a b e).0),
        (λ j. seal ((h.probe a b e).1 j) ((k.probe a b e).1 j)),
      );
      others = ap (λ (l : Sockets). record { sockets = l; tally = one_more n }) (sym (woven-changed bare v.sockets y.sockets) ∙ (λ i. woven (h.others i).sockets (k.others i).sockets) ∙ woven-changed bare w.sockets x.sockets);
      keeps = λ p. let q = woven_parts w.sockets x.sockets p in woven-good v.sockets y.sockets (h.keeps q.0) (k.keeps q.1);
      quiet = λ e. let p = none-woven w.sockets x.sockets e in (λ i. both (h.quiet p.0 i) (k.quiet p.1 i));
      sized = sized-both r s h.sized k.sized;
    }

-- the numbers of the sockets

double : ℕ → ℕ
double zero = zero
double (suc k) = suc (suc (double k))

double-is : (k : ℕ) → double k ≡ 2 * k
unfolding double
double-is zero = refl
double-is (suc k) = let h = double-is k in omega arith

half-even : (n : ℕ) → even n ≡ true → n ≡ double (n / 2)
half-even n h =
    let z = eqb-true (n % 2) 0 h in
    let e : n ≡ 2 * (n / 2) = omega arith in
    e ∙ sym (double-is (n / 2))

half-odd : (n : ℕ) → even n ≡ false → n ≡ suc (double (n / 2))
half-odd n h =
    let f = odd-one (n % 2) (eqb-false (n % 2) 0 h) (omega arith) in
    let e : n ≡ suc (2 * (n / 2)) = omega arith in
    e ∙ ap suc (sym (double-is (n / 2)))
  where
    odd-one : (r : ℕ) → (r ≢ 0) → r < 2 → r ≡ 1
    odd-one zero h l = absurd (h refl)
    odd-one (suc r) h l = omega arith

at-even : (xs ys : Sockets) (k : ℕ) → at (woven xs ys) (double k) ≡ at xs k
unfolding double
at-even [] [] k = refl
at-even [] (y ∷ ys) zero = refl
at-even [] (y ∷ ys) (suc k) = at-even [] ys k
at-even (x ∷ xs) [] zero = refl
at-even (x ∷ xs) [] (suc k) = at-even xs [] k
at-even (x ∷ xs) (y ∷ ys) zero = refl
at-even (x ∷ xs) (y ∷ ys) (suc k) = at-even xs ys k

at-odd : (xs ys : Sockets) (k : ℕ) → at (woven xs ys) (suc (double k)) ≡ at ys k
unfolding double
at-odd [] [] k = refl
at-odd [] (y ∷ ys) zero = refl
at-odd [] (y ∷ ys) (suc k) = at-odd [] ys k
at-odd (x ∷ xs) [] zero = refl
at-odd (x ∷ xs) [] (suc k) = at-odd xs [] k
at-odd (x ∷ xs) (y ∷ ys) zero = refl
at-odd (x ∷ xs) (y ∷ ys) (suc k) = at-odd xs ys k

pub at_twice : (xs ys : Sockets) (k : ℕ) → at (woven xs ys) (2 * k) ≡ at xs k
at_twice xs ys k = ap (at (woven xs ys)) (sym (double-is k)) ∙ at-even xs ys k

pub at_twice_more : (xs ys : Sockets) (k : ℕ) → at (woven xs ys) (2 * k + 1) ≡ at ys k
at_twice_more xs ys k = let e = double-is k in let f : 2 * k + 1 ≡ suc (double k) = omega arith in ap (at (woven xs ys)) f ∙ at-odd xs ys k

-- a change at a number that is there, left or right, is a change of the whole

set-even : (xs ys : Sockets) (k : ℕ) (u : Option Socket) → (at xs k ≡ None → u ≡ None) → woven (slice_set xs k u) ys ≡ slice_set (woven xs ys) (double k) u
unfolding double
set-even [] [] k u h = refl
set-even [] (y ∷ ys) zero u h = ap (λ v. v ∷ y ∷ woven [] ys) (sym (h refl))
set-even [] (y ∷ ys) (suc k) u h = ap (λ l. None ∷ y ∷ l) (set-even [] ys k u h)
set-even (x ∷ xs) [] zero u h = refl
set-even (x ∷ xs) [] (suc k) u h = ap (λ l. x ∷ None ∷ l) (set-even xs [] k u h)
set-even (x ∷ xs) (y ∷ ys) zero u h = refl
set-even (x ∷ xs) (y ∷ ys) (suc k) u h = ap (λ l. x ∷ y ∷ l) (set-even xs ys k u h)

set-odd : (xs ys : Sockets) (k : ℕ) (u : Option Socket) → (at ys k ≡ None → u ≡ None) → woven xs (slice_set ys k u) ≡ slice_set (woven xs ys) (suc (double k)) u
unfolding double
set-odd [] [] k u h = refl
set-odd [] (y ∷ ys) zero u h = refl
set-odd [] (y ∷ ys) (suc k) u h = ap (λ l. None ∷ y ∷ l) (set-odd [] ys k u h)
set-odd (x ∷ xs) [] zero u h = ap (λ v. x ∷ v ∷ woven xs []) (sym (h refl))
set-odd (x ∷ xs) [] (suc k) u h = ap (λ l. x ∷ None ∷ l) (set-odd xs [] k u h)
set-odd (x ∷ xs) (y ∷ ys) zero u h = refl
set-odd (x ∷ xs) (y ∷ ys) (suc k) u h = ap (λ l. x ∷ y ∷ l) (set-odd xs ys k u h)

module _ (xs ys : Sockets) (n : ℕ) where
  pub at_left : even n ≡ true → at (woven xs ys) n ≡ at xs (n / 2)
  at_left h = ap (at (woven xs ys)) (half-even n h) ∙ at-even xs ys (n / 2)

  pub at_right : even n ≡ false → at (woven xs ys) n ≡ at ys (n / 2)
  at_right h = ap (at (woven xs ys)) (half-odd n h) ∙ at-odd xs ys (n / 2)

  module _ (station : Bool → Option Card) where
    refilled-left : even n ≡ true → woven (slice_set xs (n / 2) (holding station (at xs (n / 2)))) ys ≡ slice_set (woven xs ys) n (holding station (at (woven xs ys) n))
    refilled-left h =
        set-even xs ys (n / 2) (holding station (at xs (n / 2))) (λ e. ap (holding station) e)
        ∙ sym (λ i. slice_set (woven xs ys) (half-even n h i) (holding station (at_left h i)))

    refilled-right : even n ≡ false → woven xs (slice_set ys (n / 2) (holding station (at ys (n / 2)))) ≡ slice_set (woven xs ys) n (holding station (at (woven xs ys) n))
    refilled-right h =
        set-odd xs ys (n / 2) (holding station (at ys (n / 2))) (λ e. ap (holding station) e)
        ∙ sym (λ i. slice_set (woven xs ys) (half-odd n h i) (holding station (at_right h i)))

by_side : (P : Bool → Type 0) (n : ℕ) → (even n ≡ true → P true) → (even n ≡ false → P false) → P (even n)
by_side P n p q = go (even n) refl
  where
    go : (b : Bool) → even n ≡ b → P b
    go true e = p e
    go false e = q e

-- the wall of a joint, one of whose lines has another station in one socket
module _ {P Q : Type 0} (v : P → Wall) (w : Q → Wall) (j : JointState P Q) (n : ℕ) (station : Bool → Option Card) where
  abbrev refill : Sockets → Wall
  refill ss = record { sockets = ss; tally = j.tally }

  abbrev After : JointState P Q → Type 0
  After k = joint_wall v w k ≡ refill (slice_set (joint_wall v w j).sockets n (holding station (at (joint_wall v w j).sockets n)))

  side_refilled : (p : P) (q : Q) → v p ≡ record { sockets = slice_set (v j.left).sockets (n / 2) (holding station (at (v j.left).sockets (n / 2))); tally = (v j.left).tally } → w q ≡ record { sockets = slice_set (w j.right).sockets (n / 2) (holding station (at (w j.right).sockets (n / 2))); tally = (w j.right).tally } → After (cond (even n) (with_left j p) (with_right j q))
  side_refilled p q l r =
      let xs = (v j.left).sockets in
      let ys = (w j.right).sockets in
      by_side (λ b. After (cond b (with_left j p) (with_right j q))) n
      (λ h. ap (λ (z : Wall). refill (woven z.sockets ys)) l ∙ ap refill (refilled-left xs ys n station h))
      (λ h. ap (λ (z : Wall). refill (woven xs z.sockets)) r ∙ ap refill (refilled-right xs ys n station h))

-- Z is the joint, of two lines Y and Y'
pub joint_laws_of : {Z Y Y' X X' : Type 0} (left : Z → Y) (right : Z → Y') (tally : Z → ℕ) → {state : Y → X} {wall : X → Wall} {reply : X → List ℕ → Reply} {next : X → List ℕ → X} {fits : X → ℕ → ℕ → ℕ → Bool → X} {pulls : X → ℕ → X} {state' : Y' → X'} {wall' : X' → Wall} {reply' : X' → List ℕ → Reply} {next' : X' → List ℕ → X'} {fits' : X' → ℕ → ℕ → ℕ → Bool → X'} {pulls' : X' → ℕ → X'} → LineLaws state wall reply next fits pulls → LineLaws state' wall' reply' next' fits' pulls' → LineLaws (λ (z : Z). record { left = state (left z); right = state' (right z); tally = tally z }) (joint_wall wall wall') (joint_reply reply reply') (joint_next next next') (joint_fits fits fits') (joint_pulls pulls pulls')
joint_laws_of left right tally {state} {wall} {reply} {next} {fits} {pulls} {state'} {wall'} {reply'} {next'} {fits'} {pulls'} h k =
    line_laws
    (λ j t. joint_rules j.tally (wall j.left) (wall (next j.left t)) (wall' j.right) (wall' (next' j.right t)) t (reply j.left t) (reply' j.right t) (h.rules j.left t) (k.rules j.right t))
    (λ j n serial address defective. side_refilled wall wall' j n (λ speaks. Some (new_card speaks serial address defective)) (fits j.left (n / 2) serial address defective) (fits' j.right (n / 2) serial address defective) (h.fit j.left (n / 2) serial address defective) (k.fit j.right (n / 2) serial address defective))
    (λ j n. side_refilled wall wall' j n (λ speaks. None) (pulls j.left (n / 2)) (pulls' j.right (n / 2)) (h.pull j.left (n / 2)) (k.pull j.right (n / 2)))
    (λ z. woven-good (wall (state (left z))).sockets (wall' (state' (right z))).sockets (h.good (left z)) (k.good (right z)))
