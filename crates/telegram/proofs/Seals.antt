-- A telegram sealed by its checksum, and opened.
use Rattle.std.proofs.Common.{◌≡◌, ℕ, ◌+◌, ◌-◌, ◌/◌, ◌%◌, ◌≤◌, Bool, true, false, cond, not, ◌&&◌, eqb, List, [], ◌∷◌, ◌++◌, length, get_or, take, drop, Ok, Err, sym, refl, ap, ◌∙◌, arith}
use Rattle.std.proofs.lemmas.List.{take_at, drop_all, drop_more, get_or_at, get_or-append-add, get_or-take, take_rest, drop-take, take-append-drop, length-append, length-drop}
use Rattle.std.proofs.lemmas.Bool.{eq-eqb, eqb-true, le-leb, and_from, and_parts, cond-true}
use Rattle.std.proofs.Math.Bool.{and-true}
use lib.Pointwise.{pointwise}
use Rattle.checksum.specs.Crc.{crc}
use Rattle.telegram.specs.declared.fault.TelegramFault.TheVariants.{Checksum}
use Rattle.telegram.specs.Layout.{seal, sealed, unsealed, has_seal, in_size, body_of}
use Rattle.telegram.specs.Reads.{inside, opening}

pub sealed-long : (b : List ℕ) → length (sealed b) ≡ length b + 2
unfolding sealed
sealed-long b = length-append b (seal b)

pub unsealed-sealed : (b : List ℕ) → unsealed (sealed b) ≡ b
unfolding sealed
unsealed-sealed b = take_at b (seal b) (length (sealed b) - 2) (omega (arith, sealed-long b))

pub sealed-is : (b : List ℕ) → has_seal (sealed b) ≡ true
unfolding sealed has_seal
sealed-is b =
    let n : length (sealed b) - 2 ≡ length b = omega (arith, sealed-long b) in
    let m : length (sealed b) - 1 ≡ length b + 1 = omega (arith, sealed-long b) in
    let low : get_or (sealed b) (length (sealed b) - 2) 0 ≡ crc b % 256 = ap (λ k. get_or (sealed b) k 0) n ∙ get_or_at b _ _ 0 (length b) refl in
    let high : get_or (sealed b) (length (sealed b) - 1) 0 ≡ crc b / 256 % 256 = ap (λ k. get_or (sealed b) k 0) m ∙ get_or-append-add b (seal b) 1 0 in
    let back = unsealed-sealed b in
    and_from _ _ (eq-eqb _ _ (low ∙ ap (λ l. crc l % 256) (sym back))) (eq-eqb _ _ (high ∙ ap (λ l. crc l / 256 % 256) (sym back)))

last-two : (bs : List ℕ) (n : ℕ) → length bs ≡ n + 2 → drop n bs ≡ get_or bs n 0 ∷ get_or bs (n + 1) 0 ∷ []
last-two bs n h =
    drop_more bs n 0 (omega arith) ∙ ap (λ l. get_or bs n 0 ∷ l) (drop_more bs (n + 1) 0 (omega arith) ∙ ap (λ l. get_or bs (n + 1) 0 ∷ l) (drop_all (n + 1 + 1) bs (omega arith)))

pub sealed-back : (bs : List ℕ) → 2 ≤ length bs → has_seal bs ≡ true → sealed (unsealed bs) ≡ bs
unfolding sealed has_seal
sealed-back bs two h =
    let n : ℕ = length bs - 2 in
    let p = and_parts _ _ h in
    let low = eqb-true _ _ p.0 in
    let high = eqb-true _ _ p.1 in
    let at : get_or bs (n + 1) 0 ≡ get_or bs (length bs - 1) 0 = ap (λ i. get_or bs i 0) (omega arith) in
    let tail : seal (unsealed bs) ≡ drop n bs = (λ i. sym low i ∷ (sym high ∙ sym at) i ∷ []) ∙ sym (last-two bs n (omega arith)) in
    ap (λ l. take n bs ++ l) tail ∙ take-append-drop n bs

inside-sealed : (a c : ℕ) (b : List ℕ) → inside (sealed (a ∷ c ∷ b)) ≡ record { address = a; command = c; body = b }
unfolding sealed
inside-sealed a c b =
    let e : body_of (sealed (a ∷ c ∷ b)) ≡ b = take_at b (seal (a ∷ c ∷ b)) (length (sealed (a ∷ c ∷ b)) - 4) (omega (arith, sealed-long (a ∷ c ∷ b))) in
    λ i. record { address = a; command = c; body = e i }

-- a sealed telegram that is not too long is opened into its parts
pub opening-sealed : (a c : ℕ) (b : List ℕ) → length b ≤ 19 → opening (sealed (a ∷ c ∷ b)) ≡ Ok (record { address = a; command = c; body = b })
opening-sealed a c b h =
    let t = sealed (a ∷ c ∷ b) in
    let long = sealed-long (a ∷ c ∷ b) in
    let fit : in_size t ≡ true = and_from _ _ (le-leb 4 (length t) (omega arith)) (le-leb (length t) 23 (omega arith)) in
    cond-true (in_size t) _ _ fit ∙ cond-true (has_seal t) _ _ (sealed-is (a ∷ c ∷ b)) ∙ ap Ok (inside-sealed a c b)

-- what the reader finds: `front` is all but the last two bytes, and `last` are those

record Split (bs front last : List ℕ) : Type 0 where
  pub long : length front + 2 ≡ length bs
  pub front-is : front ≡ take (length bs - 2) bs
  pub last-is : last ≡ drop (length bs - 2) bs

has_seal-split : (bs front last : List ℕ) → Split bs front last → pointwise eqb last (seal front) ≡ has_seal bs
unfolding has_seal
has_seal-split bs front last s =
    let n : ℕ = length bs - 2 in
    let m : n + 1 ≡ length bs - 1 = omega (arith, s.long) in
    let two : last ≡ get_or bs n 0 ∷ get_or bs (n + 1) 0 ∷ [] = s.last-is ∙ last-two bs n (omega (arith, s.long)) in
    (λ i. pointwise eqb (two i) (seal (s.front-is i)))
    ∙ (λ i. eqb (get_or bs n 0) (crc (unsealed bs) % 256) && (and-true (eqb (get_or bs (m i) 0) (crc (unsealed bs) / 256 % 256)) i))

inside-split : (bs front last : List ℕ) → Split bs front last → 2 ≤ length front → inside bs ≡ record { address = get_or front 0 0; command = get_or front 1 0; body = take (length front - 2) (drop 2 front) }
inside-split bs front last s two =
    let n : ℕ = length bs - 2 in
    let cut : 2 + (length bs - 4) ≡ n = omega (arith, s.long) in
    let a : get_or bs 0 0 ≡ get_or front 0 0 = sym (ap (λ l. get_or l 0 0) s.front-is ∙ get_or-take n bs 0 0 (omega (arith, s.long))) in
    let c : get_or bs 1 0 ≡ get_or front 1 0 = sym (ap (λ l. get_or l 1 0) s.front-is ∙ get_or-take n bs 1 0 (omega (arith, s.long))) in
    let b : body_of bs ≡ take (length front - 2) (drop 2 front) =
    sym (take_rest front 2 ∙ ap (drop 2) (s.front-is ∙ ap (λ k. take k bs) (sym cut)) ∙ drop-take 2 (length bs - 4) bs) in
    λ i. record { address = a i; command = c i; body = b i }

not_cond : {X : Type 0} (t r : Bool) (x y : X) → r ≡ not t → cond t x y ≡ cond r y x
not_cond true r x y h = ap (λ u. cond u y x) (sym h)
not_cond false r x y h = ap (λ u. cond u y x) (sym h)

-- so it opens the telegram by them: `sum` is the checksum of the front, and r whether the last two are no bytes of it
pub opening-split : (bs front last two : List ℕ) (sum : ℕ) (r : Bool) → length front + 2 ≡ length bs → front ≡ take (length bs - 2) bs → last ≡ drop (length bs - 2) bs → 2 ≤ length front → length (take (length front - 2) (drop 2 front)) ≤ 19 → sum ≡ crc front → two ≡ (sum % 256) ∷ (sum / 256 % 256) ∷ [] → r ≡ not (pointwise eqb last two) → opening bs ≡ cond r (Err Checksum) (Ok (record { address = get_or front 0 0; command = get_or front 1 0; body = take (length front - 2) (drop 2 front) }))
opening-split bs front last two sum r long front-is last-is low high sum-is two-is r-is =
    let s : Split bs front last = record { long = long; front-is = front-is; last-is = last-is } in
    let fit : in_size bs ≡ true = and_from _ _ (le-leb 4 (length bs) (omega arith)) (le-leb (length bs) 23 (omega (arith, ap length (take_rest front 2), length-drop 2 front))) in
    let is : two ≡ seal front = two-is ∙ ap (λ (n : ℕ). (n % 256) ∷ (n / 256 % 256) ∷ []) sum-is in
    cond-true (in_size bs) _ _ fit
    ∙ (λ i. cond (sym (has_seal-split bs front last s) i) (Ok (inside-split bs front last s low i)) (Err Checksum))
    ∙ not_cond (pointwise eqb last (seal front)) r _ _ (r-is ∙ ap (λ l. not (pointwise eqb last l)) is)
