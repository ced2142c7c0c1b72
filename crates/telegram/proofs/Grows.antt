-- A buffer that is filled from the front.
use Rattle.std.proofs.Common.{◌≡◌, ℕ, ◌+◌, ◌-◌, ◌≤◌, List, [], ◌++◌, take, drop, sym, refl, ap, ◌∙◌, arith}
use Rattle.std.proofs.lemmas.List.{drop-drop}

-- now the buffer has the bytes bs in its first n places, and past them what it had before
pub record Grown (before : List ℕ) (n : ℕ) (bs now : List ℕ) : Type 0 where
  pub front : take n now ≡ bs
  pub rest : drop n now ≡ drop n before

pub nothing : (before : List ℕ) → Grown before 0 [] before
nothing before = record { front = refl; rest = refl }

-- what lies past m is the same, so what lies past r is
pub later : (m r : ℕ) (x y : List ℕ) → m ≤ r → drop m x ≡ drop m y → drop r x ≡ drop r y
later m r x y h same =
    let n : m + (r - m) ≡ r = omega arith in
    ap (λ k. drop k x) (sym n) ∙ sym (drop-drop (r - m) m x) ∙ ap (drop (r - m)) same ∙ drop-drop (r - m) m y ∙ ap (λ k. drop k y) n

pub grow : {e x bs : List ℕ} {m : ℕ} → Grown e m bs x → (y : List ℕ) (r : ℕ) (ys : List ℕ) → m ≤ r → take r y ≡ take m x ++ ys → drop r y ≡ drop r x → Grown e r (bs ++ ys) y
grow {e} {x} {bs} {m} g y r ys h front rest =
    record { front = front ∙ ap (λ l. l ++ ys) g.front; rest = rest ∙ later m r x e h g.rest }
