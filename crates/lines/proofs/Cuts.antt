-- A row whose front, of at most m places, was lent and came back.
use Rattle.std.proofs.Common.{◌≡◌, ℕ, ◌-◌, min, List, ◌++◌, length, take, drop, arith, ◌∙◌}
use Rattle.std.proofs.lemmas.Grind.{common_steps}
use Rattle.std.proofs.lemmas.List.{append-nil, length-take, take_min, take_at, take_all, drop_all}
use Rattle.std.proofs.lemmas.Slice.{drop-append-drop}

-- n places are lent, as many as there are up to m
module _ {X : Type 0} (m n : ℕ) (row : List X) (is : n ≡ min (length row) m) where
  pub lent : take (n - 0) row ≡ take m row
  lent = let k : n - 0 ≡ min m (length row) = omega arith in rw k (take_min m row)

  -- last comes back for them
  module _ (last : List X) (h : length last ≡ length (take (n - 0) row)) where
    pub front_back : take m (last ++ drop (n - 0) row) ≡ last
    front_back = grind (arith, common_steps, take_at, take_all, drop_all, append-nil)

    pub rest_back : drop m (last ++ drop (n - 0) row) ≡ drop m row
    rest_back = drop-append-drop (n - 0) row last m (omega arith) (simp length-take at h ∙ omega arith)
