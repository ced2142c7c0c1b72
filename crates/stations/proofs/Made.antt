-- What an array holds that was made place by place.
use Rattle.std.proofs.Common.{◌≡◌, ℕ, zero, suc, ◌+◌, ◌<◌, ◌≤◌, List, slice_index_or, sym, subst, inl, inr, arith}
use Rattle.std.proofs.lemmas.Bool.{cases_eq}
use Rattle.std.specs.Array.{IsFromFnResultFrom}
use Rattle.std.specs.Fn.{Called}
use denote.Param.Members.{Mut}

module _ {F B : Type 0} (g : Mut F (ℕ × Unit {0}) B) (f : F) (ys : List B) (Made : ℕ → B → Type 0) (by : (i : ℕ) (y : B) (q : F) → Called g f (i, tt) y q → (q ≡ f) × Made i y) where
  pub each_made : (n k : ℕ) → IsFromFnResultFrom g f ys k n → (i : ℕ) (e : B) → k ≤ i → i < k + n → Made i (slice_index_or ys i e)
  each_made zero k made i e low high = absurd (omega arith)
  each_made (suc n) k (q, y, is, did, rest) i e low high =
      let d = by k y q did in
      elim (cases_eq i k) [
        | inl same ↦ subst (λ (j : ℕ). Made j (slice_index_or ys j e)) (sym same) (subst (Made k) (sym (is.1 e)) d.1)
        | inr other ↦ each_made n (k + 1) (subst (λ (p : F). IsFromFnResultFrom g p ys (k + 1) n) d.0 rest) i e (omega arith) (omega arith)
      ]
