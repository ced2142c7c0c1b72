-- Two outcomes on one wire, and the buffer of a line that asks others.
use Rattle.std.proofs.Common.{◌≡◌, ℕ, ◌≤◌, List, ◌++◌, length, drop, replicate, refl, ap, ◌∙◌, sym, arith}
use Rattle.std.proofs.lemmas.List.{append-nil, drop_all, length-append, length-drop, length-replicate}
use Rattle.std.proofs.lemmas.Bool.{le-ltb}
use Rattle.wall.specs.declared.outcome.Outcome.{Outcome}
use Rattle.wall.specs.Wall.{Reply, silence, answer, clash}
use Rattle.wall.specs.Rules.{Sized}
use Rattle.wall.specs.Lines.{outcome_of, front, asked_buffer}
use Rattle.lines.specs.Blends.{both, blended, kept}

pub blended-both : (r s : Reply) → blended (outcome_of r) (outcome_of s) ≡ outcome_of (both r s)
blended-both r s = grind arith

pub kept-both : (r s : Reply) → kept (outcome_of r) (outcome_of s) (front r) (front s) ≡ front (both r s)
kept-both r s = grind arith

asked_bytes : (r : Reply) (b : List ℕ) → 23 ≤ length b → asked_buffer r b ≡ front r ++ drop 23 b
asked_bytes r b h = grind (arith, le-ltb)

padded : (bytes : List ℕ) → length bytes ≤ 23 → length (bytes ++ drop (length bytes) (replicate 23 0)) ≡ 23
padded bytes h = simp (length-append, length-drop, length-replicate) (omega arith)

-- what is in front of the buffer after a reply of a line is 23 bytes long
pub front_length : (r : Reply) → Sized r → length (front r) ≡ 23
front_length silence h = refl
front_length (answer bytes) h = padded bytes h.1
front_length clash h = refl

-- f are the 23 bytes in front of the buffer b, and last what a line that is asked with them leaves there
module _ (r : Reply) (b f : List ℕ) (h : 23 ≤ length b) (k : length f ≡ 23) where
  asked_front : asked_buffer r f ≡ front r
  asked_front = asked_bytes r f (omega arith) ∙ ap (λ xs. front r ++ xs) (drop_all 23 f (omega arith)) ∙ append-nil (front r)

  pub whole_buffer : (last : List ℕ) → last ≡ asked_buffer r f → last ++ drop 23 b ≡ asked_buffer r b
  whole_buffer last e = ap (λ xs. xs ++ drop 23 b) (e ∙ asked_front) ∙ sym (asked_bytes r b h)

  -- the outcome o of the reply r was heard before, and s is replied beside it
  pub both_buffer : (s : Reply) (o : Outcome) (left last : List ℕ) → o ≡ outcome_of r → left ≡ asked_buffer r f → last ≡ kept o (outcome_of s) left (asked_buffer s (replicate 23 0)) → last ++ drop 23 b ≡ asked_buffer (both r s) b
  both_buffer s o left last e l q =
      let z : last ≡ front (both r s) = q ∙ (λ i. kept (e i) (outcome_of s) ((l ∙ asked_front) i) (append-nil (front s) i)) ∙ kept-both r s in
      ap (λ xs. xs ++ drop 23 b) z ∙ sym (asked_bytes (both r s) b h)
