-- What is replied and done, by why a question is refused.
use Rattle.std.proofs.Common.{◌≡◌, ℕ, false, List, [], ◌∷◌, not, ◌&&◌, ◌++◌, length, take, drop, append_assoc, ◌+◌, ◌≤◌, Some, None, Ok, Err, Option, Result, eqb, sym, refl, ap, ◌∙◌, subst, arith}
use Rattle.std.proofs.lemmas.Bool.{cond-false}
use Rattle.std.proofs.lemmas.List.{take-append-drop, drop-append-le, length-append, length-drop}
use Rattle.telegram.specs.Forms.{by_serial}
use Rattle.telegram.specs.Layout.{Fields}
use Rattle.telegram.specs.Writes.{answer}
use Rattle.wall.specs.Lines.{done_unless}
use Rattle.wall.specs.Rules.{Sized}
use Rattle.wall.specs.Tells.{laid}
use Rattle.wall.specs.Wall.{together}
use Rattle.stations.specs.declared.kind.Kind.{Kind}
use Rattle.stations.specs.declared.kind.Action.{Action}
use Rattle.stations.specs.declared.kind.Refusal.{Refusal}
use Rattle.stations.specs.Kinds.{action}
use Rattle.stations.specs.Device.{State, all_written}
use Rattle.stations.specs.Calls.{refusal, payload, told, answer_to, exception, reply_of, reply, after, carried}

refused_by_err : (o : Option Refusal) (f : Refusal) → done_unless o ≡ Err f → o ≡ Some f
refused_by_err None f h = cc
refused_by_err (Some e) f h = cc

granted_by_ok : (o : Option Refusal) (u : Unit {0}) → done_unless o ≡ Ok u → o ≡ None
granted_by_ok None u h = refl
granted_by_ok (Some e) u h = cc

module _ (K : Kind) (x : State) (q : Fields) (a : Action) (asks : a ≡ action q.command) (r : Result (Unit {0}) Refusal) (is : r ≡ done_unless (refusal K x a q)) where
  by_action : (o : Option Refusal) → refusal K x a q ≡ o → refusal K x (action q.command) q ≡ o
  by_action o h = subst (λ (b : Action). refusal K x b q ≡ o) asks h

  pub refused : (f : Refusal) → r ≡ Err f → refusal K x (action q.command) q ≡ Some f
  refused f h = by_action (Some f) (refused_by_err _ f (sym is ∙ h))

  pub granted : (u : Unit {0}) → r ≡ Ok u → refusal K x (action q.command) q ≡ None
  granted u h = by_action None (granted_by_ok _ u (sym is ∙ h))

  -- refused
  pub kept : (f : Refusal) → r ≡ Err f → x ≡ carried K x q
  kept f h = sym (ap (after x q) (refused f h))

  pub refused-reply : (f : Refusal) → r ≡ Err f → false ≡ (eqb q.address 0 && not (by_serial q.command)) → reply K x q ≡ Some (exception x q.command f)
  refused-reply f h heard = cond-false _ _ _ (sym heard) ∙ ap (λ o. Some (reply_of K x q o)) (refused f h)

  -- carried out
  module _ (y : State) (u : Unit {0}) (h : r ≡ Ok u) (did : y ≡ all_written x q.register (payload a q)) where
    pub done-carried : y ≡ carried K x q
    done-carried = did ∙ ap (λ (b : Action). all_written x q.register (payload b q)) asks ∙ sym (ap (after x q) (granted u h))

    pub done-reply : false ≡ (eqb q.address 0 && not (by_serial q.command)) → reply K x q ≡ Some (answer (answer_to y q (told K y a q)))
    done-reply heard =
        let z : State = all_written x q.register (payload (action q.command) q) in
        let same : y ≡ z = did ∙ ap (λ (b : Action). all_written x q.register (payload b q)) asks in
        cond-false _ _ _ (sym heard) ∙ ap (λ o. Some (reply_of K x q o)) (granted u h)
        ∙ sym (λ i. Some (answer (answer_to (same i) q (told K (same i) (asks i) q))))

-- an answer in the first 23 bytes of a buffer is one in front of the buffer
pub laid_in_room : (o : Option (List ℕ)) (b room after : List ℕ) → Sized (together (o ∷ [])) → 23 ≤ length b → room ≡ take 23 b → after ≡ laid o room → after ++ drop 23 b ≡ laid o b
laid_in_room None b room after fits enough front put = ap (λ (l : List ℕ). l ++ drop 23 b) (put ∙ front) ∙ take-append-drop 23 b
laid_in_room (Some bytes) b room after fits enough front put =
    let n = length bytes in
    let whole : room ++ drop 23 b ≡ b = ap (λ (l : List ℕ). l ++ drop 23 b) front ∙ take-append-drop 23 b in
    let parts : length b ≡ length room + length (drop 23 b) = ap (λ (l : List ℕ). length l) (sym whole) ∙ length-append room (drop 23 b) in
    let few : n ≤ length room = omega (arith, enough, parts, length-drop 23 b, fits.1) in
    ap (λ (l : List ℕ). l ++ drop 23 b) put
    ∙ append_assoc bytes (drop n room) (drop 23 b)
    ∙ ap (λ (l : List ℕ). bytes ++ l) (sym (drop-append-le n room (drop 23 b) few) ∙ ap (drop n) whole)
