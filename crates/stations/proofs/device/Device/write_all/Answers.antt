use Rattle.std.proofs.Common.{◌≡◌, ◌+◌, ◌*◌, suc, length, ◌/◌, inl, inr, get_or, refl, sym, ap, ◌∙◌, rules, arith}
use Rattle.std.specs.Slice.Iter.{iter_rest}
use Rattle.std.specs.Simd.{first_chunks}
use Rattle.stations.specs.Device.{State, written}
use Rattle.stations.specs.Parts.{state}
use Rattle.stations.proofs.Turns.{place, words_written, words-are, words-more, words-none, past-words, next_place, no_place, length-written, all_places, none_left}
use Rattle.stations.proofs.device.Device.write_all.Goals as goal

pub loop-register-init : goal.loop-register-init
loop-register-init c =
    let it = c.into_iter-register-iterator.result in
    let b = c.args.bytes.now in
    let last : it.a.end ≡ 65535 = search rules in
    let at : place it.a ≡ c.args.first = all_places _ _ _ c.args.first (search rules) last (search rules) (search rules) in
    let rest : iter_rest it.b ≡ first_chunks 2 (length b / 2) b = search rules in
    ((λ i. words_written (state c.args.self.now) (at i) (rest i)) ∙ sym (words-are (state c.args.self.now) c.args.first b (length b / 2) refl), last, search rules)

pub loop-register-preserved : goal.loop-register-preserved
loop-register-preserved c =
    let x = state c.loop-register.self in
    let s = c.loop-register.register-iterator in
    let t = c.next.new.self in
    let w = c.in-Some.value.now in
    let step = next_place s.a.start s.a.end s.a.exhausted _ c.loop-register.invariant.1 c.in-Some.ensures.steps.0.1.1 in
    let here : c.in-Some.register ≡ place s.a = c.in-Some.ensures.steps.0.1.0 ∙ step.0 in
    let there : place t.a ≡ suc (place s.a) = step.1 ∙ ap suc step.0 in
    let did : state c.write_register.new.self ≡ written x (place s.a) (get_or w 0 0 * 256 + get_or w 1 0) =
    c.write_register.ensures ∙ (λ i. written x (here i) (c.from_be_bytes.ensures i)) in (
      (λ i. words_written (did i) (there i) (iter_rest t.b))
          ∙ sym (words-more x (place s.a) (iter_rest s.b) (iter_rest t.b) w c.in-Some.ensures.steps.1)
          ∙ c.loop-register.invariant.0,
      c.in-Some.ensures.steps.0.0 ∙ c.loop-register.invariant.1,
      ap (λ (y : State). length y.page) did ∙ length-written x (place s.a) (get_or w 0 0 * 256 + get_or w 1 0) ∙ c.loop-register.invariant.2,
    )

pub returns : goal.returns
returns c =
    let x = state c.loop-register.self in
    let s = c.loop-register.register-iterator in
    let long = c.loop-register.invariant.2 in
    let kept : words_written x (place s.a) (iter_rest s.b) ≡ x =
    elim c.in-None.ensures.steps [
      | inl u ↦ past-words x (place s.a) (iter_rest s.b) (omega arith) (no_place s.a.start s.a.end s.a.exhausted u.1.1.0)
      | inr u ↦ words-none x (place s.a) (iter_rest s.b) (none_left (iter_rest s.b) u.1.0)
    ] in
    sym kept ∙ c.loop-register.invariant.0
