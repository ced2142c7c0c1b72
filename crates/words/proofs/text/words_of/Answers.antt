use Rattle.std.proofs.Common.{◌≡◌, ◌==◌, ◌∙◌, ap, List, Result, Vec, Global, Bor, ℕ, IfOk, length, map, not, subst, rules}
use Rattle.std.proofs.lemmas.Iterator.Consumers.{map_from_collect, YieldsList-from_filter}
use Rattle.std.proofs.lemmas.Iterator.Splits.{YieldsList-from_slice_split}
use Rattle.std.specs.declared.alloc.AllocError.{AllocError}
use Rattle.std.specs.Slice.Iter.{split_rest, split_done, split_callee}
use Rattle.std.specs.List.{before_first}
use Rattle.words.specs.Words.{is_blank, words_said}
use Rattle.words.proofs.text.words_of.Goals as goal

pub returns : goal.returns
returns c =
    let P : Result (Vec (Bor (List ℕ)) Global) AllocError → Type 0 = λ r. IfOk r (λ words. map (λ word. word.now) words.items ≡ words_said c.args.line.now) in
    let collected : P c.collect.result = map_from_collect _ c.collect.ensures.ran (YieldsList-from_filter {s = c.filter.result} _ (λ word. not (length word == 0)) (YieldsList-from_slice_split _ is_blank (before_first (λ b. b == 35) c.args.line.now) (ap split_rest c.filter.ensures.source ∙ c.split.ensures.rest ∙ c.before_comment.ensures) (ap split_done c.filter.ensures.source ∙ c.split.ensures.done) (ap split_callee c.filter.ensures.source ∙ c.split.ensures.closure) (λ x b q k. search rules)) c.filter.ensures.closure (λ x b q k. search rules)) in
    subst P c.in_ok-words.was collected
