use Rattle.std.proofs.Common.{◌≡◌, ◌+◌, Bool, None, take, drop, sym, ap, ◌∙◌, rules}
use Rattle.std.specs.List.{position, position_or_len}
use Rattle.std.proofs.lemmas.Iterator.{YieldsList-from_slice}
use Rattle.std.proofs.lemmas.Iterator.Search.{position_from_yields_List}
use Rattle.words.proofs.Place.{first_place, rest-is-drop}
use Rattle.words.proofs.text.cut_at.Goals as goal

pub returns-in_err-place : goal.returns-in_err-place
returns-in_err-place g c =
    let is_mark : g.row.T.Denot → Bool = λ x. g.T.PartialEq.eq x c.args.mark.now in
    let found : c.position.result ≡ position is_mark c.args.list.now = position_from_yields_List is_mark _ _ c.position.result c.position.ensures.ran (YieldsList-from_slice c.args.list.now c.iter.ensures.rest) (λ x b q k. search rules) in
    let none : position is_mark c.args.list.now ≡ None = sym found ∙ c.in_err-place.was in
    search rules

pub returns : goal.returns
returns g c =
    let is_mark : g.row.T.Denot → Bool = λ x. g.T.PartialEq.eq x c.args.mark.now in
    let found : c.position.result ≡ position is_mark c.args.list.now = position_from_yields_List is_mark _ _ c.position.result c.position.ensures.ran (YieldsList-from_slice c.args.list.now c.iter.ensures.rest) (λ x b q k. search rules) in
    let place : c.in_ok-place.place ≡ position_or_len is_mark c.args.list.now = sym (first_place is_mark c.args.list.now c.in_ok-place.place (sym found ∙ c.in_ok-place.was)) in
    (ap (λ n. take n c.args.list.now) place, rest-is-drop c.args.list.now (c.in_ok-place.place + 1) ∙ ap (λ n. drop (n + 1) c.args.list.now) place)
