use Rattle.std.proofs.Common.{◌≡◌, ℕ, ◌+◌, ◌-◌, ◌++◌, length, take, sym, ap, ◌∙◌, rules}
use borrow.Rule.Slice.PartMut.{put_mid}
use Rattle.std.proofs.lemmas.Slice.{overwrites}
use Rattle.std.proofs.lemmas.Bool.{cond-true}
use Rattle.telegram.specs.Layout.{part}
use Rattle.telegram.proofs.writing.put.Goals as goal

pub returns : goal.returns
returns c =
    let b = c.args.bytes.now in
    let at = c.args.at in
    let e : part c.args.has b ≡ b = cond-true c.args.has _ _ c.if-not-has.false in
    let front : take (at + length b) (put_mid at (at + length b - at) c.args.buffer.now c.copy_from_slice.new.self) ≡ take at c.args.buffer.now ++ b = search (rules, overwrites) in
    record {
      end = ap (λ (n : ℕ). at + n) (sym (cond-true c.args.has (length b) 0 c.if-not-has.false));
      before = front ∙ ap (λ l. take at c.args.buffer.now ++ l) (sym e);
      after = search (rules, overwrites);
    }
