use Rattle.std.proofs.Common.{ℕ, ◌+◌, List, ◌++◌, length, take, ap, ◌∙◌}
use Rattle.telegram.specs.Forms.{span}
use Rattle.telegram.specs.Layout.{part}
use Rattle.telegram.proofs.writing.put_word.Goals as goal

pub returns : goal.returns
returns c =
    let two = c.to_be_bytes.ensures in
    record {
      end = c.put.ensures.end ∙ ap (λ (l : List ℕ). c.args.at + span c.args.has (length l)) two;
      before = c.put.ensures.before ∙ ap (λ (l : List ℕ). take c.args.at c.args.buffer.now ++ part c.args.has l) two;
      after = c.put.ensures.after;
    }
