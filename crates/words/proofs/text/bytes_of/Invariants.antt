use Rattle.std.proofs.Common.{◌≡◌, take, flat_map}
use Rattle.words.specs.Digits.{bytes_said}
use Rattle.words.proofs.text.bytes_of.Given as goal

abbrev pub invariant-loop-word : goal.invariant-loop-word
invariant-loop-word l = l.bytes.items ≡ flat_map (λ word. bytes_said word.now) (take l.word-index l.words)
