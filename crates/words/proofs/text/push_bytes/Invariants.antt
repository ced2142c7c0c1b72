use Rattle.std.proofs.Common.{◌≡◌, ◌++◌}
use Rattle.std.specs.Slice.Iter.{chunks_rest, chunks_size}
use Rattle.words.specs.Digits.{bytes_said}
use Rattle.words.proofs.text.push_bytes.Given as goal

abbrev pub invariant-loop-pair : goal.invariant-loop-pair
invariant-loop-pair l = (chunks_size l.pair-iterator ≡ 2) × (l.bytes.items ++ bytes_said (chunks_rest l.pair-iterator) ≡ l.fn.bytes.items ++ bytes_said l.word)
