use Rattle.std.proofs.Common.{◌≡◌, ◌≤◌, take}
use Rattle.words.specs.Digits.{radix_of, value_of}
use Rattle.words.proofs.number.number.Given as goal

abbrev pub invariant-loop-byte : goal.invariant-loop-byte
invariant-loop-byte l = (l.value ≤ l.greatest) × (l.value ≡ value_of (radix_of l.base) (take l.byte-index l.word))
