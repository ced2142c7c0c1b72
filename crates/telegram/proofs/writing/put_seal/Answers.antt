use Rattle.std.proofs.Common.{◌≡◌, ℕ, ◌+◌, ◌-◌, ◌/◌, ◌%◌, List, [], ◌∷◌, ◌++◌, length, take, sym, ap, ◌∙◌, arith}
use Rattle.std.proofs.lemmas.List.{take-append-drop}
use Rattle.checksum.specs.Crc.{crc}
use Rattle.telegram.specs.Layout.{seal, sealed}
use Rattle.telegram.proofs.writing.put_seal.Goals as goal

pub returns : goal.returns
unfolding sealed
returns c =
    let b = c.args.buffer.now in
    let n = c.args.n in
    let m : n - 0 ≡ n = omega arith in
    let sum : c.checksum-sum.result ≡ crc (take n b) = c.checksum-sum.ensures ∙ ap (λ (k : ℕ). crc (take k b)) m in
    let two : c.to_le_bytes.result ≡ seal (take n b) = c.to_le_bytes.ensures ∙ ap (λ (s : ℕ). (s % 256) ∷ (s / 256 % 256) ∷ []) sum in
    let r = c.put.result in
    let x = c.put.new.buffer in
    let front : take r x ≡ take n b ++ seal (take n b) = c.put.ensures.before ∙ ap (λ (l : List ℕ). take n b ++ l) two in
    record {
      end = c.put.ensures.end ∙ ap (λ (l : List ℕ). n + length l) two;
      bytes = sym (take-append-drop r x) ∙ (λ i. front i ++ c.put.ensures.after i);
    }
