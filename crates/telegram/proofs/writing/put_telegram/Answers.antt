use Rattle.std.proofs.Common.{◌≡◌, ℕ, List, [], ◌∷◌, ◌++◌, length, take, drop, ap, ◌∙◌, append_assoc, arith, rules}
use Rattle.telegram.specs.Forms.{span}
use Rattle.telegram.specs.Layout.{word, part, body, sealed}
use Rattle.telegram.specs.Parts.{fields}
use Rattle.telegram.proofs.Grows.{nothing, grow, later}
use Rattle.telegram.proofs.writing.put_telegram.Goals as goal

-- eight parts one after another are the body behind its address and command
joined : (a c : ℕ) (p1 p2 p3 p4 p5 p6 p7 : List ℕ) → ((((((((a ∷ c ∷ []) ++ p1) ++ p2) ++ p3) ++ p4) ++ p5) ++ p6) ++ p7) ≡ a ∷ c ∷ (p1 ++ (p2 ++ (p3 ++ (p4 ++ (p5 ++ (p6 ++ p7))))))
joined a c p1 p2 p3 p4 p5 p6 p7 = simp append_assoc

pub returns : goal.returns
returns c =
    let q = c.args.q.now in
    let F = c.args.form in
    let six : length q.serial ≡ 6 = search rules in
    let serial = ap (λ (n : ℕ). span F.serial n) six in
    let g1 = grow (nothing c.args.buffer.now) c.put-n.new.buffer c.put-n.result _ (omega (arith, c.put-n.ensures.end)) c.put-n.ensures.before c.put-n.ensures.after in
    let g2 = grow g1 c.put-n-2.new.buffer c.put-n-2.result _ (omega (arith, c.put-n-2.ensures.end)) c.put-n-2.ensures.before c.put-n-2.ensures.after in
    let g3 = grow g2 c.put_word-n.new.buffer c.put_word-n.result _ (omega (arith, c.put_word-n.ensures.end)) c.put_word-n.ensures.before c.put_word-n.ensures.after in
    let g4 = grow g3 c.put_word-n-2.new.buffer c.put_word-n-2.result _ (omega (arith, c.put_word-n-2.ensures.end)) c.put_word-n-2.ensures.before c.put_word-n-2.ensures.after in
    let g5 = grow g4 c.put_word-n-3.new.buffer c.put_word-n-3.result _ (omega (arith, c.put_word-n-3.ensures.end)) c.put_word-n-3.ensures.before c.put_word-n-3.ensures.after in
    let g6 = grow g5 c.put-n-3.new.buffer c.put-n-3.result _ (omega (arith, c.put-n-3.ensures.end)) c.put-n-3.ensures.before c.put-n-3.ensures.after in
    let g7 = grow g6 c.put-n-4.new.buffer c.put-n-4.result _ (omega (arith, c.put-n-4.ensures.end)) c.put-n-4.ensures.before c.put-n-4.ensures.after in
    let g8 = grow g7 c.put-n-5.new.buffer c.put-n-5.result _ (omega (arith, c.put-n-5.ensures.end)) c.put-n-5.ensures.before c.put-n-5.ensures.after in
    let front : take c.put-n-5.result c.put-n-5.new.buffer ≡ q.address ∷ q.command ∷ body F (fields q) =
    g8.front ∙ joined q.address q.command (part F.serial q.serial) (part F.subfunction (word q.subfunction)) (part F.register (word q.register)) (part F.value (word q.value)) (part F.size (q.size ∷ [])) (part F.code (q.code ∷ [])) (part F.«data» q.«data».now) in
    record {
      end = omega (arith, c.put-n.ensures.end, c.put-n-2.ensures.end, c.put_word-n.ensures.end, c.put_word-n-2.ensures.end, c.put_word-n-3.ensures.end, c.put-n-3.ensures.end, c.put-n-4.ensures.end, c.put-n-5.ensures.end, c.put_seal.ensures.end);
      bytes = c.put_seal.ensures.bytes ∙ (λ i. sealed (front i) ++ drop c.put_seal.result c.put-n-5.new.buffer) ∙ ap (λ (l : List ℕ). sealed (q.address ∷ q.command ∷ body F (fields q)) ++ l) (later c.put-n-5.result c.put_seal.result _ _ (omega (arith, c.put_seal.ensures.end)) g8.rest);
    }
