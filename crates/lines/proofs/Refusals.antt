-- A call on part of a line, as a call on the whole of it: both refuse for the same reason.
use Rattle.std.proofs.Common.{◌≡◌, Option, ap, ◌∙◌, arith}
use Rattle.wall.specs.Lines.{after_unless}

pub after-within : {F X Z : Type 0} (g : X → Z) (o : Option F) (before after : X) → g (after_unless o before after) ≡ after_unless o (g before) (g after)
after-within g o before after = grind arith

-- g says what the whole is when the part is so
pub whole_after : {F X Z : Type 0} (g : X → Z) (o : Option F) (before after : X) {x : X} → x ≡ after_unless o before after → g x ≡ after_unless o (g before) (g after)
whole_after g o before after e = ap g e ∙ after-within g o before after
