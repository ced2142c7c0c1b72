-- Two outcomes on one wire.
use Rattle.std.specs.Prelude.{ℕ, Bool, true, false, cond, List, replicate}
use Rattle.wall.specs.declared.outcome.Outcome.{Outcome}
use Rattle.wall.specs.declared.outcome.Outcome.TheVariants.{Clash}
use Rattle.wall.specs.Lines.{is_silence}
use Rattle.wall.specs.Wall.{Reply, silence, answer, clash}

abbrev pub is_silent : Reply → Bool
is_silent silence = true
is_silent (answer bytes) = false
is_silent clash = false

-- two replies that are not silence are a clash; beside silence the other stands
abbrev pub both : Reply → Reply → Reply
both r s = cond (is_silent r) s (cond (is_silent s) r clash)

-- the same of what a caller gets, and of the 23 bytes that each left
abbrev pub blended : Outcome → Outcome → Outcome
blended first second = cond (is_silence first) second (cond (is_silence second) first Clash)

abbrev pub kept : Outcome → Outcome → List ℕ → List ℕ → List ℕ
kept first second front other = cond (is_silence first) other (cond (is_silence second) front (replicate 23 0))
