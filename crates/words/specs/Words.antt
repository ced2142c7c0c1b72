-- How a line falls into words.
use Rattle.std.specs.Prelude.{ℕ, Bool, ◌==◌, ◌||◌, not, List, filter, length}
use Rattle.std.specs.List.{slice_split, before_first}

-- a space, a tab or a carriage return
abbrev pub is_blank : ℕ → Bool
is_blank byte = byte == 32 || byte == 9 || byte == 13

-- what stands between blanks, up to the comment
abbrev pub words_said : List ℕ → List (List ℕ)
words_said line = filter (λ word. not (length word == 0)) (slice_split is_blank (before_first (λ b. b == 35) line))
