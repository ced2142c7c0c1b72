-- The word for each kind of station.
use Rattle.std.specs.Prelude.{ℕ, List, codes, ◌≡◌, ◌≢◌, Ok, Err, Result}
use Rattle.stations.specs.declared.kind.Kind.{Kind}
use Rattle.stations.specs.declared.kind.Kind.TheVariants.{Fan, OlderFan, Controller}
use Rattle.stations.specs.declared.kind.UnknownKind.{UnknownKind}

abbrev pub word_of : Kind → List ℕ
word_of Fan = codes "fan"
word_of OlderFan = codes "older"
word_of Controller = codes "controller"

-- what a word is read as: the kind that it is the word of, or none where it is the word of no kind
abbrev pub Names : List ℕ → Result Kind UnknownKind → Type 0
Names word (Ok kind) = word ≡ word_of kind
Names word (Err e) = (kind : Kind) → word ≢ word_of kind
