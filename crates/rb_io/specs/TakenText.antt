-- How much of a text a sink took, if the sink is transparent.
use Rattle.std.specs.Prelude.{◌≡◌, ℕ, ◌<◌, List, length, take, Option}
use Rattle.std.specs.Io.KnownBytes.{append_known}

-- The sink took all of the text.
abbrev pub TakesAll : Option (List ℕ) → Option (List ℕ) → List ℕ → Type 0
TakesAll old new text = new ≡ append_known old text

-- The sink took a proper prefix of the text.
abbrev pub TakesPrefix : Option (List ℕ) → Option (List ℕ) → List ℕ → Type 0
TakesPrefix old new text = (n : ℕ) × (n < length text) × (new ≡ append_known old (take n text))
