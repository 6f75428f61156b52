-- The ids in the entries at some places.
use Rattle.std.specs.Prelude.{ℕ, List, map, take, drop}
use Rattle.fields.specs.Entries.{entry}

abbrev pub gathered : ℕ → ℕ → List ℕ → List ℕ → List (List ℕ)
gathered width offset table places = map (λ (place : ℕ). take 32 (drop offset (entry width place table))) places
