-- What stands before the heights' bytes, in the parts that one function writes.
use Rattle.std.specs.Prelude.{ℕ, List, [], ◌∷◌, ◌++◌, take, drop}
use Rattle.fields.specs.Number.{to_be}
use Rattle.fields.specs.Zero.{zeros}
use Rattle.model.specs.MapBytes.{byte_mark}

-- "EDM", version 1, and the two heights
unfoldable pub numbers_of : ℕ → ℕ → List ℕ
numbers_of downloaded chain = 69 ∷ 68 ∷ 77 ∷ 1 ∷ [] ++ (to_be 4 downloaded ++ (to_be 4 chain ++ zeros 4))

-- the marks of the heights
unfoldable pub words_of : List ℕ → List ℕ
words_of heights =
    to_be 8 (byte_mark (take 64 heights)) ++ (to_be 8 (byte_mark (take 64 (drop 64 heights))) ++ to_be 8 (byte_mark (drop 128 heights)))
