-- The part of `well_formed` that the header alone decides.
use Rattle.std.specs.Prelude.{Bool, ◌&&◌, ◌||◌, List, [], ◌∷◌, ℕ, eqb, leb, take}
use Rattle.fields.specs.Order.{same}
use Rattle.model.specs.State.{has_sync_peer}
use Rattle.model.specs.Image.{field, mode_of, mode_byte, version_fits, marks_fit, counts_fit, clocks_fit}

unfoldable pub head_fits : List ℕ → Bool
head_fits area =
    same (take 3 area) (69 ∷ 68 ∷ 84 ∷ [])
    && (version_fits area
    && (leb (mode_byte area) 4
    && (marks_fit area
    && (counts_fit area
    && (clocks_fit area
    && (has_sync_peer (mode_of (mode_byte area)) || eqb (field 48 8 area) 0))))))
