-- What a slide that is not refused was given.
use Rattle.std.specs.Prelude.{ℕ, ◌≤◌, ◌≡◌, true, List}
use Rattle.model.specs.Image.{field}
use Rattle.model.specs.WindowMap.{map_fits}

pub record Slidable (area : List ℕ) (downloaded : ℕ) : Type 0 where
  pub fits : map_fits area ≡ true
  pub up : field 4 4 area ≤ downloaded
