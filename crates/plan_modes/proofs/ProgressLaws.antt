-- The acts of progress.
use mathlib.Core.Path.{◌≡◌}
use mathlib.Core.Bool.{Bool, true, false, cond}
use mathlib.Core.List.{List, [], ◌++◌}
use Rattle.model.specs.Requests.{Act}

-- Progress sends after what it asks for, unless it has sent before.
pub not_again : (used : Bool) (x y z : List Act) → used ≡ true → x ≡ y → x ++ [] ≡ y ++ cond used [] z
not_again used x y z u e = rw (u, e)

pub once : (used : Bool) (x y s z : List Act) → used ≡ false → x ≡ y → s ≡ z → x ++ s ≡ y ++ cond used [] z
once used x y s z u e f = rw (u, e, f)
