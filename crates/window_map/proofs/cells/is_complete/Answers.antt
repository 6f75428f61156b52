-- By the definition.
use mathlib.Core.Path.{refl}
use Rattle.model.specs.MapBytes.{byte_complete}
use Rattle.window_map.proofs.cells.is_complete.Goals as goal

pub returns : goal.returns
unfolding byte_complete
returns c = refl
