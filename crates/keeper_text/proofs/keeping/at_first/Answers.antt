-- Nothing read yet: `at_first`.
use mathlib.Core.Path.{ap}
use mathlib.Core.Bool.{false}
use Rattle.settings.specs.declared.Settings.{Settings}
use Rattle.keeper_text.specs.Keeping.{at_first}
use Rattle.keeper_text.specs.declared.keeping.Keeper.{Keeper}
use Rattle.keeper_text.proofs.keeping.at_first.Goals as goal

pub returns : goal.returns
unfolding at_first
returns c = let made : Settings → Keeper = λ (s : Settings). record { begun = false; settings = s; clock = 0; count = 0 } in ap made c.limits-settings.ensures
