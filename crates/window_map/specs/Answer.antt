-- What an answer stands for in the model.
use Rattle.std.specs.Prelude.{ℕ, Result, Ok, Err}
use Rattle.model.specs.WindowMap as model
use Rattle.refusals.specs.declared.refusal.Refusal.{Refusal}
use Rattle.refusals.specs.Numbers.{number_of}

abbrev pub passable_of : Result ℕ Refusal → model.Passable
passable_of (Ok heights) = record { number = 0; heights = heights }
passable_of (Err refusal) = record { number = number_of refusal; heights = 0 }
