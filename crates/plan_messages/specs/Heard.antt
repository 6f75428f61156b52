-- Document 01's outcomes of a sync info, and the tip that it tells.
use Rattle.std.specs.Prelude.{ℕ, Some, None}
use Rattle.std.specs.Prelude as program
use Rattle.std.proofs.Math.Option.{Option, none, some}
use Rattle.model.specs.Events as model
use Rattle.plan_messages.specs.declared.events.Heard.{Heard}
use Rattle.plan_messages.specs.declared.events.Heard.TheVariants.{Continue, Synced, Behind}

abbrev pub outcome_of : Heard → model.Outcome
outcome_of Continue = model.Continue
outcome_of Synced = model.Synced
outcome_of Behind = model.BehindPeer

-- the sender's tip, or that none was read
abbrev pub tip_of : program.Option ℕ → Option ℕ
tip_of (Some tip) = some tip
tip_of None = none
