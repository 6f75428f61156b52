-- The room for commands that a work and a plan ask for.
use Rattle.std.specs.Prelude.{ℕ, ◌+◌, ◌*◌, ◌/◌, Option, Some, None}
use Rattle.image.specs.declared.head.Head.{Head}
use Rattle.plan.specs.declared.Plan.{Plan}
use Rattle.plan.specs.declared.Work.{Work}
use Rattle.plan.specs.declared.Work.TheVariants.{Nothing, Ids, Sections, Received, Evicted, Purge, PurgeSections, Lose, LoseAsk, Check, CheckFresh}
use Rattle.model.specs.Layout.{area_size, command_size, id_size, most_bytes}

-- How many command bytes a work can write, with so many bytes of ids lent: each id in a command of its own at worst.
abbrev pub most_sent : Head → ℕ → Work → ℕ
most_sent head ids Nothing = 0
most_sent head ids (Ids peer) = ids / id_size * command_size
most_sent head ids (Sections peer) = most_bytes
most_sent head ids Received = 0
most_sent head ids Evicted = 0
most_sent head ids Purge = 0
most_sent head ids (PurgeSections peer) = most_bytes
most_sent head ids Lose = 0
most_sent head ids (LoseAsk peer) = most_bytes
most_sent head ids (Check aim) = head.pending * command_size
most_sent head ids (CheckFresh peer aim) = (head.pending + head.evicted) * command_size

-- a whole area where continuation ids are announced, else what comes behind them
abbrev pub room_for : Option ℕ → ℕ → ℕ
room_for (Some peer) most = area_size
room_for None most = most

-- a plan before its sync info
abbrev pub most_carried : Head → ℕ → Plan → ℕ
most_carried head ids plan = room_for plan.announces (most_sent head ids plan.work)
