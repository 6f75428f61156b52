-- Whether a step is worked out on copies: only there may a refusal as 10 come after something was written. A check asks again
-- only for what was evicted, and so holds no more than before.
use Rattle.std.specs.Prelude.{ℕ, Bool, true, false, Option, Some, None}
use Rattle.plan.specs.declared.Work.{Work}
use Rattle.plan.specs.declared.Work.TheVariants.{Nothing, Ids, Sections, Received, Evicted, Purge, PurgeSections, Lose, LoseAsk, Check, CheckFresh}

-- somebody is told of continuation ids
abbrev pub is_told : Option ℕ → Bool
is_told (Some peer) = true
is_told None = false

abbrev pub works_on_copies : Work → Option ℕ → Bool
works_on_copies Nothing announces = false
works_on_copies (Ids peer) announces = is_told announces
works_on_copies (Sections peer) announces = true
works_on_copies Received announces = false
works_on_copies Evicted announces = is_told announces
works_on_copies Purge announces = false
works_on_copies (PurgeSections peer) announces = true
works_on_copies Lose announces = false
works_on_copies (LoseAsk peer) announces = true
works_on_copies (Check aim) announces = false
works_on_copies (CheckFresh peer aim) announces = false
