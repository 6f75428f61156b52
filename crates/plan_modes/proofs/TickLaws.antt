-- What the works of a tick ask for.
use Prim.Native.Nat.{ℕ}
use mathlib.Core.Path.{◌≡◌, refl}
use mathlib.Core.Bool.{Bool, true, false, cond}
use mathlib.Core.List.{[]}
use mathlib.Core.Option.{Option, none, some}
use Rattle.model.specs.State.{State}
use Rattle.model.specs.Check.{ask_fresh}
use Rattle.model.specs.Lists.{pairs_in}
use Rattle.model.specs.Steps as steps
use Rattle.model.specs.Calls as calls
use Rattle.model.specs.Calls.{args_of}
use Rattle.peers.specs.declared.aim.Aim.{Aim}
use Rattle.plan.specs.declared.Work.TheVariants.{Nothing}
use Rattle.plan.specs.Plans.{acts_by, check_work, lose_work}

module _ (st : State) (c : calls.Call) (height : ℕ) where
  pub fresh_asked : (aim : Aim) (o : Option ℕ) → acts_by st c height (check_work aim o) ≡ ask_fresh o (pairs_in c.stored) st.sync.evicted
  fresh_asked aim none = refl
  fresh_asked aim (some peer) = refl

  pub lost_asked : (syncing : Bool) (o : Option ℕ)
      → acts_by st c height (cond syncing (lose_work o) Nothing) ≡ cond syncing (steps.ask_orphans st (args_of c) st.sync.sync_peer o) []
  unfolding steps.ask_orphans
  lost_asked true none = refl
  lost_asked true (some peer) = refl
  lost_asked false o = refl
