-- A work that is one of the works.
use Prim.Native.Nat.{ℕ}
use mathlib.Core.Path.{◌≡◌, sym, ap, ◌∙◌}
use mathlib.Core.Bool.{false, false≢true}
use mathlib.Core.List.{List}
use Rattle.model.specs.State.{State}
use Rattle.model.specs.Calls as calls
use Rattle.commands.specs.declared.place.Place.{Place}
use Rattle.plan.specs.declared.Work.{Work}
use Rattle.work.specs.declared.Counts.{Counts}
use Rattle.std.proofs.Common.{Result}
use Rattle.commands.specs.declared.tracker.TrackerError.{TrackerError}
use Rattle.work.specs.Worked.{worked_by, Performs, is_one_list, Untouched}

pub as_work : (st : State) (c : calls.Call) (downloaded : ℕ) {place : Place} {out after out' : List ℕ} {r : Result Counts TrackerError}
    → {work one : Work} → work ≡ one → Performs place (worked_by st c downloaded one) out r after out'
    → Performs place (worked_by st c downloaded work) out r after out'
as_work st c downloaded e p = rw e p

-- a work that is not of one list promises nothing where there is no room
pub several : {work one : Work} {r : Result Counts TrackerError} {region after out out' : List ℕ} → work ≡ one → is_one_list one ≡ false
    → Untouched work r region after out out'
several e f t h = absurd (false≢true (sym f ∙ ap is_one_list (sym e) ∙ t))
