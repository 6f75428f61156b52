-- A plan whose work needs no copies, carried out on the areas themselves.
use Prim.Native.Nat.{ℕ}
use mathlib.Core.Path.{◌≡◌, sym, ◌∙◌}
use mathlib.Core.Bool.{true, false, false≢true}
use mathlib.Core.List.{List}
use lib.ListN.{length}
use Rattle.fields.specs.Facts.{Bytes}
use Rattle.model.specs.Image.{decode}
use Rattle.model.specs.Calls as calls
use Rattle.image.specs.declared.head.Head.{Head}
use Rattle.image.specs.Heads.{head_in}
use Rattle.plan.specs.declared.Plan.{Plan}
use Rattle.plan.specs.Plans.{Follows}
use Rattle.std.proofs.Common.{Err}
use Rattle.commands.specs.Sent.{first_place}
use Rattle.commands.specs.declared.tracker.TrackerError.TheVariants.{Full}
use Rattle.work.specs.Worked.{Worked, fits, performed_as, is_one_list}
use Rattle.refusals.specs.Refusals.{given_refusal}
use Rattle.refusals.proofs.RefusalLaws.{Given, given}
use Rattle.work_asks.specs.Carried.{carried_by}
use Rattle.step.specs.Copies.{works_on_copies}
use Rattle.step.proofs.AreaLaws.{area_well}
use Rattle.step.proofs.FillingLaws.{few_fit}
use Rattle.step.proofs.EndLaws.{full_fails}

module _ (area commands : List ℕ) (c : calls.Call) (p : Plan) (g : given_refusal area (length commands) c ≡ 0) (f : Follows (decode area) c p)
    (seen : p.seen ≡ true) (head : Head) (h : head ≡ head_in area) (bytes : Bytes area) where
  abbrev w : Worked
  w = carried_by (decode area) c p

  facts : Given area (length commands) c
  facts = given area (length commands) c g

  -- a work that is not of one list always has room
  pub not_full : {A : Type 0} → works_on_copies p.work p.announces ≡ false → is_one_list p.work ≡ false → (Err Full) ≡ performed_as first_place w → A
  not_full small several full =
      let room : fits w ≡ true = few_fit (decode area) c p (area_well area facts.state_size bytes facts.image).tracked small several in
      absurd (false≢true (sym (full_fails first_place w full) ∙ room))
