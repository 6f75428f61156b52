-- The refusal decides; where there is none `asking` has what the pairs need.
use native.Mathlib.Omega.{arith}
use Prim.Native.Nat.{ℕ}
use mathlib.Core.Path.{refl, sym}
use mathlib.Core.List.{List}
use Rattle.model.specs.Image.{decode}
use Rattle.model.proofs.Well.{Well}
use Rattle.model.proofs.RoundLaws.{decode_well}
use Rattle.refusals.proofs.NumberLaws.{positive}
use Rattle.request_keeper.proofs.EntryLaws.{Asking, asking, flag_bit, asked, pairs_short, not_asked}
use Rattle.request_keeper.proofs.request_keeper_question.Goals.{In-Ok}
use Rattle.request_keeper.proofs.request_keeper_question.Goals as goal

-- ---- past the refusal

module _ (c : In-Ok) where
  abbrev area : List ℕ
  area = c.args.state.now

  given : Asking area c.args.commands.now c.args.flag
  given = asking _ _ _ (sym (c.in-Ok.ensures c.args.commands.now refl))

  well : Well (decode area)
  well =
      decode_well area given.size (λ i. omega (arith, c.type_inv.state i)) given.image

pub returns-in-Err : goal.returns-in-Err
returns-in-Err c =
    let n = positive c.in-Err.refusal in
    rw c.number.ensures (not_asked n _ _ _ (c.in-Err.ensures _ refl))

pub read_head-head-requires : goal.read_head-head-requires
read_head-head-requires c = let past = c in omega (arith, (given past).size)

pub question_pairs-length-requires : goal.question_pairs-length-requires
question_pairs-length-requires c =
    let past = (goal.at.question_pairs-length-requires c).In-Ok in
    let g = given past in
    record { area_len = (g.size, g.image); head_value = c.read_head-head.ensures; out_len = g.room }

pub overflow_cast-result : goal.overflow_cast-result
overflow_cast-result c =
    let past = (goal.at.overflow_cast-result c).In-Ok in
    omega (arith, pairs_short (decode (area past)) _ (well past) c.question_pairs-length.ensures.value)

pub returns-in-Ok : goal.returns-in-Ok
returns-in-Ok c =
    let p = c.question_pairs-length.ensures in
    let said = flag_bit _ (given (goal.at.returns-in-Ok c).In-Ok).flag_fits in
    asked _ _ _ (c.in-Ok.ensures _ refl) said _ _ p.value p.out_after
