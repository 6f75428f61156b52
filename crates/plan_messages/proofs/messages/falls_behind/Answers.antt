-- By `enters_syncing`, from the state with the new tip and nobody stalled.
use mathlib.Core.Path.{refl, sym}
use mathlib.Core.List.{[]}
use Rattle.model.specs.State.{with_known_tip, with_stalled_peers}
use Rattle.model.specs.Events.{BehindPeer}
use Rattle.plan.specs.Plans.{head_by}
use Rattle.model.specs.Steps as steps
use Rattle.model.specs.Calls.{args_of}
use Rattle.image.specs.Heads.{head_of}
use Rattle.plan_messages.proofs.messages.falls_behind.Goals as goal

pub returns : goal.returns
unfolding head_of head_by steps.answers steps.unmarked
returns c =
    let r = c.enters_syncing in record {
      work_value = r.ensures.work_value;
      result_value = λ st call h e.
          let sync = with_known_tip (with_stalled_peers (steps.unmarked st (args_of call)) []) c.args.tip in
          r.ensures.result_value st call BehindPeer st.last_clock st.mode sync (rw (sym h)) e refl refl;
    }
