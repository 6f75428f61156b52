-- Each outcome by the part that it leads to: `answered_alike`.
use mathlib.Core.Path.{ap}
use Rattle.plan_messages.specs.Heard.{outcome_of}
use Rattle.plan_messages.proofs.MessageLaws.{answered_alike, quiet_tip}
use Rattle.model.specs.Peers.{first_of}
use Rattle.model.specs.Lists.{peers_in}
use lib.Dec.{eqb}
use Rattle.model.specs.Steps as steps
use Rattle.plan.proofs.CallLaws.{numbers}
use Rattle.plan_messages.proofs.messages.answers.Goals as goal

pub returns-in-Continue : goal.returns-in-Continue
returns-in-Continue c =
    let a = c.args in
    let r = c.replies in record {
      work_value = rw r.ensures.work_value;
      result_value = λ st d h n shows.
          let m = numbers d a.call n in
          answered_alike st d _ _ a.tip (r.ensures.result_value st d h m.clock) m.peer (ap outcome_of c.in-Continue.is);
    }

pub returns-in-Synced : goal.returns-in-Synced
unfolding steps.answers
returns-in-Synced c =
    let a = c.args in
    let r = c.is_at_tip in record {
      work_value = rw r.ensures.work_value (quiet_tip (eqb a.head.mode 2) (first_of (peers_in a.shown.peers.now)));
      result_value = (λ st d h n shows.
          let m = numbers d a.call n in
          answered_alike st d _ _ a.tip (r.ensures.result_value st d h m.clock shows) m.peer (ap outcome_of c.in-Synced.is));
    }

pub returns-in-Behind : goal.returns-in-Behind
returns-in-Behind c =
    let a = c.args in
    let r = c.falls_behind in record {
      work_value = rw r.ensures.work_value;
      result_value = (λ st d h n shows.
          let m = numbers d a.call n in
          answered_alike st d _ _ a.tip (r.ensures.result_value st d h m.clock) m.peer (ap outcome_of c.in-Behind.is));
    }
