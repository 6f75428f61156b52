-- Rule 2's send, by SendLaws; the rest is by the definition.
use mathlib.Core.Path.{refl, sym, ap}
use mathlib.Core.List.{◌++◌}
use Rattle.model.specs.Lists.{ids_in}
use Rattle.model.specs.Events as events
use Rattle.model.specs.Steps as steps
use Rattle.model.specs.Calls.{args_of}
use Rattle.peers.specs.Peers.{listed_peer}
use Rattle.image.specs.Heads.{head_of}
use Rattle.plan.specs.Plans.{announce_to, head_by}
use Rattle.plan.proofs.SketchLaws.{sketched}
use Rattle.plan.proofs.SendLaws.{clock_from, answered_in, said}
use Rattle.plan.proofs.sync_infos.replies.Goals as goal

pub returns-clause-result_value : goal.returns-clause-result_value
unfolding head_of head_by clock_from steps.answers steps.unmarked steps.sent steps.say_to args_of
returns-clause-result_value c st call h e =
    let a = c.args in
    let r = c.sends-reply in
    let sent = answered_in st a.head call.clock a.clock a.peer r.result.0 r.result.1 h e r.ensures.clock_value r.ensures.says_value in
    let before = announce_to (listed_peer a.announces) (ids_in call.continuation) in
    rw c.usual.ensures
    (sketched st call _ (steps.answers st (args_of call) a.peer before a.tip events.Continue)
    refl
    (rw (sent.clock, sym h, e))
    (ap (λ l. before ++ l) (said a.peer r.result.1 sent))
    refl refl)
