-- Rule 2's send, by SendLaws; the rest is what led to the entry.
use mathlib.Core.Path.{refl, sym, ap}
use mathlib.Core.List.{◌++◌}
use Rattle.model.specs.Lists.{ids_in}
use Rattle.model.specs.Steps as steps
use Rattle.model.specs.Calls.{args_of}
use Rattle.peers.specs.Peers.{listed_peer}
use Rattle.settings.specs.Values.{settings_of, send_clock_of}
use Rattle.image.specs.Heads.{head_of}
use Rattle.plan.specs.Plans.{announce_to, head_by}
use Rattle.plan.proofs.SketchLaws.{sketched}
use Rattle.plan.proofs.SendLaws.{clock_from, Headed, answered, marked, said}
use Rattle.plan.proofs.sync_infos.enters_syncing.Goals as goal

pub returns-clause-result_value : goal.returns-clause-result_value
unfolding head_of head_by settings_of send_clock_of clock_from steps.enters_syncing args_of
returns-clause-result_value c st call o earlier m sync h e eo es =
    let a = c.args in
    let r = c.sends-says in
    let known : Headed st.settings sync.send_clock a.head = record { settings = rw (sym h); sends = rw (sym h) } in
    let sent = answered st.settings sync.send_clock a.head call.clock a.clock a.peer r.result.0 r.result.1 known e r.ensures.clock_value r.ensures.says_value in
    let before = announce_to (listed_peer a.announces) (ids_in call.continuation) in
    rw c.usual.ensures
    (sketched st call _ (steps.enters_syncing st (args_of call) o a.peer before sync)
    (sym eo)
    (rw (sent.clock, sym (marked a.peer r.result.1 sent), c.is_some.ensures, sym h, e))
    (ap (λ l. before ++ l) (said a.peer r.result.1 sent))
    es refl)
