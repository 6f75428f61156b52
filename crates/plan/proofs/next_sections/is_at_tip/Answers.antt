-- By the definition, in syncing and in any other mode; rule 4 by its callees.
use mathlib.Core.Path.{◌≡◌, refl, sym, ap, ◌∙◌}
use mathlib.Core.Bool.{false}
use mathlib.Core.List.{◌++◌, append-nil}
use Rattle.model.specs.Steps as steps
use Rattle.model.specs.Calls.{args_of}
use Rattle.model.specs.Lists.{ids_in}
use Rattle.peers.specs.Peers.{listed_peer}
use Rattle.image.specs.Heads.{head_of}
use Rattle.plan.specs.Plans.{announce_to, acts_by, head_by}
use Rattle.plan.proofs.SketchLaws.{sketched}
use Rattle.plan.proofs.HeadLaws.{is_mode_lem, not_mode}
use Rattle.plan.proofs.HeightLaws.{asked, seen_by_lem}
use Rattle.plan.proofs.next_sections.is_at_tip.Goals as goal

pub returns-then-enters-clause-result_value : goal.returns-then-enters-clause-result_value
unfolding head_of head_by steps.is_at_tip steps.sections_from args_of
returns-then-enters-clause-result_value c st call h e s =
    let a = c.args in
    let seen = c.sections_seen-seen in
    let work = c.sections_work-work in
    let m = is_mode_lem st a.head h 2 c.if-enters.true in
    let d : a.head.downloaded ≡ st.sync.downloaded = rw (sym h) in
    let before = announce_to (listed_peer a.announces) (ids_in call.continuation) in
    let asks = asked st call false st.sync.downloaded a.shown.peers.now work.result s.peers work.ensures in
    rw c.usual.ensures
    (sketched st call _ (steps.is_at_tip st (args_of call) before a.tip) refl
    (rw (sym h, e))
    (rw (m, d) (ap (λ l. before ++ l) (append-nil (acts_by st call st.sync.downloaded work.result) ∙ asks)))
    refl
    (rw (m, sym d) (seen_by_lem st call a.head.downloaded seen.result a.shown s seen.ensures)))

pub returns-clause-result_value : goal.returns-clause-result_value
unfolding head_of head_by steps.is_at_tip steps.sections_from args_of
returns-clause-result_value c st call h e s =
    let a = c.args in
    let m = not_mode st a.head h 2 c.if-enters.false in
    let before = announce_to (listed_peer a.announces) (ids_in call.continuation) in
    rw c.usual.ensures
    (sketched st call _ (steps.is_at_tip st (args_of call) before a.tip) refl
    (rw (sym h, e))
    (rw m)
    refl
    (rw m))
