-- Rules 5 and 4 by their callees; the rest is by the definition.
use mathlib.Core.Path.{◌≡◌, refl, sym, ap, ◌∙◌}
use mathlib.Core.Bool.{◌&&◌}
use mathlib.Core.List.{append-nil}
use Rattle.model.specs.Steps as steps
use Rattle.model.specs.Calls.{args_of}
use Rattle.image.specs.Heads.{head_of}
use Rattle.plan.specs.Plans.{acts_by, head_by}
use Rattle.plan.proofs.SketchLaws.{sketched}
use Rattle.plan.proofs.HeightLaws.{reached, asked, seen_by_lem}
use Rattle.plan.proofs.next_sections.advances_and_requests.Goals as goal

pub returns-clause-result_value : goal.returns-clause-result_value
unfolding head_of head_by steps.advances_and_requests steps.sections_from steps.unmarked args_of
returns-clause-result_value c st call h e s =
    let a = c.args in
    let r = c.advance_downloaded_height-advance in
    let seen = c.sections_seen-seen in
    let work = c.sections_work-work in
    let to = reached st call a.from r.result a.shown.view.bytes.now a.shown.height s.height s.view r.ensures in
    let sees : seen.result ≡ (steps.sections_from st (args_of call) (steps.advance_from st (args_of call) a.from).height).in_view =
    seen_by_lem st call r.result.height seen.result a.shown s seen.ensures ∙ rw to.height
    in
    let asks = asked st call a.purges r.result.height a.shown.peers.now work.result s.peers work.ensures in
    rw c.usual.ensures
    (sketched st call _ (steps.advances_and_requests st (args_of call) a.from) refl
    (rw (to.height, sym h, e))
    (append-nil (acts_by st call r.result.height work.result) ∙ asks ∙ rw to.height)
    refl
    (ap (λ b. b && seen.result) to.seen ∙ ap (λ b. (steps.advance_from st (args_of call) a.from).in_view && b) sees))
