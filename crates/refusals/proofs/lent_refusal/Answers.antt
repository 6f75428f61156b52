-- Each number by the tests before it.
use mathlib.Core.Path.{refl, sym, ◌∙◌}
use Rattle.model.specs.Calls.{lists_fit}
use Rattle.plan.specs.Plans.{numbers_of, call_of}
use Rattle.refusals.proofs.RefusalLaws.{too_early, in_time, lent_4, lent_5, lent_6, lent_7, lent_8, lent_none}
use Rattle.refusals.proofs.lent_refusal.Goals as goal

pub returns-then-call-head : goal.returns-then-call-head
unfolding numbers_of call_of lists_fit
returns-then-call-head c = λ st h. lent_4 st _ (too_early st _ _ h c.if-call-head.true)

pub returns-then-not-call_fits : goal.returns-then-not-call_fits
unfolding numbers_of call_of lists_fit
returns-then-not-call_fits c =
    λ st h.
    lent_5 st _ (in_time st _ _ h c.if-call-head.false) (sym (c.call_fits.ensures st _ h refl) ∙ c.if-not-call_fits.true)

pub returns-then-not-lists_fit : goal.returns-then-not-lists_fit
unfolding numbers_of call_of lists_fit
returns-then-not-lists_fit c =
    λ st h.
    lent_6 st _ (in_time st _ _ h c.if-call-head.false) (sym (c.call_fits.ensures st _ h refl) ∙ c.if-not-call_fits.false)
    (sym c.lists_fit.ensures ∙ c.if-not-lists_fit.true)

pub returns-then-not-peers_fit : goal.returns-then-not-peers_fit
unfolding numbers_of call_of lists_fit
returns-then-not-peers_fit c =
    λ st h.
    lent_7 st _ (in_time st _ _ h c.if-call-head.false) (sym (c.call_fits.ensures st _ h refl) ∙ c.if-not-call_fits.false)
    (sym c.lists_fit.ensures ∙ c.if-not-lists_fit.false)
    (sym c.peers_fit.ensures ∙ c.if-not-peers_fit.true)

pub returns-then-not-view_fits : goal.returns-then-not-view_fits
unfolding numbers_of call_of lists_fit
returns-then-not-view_fits c =
    λ st h.
    lent_8 st _ (in_time st _ _ h c.if-call-head.false) (sym (c.call_fits.ensures st _ h refl) ∙ c.if-not-call_fits.false)
    (sym c.lists_fit.ensures ∙ c.if-not-lists_fit.false)
    (sym c.peers_fit.ensures ∙ c.if-not-peers_fit.false)
    (sym c.view_fits.ensures ∙ c.if-not-view_fits.true)

pub returns : goal.returns
unfolding numbers_of call_of lists_fit
returns c =
    λ st h.
    lent_none st _ (in_time st _ _ h c.if-call-head.false) (sym (c.call_fits.ensures st _ h refl) ∙ c.if-not-call_fits.false)
    (sym c.lists_fit.ensures ∙ c.if-not-lists_fit.false)
    (sym c.peers_fit.ensures ∙ c.if-not-peers_fit.false)
    (sym c.view_fits.ensures ∙ c.if-not-view_fits.false)
