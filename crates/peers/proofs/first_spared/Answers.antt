-- Two tests in one: neither failed nor stalled.
use Rattle.std.proofs.Common.{ℕ, ap, sym, ◌∙◌, not, ◌&&◌, eqb, rules}
use Rattle.fields.proofs.MarkLaws.{kept_kept}
use Rattle.model.specs.Peers.{first_of, first_unstalled, is_listed}
use Rattle.model.specs.Lists.{peers_in}
use Rattle.peers.proofs.first_spared.Goals as goal

pub returns : goal.returns
unfolding first_unstalled
returns c =
    let a = c.args in
    c.first_passing.ensures (λ (p : ℕ). not (eqb p a.failed) && not (is_listed p a.stalled.now)) (λ peer told h post. search rules)
    ∙ ap first_of (sym (kept_kept (λ (p : ℕ). not (is_listed p a.stalled.now)) (λ (p : ℕ). not (eqb p a.failed)) (peers_in a.peers.now)))
