use Rattle.std.proofs.Common.{ℕ, eqb, ◌∙◌, rules, tests}
use Rattle.std.proofs.lemmas.Iterator.{YieldsList-from_slice}
use Rattle.std.proofs.lemmas.Iterator.Search.{any_from_yields_List}
use Rattle.peers.proofs.StalledLaws.{listed_any}
use Rattle.peers.proofs.is_among.Goals as goal

pub returns : goal.returns
returns c =
    any_from_yields_List (λ (p : ℕ). eqb p c.args.peer) _ _ _ c.any.ensures.ran (YieldsList-from_slice c.args.peers.now cc) (λ x b q k. search (rules, tests))
    ∙ listed_any c.args.peer c.args.peers.now
