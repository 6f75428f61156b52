-- A stored pair is a key of type and id: `stored_as`.
use borrow.Author.Rules.{rules}
use native.Mathlib.Omega.{arith}
use mathlib.Core.Path.{◌≡◌, ◌∙◌}
use lib.ListN.{length}
use Rattle.model.specs.Calls.{pair_bytes}
use Rattle.model.specs.Layout.{id_size, pair_size}
use Rattle.model.proofs.ListLaws.{length_pair}
use Rattle.request_announced.proofs.WantedLaws.{pairs_rise, stored_as}
use Rattle.request_announced.proofs.wanted.is_stored.Goals.{After-pair_of}
use Rattle.request_announced.proofs.wanted.is_stored.Goals as goal

-- by its type
long : (c : After-pair_of) → length c.args.id.now ≡ id_size
long c = search rules

pub has_key-requires-clause-table_value : goal.has_key-requires-clause-table_value
has_key-requires-clause-table_value c =
    let made = (goal.at.has_key-requires-clause-table_value c).After-pair_of in
    let n : length (pair_bytes made.args.typeid made.args.id.now) ≡ pair_size =
    length_pair made.args.typeid made.args.id.now (long made) in
    rw (made.pair_of.ensures, n) (pairs_rise made.args.stored.now made.requires)

pub returns : goal.returns
returns c =
    let made = (goal.at.returns c).After-pair_of in
    let a = made.args in
    c.has_key.ensures ∙ rw made.pair_of.ensures (stored_as a.stored.now made.requires (λ i. search rules) a.typeid a.id.now (omega arith) (long made))
