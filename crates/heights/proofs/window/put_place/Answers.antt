-- Type and id stand side by side: `place_written`.
use borrow.Author.Rules.{rules}
use Rattle.heights.proofs.PlaceLaws.{place_stored, place_room, place_written}
use Rattle.heights.proofs.window.put_place.Goals as goal

pub returns-then-is_stored : goal.returns-then-is_stored
returns-then-is_stored c =
    let whole = place_stored c.args.view.now c.args.at c.requires.place_size_in_bounds c.args.to c.args.pairs.now (c.is_stored.ensures.stored c.if-is_stored.true) in
    record { value = whole.0; pairs_after = whole.1 }

pub overwrite-requires : goal.overwrite-requires
overwrite-requires c =
    let missing = c.is_stored.ensures.missing c.if-is_stored.false in
    place_room c.args.view.now c.args.at c.requires.place_size_in_bounds c.args.to c.args.pairs.now (λ i. search rules) missing
    c.requires.pair_size_in_bounds

pub returns : goal.returns
returns c =
    let missing = c.is_stored.ensures.missing c.if-is_stored.false in
    let whole = place_written c.args.view.now c.args.at c.requires.place_size_in_bounds c.args.to c.args.pairs.now (λ i. search rules) missing
    c.overwrite.ensures in
    record { value = whole.0; pairs_after = whole.1 }
