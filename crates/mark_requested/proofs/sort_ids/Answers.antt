-- Places sorted by their ids give the ids sorted: `sorted_ids`.
use lib.ListN.{length}
use Rattle.mark_requested.proofs.SortedLaws.{sorted_ids, sorted_listed}
use Rattle.mark_requested.proofs.sort_ids.Goals as goal

pub returns : goal.returns
returns c =
    let a = c.args in record {
      places_after = sorted_ids a.ids.now (length a.places.now) c.requires.0 c.number.ensures c.sort.ensures;
      listed = sorted_listed a.ids.now (length a.places.now) c.requires.0 c.number.ensures c.sort.ensures;
    }
