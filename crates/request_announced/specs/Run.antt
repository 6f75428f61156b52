-- The loop over the types: what it runs on, what it requires of that, what it leaves.
use Rattle.std.specs.Prelude.{ℕ, ◌+◌, ◌*◌, ◌/◌, ◌≤◌, ◌<◌, ◌≡◌, Bool, true, List, length, leb, Result}
use Rattle.fields.specs.Entries.{entries, rising, joined}
use Rattle.model.specs.Lists.{pairs_in, entries_of}
use Rattle.model.specs.Requests.{Done}
use Rattle.commands.specs.Pending.{requests_in, holding}
use Rattle.commands.specs.Sent.{sent_at}
use Rattle.commands.specs.declared.place.Place.{Place}
use Rattle.request_announced.specs.Requested.{requested_as}
use Rattle.commands.specs.declared.tracker.TrackerError.{TrackerError}
use Rattle.request_announced.specs.declared.asks.Asks.{Asks}
use Rattle.request_announced.specs.declared.request.Written.{Written}
use Rattle.request_announced.specs.Pairs.{places_by_type, ids_at}
use Rattle.request_announced.specs.ByType.{performed_by_type}
use Rattle.model.specs.Layout.{command_size, id_size, pair_list_size, pair_size, record_size}
use Rattle.model.specs.Protocol.{tracked_limit}

-- what the loop goes by, the areas and what is done at its start
pub record Run : Type 0 where
  pub table : List ℕ
  pub count : ℕ
  pub most : ℕ
  pub gate : Bool
  pub clock : ℕ
  pub peer : ℕ
  pub stored : List ℕ
  pub pairs : List ℕ
  pub places : List ℕ
  pub ids : List ℕ
  pub rest : List ℕ
  pub out : List ℕ
  pub place : Place

abbrev pub run : Asks → List ℕ → List ℕ → List ℕ → Written → Run
run asks table rest out start =
    record {
      table = table;
      count = start.count;
      most = asks.most;
      gate = asks.gate;
      clock = asks.clock;
      peer = asks.peer;
      stored = asks.stored.bytes.now;
      pairs = asks.pairs.now;
      places = asks.places.now;
      ids = asks.ids.now;
      rest = rest;
      out = out;
      place = start.place;
    }

-- what is asked of it before the ids are gathered
pub record Sorted (r : Run) : Type 0 where
  pub few : length r.pairs ≤ pair_list_size
  pub held : r.count ≤ r.most
  pub limit : r.most ≤ tracked_limit
  pub fits : r.most * record_size ≤ length r.table
  pub rise : rising id_size (entries record_size r.count r.table) ≡ true
  pub room : r.place.at + length r.pairs / pair_size * command_size ≤ length r.out
  pub number : r.place.batch + length r.pairs / pair_size + 1 < 65536
  pub by_type : r.places ≡ places_by_type r.pairs

-- `ids` are those of the pairs at `places`
pub record Ready (r : Run) : Type 0 where
  pub sorted : Sorted r
  pub gathered : r.ids ≡ joined (ids_at r.pairs r.places)
  pub rest_long : length r.ids ≤ length r.rest

-- what all asks together come to
abbrev pub asked_of : Run → Done
asked_of r = performed_by_type r.gate r.clock r.peer (pairs_in r.stored) (entries_of pair_size r.pairs) (requests_in r.count r.table)

-- the answer, and the table and the area after it where there is room
pub record Asked (r : Run) (answer : Result Written TrackerError) (table out : List ℕ) : Type 0 where
  pub answered : answer ≡ requested_as r.most r.place (asked_of r)
  pub left : leb (length (asked_of r).pending) r.most ≡ true → table ≡ holding r.count (asked_of r).pending r.table
  pub written : leb (length (asked_of r).pending) r.most ≡ true → out ≡ sent_at r.place (asked_of r).sendings r.out
