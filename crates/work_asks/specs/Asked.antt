-- What can be asked for through rule 3 behind what a work did before, and what the asks make of a region and of some commands.
use Rattle.std.specs.Prelude.{ℕ, ◌+◌, ◌-◌, ◌*◌, ◌/◌, ◌≤◌, ◌<◌, ◌≡◌, Bool, true, List, length, leb, Result, Ok, Err}
use Rattle.fields.specs.Entries.{entries, rising}
use Rattle.model.specs.Layout.{command_size, id_list_size, id_size, most_bytes, pair_list_size, pair_size, record_size, table_size}
use Rattle.model.specs.Protocol.{tracked_limit}
use Rattle.model.specs.Requests.{Act, perform_all}
use Rattle.commands.specs.Pending.{requests_in, holding}
use Rattle.commands.specs.Sent.{sent_at}
use Rattle.commands.specs.declared.tracker.TrackerError.{TrackerError}
use Rattle.request_announced.specs.declared.request.Written.{Written}
use Rattle.request_announced.specs.Requested.{requested_as}
use Rattle.work.specs.declared.Counts.{Counts}
use Rattle.work.specs.Worked.{HasRoom}

-- ---- what can be asked for behind some counts

-- Requests and evicted ids are no more than a core tracks, and the table is whole and in order.
pub record Askable (before : Counts) (region : List ℕ) : Type 0 where
  pub few : before.pending + before.evicted ≤ tracked_limit
  pub size : table_size ≤ length region
  pub order : rising id_size (entries record_size before.pending region) ≡ true

-- one list of ids
pub record ListAsks (before : Counts) (region ids out : List ℕ) : Type 0 where
  pub table : Askable before region
  pub few : length ids ≤ id_list_size
  pub room : before.place.at + length ids / id_size * command_size ≤ length out
  pub number : before.place.batch + 1 < 65536

-- pairs of type and id
pub record PairsAsks (before : Counts) (region pairs out : List ℕ) : Type 0 where
  pub table : Askable before region
  pub few : length pairs ≤ pair_list_size
  pub room : before.place.at + length pairs / pair_size * command_size ≤ length out
  pub number : before.place.batch + length pairs / pair_size + 1 < 65536

-- the window's sections
pub record SectionsAsks (before : Counts) (region out : List ℕ) : Type 0 where
  pub table : Askable before region
  pub room : HasRoom before.place most_bytes out

-- ---- what the asks come to

-- the counts of what was done before, with what the asks add
abbrev pub answered_as : Result Written TrackerError → Counts → Result Counts TrackerError
answered_as (Ok w) before =
    Ok
    (record {
      pending = w.count;
      evicted = before.evicted;
      retried = before.retried;
      fresh = before.fresh;
      abandoned = before.abandoned;
      forgotten = before.forgotten;
      place = w.place;
    })
answered_as (Err e) before = Err e

-- The acts were done on the requests of a region: what was answered and left. Where there is no room, what was left is of no use.
pub record Asks (gate : Bool) (clock : ℕ) (acts : List Act) (before : Counts) (region commands : List ℕ) (answer : Result Counts TrackerError) (after out : List ℕ) : Type 0 where
  pub answered : answer
      ≡ answered_as (requested_as (tracked_limit - before.evicted) before.place (perform_all gate clock acts (requests_in before.pending region))) before
  pub left : leb (length (perform_all gate clock acts (requests_in before.pending region)).pending) (tracked_limit - before.evicted) ≡ true
      → after ≡ holding before.pending (perform_all gate clock acts (requests_in before.pending region)).pending region
  pub written : leb (length (perform_all gate clock acts (requests_in before.pending region)).pending) (tracked_limit - before.evicted) ≡ true
      → out ≡ sent_at before.place (perform_all gate clock acts (requests_in before.pending region)).sendings commands
