-- The work that asks another peer for a lost one's ids, from what was asked for it.
use Prim.Native.Nat.{ℕ, ◌+◌, ◌*◌, ◌≤◌}
use mathlib.Core.Path.{◌≡◌, sym, ap, ◌∙◌}
use mathlib.Core.Bool.{true, not, ◌&&◌}
use mathlib.Core.List.{List, []}
use native.Mathlib.Omega.{arith}
use lib.ListN.{length, take, length-map}
use lib.Dec.{eqb}
use Rattle.fields.specs.Facts.{All, Bytes}
use Rattle.fields.specs.Overwrite.{overwritten}
use Rattle.fields.specs.Entries.{entries, rising, joined}
use Rattle.fields.proofs.FilterLaws.{length_kept}
use Rattle.fields.proofs.EntriesLaws.{Wide}
use Rattle.model.specs.Protocol.{is_transaction, tracked_limit}
use Rattle.model.specs.Delivery.{Request, purge_peer, orphans_of}
use Rattle.model.specs.State.{State}
use Rattle.model.specs.Requests.{perform_all}
use Rattle.model.specs.Sections.{batches_of}
use Rattle.model.specs.Check.{retry_sendings}
use Rattle.model.specs.Lists.{pairs_in, entries_of}
use Rattle.model.specs.Steps as steps
use Rattle.model.specs.Calls as calls
use Rattle.model.specs.Calls.{args_of, pair_bytes}
use Rattle.image.specs.declared.head.Head.{Head}
use Rattle.commands.specs.Pending.{requests_in, holding}
use Rattle.commands.specs.declared.place.Place.{Place}
use Rattle.delivery.specs.Region.{evicted_in}
use Rattle.plan.specs.declared.Call.{Call}
use Rattle.plan.specs.declared.Work.TheVariants.{LoseAsk}
use Rattle.plan.specs.Plans.{retried_by}
use Rattle.request_announced.specs.ByType.{asks_by_type}
use Rattle.request_announced.proofs.ByTypeLaws.{asks_well, asks_weight}
use Rattle.work.specs.declared.Counts.{Counts}
use Rattle.std.proofs.Common.{Result}
use Rattle.commands.specs.declared.tracker.TrackerError.{TrackerError}
use Rattle.work.specs.Worked.{Given, acted_by, count_by, worked_by, unasked, Performs}
use Rattle.work.proofs.RegionLaws.{Stands, tracked_stands, stands_size, stands_requests, stands_rising}
use Rattle.work.proofs.WorkedLaws.{length_requests, length_evicted, kept_stands, peer_given, clock_given, gate_given}
use Rattle.work_asks.specs.Asked.{PairsAsks, Asks}
use Rattle.work_asks.proofs.EntryLaws.{Entered}
use Rattle.work_asks.proofs.AskedLaws.{asking, first_done}
use Rattle.work_asks.proofs.PairLaws.{front_is, front_length, front_pairs}
use Rattle.model.proofs.RecordLaws.{Recorded}
use Rattle.work_asks.proofs.OrphanLaws.{orphan_pairs, orphan_asks, orphan_asks_lem, orphans_recorded, pairs_bytes, pairs_wide}
use Rattle.model.specs.Layout.{id_size, most_bytes, pair_size, record_size}

-- ---- what it comes to

module _ {head : Head} {call : Call} {region ids stored view : List ℕ} {st : State} {c : calls.Call}
    (g : Given head region call ids stored view st c) (downloaded n gone : ℕ) (place : Place) (peer : ℕ) where
  lose_ask_worked : worked_by st c downloaded (LoseAsk peer)
      ≡ asking
      (perform_all (eqb call.gate 1) call.clock (orphan_asks peer (pairs_in stored) (orphans_of head.peer (requests_in head.pending region)))
      (purge_peer head.peer (requests_in head.pending region)))
      (evicted_in head.evicted region) [] (unasked n gone place)
  unfolding worked_by acted_by count_by retried_by retry_sendings batches_of steps.ask_orphans args_of
  lose_ask_worked = rw (g.pending, g.evicted, gate_given g, clock_given g, peer_given g, g.its_stored)

-- ---- its two parts: the pairs gathered, the peer's requests dropped

abbrev others : Head → List ℕ → List Request
others head region = purge_peer head.peer (requests_in head.pending region)

abbrev lost : Head → List ℕ → List Request
lost head region = orphans_of head.peer (requests_in head.pending region)

-- The table once the lost peer's requests left it.
pub record Left (head : Head) (region : List ℕ) (left : ℕ) (table : List ℕ) : Type 0 where
  pub count : left ≡ length (others head region)
  pub held : table ≡ holding head.pending (others head region) region

-- Its pairs at the front of a room.
pub record Gathered (head : Head) (region : List ℕ) (number : ℕ) (room pairs : List ℕ) : Type 0 where
  pub count : number ≡ length (lost head region)
  pub written : pairs ≡ overwritten 0 (joined (orphan_pairs (lost head region))) room

module _ {head : Head} {call : Call} {region : List ℕ} {place : Place} {peer : ℕ} {out : List ℕ}
    (n : Entered head call region place peer most_bytes out) where
  lost_stands : Stands (others head region) (evicted_in head.evicted region) (holding head.pending (others head region) region)
  unfolding purge_peer
  lost_stands = kept_stands head region n.tracked n.bytes (λ (r : Request). not (eqb r.peer head.peer))

  left_stands : {left : ℕ} {table : List ℕ} → Left head region left table → Stands (others head region) (evicted_in head.evicted region) table
  left_stands l = rw l.held lost_stands

  recorded : All Recorded (lost head region)
  recorded = orphans_recorded head.peer (requests_in head.pending region) (tracked_stands head region n.tracked n.bytes).recorded

  wide : Wide pair_size (orphan_pairs (lost head region))
  wide = pairs_wide (lost head region) recorded

  module _ {number : ℕ} {room pairs : List ℕ} (gathered : Gathered head region number room pairs) where
    number_is : number ≡ length (orphan_pairs (lost head region))
    number_is = gathered.count ∙ sym (length-map (lost head region) (λ (r : Request). pair_bytes r.type_id r.id))

    pub orphans_few : number ≤ head.pending
    unfolding orphans_of
    orphans_few =
        let kept = length_kept (λ (r : Request). eqb r.peer head.peer && not (is_transaction r.type_id)) (requests_in head.pending region) in
        omega (arith, gathered.count, kept, length_requests head.pending region)

    pub orphans_long : length (take (number * pair_size) pairs) ≡ number * pair_size
    orphans_long = front_length (orphan_pairs (lost head region)) wide number room pairs number_is gathered.written

    orphans_read : entries_of pair_size (take (number * pair_size) pairs) ≡ orphan_pairs (lost head region)
    orphans_read = front_pairs (orphan_pairs (lost head region)) wide number room pairs number_is gathered.written

    orphans_front : Bytes (take (number * pair_size) pairs)
    orphans_front =
        rw (front_is (orphan_pairs (lost head region)) wide number room pairs number_is gathered.written) (pairs_bytes (lost head region) recorded)

    -- ---- asked for behind the purge

    module _ {left : ℕ} {table : List ℕ} (l : Left head region left table) {before : Counts} (b : before ≡ unasked left head.evicted place) where
      pub orphans_ask : PairsAsks before table (take (number * pair_size) pairs) out
      orphans_ask =
          let s = left_stands l in
          let few : left + head.evicted ≤ tracked_limit = omega (arith, s.few, l.count, length_evicted head.evicted region) in
          let long = orphans_long in
          let number-few = orphans_few in
          let size = stands_size (others head region) (evicted_in head.evicted region) table s in
          let order : rising id_size (entries record_size left table) ≡ true =
          rw l.count (stands_rising (others head region) (evicted_in head.evicted region) table s) in
          let most = n.tracked.few in
          rw b
          (record {
            table = record { few = few; size = omega (arith, size); order = order };
            few = omega (arith, long, number-few, most);
            room = omega (arith, long, number-few, most, n.room.bytes);
            number = omega (arith, long, number-few, most, n.room.batches);
          })

      pub asks_lost : {stored after out' : List ℕ} {r : Result Counts TrackerError}
          → Asks (eqb call.gate 1) call.clock (asks_by_type peer (pairs_in stored) (entries_of pair_size (take (number * pair_size) pairs)))
          before table out r after out'
          → {st : State} {c : calls.Call} {ids view : List ℕ} → Given head region call ids stored view st c → (downloaded : ℕ)
          → Performs place (worked_by st c downloaded (LoseAsk peer)) out r after out'
      asks_lost {stored} a g downloaded =
          let front : List ℕ = take (number * pair_size) pairs in
          let s = left_stands l in
          let acts : asks_by_type peer (pairs_in stored) (entries_of pair_size front) ≡ orphan_asks peer (pairs_in stored) (lost head region) =
          ap (asks_by_type peer (pairs_in stored)) orphans_read ∙ orphan_asks_lem peer (pairs_in stored) (lost head region) recorded in
          let long = orphans_long in
          let few = orphans_few in
          rw (lose_ask_worked g downloaded left head.evicted place peer, ← acts)
          (first_done s (rw l.count (stands_requests (others head region) (evicted_in head.evicted region) table s)) l.count
          (sym (length_evicted head.evicted region)) n.clock (asks_well peer (pairs_in stored) front n.asked orphans_front)
          (omega (arith, asks_weight peer (pairs_in stored) front, long, few, n.tracked.few, n.room.bytes)) (rw b at a))
