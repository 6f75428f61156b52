-- The room for commands: what is left of a plan's for its work, and that what a work sends fits into what it asks for.
use Prim.Native.Nat.{ℕ, ◌+◌, ◌-◌, ◌*◌, ◌/◌, ◌≤◌, ◌<◌}
use mathlib.Core.Path.{◌≡◌, ap, ◌∙◌}
use mathlib.Core.List.{List, [], ◌++◌}
use native.Mathlib.Omega.{arith}
use lib.ListN.{length, drop, length-drop}
use lib.Dec.{eqb}
use Rattle.fields.specs.Facts.{All}
use Rattle.fields.proofs.EntriesLaws.{Wide, entries_wide}
use Rattle.model.specs.Protocol.{Id, header_type, tracked_limit}
use Rattle.model.specs.Delivery.{Request, check_timeouts}
use Rattle.model.specs.State.{State}
use Rattle.model.specs.Requests.{Sending}
use Rattle.model.specs.Sections.{Item}
use Rattle.model.specs.Check.{retries, mark_all_retried}
use Rattle.model.specs.Lists.{ids_in, pairs_in}
use Rattle.model.specs.Calls as calls
use Rattle.model.proofs.ListLaws.{ids_wide, length_ids}
use Rattle.image.specs.declared.head.Head.{Head}
use Rattle.peers.specs.Aims.{aimed_at}
use Rattle.peers.specs.Peers.{listed_peer}
use Rattle.peers.specs.declared.aim.Aim.{Aim}
use Rattle.std.proofs.Common.{Option, Some, None}
use Rattle.commands.specs.Sent.{first_place, sent_bytes, behind}
use Rattle.commands.specs.declared.place.Place.{Place}
use Rattle.commands.proofs.SentLaws.{behind_none}
use Rattle.plan.specs.declared.Call.{Call}
use Rattle.plan.specs.declared.Plan.{Plan}
use Rattle.plan.specs.declared.Work.{Work}
use Rattle.plan.specs.declared.Work.TheVariants.{Nothing, Ids, Sections, Received, Evicted, Purge, PurgeSections, Lose, LoseAsk, Check, CheckFresh}
use Rattle.plan.specs.Plans.{retried_by}
use Rattle.work.specs.Worked.{Tracked, Given, acted_by, worked_by}
use Rattle.work.proofs.RetriedLaws.{retries_few}
use Rattle.work.proofs.WorkedLaws.{length_requests, length_evicted}
use Rattle.work_asks.specs.Carried.{announced, carried_by}
use Rattle.work_asks.specs.Room.{most_sent, room_for}
use Rattle.work_asks.proofs.RequestLaws.{WholeRequest, WholeItem, retried_whole, requests_whole, retried_bytes, asked_bytes}
use Rattle.model.specs.Layout.{area_size, id_list_size, id_size, most_bytes}

-- no work asks for more than a step's most
pub sent_most : (head : Head) (ids : ℕ) (work : Work) → head.pending + head.evicted ≤ tracked_limit → ids ≤ id_list_size → most_sent head ids work ≤ most_bytes
sent_most head ids Nothing few h = omega arith
sent_most head ids (Ids peer) few h = omega arith
sent_most head ids (Sections peer) few h = omega arith
sent_most head ids Received few h = omega arith
sent_most head ids Evicted few h = omega arith
sent_most head ids Purge few h = omega arith
sent_most head ids (PurgeSections peer) few h = omega arith
sent_most head ids Lose few h = omega arith
sent_most head ids (LoseAsk peer) few h = omega arith
sent_most head ids (Check aim) few h = omega arith
sent_most head ids (CheckFresh peer aim) few h = omega arith

-- ---- an announcement's part of it

pub told_room : {announces : Option ℕ} {peer room : ℕ} → announces ≡ Some peer → room_for announces 0 ≤ room → area_size ≤ room
told_room e h = rw e at h

pub first_room : (announces : Option ℕ) (most room : ℕ) → room_for announces most ≤ room → room_for announces 0 ≤ room
first_room (Some peer) most room h = h
first_room None most room h = omega arith

-- what is left behind it
pub behind_room : (announces : Option ℕ) (bytes : List ℕ) {place : Place} {most room : ℕ}
    → place ≡ behind first_place (announced (listed_peer announces) (ids_in bytes))
    → place.at + most_bytes ≤ area_size → most ≤ most_bytes → room_for announces most ≤ room
    → place.at + most ≤ room
behind_room (Some peer) bytes e first few h = omega arith
behind_room None bytes e first few h = omega (arith, ap (λ (p : Place). p.at) (e ∙ behind_none first_place))

-- ---- what a work sends

untold : (announces : Option ℕ) (ids : List Id) (ss : List Sending) → announces ≡ None → announced (listed_peer announces) ids ++ ss ≡ ss
untold announces ids ss e = rw e

module _ {head : Head} {call : Call} {region ids stored view : List ℕ} {st : State} {c : calls.Call}
    (g : Given head region call ids stored view st c) (t : Tracked head region) where
  ids_count : length (ids_in c.ids) ≡ length ids / id_size
  ids_count = ap (λ (bytes : List ℕ). length (ids_in bytes)) g.its_ids ∙ length_ids ids

  pending_count_lem : length st.pending ≡ head.pending
  pending_count_lem = ap length g.pending ∙ length_requests head.pending region

  evicted_count_lem : length st.sync.evicted ≡ head.evicted
  evicted_count_lem = ap length g.evicted ∙ length_evicted head.evicted region

  pending_whole : All WholeRequest st.pending
  pending_whole = rw g.pending (requests_whole head.pending region (omega (arith, t.few, t.size)))

  evicted_whole : Wide id_size st.sync.evicted
  evicted_whole =
      let from : ℕ = length region - head.evicted * id_size in
      rw g.evicted (entries_wide id_size head.evicted (drop from region) (omega (arith, length-drop from region, t.few, t.size)))

  -- what a check asks for again
  abbrev again : Aim → List Item
  again aim = retries (eqb c.gate 1) st.settings c.clock (aimed_at aim) st.pending

  again_few : (aim : Aim) → length (again aim) ≤ head.pending
  again_few aim = omega (arith, retries_few (eqb c.gate 1) st.settings c.clock (aimed_at aim) st.pending, pending_count_lem)

  again_whole : (aim : Aim) → All WholeItem (again aim)
  again_whole aim = retried_whole (eqb c.gate 1) st.settings c.clock (aimed_at aim) st.pending pending_whole

  -- a work that does not ask for a step's most sends no more than it asks room for
  pub work_sends : (downloaded : ℕ) (work : Work) → most_sent head (length ids) work < most_bytes
      → length (sent_bytes 0 (worked_by st c downloaded work).sendings) ≤ most_sent head (length ids) work
  unfolding worked_by acted_by retried_by
  work_sends downloaded Nothing few = retried_bytes 0 [] tt
  work_sends downloaded (Ids peer) few =
      let sent = asked_bytes 0 [] tt (eqb c.gate 1) c.clock c.typeid peer (pairs_in c.stored) (ids_in c.ids) st.pending (ids_wide c.ids) in
      omega (arith, sent, ids_count)
  work_sends downloaded (Sections peer) few = omega arith
  work_sends downloaded Received few = retried_bytes 0 [] tt
  work_sends downloaded Evicted few = retried_bytes 0 [] tt
  work_sends downloaded Purge few = retried_bytes 0 [] tt
  work_sends downloaded (PurgeSections peer) few = omega arith
  work_sends downloaded Lose few = retried_bytes 0 [] tt
  work_sends downloaded (LoseAsk peer) few = omega arith
  work_sends downloaded (Check aim) few = omega (arith, retried_bytes 0 (again aim) (again_whole aim), again_few aim)
  work_sends downloaded (CheckFresh peer aim) few =
      let left : List Request = mark_all_retried (again aim) (check_timeouts st.settings c.clock st.pending) in
      let sent = asked_bytes 0 (again aim) (again_whole aim) (eqb c.gate 1) c.clock header_type peer (pairs_in c.stored) st.sync.evicted left
      evicted_whole in
      omega (arith, sent, again_few aim, evicted_count_lem)

  -- so does a plan that announces nothing, up to its sync info
  pub plan_sends : (plan : Plan) → plan.announces ≡ None → most_sent head (length ids) plan.work < most_bytes
      → length (sent_bytes 0 (carried_by st c plan).sendings) ≤ most_sent head (length ids) plan.work
  unfolding carried_by
  plan_sends plan nobody few =
      rw (untold plan.announces (ids_in c.continuation) (worked_by st c plan.head.downloaded plan.work).sendings nobody)
      (work_sends plan.head.downloaded plan.work few)
