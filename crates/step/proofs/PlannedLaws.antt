-- A planned step at each place of its code: what it asks of its callees, and how it ends. One law for each.
use Prim.Native.Nat.{ℕ, ◌+◌, ◌-◌, ◌%◌, ◌≤◌, ◌<◌}
use mathlib.Core.Path.{◌≡◌, refl, sym, ap, ◌∙◌}
use mathlib.Core.Bool.{Bool, true, false}
use mathlib.Core.List.{List, ◌++◌}
use native.Mathlib.Nat.{zero-add, lt_irrefl}
use native.Mathlib.Omega.{arith}
use lib.ListN.{length, drop}
use lib.Dec.{ltb}
use borrow.Author.Tests.{le-leb, ltb-true, ltb-false}
use borrow.Rule.Slice.PartMut.{mid_of, put_mid, put_same}
use Rattle.refusals.specs.Refusals.{given_refusal}
use Rattle.refusals.proofs.RefusalLaws.{Given, given}
use Rattle.refusals.proofs.ReadyLaws.{Ready, ready}
use Rattle.fields.specs.Facts.{Bytes}
use Rattle.fields.specs.Zero.{zeros}
use Rattle.fields.proofs.ZeroLaws.{length_zeros}
use Rattle.model.specs.State.{State}
use Rattle.model.specs.Image.{decode, well_formed}
use Rattle.model.specs.Lists.{pairs_fit, view_fits, continuation_fits}
use Rattle.model.specs.Calls as calls
use Rattle.model.specs.Demand3.{InWidth}
use Rattle.model.specs.Protocol.{tracked_limit}
use Rattle.model.proofs.FormedLaws.{formed}
use Rattle.image.specs.declared.head.Head.{Head}
use Rattle.image.specs.Heads.{head_in}
use Rattle.std.proofs.Common.{None, Result, Ok, Err}
use Rattle.peers.specs.Peers.{listed_peer}
use Rattle.commands.specs.Sent.{first_place, sent_bytes}
use Rattle.plan.specs.declared.Call.{Call}
use Rattle.plan.specs.declared.Plan.{Plan}
use Rattle.plan.specs.Plans.{call_of}
use Rattle.work.specs.declared.Counts.{Counts}
use Rattle.commands.specs.declared.tracker.TrackerError.{TrackerError}
use Rattle.commands.specs.declared.tracker.TrackerError.TheVariants.{Full}
use Rattle.work.specs.Worked as worked
use Rattle.work.specs.Worked.{Tracked, Performs, is_one_list, Untouched}
use Rattle.work_asks.specs.Carried.{carried_by}
use Rattle.work_asks.specs.Room.{most_sent, most_carried}
use Rattle.work_asks.proofs.RoomLaws.{sent_most, plan_sends}
use Rattle.step.specs.Copies.{works_on_copies}
use Rattle.step.specs.Planned.{Lists, called, work_of, Planned, StepsTo, WorksIn}
use Rattle.step.specs.Rooms.{room_of}
use Rattle.step.proofs.EndLaws.{done_fits}
use Rattle.step.proofs.RoomLaws.{written_before, room_few, room_before, room_behind}
use Rattle.step.proofs.SaidLaws.{said_short}
use Rattle.step.proofs.SettledLaws.{CountsFew, last, end, answered, Settles}
use Rattle.step.proofs.StepLaws.{too_many, too_stalled, finish_ready, finishes}
use Rattle.step.proofs.FillingLaws.{nobody_told}
use Rattle.step.proofs.DirectLaws.{not_full}
use Rattle.step.proofs.AreaLaws.{area_tracked, area_given}
use Rattle.step.proofs.TailLaws.{tail_all, front_kept, tail_put}
use Rattle.model.specs.Layout.{area_size, command_header, id_list_size, id_size, most_bytes, region_at}

pub only_full : (e : TrackerError) → e ≡ Full
only_full Full = refl

-- A planned step of values that are within their types.
pub record Entered (area : List ℕ) (head : Head) (plan : Plan) (call : Call) (lent : Lists) : Type 0 where
  pub planned : Planned area head plan call lent
  pub bytes : Bytes area
  pub width : InWidth (called call lent)

-- what `carry_out` ensures
abbrev CarrySays : Head → Plan → Call → Lists → List ℕ → List ℕ → (Result Counts TrackerError) → List ℕ → List ℕ → Type 0
CarrySays head plan call lent region out answer region' out' =
    (st : State) (c : calls.Call) → worked.Given head region call lent.ids lent.stored lent.view st c → c.continuation ≡ lent.continuation
    → Performs first_place (carried_by st c plan) out answer region' out'

-- with the room of a command area 3 is not given
pub given_alone : (area : List ℕ) (room : ℕ) (c : calls.Call) → given_refusal area room c ≡ 0 → given_refusal area area_size c ≡ 0
unfolding given_refusal
given_alone area room c g = rw (le-leb area_size room (given area room c g).commands_size) at g

-- a refusal leaves both areas
stops : (area commands : List ℕ) (c : calls.Call) (n : ℕ) {r : calls.Answer} → r ≡ calls.refused n
    → record { answer = calls.refused n; state = area; commands = commands } ≡ calls.step area commands c
    → record { answer = r; state = area; commands = commands } ≡ calls.step area commands c
stops area commands c n e f = ap (λ (x : calls.Answer). record { answer = x; state = area; commands = commands }) e ∙ f

-- a refusal's number is not 0
not_finished : {n : ℕ} {r : calls.Answer} {Goal : Type 0} → 0 < n → r ≡ calls.refused n → r.number ≡ 0 → Goal
not_finished {n} {r} h e z = let zero : n ≡ 0 = sym (ap (λ (x : calls.Answer). x.number) e) ∙ z in absurd (lt_irrefl 0 (omega (arith, h, zero)))

-- a finished step's commands end in the room
pub end_fits : (plan : Plan) (counts : Counts) {r : calls.Answer} {n : ℕ} → counts.place.at + command_header ≤ n → r ≡ answered plan counts
    → r.length ≤ n
end_fits plan counts {r} fits e =
    let l : r.length ≡ end plan counts = ap (λ (x : calls.Answer). x.length) e in
    omega (arith, l, fits, said_short counts.place.batch (listed_peer plan.says))

module _ {area : List ℕ} {head : Head} {plan : Plan} {call : Call} {lent : Lists} where
  module _ (p : Planned area head plan call lent) where
    facts : Given area area_size (called call lent)
    facts = given area area_size (called call lent) p.given

    ready_lem : Ready area (called call lent)
    ready_lem = ready area area_size (called call lent) facts

    pub long : length area ≡ area_size
    long = facts.state_size

    pub well : well_formed area ≡ true
    well = facts.image

    pub tracked : head.pending + head.evicted ≤ tracked_limit
    unfolding head_in
    tracked = rw p.read (formed area well).tracked

    pub ids_whole : length lent.ids % id_size ≡ 0
    unfolding call_of
    ids_whole = ready_lem.ids_whole

    pub ids_few : length lent.ids ≤ id_list_size
    unfolding call_of
    ids_few = ready_lem.ids_few

    pub continuation_fit : continuation_fits lent.continuation ≡ true
    unfolding call_of
    continuation_fit = facts.continuation

    pub stored_fit : pairs_fit lent.stored ≡ true
    unfolding call_of
    stored_fit = facts.stored

    pub view_fit : view_fits lent.view ≡ true
    unfolding call_of
    view_fit = facts.view

    -- with enough command bytes 3 is not given
    given_with : (commands : List ℕ) → area_size ≤ length commands → given_refusal area (length commands) (called call lent) ≡ 0
    unfolding given_refusal
    given_with commands enough = rw (le-leb area_size (length commands) enough) p.given

    -- a command area is room enough for any step
    pub room_most : room_of head (length lent.ids) plan.work plan.announces ≤ area_size
    room_most = room_few plan.announces (most_sent head (length lent.ids) plan.work) (sent_most head (length lent.ids) plan.work tracked ids_few)

  module _ (e : Entered area head plan call lent) where
    its : Planned area head plan call lent
    its = e.planned

    -- what the work can send
    abbrev most : ℕ
    most = most_sent head (length lent.ids) plan.work

    -- the area's region, as it is lent
    abbrev region₀ : List ℕ
    region₀ = mid_of region_at (length area - region_at) area

    region_is : region₀ ≡ drop region_at area
    region_is = tail_all region_at area

    pub region_tracked : Tracked head region₀
    region_tracked = rw (region_is, its.read) (area_tracked area (long its) e.bytes (well its))

    region_given : worked.Given head region₀ call lent.ids lent.stored lent.view (decode area) (called call lent)
    region_given =
        rw (region_is, its.read)
        (area_given area (long its) e.bytes (well its) call lent.ids lent.continuation lent.stored lent.peers lent.view)

    -- what `carry_out` asks of the room
    pub carry_room : (out : List ℕ) → room_of head (length lent.ids) plan.work plan.announces ≤ length out
        → most_carried head (length lent.ids) plan ≤ length out
    carry_room out enough = room_before plan.announces most (length out) enough

    pub carried : (out : List ℕ) {answer : (Result Counts TrackerError)} {region' out' : List ℕ} → CarrySays head plan call lent region₀ out answer region' out'
        → Performs first_place (work_of area call lent plan) out answer region' out'
    unfolding call_of
    carried out says = says (decode area) (called call lent) region_given refl

    -- the plan carried out on the area's region and on room for commands
    module _ {room region out : List ℕ} {answer : (Result Counts TrackerError)}
        (d : Performs first_place (work_of area call lent plan) room answer region out) where
      -- the area with that region
      abbrev area₁ : List ℕ
      area₁ = put_mid region_at (length area - region_at) area region

      -- what the work has sent, and where it ends
      abbrev sent : List ℕ
      sent = sent_bytes 0 (work_of area call lent plan).sendings

      at_is : (counts : Counts) → answer ≡ Ok counts → counts.place.at ≡ length sent
      at_is counts f =
          ap (λ (k : Counts). k.place.at) (done_fits first_place (work_of area call lent plan) counts (sym f ∙ d.answered)).1 ∙ zero-add (length sent)

      -- on a command area that begins with the room
      module _ (rest : List ℕ) (enough : area_size ≤ length (room ++ rest)) where
        g : given_refusal area (length (room ++ rest)) (called call lent) ≡ 0
        g = given_with its (room ++ rest) enough

        full_stops : {r : calls.Answer} → answer ≡ (Err Full) → r ≡ calls.refused 10
            → StepsTo area (room ++ rest) call lent r area (room ++ rest)
        full_stops f q =
            stops area (room ++ rest) (called call lent) 10 q
            (too_many area (room ++ rest) (called call lent) plan g its.follows its.seen (sym f ∙ d.answered))

        -- a work of one list has touched nothing, and any other that needs no copies has room
        full_in_place : {r : calls.Answer} → works_on_copies plan.work plan.announces ≡ false
            → (plan.announces ≡ None → Untouched plan.work answer region₀ region room out)
            → answer ≡ (Err Full) → r ≡ calls.refused 10 → StepsTo area (room ++ rest) call lent r area₁ (out ++ rest)
        full_in_place {r} small kept f q = go (is_one_list plan.work) refl
          where
            go : (one : Bool) → is_one_list plan.work ≡ one → StepsTo area (room ++ rest) call lent r area₁ (out ++ rest)
            go true one =
                let left = kept (nobody_told plan.work plan.announces small one) one f in
                let same : area₁ ≡ area =
                ap (put_mid region_at (length area - region_at) area) left.0 ∙ put_same region_at (length area - region_at) area in
                rw (same, left.1) (full_stops f q)
            go false several =
                not_full area (room ++ rest) (called call lent) plan g its.follows its.seen head its.read e.bytes small several
                (sym f ∙ d.answered)

        module _ (counts : Counts) (f : answer ≡ Ok counts) where
          stalled_stops : {r : calls.Answer} → 256 < plan.head.stalled → r ≡ calls.refused 11
              → StepsTo area (room ++ rest) call lent r area (room ++ rest)
          stalled_stops many q =
              stops area (room ++ rest) (called call lent) 11 q
              (too_stalled area (room ++ rest) (called call lent) plan g its.follows its.seen counts (sym f ∙ d.answered) many)

          settled_in_place : plan.head.stalled ≤ 256 → length out ≡ length room → counts.place.at + command_header ≤ length room
              → {r : calls.Answer} {area' room' : List ℕ} → Settles plan counts head.stalled area₁ out r area' room'
              → StepsTo area (room ++ rest) call lent r area' (room' ++ rest)
          settled_in_place few kept fits {r} {area'} {room'} settled =
              let done = sym f ∙ d.answered in
              let full = (done_fits first_place (work_of area call lent plan) counts done).0 in
              let said : length (last plan counts) ≤ command_header = said_short counts.place.batch (listed_peer plan.says) in
              let long-enough : region_at ≤ length area = omega (arith, long its) in
              finishes area (room ++ rest) (called call lent) plan g its.follows its.seen counts done few e.bytes e.width head its.read
              area₁ (out ++ rest) area' (room' ++ rest) r
              (front_kept region_at area region long-enough) (tail_put region_at area region long-enough ∙ d.left full)
              (ap (λ (x : List ℕ). x ++ rest) (d.written full) ∙ written_before 0 sent room rest (omega (arith, at_is counts f, fits)))
              settled.0
              (ap (λ (x : List ℕ). x ++ rest) settled.1.0 ∙ written_before counts.place.at (last plan counts) out rest (omega (arith, said, kept, fits)))
              settled.1.1

      -- ---- what working out comes to, at each of its ends

      pub full_works : {r : calls.Answer}
          → (plan.announces ≡ None → Untouched plan.work answer region₀ region room out)
          → answer ≡ (Err Full) → r ≡ calls.refused 10 → WorksIn area room plan call lent r area₁ out
      full_works kept f q rest enough =
          record {
            answered = ap (λ (x : calls.Result). x.answer) (full_stops rest enough f q);
            finished = not_finished (omega arith) q;
            in_place = λ small few. full_in_place rest enough small kept f q;
          }

      module _ (counts : Counts) (f : answer ≡ Ok counts) where
        pub stalled_works : {r : calls.Answer} → 256 < plan.head.stalled → r ≡ calls.refused 11 → WorksIn area room plan call lent r area₁ out
        stalled_works many q rest enough =
            record {
              answered = ap (λ (x : calls.Result). x.answer) (stalled_stops rest enough counts f many q);
              finished = not_finished (omega arith) q;
              in_place = λ small few. absurd (lt_irrefl 256 (omega arith));
            }

        -- what settling asks; no command area is looked at
        pub settle_asks : plan.head.stalled ≤ 256 → CountsFew plan counts head.stalled
        settle_asks few =
            let any : List ℕ = zeros area_size in
            let l : length any ≡ area_size = length_zeros area_size in
            finish_ready area any (called call lent) plan (given_with its any (omega (arith, l))) its.follows its.seen counts (sym f ∙ d.answered) few
            e.bytes e.width head its.read

        -- behind the commands of the work there is room for a sync info
        pub last_fits : plan.head.stalled ≤ 256 → room_of head (length lent.ids) plan.work plan.announces ≤ length room
            → counts.place.at + command_header ≤ length room
        last_fits few enough =
            room_behind plan.announces most counts.place.at (length room) enough (settle_asks few).0.1
            (λ nobody. go nobody (ltb most most_bytes) refl)
          where
            go : plan.announces ≡ None → (t : Bool) → ltb most most_bytes ≡ t → counts.place.at ≤ most
            go nobody true less =
                omega (arith, at_is counts f, plan_sends region_given region_tracked plan nobody (ltb-true most most_bytes less))
            go nobody false many = omega (arith, (settle_asks few).0.1, ltb-false most most_bytes many)

        pub settled_works : plan.head.stalled ≤ 256 → length out ≡ length room → counts.place.at + command_header ≤ length room
            → {r : calls.Answer} {area' room' : List ℕ} → Settles plan counts head.stalled area₁ out r area' room'
            → WorksIn area room plan call lent r area' room'
        settled_works few kept fits {r} {area'} {room'} settled rest enough =
            let steps : StepsTo area (room ++ rest) call lent r area' (room' ++ rest) = settled_in_place rest enough counts f few kept fits settled in
            record { answered = ap (λ (x : calls.Result). x.answer) steps; finished = λ z. steps; in_place = λ small few'. steps }
