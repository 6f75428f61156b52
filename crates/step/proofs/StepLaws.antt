-- From a plan that follows the model's and what was done of it to the model's step.
use Prim.Native.Nat.{ℕ, ◌+◌, ◌≤◌, ◌<◌}
use mathlib.Core.Path.{◌≡◌, refl, sym, ap, ◌∙◌}
use mathlib.Core.Bool.{true, false, cond}
use mathlib.Core.List.{List, [], ◌∷◌, ◌++◌}
use native.Mathlib.Nat.{zero-add}
use native.Mathlib.Omega.{arith}
use lib.ListN.{length, take, drop, length-append}
use lib.Seq.{take-take}
use lib.Dec.{eqb, leb}
use borrow.Author.Tests.{leb-true, le-leb, lt-leb}
use Rattle.fields.specs.Facts.{Bytes}
use Rattle.fields.specs.Overwrite.{overwritten}
use Rattle.fields.proofs.AllLaws.{either}
use Rattle.fields.proofs.FilterLaws.{length_kept}
use Rattle.fields.proofs.OverwriteLaws.{drop_take, overwritten_next}
use Rattle.model.specs.Protocol.{tracked_limit, stalled_limit}
use Rattle.model.specs.Delivery as delivery
use Rattle.model.specs.Delivery.{Request, Verdict, judged, verdict, verdict_number}
use Rattle.model.specs.State.{State}
use Rattle.model.specs.Steps as steps
use Rattle.model.specs.Steps.{plan, after}
use Rattle.model.specs.Image.{decode, encode}
use Rattle.model.specs.Calls as calls
use Rattle.model.specs.Calls.{args_of, step_bytes, step_answer, call_refusal, step}
use Rattle.model.specs.Demand3.{InWidth}
use Rattle.model.proofs.Well.{Well}
use Rattle.model.proofs.ImageLaws.{well_sized}
use Rattle.model.proofs.StepLaws.{step_well}
use Rattle.model.proofs.BoundLaws.{step_bytes_most}
use Rattle.image.specs.declared.head.Head.{Head}
use Rattle.image.specs.Heads.{head_in, head_of}
use Rattle.image.proofs.HeadLaws.{head_decode}
use Rattle.peers.specs.Peers.{listed_peer}
use Rattle.commands.specs.Sent.{first_place, sent_bytes, sent_at}
use Rattle.commands.proofs.SentLaws.{sent_append}
use Rattle.plan.specs.declared.Plan.{Plan}
use Rattle.plan.specs.declared.Stalling.{Stalling}
use Rattle.plan.specs.declared.Stalling.TheVariants.{Stay, Empty, Join}
use Rattle.plan.specs.Plans.{is_check_by, stalled_by, Follows}
use Rattle.work.specs.declared.Counts.{Counts}
use Rattle.std.proofs.Common.{Ok, Err}
use Rattle.commands.specs.declared.tracker.TrackerError.TheVariants.{Full}
use Rattle.work.specs.Worked.{region_of, Worked, count_by, worked_by, fits, performed_as}
use Rattle.refusals.specs.Refusals.{given_refusal}
use Rattle.refusals.proofs.RefusalLaws.{Given, given}
use Rattle.work_asks.specs.Carried.{carried_by}
use Rattle.step.specs.Stalling.{places_of, stalled_then, stalled_count_then}
use Rattle.step.specs.Finished.{said, counted, completed}
use Rattle.step.proofs.AreaLaws.{area_well, area_encode, places_held}
use Rattle.step.proofs.CarriedLaws.{carried_pending, carried_evicted, carried_bytes, carried_retried, carried_abandoned, carried_forgotten}
use Rattle.step.proofs.CarriedLaws.{carried_fresh, carried_fits, outcome_is, seen_is, stalled_is, stalled_count_lem, head_after}
use Rattle.step.proofs.FinishedLaws.{completed_encode}
use Rattle.step.proofs.EndLaws.{untouched, few, ends_9, ends_10, ends_11, passes, ends_finished, counts_of, full_fails, done_fits}
use Rattle.step.proofs.SettledLaws.{Few, CountsFew, last, end, ImageSettled, answered}
use Rattle.model.specs.Layout.{most_bytes, region_at}

-- ---- a part of two lists that begin alike, and records by their fields

part_same : (n k m : ℕ) (x y : List ℕ) → n + k ≤ m → take m x ≡ take m y → take k (drop n x) ≡ take k (drop n y)
part_same n k m x y h e =
    let a : take (n + k) x ≡ take (n + k) (take m x) = sym (take-take (n + k) m x h) in
    let b : take (n + k) y ≡ take (n + k) (take m y) = sym (take-take (n + k) m y h) in
    sym (drop_take n k x) ∙ ap (drop n) (a ∙ ap (take (n + k)) e ∙ sym b) ∙ drop_take n k y

-- two writes one behind another
front_written : (a b whole s s₁ s₂ : List ℕ) (at : ℕ)
    → whole ≡ a ++ b → at ≡ length a → length whole ≤ length s → s₁ ≡ overwritten 0 a s → s₂ ≡ overwritten at b s₁ → s₂ ≡ overwritten 0 whole s
front_written a b whole s s₁ s₂ at w n room e f =
    let l : length whole ≡ length a + length b = ap length w ∙ length-append a b in
    let z : at ≡ 0 + length a = n ∙ sym (zero-add (length a)) in
    f ∙ rw (z, e, w) (overwritten_next 0 a b s (omega arith))

same_answer : {o o' r r' n n' b b' t t' q q' v v' l l' : ℕ}
    → o ≡ o' → r ≡ r' → n ≡ n' → b ≡ b' → t ≡ t' → q ≡ q' → v ≡ v' → l ≡ l'
    → ◌≡◌ {A = calls.Answer} (record { number = 0; outcome = o; retried = r; fresh = n; abandoned = b; forgotten = t; pending = q; evicted = v; length = l })
    (record { number = 0; outcome = o'; retried = r'; fresh = n'; abandoned = b'; forgotten = t'; pending = q'; evicted = v'; length = l' })
same_answer a b c d e f g h = rw (a, b, c, d, e, f, g, h)

same_result : {a a' : calls.Answer} {s s' k k' : List ℕ} → a ≡ a' → s ≡ s' → k ≡ k'
    → ◌≡◌ {A = calls.Result} (record { answer = a; state = s; commands = k }) (record { answer = a'; state = s'; commands = k' })
same_result e f g = rw (e, f, g)

-- ---- a finished step

module _ (st : State) (c : calls.Call) (p : Plan) where
  count_few : (what : Verdict) → count_by st c p.work what ≤ length st.pending
  unfolding count_by judged
  count_few what =
      either (λ (n : ℕ). n ≤ length st.pending) (is_check_by p.work) (length (judged st.settings c.clock what st.pending)) 0
      (length_kept (λ (r : Request). eqb (verdict_number (verdict st.settings c.clock r)) (verdict_number what)) st.pending) (omega arith)

  fresh_few : cond (is_check_by p.work) (length st.sync.evicted) 0 ≤ length st.sync.evicted
  fresh_few = either (λ (n : ℕ). n ≤ length st.sync.evicted) (is_check_by p.work) (length st.sync.evicted) 0 (omega arith) (omega arith)

stalled_then_lem : (st : State) (c : calls.Call) (s : Stalling) (peers : List ℕ) → st.sync.stalled_peers ≡ peers → stalled_then s peers ≡ stalled_by st c s
stalled_then_lem st c Stay peers e = sym e
stalled_then_lem st c Empty peers e = refl
stalled_then_lem st c (Join peer) peers e = rw e

count_then : (s : Stalling) (peers : List ℕ) (count : ℕ) → length peers ≡ count → stalled_count_then s count ≡ length (stalled_then s peers)
count_then Stay peers count e = sym e
count_then Empty peers count e = refl
count_then (Join peer) peers count e = rw (length-append peers (peer ∷ []), e)

module _ (area commands : List ℕ) (c : calls.Call) (p : Plan) (g : given_refusal area (length commands) c ≡ 0) (f : Follows (decode area) c p) where
  abbrev old : State
  old = decode area

  abbrev new : State
  new = after old (args_of c)

  abbrev w : Worked
  w = carried_by old c p

  pub unseen : p.seen ≡ false → untouched area commands c g 9 ≡ step area commands c
  unseen e = ends_9 area commands c g (sym (seen_is old c p f) ∙ e)

  module _ (e : p.seen ≡ true) where
    seen : (plan old (args_of c)).in_view ≡ true
    seen = sym (seen_is old c p f) ∙ e

    pub too_many : (Err Full) ≡ performed_as first_place w → untouched area commands c g 10 ≡ step area commands c
    too_many h = ends_10 area commands c g seen (sym (carried_fits old c p f) ∙ full_fails first_place w h)

    module _ (counts : Counts) (d : Ok counts ≡ performed_as first_place w) where
      tracked : few area commands c g seen ≡ true
      tracked = sym (carried_fits old c p f) ∙ (done_fits first_place w counts d).0

      pub too_stalled : 256 < p.head.stalled → untouched area commands c g 11 ≡ step area commands c
      too_stalled h =
          ends_11 area commands c g seen tracked (lt-leb (length new.sync.stalled_peers) stalled_limit (omega (arith, stalled_count_lem old c p f)))

      module _ (l : p.head.stalled ≤ 256) (bytes : Bytes area) (width : InWidth c) where
        given_facts : Given area (length commands) c
        given_facts = given area (length commands) c g

        well : Well old
        well = area_well area given_facts.state_size bytes given_facts.image

        stalled_few_lem : leb (length new.sync.stalled_peers) stalled_limit ≡ true
        stalled_few_lem = le-leb (length new.sync.stalled_peers) stalled_limit (omega (arith, stalled_count_lem old c p f))

        not_refused_call : call_refusal old c ≡ 0
        not_refused_call = passes area commands c g seen tracked stalled_few_lem

        counts_are : counts ≡ counts_of first_place w
        counts_are = (done_fits first_place w counts d).1

        counts_few : Few counts
        unfolding fits carried_by worked_by
        counts_few =
            let t : length old.pending + length old.sync.evicted ≤ tracked_limit = well.tracked in
            let u : length w.pending + length w.evicted ≤ tracked_limit =
            leb-true (length w.pending + length w.evicted) tracked_limit (done_fits first_place w counts d).0 in
            let judged-few = count_few old c p in
            rw counts_are (
              omega arith,
              (
                omega arith,
                (
                  omega (arith, judged-few delivery.retried),
                  (
                    omega (arith, fresh_few old c p),
                    (omega (arith, judged-few delivery.abandoned), omega (arith, judged-few delivery.forgotten)),
                  ),
                ),
              ),
            )

        bytes_are : step_bytes old (args_of c) ≡ sent_bytes 0 w.sendings ++ last p counts
        bytes_are =
            carried_bytes old c p f ∙ sent_append 0 w.sendings (said (listed_peer p.says))
            ∙ ap (λ (n : ℕ). sent_bytes 0 w.sendings ++ sent_bytes n (said (listed_peer p.says))) (sym (ap (λ (k : Counts). k.place.batch) counts_are))

        at_is : counts.place.at ≡ length (sent_bytes 0 w.sendings)
        at_is = ap (λ (k : Counts). k.place.at) counts_are ∙ zero-add (length (sent_bytes 0 w.sendings))

        end_is : end p counts ≡ length (step_bytes old (args_of c))
        end_is = rw (bytes_are, length-append (sent_bytes 0 w.sendings), at_is)

        place_few : counts.place.at ≤ most_bytes
        place_few = omega (arith, end_is, step_bytes_most old c well width not_refused_call)

        -- the stalled set before and after
        stalled_before : length old.sync.stalled_peers ≡ (head_in area).stalled
        unfolding head_of
        stalled_before = ap (λ (x : Head). x.stalled) (head_decode area given_facts.image)

        room_stalled : (head : Head) → head ≡ head_in area → stalled_count_then p.stalling head.stalled ≤ 256
        room_stalled head h =
            let n : stalled_count_then p.stalling head.stalled ≡ length new.sync.stalled_peers =
            count_then p.stalling old.sync.stalled_peers head.stalled (stalled_before ∙ sym (ap (λ (x : Head). x.stalled) h))
            ∙ ap length (stalled_then_lem old c p.stalling old.sync.stalled_peers refl ∙ stalled_is old c p f) in
            omega (arith, stalled_count_lem old c p f)

        -- what finishing requires
        pub finish_ready : (head : Head) → head ≡ head_in area → CountsFew p counts head.stalled
        finish_ready head h = ((room_stalled head h, place_few), counts_few)

        -- the image
        module _ (image : List ℕ) (front : take region_at image ≡ take region_at area) (back : drop region_at image ≡ region_of w.pending w.evicted) where
          places_kept : take 2048 (drop 512 image) ≡ places_of old.sync.stalled_peers
          places_kept = part_same 512 2048 region_at image area (omega arith) front ∙ places_held area given_facts.state_size bytes given_facts.image

          image-finished :
              completed (counted p.head counts.pending counts.evicted) (places_of (stalled_then p.stalling old.sync.stalled_peers)) image ≡ encode new
          image-finished =
              let h : counted p.head counts.pending counts.evicted ≡ head_of new =
              head_after old c p f counts.pending counts.evicted
              (ap (λ (k : Counts). k.pending) counts_are) (ap (λ (k : Counts). k.evicted) counts_are) in
              let s : stalled_then p.stalling old.sync.stalled_peers ≡ new.sync.stalled_peers =
              stalled_then_lem old c p.stalling old.sync.stalled_peers refl ∙ stalled_is old c p f in
              let r : region_of w.pending w.evicted ≡ region_of new.pending new.sync.evicted =
              rw (carried_pending old c p f, carried_evicted old c p f) in
              let e₁ : take 438 (drop 74 image) ≡ take 438 (drop 74 (encode old)) =
              part_same 74 438 region_at image area (omega arith) front
              ∙ ap (take 438) (area_encode area given_facts.state_size bytes given_facts.image 74 (omega arith)) in
              ap (λ (x : Head). completed x (places_of (stalled_then p.stalling old.sync.stalled_peers)) image) h
              ∙ ap (λ (x : List ℕ). completed (head_of new) (places_of x) image) s
              ∙ completed_encode old new (well_sized old well) (well_sized new (step_well old c well width not_refused_call)) image e₁ (back ∙ r)

        -- the commands
        commands_finished : (out commands' : List ℕ) → out ≡ sent_at first_place w.sendings commands
            → commands' ≡ sent_at counts.place (said (listed_peer p.says)) out
            → commands' ≡ overwritten 0 (step_bytes old (args_of c)) commands
        commands_finished out commands' o e =
            front_written (sent_bytes 0 w.sendings) (last p counts) (step_bytes old (args_of c)) commands out commands' counts.place.at
            bytes_are at_is (omega (arith, step_bytes_most old c well width not_refused_call, given_facts.commands_size)) o e

        answer_finished : (answer : calls.Answer)
            → answer ≡ answered p counts
            → answer ≡ step_answer old (args_of c)
        unfolding step_answer
        answer_finished answer e =
            let retried' : counts.retried ≡ steps.count_of old (args_of c) delivery.retried =
            ap (λ (k : Counts). k.retried) counts_are ∙ carried_retried old c p f in
            let fresh' : counts.fresh ≡ steps.fresh_count old (args_of c) = ap (λ (k : Counts). k.fresh) counts_are ∙ carried_fresh old c p f in
            let abandoned' : counts.abandoned ≡ steps.count_of old (args_of c) delivery.abandoned =
            ap (λ (k : Counts). k.abandoned) counts_are ∙ carried_abandoned old c p f in
            let forgotten' : counts.forgotten ≡ steps.count_of old (args_of c) delivery.forgotten =
            ap (λ (k : Counts). k.forgotten) counts_are ∙ carried_forgotten old c p f in
            let pending' : counts.pending ≡ length new.pending =
            ap (λ (k : Counts). k.pending) counts_are ∙ ap length (carried_pending old c p f) in
            let evicted' : counts.evicted ≡ length new.sync.evicted =
            ap (λ (k : Counts). k.evicted) counts_are ∙ ap length (carried_evicted old c p f) in
            e ∙ same_answer (outcome_is old c p f) retried' fresh' abandoned' forgotten' pending' evicted' end_is

        -- Both areas and the answer.
        pub finishes : (head : Head) → head ≡ head_in area → (image out state' commands' : List ℕ) (answer : calls.Answer)
            → take region_at image ≡ take region_at area
            → drop region_at image ≡ region_of w.pending w.evicted
            → out ≡ sent_at first_place w.sendings commands
            → ImageSettled p counts head.stalled image state'
            → commands' ≡ sent_at counts.place (said (listed_peer p.says)) out
            → answer ≡ answered p counts
            → record { answer = answer; state = state'; commands = commands' } ≡ step area commands c
        finishes head h image out state' commands' answer front back o s k a =
            let as_many : length old.sync.stalled_peers ≡ head.stalled = stalled_before ∙ sym (ap (λ (x : Head). x.stalled) h) in
            let s' : state' ≡ encode new = s old.sync.stalled_peers as_many (places_kept image front back) ∙ image-finished image front back in
            let k' : commands' ≡ overwritten 0 (step_bytes old (args_of c)) commands = commands_finished out commands' o k in
            let a' : answer ≡ step_answer old (args_of c) = answer_finished answer a in
            same_result a' s' k' ∙ sym (ends_finished area commands c g seen tracked stalled_few_lem)
