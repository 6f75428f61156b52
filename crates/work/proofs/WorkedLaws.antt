-- What no work comes to, what holds of the region where requests leave it, and what the header and the call give.
use Prim.Native.Nat.{ℕ, ◌+◌, ◌-◌, ◌*◌, ◌≤◌}
use mathlib.Core.Path.{◌≡◌, sym, ap, ◌∙◌}
use mathlib.Core.Bool.{Bool}
use mathlib.Core.List.{List, []}
use native.Mathlib.Omega.{arith}
use lib.ListN.{length, length-map, drop}
use borrow.Author.Tests.{le-leb}
use Rattle.fields.specs.Facts.{All, Bytes}
use Rattle.fields.specs.Filter.{kept}
use Rattle.fields.specs.Entries.{entries}
use Rattle.fields.proofs.AllLaws.{all_kept}
use Rattle.fields.proofs.FilterLaws.{length_kept}
use Rattle.fields.proofs.EntriesLaws.{length_entries}
use Rattle.model.specs.Protocol.{Id, tracked_limit}
use Rattle.model.specs.Delivery.{Request, ids_of}
use Rattle.model.specs.State.{State}
use Rattle.model.specs.Image.{request_of}
use Rattle.model.specs.Sections.{batches_of}
use Rattle.model.specs.Check.{retry_sendings}
use Rattle.model.specs.Calls as calls
use Rattle.model.proofs.Well.{RisingIds}
use Rattle.model.proofs.RecordLaws.{Recorded}
use Rattle.model.proofs.PendingLaws.{rising_kept}
use Rattle.settings.specs.Values.{settings_of}
use Rattle.image.specs.declared.head.Head.{Head}
use Rattle.image.specs.Heads.{head_of}
use Rattle.commands.specs.Pending.{requests_in, holding}
use Rattle.commands.specs.declared.place.Place.{Place}
use Rattle.commands.proofs.SentLaws.{sent_none, behind_none}
use Rattle.delivery.specs.Region.{evicted_in}
use Rattle.plan.specs.declared.Call.{Call}
use Rattle.plan.specs.declared.Work.TheVariants.{Nothing}
use Rattle.plan.specs.Plans.{numbers_of, retried_by}
use Rattle.work.specs.Worked.{region_of, Tracked, Given, Worked, acted_by, count_by, worked_by, unasked, fits, performed_as, Performs}
use Rattle.std.proofs.Common.{Ok}
use Rattle.work.proofs.RegionLaws.{Stands, tracked_stands, stands_holding}
use Rattle.model.specs.Layout.{id_size, record_size}

-- a work that sends nothing and counts nothing
abbrev pub quiet : List Request → List Id → Worked
quiet pending evicted = record { pending = pending; evicted = evicted; sendings = []; retried = 0; fresh = 0; abandoned = 0; forgotten = 0 }

pub quiet_done : (p : List Request) (e : List Id) (place : Place) (left gone : ℕ) (after out : List ℕ) → left ≡ length p → gone ≡ length e
    → length p + length e ≤ tracked_limit → after ≡ region_of p e
    → Performs place (quiet p e) out (Ok (unasked left gone place)) after out
unfolding performed_as fits
quiet_done p e place left gone after out a b few h =
    record {
      answered = rw (le-leb (length p + length e) tracked_limit few, a, b, behind_none place);
      left = λ _. h;
      written = λ _. sym (sent_none place out);
    }

-- ---- what each comes to

module _ (st : State) (c : calls.Call) (downloaded : ℕ) (p : List Request) (e : List Id) (hp : st.pending ≡ p) (he : st.sync.evicted ≡ e) where
  nothing_worked : worked_by st c downloaded Nothing ≡ quiet p e
  unfolding worked_by acted_by count_by retried_by retry_sendings batches_of
  nothing_worked = rw (hp, he)

-- ---- requests taken out of the region

pub length_requests : (count : ℕ) (region : List ℕ) → length (requests_in count region) ≡ count
length_requests count region = length-map (entries record_size count region) request_of ∙ length_entries record_size count region

pub length_evicted : (count : ℕ) (region : List ℕ) → length (evicted_in count region) ≡ count
length_evicted count region = length_entries id_size count (drop (length region - count * id_size) region)

module _ (head : Head) (region : List ℕ) (t : Tracked head region) where
  abbrev pending : List Request
  pending = requests_in head.pending region

  abbrev evicted : List Id
  evicted = evicted_in head.evicted region

  few : length pending + length evicted ≤ tracked_limit
  few = rw (length_requests head.pending region, length_evicted head.evicted region) t.few

  nothing_done : (place : Place) (out : List ℕ)
      → Performs place (quiet pending evicted) out (Ok (unasked head.pending head.evicted place)) region out
  nothing_done place out =
      quiet_done pending evicted place head.pending head.evicted region out
      (sym (length_requests head.pending region)) (sym (length_evicted head.evicted region)) few t.held

  module _ (f : Bytes region) where
    pub stands : Stands pending evicted region
    stands = tracked_stands head region t f

    -- fewer requests in their place
    pub taken_stands : (q : List Request) → All Recorded q → RisingIds (ids_of q) → length q ≤ length pending
        → Stands q evicted (holding head.pending q region)
    taken_stands q w r n = rw (length_requests head.pending region) at (stands_holding pending evicted region stands q w r (omega (arith, few)))

    pub kept_stands : (test : Request → Bool) → Stands (kept test pending) evicted (holding head.pending (kept test pending) region)
    kept_stands test =
        taken_stands (kept test pending) (all_kept Recorded test pending stands.recorded) (rising_kept test pending stands.rise)
        (length_kept test pending)

    pub taken_done : (q : List Request) (place : Place) (left : ℕ) (after out : List ℕ) → Stands q evicted (holding head.pending q region)
        → left ≡ length q → after ≡ holding head.pending q region
        → Performs place (quiet q evicted) out (Ok (unasked left head.evicted place)) after out
    taken_done q place left after out s a h =
        quiet_done q evicted place left head.evicted after out a (sym (length_evicted head.evicted region)) s.few (h ∙ s.held)

-- ---- by the state and the call that are given

module _ {head : Head} {call : Call} {region ids stored view : List ℕ} {st : State} {c : calls.Call}
    (g : Given head region call ids stored view st c) where
  pub settings_given : st.settings ≡ settings_of head.settings
  unfolding head_of settings_of
  settings_given = ap (λ (h : Head). settings_of h.settings) g.header

  pub clock_given : c.clock ≡ call.clock
  unfolding numbers_of
  clock_given = ap (λ (n : Call). n.clock) g.numbers

  pub gate_given : c.gate ≡ call.gate
  unfolding numbers_of
  gate_given = ap (λ (n : Call). n.gate) g.numbers

  pub type_given : c.typeid ≡ call.typeid
  unfolding numbers_of
  type_given = ap (λ (n : Call). n.typeid) g.numbers

  pub height_given : c.height ≡ call.height
  unfolding numbers_of
  height_given = ap (λ (n : Call). n.height) g.numbers

  pub peer_given : st.sync.sync_peer ≡ head.peer
  unfolding head_of
  peer_given = ap (λ (h : Head). h.peer) g.header

  module _ (downloaded : ℕ) {place : Place} (t : Tracked head region) where
    pub does_nothing : {out : List ℕ}
        → Performs place (worked_by st c downloaded Nothing) out (Ok (unasked head.pending head.evicted place)) region out
    does_nothing {out} =
        rw (nothing_worked st c downloaded (pending head region t) (evicted head region t) g.pending g.evicted)
        (nothing_done head region t place out)
