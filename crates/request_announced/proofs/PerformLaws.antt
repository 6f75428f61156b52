-- Acts performed one after another on a table and a command area.
use Prim.Native.Nat.{ℕ, suc, ◌+◌, ◌*◌, ◌^◌, ◌≤◌, ◌<◌}
use mathlib.Core.Path.{◌≡◌, refl, sym, ap, ◌∙◌}
use mathlib.Core.Bool.{Bool, true, false, cond}
use mathlib.Core.List.{List, [], ◌∷◌, ◌++◌, append-nil}
use native.Mathlib.Omega.{arith}
use native.Mathlib.Nat.{mul-le-mul_right}
use lib.Dec.{leb}
use lib.ListN.{length}
use borrow.Author.Tests.{le-leb, lt-leb, leb-true, leb-false}
use Rattle.fields.specs.Facts.{All, Bytes}
use Rattle.fields.specs.Entries.{entries, rising}
use Rattle.fields.proofs.OverwriteLaws.{length_overwritten}
use Rattle.fields.proofs.TotalLaws.{total}
use Rattle.model.specs.Protocol.{Id}
use Rattle.model.specs.Delivery.{Request, ids_of}
use Rattle.model.specs.Requests.{Sending, Act, ask, send, wanted, request_of, perform, perform_all}
use Rattle.model.specs.Requests as model
use Rattle.model.proofs.Well.{RisingIds}
use Rattle.model.proofs.Widths.{WellAct}
use Rattle.model.proofs.RecordLaws.{Recorded}
use Rattle.model.proofs.PendingLaws.{rising_performed, wanted_well}
use Rattle.model.proofs.SendingLaws.{sendings_bytes, performed_sends_well, performed_weight, act_weight}
use Rattle.commands.specs.Pending.{requests_in, holding}
use Rattle.commands.specs.Sent.{sent_bytes, sent_at, behind}
use Rattle.commands.specs.declared.place.Place.{Place}
use Rattle.commands.proofs.SentLaws.{sent_none, behind_none, sent_again, behind_again}
use Rattle.mark_requested.specs.Marking.{held_within}
use Rattle.mark_requested.proofs.AnswerLaws.{few_held}
use Rattle.mark_requested.proofs.MarkedLaws.{marked_length, marked_recorded}
use Rattle.commands.proofs.HoldingLaws.{Grown, not_grown, grown_recorded, grown_rising, new_requests, grows, length_requests}
use Rattle.request_announced.specs.Requested.{requested_as, sent_within}
use Rattle.std.proofs.Common.{Ok, Err}
use Rattle.commands.specs.declared.tracker.TrackerError.TheVariants.{Full}
use Rattle.request_announced.specs.declared.request.Written.{Written}
use Rattle.request_announced.proofs.RequestedLaws.{written_to, few_requested, few_sent}
use Rattle.model.specs.Layout.{id_size, record_size}

-- ---- what an answer says

module _ (most : ℕ) (place : Place) (done : model.Done) where
  pub requested_full : Err Full ≡ requested_as most place done → leb (length done.pending) most ≡ false
  unfolding requested_as
  requested_full = go (leb (length done.pending) most) refl
    where
      go : (b : Bool) → leb (length done.pending) most ≡ b
          → Err Full ≡ cond b (Ok (written_to place done)) (Err Full)
          → leb (length done.pending) most ≡ false
      go true e h = cc
      go false e h = e

  pub requested_done : (w : Written) → Ok w ≡ requested_as most place done
      → (leb (length done.pending) most ≡ true) × ((w.count ≡ length done.pending) × (w.place ≡ behind place done.sendings))
  unfolding requested_as
  requested_done w = go (leb (length done.pending) most) refl
    where
      go : (b : Bool) → leb (length done.pending) most ≡ b
          → Ok w ≡ cond b (Ok (written_to place done)) (Err Full)
          → (leb (length done.pending) most ≡ true) × ((w.count ≡ length done.pending) × (w.place ≡ behind place done.sendings))
      go true e h = let q : w ≡ written_to place done = cc in (e, (ap (λ (v : Written). v.count) q, ap (λ (v : Written). v.place) q))
      go false e h = absurd cc

-- ---- one act

act_longer : (gate : Bool) (clock : ℕ) (act : Act) (rs : List Request) → length rs ≤ length (perform gate clock act rs).pending
act_longer true clock (ask type_id peer pairs ids) rs = (marked_length clock type_id peer (wanted rs type_id pairs ids) rs).0
act_longer false clock (ask type_id peer pairs ids) rs = omega arith
act_longer gate clock (send s) rs = omega arith

-- pending requests only grow in number
pub performed_longer : (gate : Bool) (clock : ℕ) (acts : List Act) (rs : List Request) → length rs ≤ length (perform_all gate clock acts rs).pending
performed_longer gate clock [] rs = omega arith
performed_longer gate clock (act ∷ acts) rs =
    let a = act_longer gate clock act rs in
    let b = performed_longer gate clock acts (perform gate clock act rs).pending in
    omega arith

pub act_recorded : (gate : Bool) (clock : ℕ) → clock < 2 ^ 64 → (act : Act) (rs : List Request) → WellAct act → All Recorded rs
    → All Recorded (perform gate clock act rs).pending
act_recorded true clock c (ask type_id peer pairs ids) rs w h =
    marked_recorded clock type_id peer c w.type_id w.peer (wanted rs type_id pairs ids) rs (wanted_well rs type_id peer pairs ids w).ids h
act_recorded false clock c (ask type_id peer pairs ids) rs w h = h
act_recorded gate clock c (send s) rs w h = h

request_once : (type_id peer : ℕ) (ids : List Id) → length (request_of type_id peer ids) ≤ 1
request_once type_id peer [] = omega arith
request_once type_id peer (id ∷ ids) = omega arith

act_once : (gate : Bool) (clock : ℕ) (act : Act) (rs : List Request) → length (perform gate clock act rs).sendings ≤ 1
act_once true clock (ask type_id peer pairs ids) rs = request_once type_id peer (wanted rs type_id pairs ids)
act_once false clock (ask type_id peer pairs ids) rs = omega arith
act_once gate clock (send s) rs = omega arith

-- the bytes of acts, at most
pub sent_within_lem : (gate : Bool) (clock batch : ℕ) (acts : List Act) (rs : List Request) → All WellAct acts
    → length (sent_bytes batch (perform_all gate clock acts rs).sendings) ≤ total act_weight acts
unfolding sent_bytes
sent_within_lem gate clock batch acts rs w =
    let a = sendings_bytes batch (perform_all gate clock acts rs).sendings (performed_sends_well gate clock acts rs w) in
    let b = performed_weight gate clock acts rs in
    omega arith

act_within : (gate : Bool) (clock batch : ℕ) (act : Act) (rs : List Request) → WellAct act
    → length (sent_bytes batch (perform gate clock act rs).sendings) ≤ act_weight act
act_within gate clock batch act rs w =
    let a : length (sent_bytes batch ((perform gate clock act rs).sendings ++ [])) ≤ act_weight act + 0 = sent_within_lem gate clock batch (act ∷ []) rs (w, tt) in
    omega (arith, ap (λ (x : List Sending). length (sent_bytes batch x)) (append-nil (perform gate clock act rs).sendings))

-- ---- one after another

-- what acts come to, of the requests at the front of a table
abbrev pub comes_to : Bool → ℕ → List Act → ℕ → List ℕ → model.Done
comes_to gate clock acts count t = perform_all gate clock acts (requests_in count t)

-- The table and the area before the acts `left`: these bring them to what all acts bring the first ones to.
pub record Performing (gate : Bool) (clock most count : ℕ) (start : Place) (acts : List Act) (d e : List ℕ) (left : List Act) (t o : List ℕ)
    (done : Written) : Type 0 where
  pub few : done.count ≤ most
  pub grown : Grown count d done.count t
  pub out_long : length o ≡ length e
  pub well : All WellAct left
  pub room : done.place.at + total act_weight left ≤ length e
  pub numbers : done.place.batch + length left < 65535
  pub pending : (comes_to gate clock left done.count t).pending ≡ (comes_to gate clock acts count d).pending
  pub to : behind done.place (comes_to gate clock left done.count t).sendings ≡ behind start (comes_to gate clock acts count d).sendings
  pub sent : sent_at done.place (comes_to gate clock left done.count t).sendings o ≡ sent_at start (comes_to gate clock acts count d).sendings e

module _ (gate : Bool) (clock most count : ℕ) (start : Place) (acts : List Act) (d e : List ℕ) where
  pub perform_starts : count ≤ most → most * record_size ≤ length d → Bytes d → rising id_size (entries record_size count d) ≡ true
      → All WellAct acts → start.at + total act_weight acts ≤ length e → start.batch + length acts < 65535
      → Performing gate clock most count start acts d e acts d e (record { count = count; place = start })
  perform_starts le fits f r w room n =
      record {
        few = le;
        grown = not_grown count d (omega (arith, mul-le-mul_right record_size le)) f r;
        out_long = refl;
        well = w;
        room = room;
        numbers = n;
        pending = refl;
        to = refl;
        sent = refl;
      }

module _ {gate : Bool} {clock most count : ℕ} {start : Place} {acts : List Act} {d e : List ℕ} {left : List Act} {t o : List ℕ}
    {done : Written} (s : Performing gate clock most count start acts d e left t o done) where
  pub perform_ends : left ≡ []
      → (Ok done ≡ requested_as most start (comes_to gate clock acts count d))
      × ((leb (length (comes_to gate clock acts count d).pending) most ≡ true → t ≡ holding count (comes_to gate clock acts count d).pending d)
      × (leb (length (comes_to gate clock acts count d).pending) most ≡ true
      → o ≡ sent_at start (comes_to gate clock acts count d).sendings e))
  perform_ends z =
      let whole : model.Done = comes_to gate clock acts count d in
      let p : requests_in done.count t ≡ whole.pending = rw z at s.pending in
      let a : behind done.place [] ≡ behind start whole.sendings = rw z at s.to in
      let c : sent_at done.place [] o ≡ sent_at start whole.sendings e = rw z at s.sent in
      let l : done.count ≡ length whole.pending = sym (length_requests done.count t) ∙ ap length p in
      let m : leb (length whole.pending) most ≡ true = le-leb (length whole.pending) most (omega (arith, s.few)) in (
        sym (few_requested most start whole m ∙ rw (← l, ← a, behind_none done.place)),
        ((λ h. s.grown.table ∙ ap (λ (rs : List Request). holding count rs d) p), (λ h. sym (sent_none done.place o) ∙ c)),
      )

  module _ {act : Act} {others : List Act} (here : left ≡ act ∷ others) (fits : most * record_size ≤ length d) where
    pub act_well : WellAct act
    act_well = (rw here at s.well).0

    pub act_room : done.place.at + act_weight act ≤ length o
    act_room =
        let r : done.place.at + total act_weight (act ∷ others) ≤ length e = rw here at s.room in
        omega (arith, s.out_long)

    pub act_number : done.place.batch + 1 < 65536
    act_number = omega (arith, s.numbers)

    -- what this act does
    abbrev one : model.Done
    one = perform gate clock act (requests_in done.count t)

    -- too many at one act are too many at the end
    pub perform_full : Err Full ≡ requested_as most done.place one → leb (length (comes_to gate clock acts count d).pending) most ≡ false
    perform_full h =
        let m : most < length one.pending = leb-false (length one.pending) most (requested_full most done.place one h) in
        let p : (perform_all gate clock others one.pending).pending ≡ (comes_to gate clock acts count d).pending = rw here at s.pending in
        let l : length one.pending ≤ length (perform_all gate clock others one.pending).pending = performed_longer gate clock others one.pending in
        lt-leb (length (comes_to gate clock acts count d).pending) most (omega (arith, ap length p))

    module _ (hc : clock < 2 ^ 64) where
      pub perform_turn : (w : Written) {t' o' : List ℕ} → Ok w ≡ requested_as most done.place one
          → t' ≡ held_within most done.count one.pending t → o' ≡ sent_within most done.place one o → Bytes t'
          → Performing gate clock most count start acts d e others t' o' w
      perform_turn w {t'} {o'} er et eo f' =
          let first : List Request = requests_in done.count t in
          let rest : model.Done = perform_all gate clock others one.pending in
          let p = requested_done most done.place one w er in
          let at : w.place.at ≡ done.place.at + length (sent_bytes done.place.batch one.sendings) = ap (λ (x : Place). x.at) p.1.1 in
          let batch : w.place.batch ≡ done.place.batch + length one.sendings = ap (λ (x : Place). x.batch) p.1.1 in
          let lr : length first ≡ done.count = length_requests done.count t in
          let longer : length first ≤ length one.pending = act_longer gate clock act first in
          let few : length one.pending ≤ most = leb-true (length one.pending) most p.0 in
          let more : done.count ≤ length one.pending = omega arith in
          let in-room : length one.pending * record_size ≤ length d = omega (arith, mul-le-mul_right record_size few) in
          let fit : All Recorded one.pending = act_recorded gate clock hc act first act_well (grown_recorded count d done.count t s.grown) in
          let up : RisingIds (ids_of one.pending) = rising_performed gate clock (act ∷ []) first (grown_rising count d done.count t s.grown) in
          let ht : t' ≡ holding done.count one.pending t = et ∙ few_held most done.count one.pending t p.0 in
          let ho : o' ≡ sent_at done.place one.sendings o = eo ∙ few_sent most done.place one o p.0 in
          let rs : requests_in w.count t' ≡ one.pending =
          new_requests count d done.count t s.grown one.pending fit up more in-room w.count t' p.1.0 ht in
          let ws : All WellAct (act ∷ others) = rw here at s.well in
          let rm : done.place.at + total act_weight (act ∷ others) ≤ length e = rw here at s.room in
          let nm : done.place.batch + suc (length others) < 65535 = rw here at s.numbers in
          let A : List ℕ = sent_bytes done.place.batch one.sendings in
          let l_a : length A ≤ act_weight act = act_within gate clock done.place.batch act first ws.0 in
          let l_b : length (sent_bytes (done.place.batch + length one.sendings) rest.sendings) ≤ total act_weight others =
          sent_within_lem gate clock (done.place.batch + length one.sendings) others one.pending ws.1 in
          let n1 : length one.sendings ≤ 1 = act_once gate clock act first in
          let sp : rest.pending ≡ (comes_to gate clock acts count d).pending = rw here at s.pending in
          let st : behind done.place (one.sendings ++ rest.sendings) ≡ behind start (comes_to gate clock acts count d).sendings = rw here at s.to in
          let ss : sent_at done.place (one.sendings ++ rest.sendings) o ≡ sent_at start (comes_to gate clock acts count d).sendings e =
          rw here at s.sent in
          record {
            few = omega (arith, p.1.0);
            grown = grows count d done.count t s.grown one.pending fit up more in-room w.count t' p.1.0 ht f';
            out_long = ap length ho ∙ length_overwritten done.place.at A o (omega (arith, s.out_long)) ∙ s.out_long;
            well = ws.1;
            room = omega arith;
            numbers = omega arith;
            pending = rw rs sp;
            to = rw (rs, p.1.1) (behind_again done.place one.sendings rest.sendings ∙ st);
            sent = rw (rs, p.1.1, ho) (sent_again done.place one.sendings rest.sendings o (omega (arith, s.out_long)) ∙ ss);
          }
