-- The region that holds some requests and ids: what is read of it, and what an edit makes of it.
use Prim.Native.Nat.{ℕ, ◌+◌, ◌-◌, ◌*◌, ◌≤◌}
use mathlib.Core.Path.{◌≡◌, sym, ap, ◌∙◌}
use mathlib.Core.Bool.{true}
use mathlib.Core.List.{List, [], ◌++◌, map, append_assoc, append-nil}
use native.Mathlib.Omega.{arith}
use lib.ListN.{length, drop, length-append, length-map, length-drop, drop_of_length-le}
use lib.Seq.{take_at}
use Rattle.fields.specs.Facts.{All, Bytes}
use Rattle.fields.specs.Zero.{zeros}
use Rattle.fields.specs.Overwrite.{overwritten}
use Rattle.fields.specs.Entries.{entries, joined, rising}
use Rattle.fields.proofs.NumberLaws.{bytes_drop}
use Rattle.fields.proofs.AllLaws.{entries_all, all_weaker}
use Rattle.fields.proofs.ZeroLaws.{length_zeros, zeros_append}
use Rattle.fields.proofs.PartLaws.{replaced_in_room}
use Rattle.fields.proofs.EntriesLaws.{Wide, length_entries, entries_wide, entries_bytes, length_joined, entries_joined}
use Rattle.fields.proofs.RisingLaws.{rising_ascending, ascending_rising}
use Rattle.model.specs.Protocol.{Id, tracked_limit}
use Rattle.model.specs.Delivery.{Request, ids_of}
use Rattle.model.specs.Image.{request_of, request_bytes}
use Rattle.model.proofs.Well.{WellId, RisingIds}
use Rattle.model.proofs.RecordLaws.{Recorded, records_wide, requests_of_records, records_rise, ids_rise_lem}
use Rattle.model.proofs.CommandLaws.{ids_wide}
use Rattle.image.specs.declared.head.Head.{Head}
use Rattle.commands.specs.Pending.{requests_in, holding}
use Rattle.commands.proofs.RecordedLaws.{entries_recorded}
use Rattle.delivery.specs.Region.{evicted_in, ending_with}
use Rattle.work.specs.Worked.{region_of, Tracked}
use Rattle.model.specs.Layout.{id_size, record_size, region_size}

-- ---- the region of some records and ids

-- bytes written over the end
pub over_end : (at : ℕ) (a b new : List ℕ) → length a ≡ at → length b ≡ length new → overwritten at new (a ++ b) ≡ a ++ new
unfolding overwritten
over_end at a b new h l =
    let e : length (a ++ b) ≤ at + length new = rw (length-append a b) (omega arith) in
    rw (take_at a b at h, drop_of_length-le (a ++ b) {i = at + length new} e, append-nil)

-- cut before the ids
cut_region : (p : List Request) (e : List Id)
    → region_of p e ≡ (joined (map request_bytes p) ++ zeros (region_size - length p * record_size - length e * id_size)) ++ joined e
unfolding region_of
cut_region p e = sym (append_assoc (joined (map request_bytes p)) (zeros (region_size - length p * record_size - length e * id_size)) (joined e))

module _ (p : List Request) (e : List Id) (wp : Wide record_size (map request_bytes p)) (we : Wide id_size e) (few : length p + length e ≤ tracked_limit) where
  length_records : length (joined (map request_bytes p)) ≡ length p * record_size
  length_records = length_joined record_size (map request_bytes p) wp ∙ rw (length-map p request_bytes)

  length_ids : length (joined e) ≡ length e * id_size
  length_ids = length_joined id_size e we

  pub length_region : length (region_of p e) ≡ region_size
  unfolding region_of
  length_region =
      let free : ℕ = region_size - length p * record_size - length e * id_size in
      rw (length-append (joined (map request_bytes p)), length-append (zeros free), length_zeros, length_records, length_ids) (omega arith)

  pub entries_region : entries record_size (length p) (region_of p e) ≡ map request_bytes p
  unfolding region_of
  entries_region =
      rw (length-map p request_bytes) at
      (entries_joined record_size (map request_bytes p) (zeros (region_size - length p * record_size - length e * id_size) ++ joined e) wp)

  -- what is before the ids
  front_region : length (joined (map request_bytes p) ++ zeros (region_size - length p * record_size - length e * id_size)) ≡ region_size - length e * id_size
  front_region =
      rw (length-append (joined (map request_bytes p)), length_zeros, length_records) (omega arith)

  pub holding_region : (q : List Request) → Wide record_size (map request_bytes q) → length q + length e ≤ tracked_limit
      → holding (length p) q (region_of p e) ≡ region_of q e
  unfolding holding region_of
  holding_region q wq room =
      let free : ℕ = region_size - length p * record_size - length e * id_size in
      let lp : length (map request_bytes p) ≡ length p = length-map p request_bytes in
      let lq : length (map request_bytes q) ≡ length q = length-map q request_bytes in
      let n : length p * record_size + free - length q * record_size ≡ region_size - length q * record_size - length e * id_size = omega arith in
      let r = replaced_in_room record_size (map request_bytes p) (map request_bytes q) free (joined e) wp wq (rw (lp, lq) (omega arith)) in
      (rw (lp, lq) at r) ∙ rw n

  -- more ids end it, or none
  pub ending_region : (e' : List Id) → Wide id_size e' → length e ≤ length e' → length p + length e' ≤ tracked_limit
      → ending_with e' (region_of p e) ≡ region_of p e'
  unfolding ending_with
  ending_region e' we' more room =
      let free : ℕ = region_size - length p * record_size - length e * id_size in
      let left : ℕ = region_size - length p * record_size - length e' * id_size in
      let new : ℕ = (length e' - length e) * id_size in
      let z : zeros free ≡ zeros left ++ zeros new = (let s : free ≡ left + new = omega arith in rw (s, zeros_append left new)) in
      let le : length (joined e') ≡ length e' * id_size = length_joined id_size e' we' in
      let a : region_of p e ≡ (joined (map request_bytes p) ++ zeros left) ++ (zeros new ++ joined e) =
      cut_region p e ∙ rw z (simp append_assoc) in
      let la : length (joined (map request_bytes p) ++ zeros left) ≡ region_size - length e' * id_size =
      rw (length-append (joined (map request_bytes p)), length_zeros, length_records) (omega arith) in
      let lb : length (zeros new ++ joined e) ≡ length (joined e') = rw (length-append (zeros new), length_zeros, length_ids, le) (omega arith) in
      rw length_region
      (ap (overwritten (region_size - length e' * id_size) (joined e')) a
      ∙ over_end (region_size - length e' * id_size) (joined (map request_bytes p) ++ zeros left) (zeros new ++ joined e) (joined e') la lb
      ∙ sym (cut_region p e'))

  pub cleared_region : overwritten (region_size - length e * id_size) (zeros (length e * id_size)) (region_of p e) ≡ region_of p []
  unfolding region_of
  cleared_region =
      let free : ℕ = region_size - length p * record_size - length e * id_size in
      let all : ℕ = region_size - length p * record_size - 0 * id_size in
      let s : free + length e * id_size ≡ all = omega arith in
      let z : zeros free ++ zeros (length e * id_size) ≡ zeros all = zeros_append free (length e * id_size) ∙ rw s in
      ap (overwritten (region_size - length e * id_size) (zeros (length e * id_size))) (cut_region p e)
      ∙ over_end (region_size - length e * id_size) (joined (map request_bytes p) ++ zeros free) (joined e) (zeros (length e * id_size)) front_region
      (rw (length_ids, length_zeros (length e * id_size)))
      ∙ append_assoc (joined (map request_bytes p)) (zeros free) (zeros (length e * id_size))
      ∙ rw (z, append-nil)

-- ---- records and ids in width

-- The region holds these requests, their ids rising, and these ids.
pub record Stands (pending : List Request) (evicted : List Id) (region : List ℕ) : Type 0 where
  pub recorded : All Recorded pending
  pub rise : RisingIds (ids_of pending)
  pub ids : All WellId evicted
  pub few : length pending + length evicted ≤ tracked_limit
  pub held : region ≡ region_of pending evicted

pub tracked_stands : (head : Head) (region : List ℕ) → Tracked head region → Bytes region
    → Stands (requests_in head.pending region) (evicted_in head.evicted region) region
tracked_stands head region t f =
    let few : head.pending + head.evicted ≤ tracked_limit = t.few in
    let size : length region ≡ region_size = t.size in
    let from : ℕ = length region - head.evicted * id_size in
    let lp : length (requests_in head.pending region) ≡ head.pending =
    length-map (entries record_size head.pending region) request_of ∙ length_entries record_size head.pending region in
    let le : length (evicted_in head.evicted region) ≡ head.evicted = length_entries id_size head.evicted (drop from region) in
    let room : head.evicted * id_size ≤ length (drop from region) = rw (length-drop from region) (omega arith) in
    record {
      recorded =
          entries_recorded (entries record_size head.pending region) (entries_wide record_size head.pending region (omega arith))
          (entries_bytes record_size head.pending region f);
      rise = ids_rise_lem (entries record_size head.pending region) (rising_ascending id_size (entries record_size head.pending region) t.order);
      ids =
          all_weaker (λ (e : List ℕ). (length e ≡ id_size) × Bytes e) WellId (λ e w. record { long = w.0; bytes = w.1 })
          (evicted_in head.evicted region)
          (entries_all id_size head.evicted (drop from region) room (bytes_drop from region f));
      few = rw (lp, le) few;
      held = t.held;
    }

module _ (p : List Request) (e : List Id) (region : List ℕ) (s : Stands p e region) where
  records_are_wide : Wide record_size (map request_bytes p)
  records_are_wide = records_wide p s.recorded

  ids_are_wide : Wide id_size e
  ids_are_wide = ids_wide e s.ids

  pub stands_size : length region ≡ region_size
  stands_size = ap length s.held ∙ length_region p e records_are_wide ids_are_wide s.few

  pub stands_entries : entries record_size (length p) region ≡ map request_bytes p
  stands_entries = ap (entries record_size (length p)) s.held ∙ entries_region p e records_are_wide ids_are_wide s.few

  pub stands_requests : requests_in (length p) region ≡ p
  stands_requests = ap (map request_of) stands_entries ∙ requests_of_records p s.recorded

  pub stands_rising : rising id_size (entries record_size (length p) region) ≡ true
  stands_rising = rw stands_entries (ascending_rising id_size (map request_bytes p) (records_rise p s.recorded s.rise))

  pub stands_holding : (q : List Request) → All Recorded q → RisingIds (ids_of q) → length q + length e ≤ tracked_limit
      → Stands q e (holding (length p) q region)
  stands_holding q wq rise room =
      record {
        recorded = wq;
        rise = rise;
        ids = s.ids;
        few = room;
        held = ap (holding (length p) q) s.held ∙ holding_region p e records_are_wide ids_are_wide s.few q (records_wide q wq) room;
      }

  pub stands_ending : (e' : List Id) → All WellId e' → length e ≤ length e' → length p + length e' ≤ tracked_limit
      → Stands p e' (ending_with e' region)
  stands_ending e' we' more room =
      record {
        recorded = s.recorded;
        rise = s.rise;
        ids = we';
        few = room;
        held = ap (ending_with e') s.held ∙ ending_region p e records_are_wide ids_are_wide s.few e' (ids_wide e' we') more room;
      }

  pub stands_cleared : Stands p [] (overwritten (length region - length e * id_size) (zeros (length e * id_size)) region)
  stands_cleared =
      let few : length p + length e ≤ tracked_limit = s.few in
      record {
        recorded = s.recorded;
        rise = s.rise;
        ids = tt;
        few = omega arith;
        held =
            rw stands_size
            (ap (overwritten (region_size - length e * id_size) (zeros (length e * id_size))) s.held
            ∙ cleared_region p e records_are_wide ids_are_wide s.few);
      }
