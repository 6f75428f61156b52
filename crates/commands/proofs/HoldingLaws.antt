-- Tables that hold pending requests. One that grows in place: an edit of the table as it is, is an edit of the first one.
use Prim.Native.Nat.{ℕ, ◌*◌, ◌≤◌, max}
use mathlib.Core.Path.{◌≡◌, refl, sym, ap, ◌∙◌}
use mathlib.Core.Bool.{true}
use mathlib.Core.List.{List, map}
use native.Mathlib.Omega.{arith}
use lib.ListN.{length, length-map}
use Rattle.fields.specs.Facts.{All, Bytes}
use Rattle.fields.specs.Entries.{entries, rising, replaced}
use Rattle.fields.proofs.RisingLaws.{rising_ascending, ascending_rising}
use Rattle.fields.proofs.EntriesLaws.{length_entries, entries_wide, entries_bytes, entries_replaced}
use Rattle.fields.proofs.EntriesLaws.{length_replaced, replaced_same, replaced_again}
use Rattle.model.specs.Delivery.{Request, ids_of}
use Rattle.model.specs.Image.{request_of, request_bytes}
use Rattle.model.proofs.Well.{RisingIds}
use Rattle.model.proofs.RecordLaws.{Recorded, records_wide, records_of_requests, requests_of_records, records_rise, ids_rise_lem}
use Rattle.commands.specs.Pending.{requests_in, holding}
use Rattle.commands.proofs.RecordedLaws.{entries_recorded}
use Rattle.model.specs.Layout.{id_size, record_size}

pub length_requests : (count : ℕ) (t : List ℕ) → length (requests_in count t) ≡ count
length_requests count t = length-map (entries record_size count t) request_of ∙ length_entries record_size count t

-- the requests that are there already
pub holding_same : (count : ℕ) (t : List ℕ) → count * record_size ≤ length t → Bytes t → holding count (requests_in count t) t ≡ t
unfolding holding
holding_same count t fits f =
    let back = records_of_requests (entries record_size count t) (entries_wide record_size count t fits) (entries_bytes record_size count t f) in
    rw back (replaced_same record_size count t)

-- t is the table d, of `count` requests, once it holds `held` requests that rise
pub record Grown (count : ℕ) (d : List ℕ) (held : ℕ) (t : List ℕ) : Type 0 where
  pub more : count ≤ held
  pub room : held * record_size ≤ length d
  pub long : length t ≡ length d
  pub known : Bytes t
  pub rise : rising id_size (entries record_size held t) ≡ true
  pub table : t ≡ holding count (requests_in held t) d

pub not_grown : (count : ℕ) (d : List ℕ) → count * record_size ≤ length d → Bytes d → rising id_size (entries record_size count d) ≡ true → Grown count d count d
not_grown count d fits f r = record { more = omega arith; room = fits; long = refl; known = f; rise = r; table = sym (holding_same count d fits f) }

module _ (count : ℕ) (d : List ℕ) (held : ℕ) (t : List ℕ) (s : Grown count d held t) where
  pub grown_recorded : All Recorded (requests_in held t)
  grown_recorded =
      let fits : held * record_size ≤ length t = omega (arith, s.room, s.long) in
      entries_recorded (entries record_size held t) (entries_wide record_size held t fits) (entries_bytes record_size held t s.known)

  pub grown_rising : RisingIds (ids_of (requests_in held t))
  grown_rising = ids_rise_lem (entries record_size held t) (rising_ascending 32 (entries record_size held t) s.rise)

  -- the next edit
  module _ (new : List Request) (w : All Recorded new) (up : RisingIds (ids_of new)) (longer : held ≤ length new) (room : length new * record_size ≤ length d)
      (held' : ℕ) (t' : List ℕ) (eh : held' ≡ length new) (et : t' ≡ holding held new t) where
    new_records : length (map request_bytes new) ≡ length new
    new_records = length-map new request_bytes

    new_entries : entries record_size held' t' ≡ map request_bytes new
    unfolding holding
    new_entries = rw (eh, ← new_records, et) (entries_replaced record_size held (map request_bytes new) t (records_wide new w))

    pub new_requests : requests_in held' t' ≡ new
    new_requests = ap (map request_of) new_entries ∙ requests_of_records new w

    as_one : replaced record_size held (map request_bytes new) t ≡ replaced record_size count (map request_bytes new) d
    unfolding holding
    as_one =
        let old : List (List ℕ) = map request_bytes (requests_in held t) in
        let lo : length old ≡ held = length-map (requests_in held t) request_bytes ∙ length_requests held t in
        let with-new : List ℕ → List ℕ = replaced record_size held (map request_bytes new) in
        let wide = records_wide (requests_in held t) grown_recorded in
        let q : with-new t ≡ with-new (replaced record_size count old d) = ap with-new s.table in
        q ∙ rw lo at (replaced_again record_size count old (map request_bytes new) d wide (omega (arith, new_records)))

    pub grows : Bytes t' → Grown count d held' t'
    unfolding holding
    grows f =
        let fits : max held (length (map request_bytes new)) * record_size ≤ length t = omega (arith, new_records, s.long) in
        record {
          more = omega (arith, s.more);
          room = rw eh room;
          long = ap length et ∙ length_replaced record_size held (map request_bytes new) t (records_wide new w) fits ∙ s.long;
          known = f;
          rise = rw new_entries (ascending_rising id_size (map request_bytes new) (records_rise new w up));
          table = rw new_requests (et ∙ as_one);
        }
