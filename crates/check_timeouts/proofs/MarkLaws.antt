-- One record's peer written over is the model's mark_retried of its id, where ids rise.
use Prim.Native.Nat.{ℕ, zero, suc, ◌*◌, ◌^◌, ◌≤◌, ◌<◌}
use mathlib.Core.Path.{◌≡◌, refl, ap, ◌∙◌}
use mathlib.Core.Bool.{true}
use mathlib.Core.List.{List, [], ◌∷◌, map}
use native.Mathlib.Nat.{mul-le-mul_right, not-suc-le-zero, le_of_suc-le-suc}
use native.Mathlib.Omega.{arith}
use lib.ListN.{length, get_or, set, length-set, length-map, get_or-map}
use Rattle.fields.specs.Facts.{Bytes}
use Rattle.fields.specs.Order.{before}
use Rattle.fields.specs.Entries.{entries, entry, rising}
use Rattle.fields.specs.Overwrite.{overwritten}
use Rattle.fields.proofs.AllLaws.{all_at, all_set}
use Rattle.fields.proofs.OrderLaws.{same_refl, before_not_same}
use Rattle.fields.proofs.EntriesLaws.{Wide, length_entries, length_entry, entries_at, entries_wide, entries_replaced, replaced_set}
use Rattle.fields.proofs.RisingLaws.{rising_ascending}
use Rattle.model.specs.Protocol.{Id}
use Rattle.model.specs.Delivery.{Request, ids_of, with_peer, mark_retried}
use Rattle.model.specs.Image.{request_of, request_bytes}
use Rattle.model.proofs.RecordLaws.{length_request, ids_rise_lem}
use Rattle.model.proofs.Well.{RisingIds}
use Rattle.commands.specs.Pending.{requests_in}
use Rattle.commands.proofs.RecordedLaws.{entry_bytes}
use Rattle.check_timeouts.proofs.RetryLaws.{mark_none, not_among_later}
use Rattle.check_timeouts.proofs.RecordLaws.{id_long, asked_back}
use Rattle.model.specs.Layout.{id_size, record_size}

-- the one request of that id is the i-th
mark_retried_one : (peer : ℕ) (rs : List Request) (i : ℕ) (d : Request) → RisingIds (ids_of rs) → i < length rs
    → set rs i (with_peer peer (get_or rs i d)) ≡ mark_retried peer (get_or rs i d).id rs
mark_retried_one peer [] i d h l = absurd (not-suc-le-zero l)
mark_retried_one peer (r ∷ rs) zero d h l = rw (same_refl r.id, mark_none peer r.id rs (not_among_later r.id (ids_of rs) h.0))
mark_retried_one peer (r ∷ rs) (suc i) d h l =
    let b : before r.id (get_or (ids_of rs) i d.id) ≡ true =
    all_at (λ (other : Id). before r.id other ≡ true) (ids_of rs) i d.id (rw (length-map rs (λ (q : Request). q.id)) (le_of_suc-le-suc l)) h.0 in
    let e : get_or (ids_of rs) i d.id ≡ (get_or rs i d).id = get_or-map (λ (q : Request). q.id) rs i d in
    rw (before_not_same r.id (get_or rs i d).id (rw e at b), mark_retried_one peer rs i d h.1 (le_of_suc-le-suc l))

map_set : (xs : List (List ℕ)) (i : ℕ) (x : List ℕ) → map request_of (set xs i x) ≡ set (map request_of xs) i (request_of x)
map_set [] i x = refl
map_set (y ∷ ys) zero x = refl
map_set (y ∷ ys) (suc i) x = ap (λ (rs : List Request). request_of y ∷ rs) (map_set ys i x)

-- the requests of a table after an entry of it was written over
requests_set : (count i : ℕ) (x t o : List ℕ) → i < count → count * record_size ≤ length t → length x ≡ record_size
    → o ≡ overwritten (i * record_size) x t
    → requests_in count o ≡ set (requests_in count t) i (request_of x)
requests_set count i x t o h l lx e =
    let new : List (List ℕ) = set (entries record_size count t) i x in
    let n : length new ≡ count = length-set (entries record_size count t) i x ∙ length_entries record_size count t in
    let w : Wide record_size new =
    all_set (λ (y : List ℕ). length y ≡ record_size) (entries record_size count t) i x lx (entries_wide record_size count t l) in
    ap (λ (y : List ℕ). requests_in count y) (e ∙ replaced_set record_size count i t h x lx)
    ∙ rw (rw n at (entries_replaced record_size count new t w)) (map_set (entries record_size count t) i x)

pub marked_as_lem : (i peer : ℕ) (t : List ℕ) {o : List ℕ} → Bytes t → peer < 2 ^ 64
    → o ≡ overwritten (i * record_size) (request_bytes (with_peer peer (request_of (entry record_size i t)))) t
    → (count : ℕ) → i < count → count * record_size ≤ length t → rising id_size (entries record_size count t) ≡ true
    → requests_in count o ≡ mark_retried peer (request_of (entry record_size i t)).id (requests_in count t)
marked_as_lem i peer t {o} f p e count h l rise =
    let x : List ℕ = entry record_size i t in
    let lx : length x ≡ record_size = length_entry record_size i t (omega (arith, mul-le-mul_right record_size h)) in
    let at : get_or (requests_in count t) i (request_of []) ≡ request_of x =
    get_or-map request_of (entries record_size count t) i [] ∙ ap request_of (entries_at record_size count i t h) in
    let n : i < length (requests_in count t) = rw (length-map (entries record_size count t) request_of, length_entries) h in
    let m : set (requests_in count t) i (with_peer peer (request_of x)) ≡ mark_retried peer (request_of x).id (requests_in count t) =
    let up : RisingIds (ids_of (requests_in count t)) = ids_rise_lem (entries record_size count t) (rising_ascending 32 (entries record_size count t) rise) in
    rw at at (mark_retried_one peer (requests_in count t) i (request_of []) up n) in
    requests_set count i (request_bytes (with_peer peer (request_of x))) t o h l (length_request (with_peer peer (request_of x)) (id_long x lx)) e
    ∙ rw (asked_back x lx (entry_bytes record_size i t f) peer p) m
