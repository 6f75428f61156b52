-- A table cut down as bytes is the requests cut down.
use Prim.Native.Nat.{ℕ, ◌+◌, ◌-◌, ◌*◌, ◌/◌, ◌%◌, ◌≤◌, ◌<◌, max}
use mathlib.Core.Path.{◌≡◌, refl, sym, ap, ◌∙◌}
use mathlib.Core.Bool.{Bool, true, false, not, cond}
use mathlib.Core.List.{List, ◌++◌}
use native.Mathlib.Omega.{arith}
use lib.Dec.{eqb, leb}
use lib.ListN.{length, take, drop, length-append, length-map}
use borrow.Author.Tests.{le-leb, lt-leb}
use Rattle.std.specs.List.{count_by}
use Rattle.std.proofs.lemmas.List.Recursion.{is_count_by}
use Rattle.fields.specs.Facts.{All, Bytes}
use Rattle.fields.specs.Overwrite.{overwritten}
use Rattle.fields.specs.Entries.{entries, joined, replaced}
use Rattle.fields.specs.Filter.{cons_if, kept, marked}
use Rattle.fields.proofs.AllLaws.{all_kept}
use Rattle.fields.proofs.FilterLaws.{length_kept}
use Rattle.fields.proofs.MarkLaws.{kept_map, length_marks_left}
use Rattle.fields.proofs.OverwriteLaws.{overwritten_next}
use Rattle.fields.proofs.EntriesLaws.{Wide, length_entries, entries_wide, entries_bytes, joined_entries, joined_append, drop_replaced, length_replaced}
use Rattle.spans.specs.Move.{moved}
use Rattle.spans.proofs.MoveLaws.{length_part}
use Rattle.model.specs.Protocol.{Id, is_among, tracked_limit}
use Rattle.model.specs.Delivery.{Request, mark_received, pending_after_eviction, evicted_after_eviction}
use Rattle.model.specs.Image.{request_of}
use Rattle.model.specs.Lists.{ids_in}
use Rattle.model.proofs.ListLaws.{joined_ids}
use Rattle.model.proofs.RecordLaws.{records_of_requests}
use Rattle.commands.specs.Pending.{requests_in, holding}
use Rattle.delivery.specs.Records.{unlisted}
use Rattle.delivery.specs.Region.{evicted_in, ending_with, scheduled_as, region_then}
use Rattle.std.proofs.Common.{Ok, Err}
use Rattle.commands.specs.declared.tracker.TrackerError.TheVariants.{Full}
use Rattle.model.specs.Layout.{id_size, record_size, table_size}

-- counted as the library counts
kept_counted : (test : ℕ → Bool) (xs : List ℕ) → count_by test xs ≡ length (kept test xs)
kept_counted test xs = sym (is_count_by (λ (ys : List ℕ). length (kept test ys)) test refl (λ y ys. go (test y) y ys) xs)
  where
    go : (t : Bool) (y : ℕ) (ys : List ℕ) → length (cons_if t y (kept test ys)) ≡ cond t (1 + length (kept test ys)) (length (kept test ys))
    go true y ys = omega arith
    go false y ys = refl

module _ (count : ℕ) (table : List ℕ) where
  pub length_filtered : (test : Request → Bool)
      → length (kept (λ (e : List ℕ). test (request_of e)) (entries record_size count table)) ≡ length (kept test (requests_in count table))
  length_filtered test =
      let es : List (List ℕ) = kept (λ (e : List ℕ). test (request_of e)) (entries record_size count table) in
      sym (ap length (kept_map request_of test (entries record_size count table)) ∙ length-map es request_of)

-- A table of records, and what stands there.
pub record Table (count : ℕ) (table : List ℕ) : Type 0 where
  pub fits : count * record_size ≤ length table
  pub bytes : Bytes table

module _ {count : ℕ} {table : List ℕ} (t : Table count table) where
  filtered : (test : Request → Bool) → replaced record_size count (kept (λ (e : List ℕ). test (request_of e)) (entries record_size count table)) table
      ≡ holding count (kept test (requests_in count table)) table
  unfolding holding
  filtered test =
      let all : List (List ℕ) = entries record_size count table in
      let as-record : List ℕ → Bool = λ (e : List ℕ). test (request_of e) in
      let wide = entries_wide record_size count table t.fits in
      let w : Wide record_size (kept as-record all) = all_kept (λ (e : List ℕ). length e ≡ record_size) as-record all wide in
      let n : All Bytes (kept as-record all) = all_kept Bytes as-record all (entries_bytes record_size count table t.bytes) in
      rw (kept_map request_of test all, records_of_requests (kept as-record all) w n)

  -- the records that `keep` leaves are those of a test on requests
  pub cut_down : (test : Request → Bool) {es : List (List ℕ)} {left : ℕ} {new : List ℕ}
      → es ≡ kept (λ (e : List ℕ). test (request_of e)) (entries record_size count table) → (left ≡ length es) × (new ≡ replaced record_size count es table)
      → (left ≡ length (kept test (requests_in count table))) × (new ≡ holding count (kept test (requests_in count table)) table)
  cut_down test e k = (
    k.0 ∙ ap length e ∙ length_filtered count table test,
    k.1 ∙ ap (λ (es : List (List ℕ)). replaced record_size count es table) e ∙ filtered test,
  )

  pub received : (ids : List Id) {es : List (List ℕ)} {left : ℕ} {new : List ℕ} → es ≡ unlisted ids (entries record_size count table)
      → (left ≡ length es) × (new ≡ replaced record_size count es table)
      → (left ≡ length (mark_received ids (requests_in count table))) × (new ≡ holding count (mark_received ids (requests_in count table)) table)
  unfolding unlisted mark_received request_of
  received ids e k = cut_down (λ (r : Request). not (is_among r.id ids)) e k

-- ---- the evicted ids at the region's end

length_after : (evicted : ℕ) (ids region : List ℕ) → length (evicted_after_eviction (ids_in ids) (evicted_in evicted region)) ≡ evicted + length ids / id_size
unfolding evicted_after_eviction ids_in
length_after evicted ids region =
    length-append (evicted_in evicted region) (ids_in ids)
    ∙ rw (length_entries id_size evicted (drop (length region - evicted * id_size) region), length_entries id_size (length ids / id_size) ids)

pub appended : (evicted : ℕ) (ids region : List ℕ) {at : ℕ} {x y : List ℕ} → length ids % id_size ≡ 0 → evicted * id_size + length ids ≤ length region
    → x ≡ moved (length region - evicted * id_size) (length region - evicted * id_size - length ids) (evicted * id_size) region
    → at ≡ length region - length ids → y ≡ overwritten at ids x
    → y ≡ ending_with (evicted_after_eviction (ids_in ids) (evicted_in evicted region)) region
unfolding ending_with evicted_after_eviction moved
appended evicted ids region {at} {x} {y} h l p a q =
    let from : ℕ = length region - evicted * id_size in
    let to : ℕ = length region - evicted * id_size - length ids in
    let block : List ℕ = take (evicted * id_size) (drop from region) in
    let lb : length block ≡ evicted * id_size = length_part from (evicted * id_size) region (omega arith) in
    let j : joined (evicted_in evicted region ++ ids_in ids) ≡ block ++ ids =
    joined_append (evicted_in evicted region) (ids_in ids) ∙ rw (joined_entries id_size evicted (drop from region), joined_ids ids h) in
    let n : length (evicted_in evicted region ++ ids_in ids) ≡ evicted + length ids / id_size = length_after evicted ids region in
    let t : length region - (evicted + length ids / id_size) * id_size ≡ to = omega arith in
    let u : at ≡ to + length block = omega arith in
    q ∙ rw (u, p, n, t, j) (overwritten_next to block ids region (omega arith))

-- ---- scheduling

-- Ids to be evicted: marks for the records that stay, and how many they are.
pub record Scheduling (count evicted left : ℕ) (marks ids region : List ℕ) : Type 0 where
  pub marks_long : length marks ≡ tracked_limit
  pub few : count + evicted ≤ tracked_limit
  pub long : table_size ≤ length region
  pub bytes : Bytes region
  pub counted : left ≡ count_by (λ (n : ℕ). eqb n 1) (take count marks)
  pub stay : marked marks (entries record_size count region) ≡ unlisted (ids_in ids) (entries record_size count region)

module _ {count evicted left : ℕ} {marks ids region : List ℕ} (s : Scheduling count evicted left marks ids region) where
  abbrev records : List (List ℕ)
  records = entries record_size count region

  abbrev pending : List Request
  pending = pending_after_eviction (ids_in ids) (requests_in count region)

  abbrev after : List Id
  after = evicted_after_eviction (ids_in ids) (evicted_in evicted region)

  table : Table count region
  table = record { fits = omega (arith, s.few, s.long); bytes = s.bytes }

  left_pending : left ≡ length pending
  unfolding unlisted pending_after_eviction request_of
  left_pending =
      let k : length records ≡ count = length_entries record_size count region in
      let enough : length records ≤ length marks = omega (arith, s.few, s.marks_long) in
      let z : length (marked marks records) ≡ length (kept (λ (n : ℕ). eqb n 1) (take count marks)) = rw k at (length_marks_left marks records enough) in
      s.counted ∙ kept_counted (λ (n : ℕ). eqb n 1) (take count marks) ∙ sym z ∙ ap length s.stay ∙ length_filtered count region (λ (r : Request). not (is_among r.id (ids_in ids)))

  -- whether both lists fit, by the numbers that the code adds
  fits_by : (answer : Bool) → leb (left + (evicted + length ids / id_size)) tracked_limit ≡ answer → leb (length pending + length after) tracked_limit ≡ answer
  fits_by answer b = rw (← left_pending, length_after evicted ids region) b

  pub scheduled_full : tracked_limit < left + evicted + length ids / id_size
      → ((Err Full) ≡ scheduled_as tracked_limit pending after) × (region ≡ region_then tracked_limit count pending after region)
  unfolding scheduled_as region_then
  scheduled_full o =
      let b = fits_by false (lt-leb (left + (evicted + length ids / id_size)) tracked_limit (omega arith)) in
      (rw b, rw b)

  module _ {x y : List ℕ} (p : x ≡ replaced record_size count (marked marks records) region)
      (q : y ≡ ending_with (evicted_after_eviction (ids_in ids) (evicted_in evicted x)) x) where
    replaced_is : x ≡ replaced record_size count (unlisted (ids_in ids) records) region
    replaced_is = p ∙ ap (λ (es : List (List ℕ)). replaced record_size count es region) s.stay

    held : x ≡ holding count pending region
    unfolding unlisted pending_after_eviction request_of
    held = replaced_is ∙ filtered table (λ (r : Request). not (is_among r.id (ids_in ids)))

    -- the evicted ids stand behind the table
    evicted_stay : evicted_in evicted x ≡ evicted_in evicted region
    unfolding unlisted
    evicted_stay =
        let es : List (List ℕ) = unlisted (ids_in ids) records in
        let test : List ℕ → Bool = λ (g : List ℕ). not (is_among (take id_size g) (ids_in ids)) in
        let at : ℕ = length region - evicted * id_size in
        let w : Wide record_size es = all_kept (λ (g : List ℕ). length g ≡ record_size) test records (entries_wide record_size count region table.fits) in
        let n : length es ≤ count = rw (length_entries record_size count region) at (length_kept test records) in
        let k : max count (length es) ≡ count = omega arith in
        let o : max count (length es) * record_size ≤ length region = rw k table.fits in
        let lx : length x ≡ length region = ap length replaced_is ∙ length_replaced record_size count es region w o in
        let behind = drop_replaced record_size count es region w at (rw k (omega (arith, s.few, s.long))) in
        let d : drop at x ≡ drop at region = ap (drop at) replaced_is ∙ behind in
        rw (lx, d)

    pub scheduled : left + evicted + length ids / id_size ≤ tracked_limit
        → (Ok left ≡ scheduled_as tracked_limit pending after) × (y ≡ region_then tracked_limit count pending after region)
    unfolding scheduled_as region_then
    scheduled o =
        let b = fits_by true (le-leb (left + (evicted + length ids / id_size)) tracked_limit (omega arith)) in
        (rw b (ap Ok left_pending), q ∙ rw (evicted_stay, b, ← held))
