-- Requests of one-byte ids: they stay within their limits, and are at most 256.
use Prim.Native.Nat.{ℕ, zero, suc, ◌+◌, ◌≤◌, ◌<◌, ◌^◌, max}
use mathlib.Core.Path.{◌≡◌, refl, sym, ap, ◌∙◌, subst}
use mathlib.Core.Bool.{Bool, true, false, cond, ◌&&◌, ◌||◌, not, false≢true}
use mathlib.Core.List.{List, [], ◌∷◌}
use lib.Dec.{eqb, ltb}
use lib.ListN.{length, get_or, replicate}
use native.Mathlib.Omega.{arith}
use borrow.Author.Tests.{ltb-true}
use Rattle.fields.specs.Facts.{All, Bytes}
use Rattle.fields.specs.Order.{before}
use Rattle.fields.specs.Filter.{kept}
use Rattle.fields.specs.Sort.{inserted}
use Rattle.fields.proofs.NumberLaws.{bytes_nil, bytes_cons}
use Rattle.fields.proofs.AllLaws.{all_kept, all_weaker, either}
use Rattle.fields.proofs.SortLaws.{all_inserted}
use Rattle.model.specs.Protocol.{Id, is_transaction}
use Rattle.model.specs.Settings.{Settings, most_requests}
use Rattle.model.specs.Delivery
use Rattle.model.specs.Delivery.{Request, Verdict, verdict, ids_of, is_pending, id_before, restarted, mark_requested, check_timeouts, after_verdict}
use Rattle.model.specs.Requests.{Pair, is_stored, wanted}
use Rattle.model.proofs.Well.{WellRequest, RisingIds}
use Rattle.model.proofs.PendingLaws.{most_positive, most_lasting, retried_means}
use Rattle.model.proofs.RecordLaws.{Recorded, well_recorded}
use Rattle.keeper_text.specs.Keeping.{id_of}
use Rattle.keeper_text.specs.Kept.{Fits}
use Rattle.model.specs.Layout.{id_size}

-- ---- ids of one byte

repeated_bytes : (n byte : ℕ) → byte < 256 → Bytes (replicate n byte)
repeated_bytes zero byte h = bytes_nil
repeated_bytes (suc n) byte h = bytes_cons byte (replicate n byte) h (repeated_bytes n byte h)

either_below : (t u v : Bool) (a b : ℕ) → (t ≡ true → a < b) → (v ≡ true → a < b) → t || (u && v) ≡ true → a < b
either_below true u v a b p q h = p refl
either_below false true v a b p q h = q h
either_below false false v a b p q h = absurd (false≢true h)

before_repeated : (n a b : ℕ) → before (replicate n a) (replicate n b) ≡ true → a < b
unfolding before
before_repeated zero a b h = absurd (false≢true h)
before_repeated (suc n) a b h = either_below (ltb a b) (eqb a b) (before (replicate n a) (replicate n b)) a b (ltb-true a b) (before_repeated n a b) h

pub id_before_lem : (a b : ℕ) → before (id_of a) (id_of b) ≡ true → a < b
unfolding id_of
id_before_lem a b h = before_repeated 32 a b h

abbrev pub OneByte : Id → Type 0
OneByte id = (id ≡ id_of (get_or id 0 0)) × (get_or id 0 0 < 256)

pub id_one : (byte : ℕ) → byte < 256 → OneByte (id_of byte)
unfolding id_of
id_one byte h = (refl, h)

pub id_long : (byte : ℕ) → length (id_of byte) ≡ id_size
unfolding id_of
id_long byte = refl

id_bytes : (byte : ℕ) → byte < 256 → Bytes (id_of byte)
unfolding id_of
id_bytes byte h = repeated_bytes 32 byte h

-- ---- limits

narrow : (settings : Settings) (type_id : ℕ) → settings.max_checks < 2 ^ 32 → most_requests settings type_id < 2 ^ 32
unfolding most_requests
narrow settings type_id h = either (λ (n : ℕ). n < 2 ^ 32) (is_transaction type_id) 1 (max 1 settings.max_checks) (omega arith) (omega arith)

module _ (settings : Settings) (clock : ℕ) where
  pub fits_well : (r : Request) → Fits settings clock r → WellRequest settings clock r
  fits_well r p =
      record {
        id = record { long = ap length p.id ∙ id_long (get_or r.id 0 0); bytes = subst Bytes (sym p.id) (id_bytes (get_or r.id 0 0) p.byte) };
        type_id = p.type_id;
        peer = p.peer;
        stamp = p.stamp;
        checks = p.checks;
      }

  pub fits_recorded : settings.max_checks < 2 ^ 32 → clock < 2 ^ 64 → (rs : List Request) → All (Fits settings clock) rs → All Recorded rs
  fits_recorded m c = all_weaker (Fits settings clock) Recorded (λ r p. well_recorded settings clock m c r (fits_well r p))

  pub fits_later : (old : ℕ) → old ≤ clock → (rs : List Request) → All (Fits settings old) rs → All (Fits settings clock) rs
  fits_later old h =
      all_weaker (Fits settings old) (Fits settings clock)
      (λ r p. let s = p.stamp in record { id = p.id; byte = p.byte; type_id = p.type_id; peer = p.peer; stamp = omega arith; checks = p.checks })

  pub fits_checks : settings.max_checks < 2 ^ 32 → (rs : List Request) → All (Fits settings clock) rs → All (λ (r : Request). r.checks + 1 < 2 ^ 32) rs
  fits_checks m =
      all_weaker (Fits settings clock) (λ (r : Request). r.checks + 1 < 2 ^ 32)
      (λ r p. let n = narrow settings r.type_id m in let k = p.checks in omega arith)

  restarted_fits : (r : Request) → verdict settings clock r ≡ Delivery.retried → Fits settings clock r → Fits settings clock (restarted clock r)
  unfolding restarted
  restarted_fits r e p =
      let m = retried_means settings clock r e in
      let l : settings.max_checks ≤ most_requests settings r.type_id = most_lasting settings r.type_id m.0 in
      let n : suc r.checks < settings.max_checks = m.1 in
      record { id = p.id; byte = p.byte; type_id = p.type_id; peer = p.peer; stamp = omega arith; checks = omega arith }

  pub fits_checked : (rs : List Request) → All (Fits settings clock) rs → All (Fits settings clock) (check_timeouts settings clock rs)
  fits_checked [] p = tt
  fits_checked (r ∷ rs) p = go (verdict settings clock r) refl (fits_checked rs p.1)
    where
      go : (v : Verdict) → verdict settings clock r ≡ v → All (Fits settings clock) (check_timeouts settings clock rs)
          → All (Fits settings clock) (after_verdict clock v r (check_timeouts settings clock rs))
      go Delivery.waiting e q = (p.0, q)
      go Delivery.retried e q = (restarted_fits r e p.0, q)
      go Delivery.abandoned e q = q
      go Delivery.forgotten e q = q

  module _ (type_id peer : ℕ) (ht : type_id < 2 ^ 16) (hp : peer < 2 ^ 64) where
    fits_marked : (ids : List Id) (rs : List Request) → All OneByte ids → All (Fits settings clock) rs
        → All (Fits settings clock) (mark_requested clock type_id peer ids rs)
    fits_marked [] rs o h = h
    fits_marked (id ∷ ids) rs o h =
        let more = all_inserted id_before (Fits settings clock) entered rs entered_fits h in
        fits_marked ids (cond (is_pending id rs) rs (inserted id_before entered rs)) o.1
        (either (All (Fits settings clock)) (is_pending id rs) rs (inserted id_before entered rs) h more)
      where
        entered : Request
        entered = record { id = id; type_id = type_id; peer = peer; stamp = clock; checks = 0 }

        entered_fits : Fits settings clock entered
        entered_fits = record { id = o.0.0; byte = o.0.1; type_id = ht; peer = hp; stamp = omega arith; checks = most_positive settings type_id }

    pub fits_wanted : (pairs : List Pair) (ids : List Id) (rs : List Request) → All OneByte ids → All (Fits settings clock) rs
        → All (Fits settings clock) (mark_requested clock type_id peer (wanted rs type_id pairs ids) rs)
    unfolding wanted
    fits_wanted pairs ids rs o h =
        let new : Id → Bool = λ (id : Id). not (is_pending id rs) in
        fits_marked (kept (λ (id : Id). not (is_stored pairs type_id id)) (kept new ids)) rs
        (all_kept OneByte (λ (id : Id). not (is_stored pairs type_id id)) (kept new ids) (all_kept OneByte new ids o)) h

  -- ---- at most 256

  lower : (r q : Request) → Fits settings clock r → Fits settings clock q → before r.id q.id ≡ true → get_or r.id 0 0 < get_or q.id 0 0
  lower r q p o h =
      let a : ℕ = get_or r.id 0 0 in
      let b : ℕ = get_or q.id 0 0 in
      id_before_lem a b (ap (λ (x : Id). before x (id_of b)) (sym p.id) ∙ ap (λ (y : Id). before r.id y) (sym o.id) ∙ h)

  above : (r : Request) → Fits settings clock r → (rs : List Request) → All (Fits settings clock) rs
      → All (λ (other : Id). before r.id other ≡ true) (ids_of rs)
      → All (λ (q : Request). suc (get_or r.id 0 0) ≤ get_or q.id 0 0) rs
  above r p [] os bs = tt
  above r p (q ∷ qs) os bs = (lower r q p os.0 bs.0, above r p qs os.1 bs.1)

  few_above : (rs : List Request) (low : ℕ) → low ≤ 256 → All (Fits settings clock) rs
      → All (λ (q : Request). low ≤ get_or q.id 0 0) rs → RisingIds (ids_of rs) → length rs + low ≤ 256
  few_above [] low l o m h = omega arith
  few_above (r ∷ rs) low l o m h =
      let p : Fits settings clock r = o.0 in
      let b : get_or r.id 0 0 < 256 = p.byte in
      let n : length rs + suc (get_or r.id 0 0) ≤ 256 = few_above rs (suc (get_or r.id 0 0)) (omega arith) o.1 (above r p rs o.1 h.0) h.1 in
      let k : low ≤ get_or r.id 0 0 = m.0 in
      omega arith

  pub fits_few : (rs : List Request) → All (Fits settings clock) rs → RisingIds (ids_of rs) → length rs ≤ 256
  fits_few rs o h =
      let low : All (λ (q : Request). 0 ≤ get_or q.id 0 0) rs =
      all_weaker (Fits settings clock) (λ (q : Request). 0 ≤ get_or q.id 0 0) (λ r p. omega arith) rs o in
      let n : length rs + 0 ≤ 256 = few_above rs 0 (omega arith) o low h in
      omega arith
