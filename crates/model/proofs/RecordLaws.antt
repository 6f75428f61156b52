-- A pending record: its bytes and the request that they say, there and back.
use Prim.Native.Nat.{ℕ, ◌+◌, ◌*◌, ◌^◌, ◌≤◌, ◌<◌, max}
use mathlib.Core.Path.{◌≡◌, refl, sym, ◌∙◌}
use mathlib.Core.Bool.{Bool, true, false, cond}
use mathlib.Core.List.{List, [], ◌∷◌, ◌++◌, map}
use native.Mathlib.Omega.{arith}
use lib.Dec.{eqb, leb, ltb}
use lib.ListN.{length, take, drop, get_or, length-append, length-drop}
use lib.Seq.{take_at, drop_at, take_all}
use borrow.Author.Tests.{eqb-true, eq-eqb, leb-true, le-leb, ltb-true, lt-ltb}
use Rattle.fields.specs.Facts.{All, Bytes}
use Rattle.fields.specs.Order.{before}
use Rattle.fields.proofs.NumberLaws.{bytes_append, bytes_take, from_be_split, from_be_one}
use Rattle.fields.proofs.OrderLaws.{and_left, and_right}
use Rattle.fields.proofs.EntriesLaws.{Wide}
use Rattle.fields.proofs.RisingLaws.{KeyBefore, Ascending}
use Rattle.fields.proofs.PartLaws.{Cell, written, Fit, Holds, length_written, written_bytes, written_holds, holds_written, part_joined, part_below, length_part}
use Rattle.model.specs.Protocol.{Id, is_transaction}
use Rattle.model.specs.Settings.{Settings, most_requests}
use Rattle.model.specs.Delivery.{Request, ids_of}
use Rattle.model.specs.Image.{request_bytes, request_of, request_fits, all_fit, types_narrow}
use Rattle.model.proofs.Well.{WellId, WellRequest, RisingIds}
use Rattle.model.specs.Layout.{id_size, record_size}

-- what follows the id
abbrev pub request_cells : Request → List Cell
request_cells r =
    record { width = 8; number = r.peer }
    ∷ record { width = 2; number = r.type_id }
    ∷ record { width = 8; number = r.stamp }
    ∷ record { width = 4; number = r.checks }
    ∷ []

pub request_written : (r : Request) → request_bytes r ≡ r.id ++ written (request_cells r)
unfolding request_bytes
request_written r = refl

-- the request fits its record
pub record Recorded (r : Request) : Type 0 where
  pub id : WellId r.id
  pub cells : Fit (request_cells r)

module _ (r : Request) (l : length r.id ≡ id_size) where
  pub length_request : length (request_bytes r) ≡ record_size
  length_request = rw (request_written r, length-append, length_written (request_cells r), l)

  pub request_id : take id_size (request_bytes r) ≡ r.id
  request_id = rw (request_written r) (take_at r.id (written (request_cells r)) id_size l)

  pub request_cells_lem : Fit (request_cells r) → Holds id_size (request_cells r) (request_bytes r)
  request_cells_lem f =
      written_holds (request_cells r) id_size [] (request_bytes r) f
      (rw (request_written r, drop_at r.id (written (request_cells r)) id_size l))

pub request_bytes_lem : (r : Request) → Bytes r.id → Bytes (request_bytes r)
request_bytes_lem r f = rw (request_written r) (bytes_append r.id (written (request_cells r)) f (written_bytes (request_cells r)))

pub request_of_bytes : (r : Request) → length r.id ≡ id_size → Fit (request_cells r) → request_of (request_bytes r) ≡ r
unfolding request_of
request_of_bytes r l f =
    let h : Holds id_size (request_cells r) (request_bytes r) = request_cells_lem r l f in
    rw (request_id r l, h.0, h.1.0, h.1.1.0, h.1.1.1.0)

pub bytes_of_request : (e : List ℕ) → length e ≡ record_size → Bytes e → request_bytes (request_of e) ≡ e
unfolding request_of
bytes_of_request e l f =
    let h : take 22 (drop id_size e) ≡ written (request_cells (request_of e)) = holds_written (request_cells (request_of e)) id_size e f (omega arith) (refl, (refl, (refl, (refl, tt)))) in
    request_written (request_of e) ∙ sym (part_joined 0 id_size (take id_size e) (written (request_cells (request_of e))) e refl (sym (take_all 22 (drop id_size e) (rw (length-drop id_size e) (omega arith))) ∙ h))

-- where the type's high byte is zero, the type is one byte
high_low : (e : List ℕ) → length e ≡ record_size → (request_of e).type_id ≡ get_or e 40 0 * 256 + get_or e 41 0
unfolding request_of
high_low e l =
    let a : 40 < length e = omega arith in
    let b : 41 < length e = omega arith in
    from_be_split 1 1 40 e (omega arith) ∙ rw (from_be_one 40 e a, from_be_one 41 e b)

type_narrow : (e : List ℕ) → length e ≡ record_size → (request_of e).type_id < 2 ^ 8 → eqb (get_or e 40 0) 0 ≡ true
type_narrow e l h =
    let s : (request_of e).type_id ≡ get_or e 40 0 * 256 + get_or e 41 0 = high_low e l in
    eq-eqb (get_or e 40 0) 0 (omega arith)

narrow_type : (e : List ℕ) → length e ≡ record_size → Bytes e → eqb (get_or e 40 0) 0 ≡ true → (request_of e).type_id < 2 ^ 8
narrow_type e l f h =
    let s : (request_of e).type_id ≡ get_or e 40 0 * 256 + get_or e 41 0 = high_low e l in
    let z : get_or e 40 0 ≡ 0 = eqb-true (get_or e 40 0) 0 h in
    let b : get_or e 41 0 < 256 = f 41 in
    omega arith

-- ---- from the invariant

most_narrow : (settings : Settings) (type_id : ℕ) → settings.max_checks < 2 ^ 32 → most_requests settings type_id < 2 ^ 32
unfolding most_requests
most_narrow settings type_id h = go (is_transaction type_id)
  where
    go : (t : Bool) → cond t 1 (max 1 settings.max_checks) < 2 ^ 32
    go true = omega arith
    go false = omega arith

pub well_recorded : (settings : Settings) (last_clock : ℕ) → settings.max_checks < 2 ^ 32 → last_clock < 2 ^ 64 → (r : Request) → WellRequest settings last_clock r → Recorded r
well_recorded settings last_clock m c r w =
    let t : r.type_id < 2 ^ 16 = w.type_id in
    let k : r.checks < most_requests settings r.type_id = w.checks in
    let n : most_requests settings r.type_id < 2 ^ 32 = most_narrow settings r.type_id m in
    let s : r.stamp ≤ last_clock = w.stamp in
    record { id = w.id; cells = (w.peer, (omega arith, (omega arith, (omega arith, tt)))) }

pub well_fits : (settings : Settings) (last_clock : ℕ) (r : Request) → WellRequest settings last_clock r → request_fits settings last_clock r ≡ true
unfolding request_fits
well_fits settings last_clock r w =
    rw (le-leb r.stamp last_clock w.stamp, lt-ltb r.checks (most_requests settings r.type_id) w.checks)

pub all_fit_lem : (settings : Settings) (last_clock : ℕ) (rs : List Request) → All (WellRequest settings last_clock) rs → all_fit settings last_clock rs ≡ true
all_fit_lem settings last_clock [] w = refl
all_fit_lem settings last_clock (r ∷ rs) w = rw (well_fits settings last_clock r w.0, all_fit_lem settings last_clock rs w.1)

pub record_well : (settings : Settings) (last_clock : ℕ) (e : List ℕ) → length e ≡ record_size → Bytes e
    → request_fits settings last_clock (request_of e) ≡ true → WellRequest settings last_clock (request_of e)
unfolding request_fits request_of
record_well settings last_clock e l f h =
    let r : Request = request_of e in
    record {
      id = record { long = length_part 0 id_size e (omega arith); bytes = bytes_take id_size e f };
      type_id = part_below 40 2 e (omega arith) f;
      peer = part_below 32 8 e (omega arith) f;
      stamp = leb-true r.stamp last_clock (and_left (leb r.stamp last_clock) (ltb r.checks (most_requests settings r.type_id)) h);
      checks = ltb-true r.checks (most_requests settings r.type_id) (and_right (leb r.stamp last_clock) (ltb r.checks (most_requests settings r.type_id)) h);
    }

-- ---- tables of records

pub records_wide : (rs : List Request) → All Recorded rs → Wide record_size (map request_bytes rs)
records_wide [] w = tt
records_wide (r ∷ rs) w = (length_request r w.0.id.long, records_wide rs w.1)

pub records_bytes : (rs : List Request) → All Recorded rs → All Bytes (map request_bytes rs)
records_bytes [] w = tt
records_bytes (r ∷ rs) w = (request_bytes_lem r w.0.id.bytes, records_bytes rs w.1)

pub requests_of_records : (rs : List Request) → All Recorded rs → map request_of (map request_bytes rs) ≡ rs
requests_of_records [] w = refl
requests_of_records (r ∷ rs) w = rw (request_of_bytes r w.0.id.long w.0.cells, requests_of_records rs w.1)

pub records_of_requests : (es : List (List ℕ)) → Wide record_size es → All Bytes es → map request_bytes (map request_of es) ≡ es
records_of_requests [] l f = refl
records_of_requests (e ∷ es) l f = rw (bytes_of_request e l.0 f.0, records_of_requests es l.1 f.1)

-- types of one byte, in records of version 1
pub types_narrow_lem : (rs : List Request) → All Recorded rs → All (λ (r : Request). r.type_id < 2 ^ 8) rs → types_narrow (map request_bytes rs) ≡ true
types_narrow_lem [] v w = refl
types_narrow_lem (r ∷ rs) v w =
    let t : (request_of (request_bytes r)).type_id < 2 ^ 8 = rw (request_of_bytes r v.0.id.long v.0.cells) w.0 in
    rw (type_narrow (request_bytes r) (length_request r v.0.id.long) t, types_narrow_lem rs v.1 w.1)

pub types_low : (es : List (List ℕ)) → Wide record_size es → All Bytes es → types_narrow es ≡ true
    → All (λ (r : Request). r.type_id < 2 ^ 8) (map request_of es)
types_low [] l f t = tt
types_low (e ∷ es) l f t = (
  narrow_type e l.0 f.0 (and_left (eqb (get_or e 40 0) 0) (types_narrow es) t),
  types_low es l.1 f.1 (and_right (eqb (get_or e 40 0) 0) (types_narrow es) t),
)

pub records_well : (settings : Settings) (last_clock : ℕ) (es : List (List ℕ)) → Wide record_size es → All Bytes es
    → all_fit settings last_clock (map request_of es) ≡ true → All (WellRequest settings last_clock) (map request_of es)
records_well settings last_clock [] l f h = tt
records_well settings last_clock (e ∷ es) l f h =
    let first = request_fits settings last_clock (request_of e) in
    let others = all_fit settings last_clock (map request_of es) in
    (record_well settings last_clock e l.0 f.0 (and_left first others h), records_well settings last_clock es l.1 f.1 (and_right first others h))

-- ---- ids rise in the requests and in their records alike

first_before : (id : Id) (e : List ℕ) → take id_size e ≡ id → (rs : List Request) → All Recorded rs
    → All (λ (other : Id). before id other ≡ true) (ids_of rs) → All (KeyBefore id_size e) (map request_bytes rs)
first_before id e h [] w b = tt
first_before id e h (r ∷ rs) w b = (rw (h, request_id r w.0.id.long) b.0, first_before id e h rs w.1 b.1)

pub records_rise : (rs : List Request) → All Recorded rs → RisingIds (ids_of rs) → Ascending id_size (map request_bytes rs)
records_rise [] w b = tt
records_rise (r ∷ rs) w b = (first_before r.id (request_bytes r) (request_id r w.0.id.long) rs w.1 b.0, records_rise rs w.1 b.1)

id_before_lem : (e : List ℕ) (es : List (List ℕ)) → All (KeyBefore id_size e) es → All (λ (other : Id). before (take id_size e) other ≡ true) (ids_of (map request_of es))
unfolding request_of
id_before_lem e [] b = tt
id_before_lem e (g ∷ es) b = (b.0, id_before_lem e es b.1)

pub ids_rise_lem : (es : List (List ℕ)) → Ascending id_size es → RisingIds (ids_of (map request_of es))
unfolding request_of
ids_rise_lem [] b = tt
ids_rise_lem (e ∷ es) b = (id_before_lem e es b.0, ids_rise_lem es b.1)
