-- One request marked in a table of records.
use Prim.Native.Nat.{ℕ, zero, suc, ◌+◌, ◌*◌, ◌≤◌, ◌<◌}
use mathlib.Core.Path.{◌≡◌, refl, sym, ap, ◌∙◌}
use mathlib.Core.Bool.{true, false}
use mathlib.Core.List.{List, [], ◌∷◌, map}
use native.Mathlib.Omega.{arith}
use native.Mathlib.Nat.{not-suc-le-zero, le_of_suc-le-suc}
use lib.ListN.{length, take, get_or}
use lib.Seq.{length-take-le}
use Rattle.fields.specs.Facts.{All, Bytes}
use Rattle.fields.specs.Order.{before}
use Rattle.fields.specs.Sort.{inserted}
use Rattle.fields.specs.Entries.{entries, rising, inserted_at, replaced}
use Rattle.fields.proofs.SortLaws.{length_inserted, map_inserted}
use Rattle.fields.proofs.EntriesLaws.{Wide, length_entries, entries_wide, entries_bytes}
use Rattle.keys.specs.Find.{found}
use Rattle.std.proofs.Common.{Result, Ok, Err}
use Rattle.keys.proofs.FindLaws.{gap_stop}
use Rattle.model.specs.Delivery.{Request, is_pending, id_before, mark_requested}
use Rattle.model.specs.Image.{request_of, request_bytes}
use Rattle.model.proofs.RecordLaws.{request_id, length_request, records_of_requests}
use Rattle.commands.specs.Pending.{requests_in, holding}
use Rattle.commands.proofs.HoldingLaws.{length_requests, holding_same}
use Rattle.keys.proofs.HasLaws.{found_has, gap_has}
use Rattle.mark_requested.proofs.KeyLaws.{pending_key}
use Rattle.mark_requested.specs.Marking.{new_request}
use Rattle.model.specs.Layout.{id_size, record_size}

-- ---- the gap of a search is the place of an insertion

inserted-at : (e : List ℕ) (es : List (List ℕ)) (g : ℕ) → g ≤ length es
    → ((j : ℕ) → j < g → before (take id_size (get_or es j [])) (take id_size e) ≡ true)
    → (g < length es → before (take id_size (get_or es g [])) (take id_size e) ≡ false)
    → inserted (λ (x y : List ℕ). before (take id_size x) (take id_size y)) e es ≡ inserted_at g e es
unfolding inserted_at
inserted-at e [] zero h f s = refl
inserted-at e [] (suc g) h f s = absurd (not-suc-le-zero h)
inserted-at e (y ∷ ys) zero h f s = rw (s (omega arith))
inserted-at e (y ∷ ys) (suc g) h f s =
    let rest = inserted-at e ys g (le_of_suc-le-suc h) (λ j l. f (suc j) (omega arith)) (λ l. s (omega arith)) in
    rw (f 0 (omega arith)) (ap (λ (l : List (List ℕ)). y ∷ l) rest)

-- ---- one request

ids_long : (es : List (List ℕ)) → Wide record_size es → All (λ (r : Request). length r.id ≡ id_size) (map request_of es)
unfolding request_of
ids_long [] w = tt
ids_long (e ∷ es) w = let l : length e ≡ record_size = w.0 in (length-take-le 32 e (omega arith), ids_long es w.1)

-- One id to be marked in a table whose ids rise.
pub record One (clock type_id peer count : ℕ) (id t : List ℕ) : Type 0 where
  pub long : length id ≡ id_size
  pub fits : count * record_size ≤ length t
  pub bytes : Bytes t
  pub rises : rising id_size (entries record_size count t) ≡ true

module _ {clock type_id peer count : ℕ} {id t : List ℕ} (one : One clock type_id peer count id t) where
  abbrev es : List (List ℕ)
  es = entries record_size count t

  abbrev new : Request
  new = new_request clock type_id peer id

  abbrev marked : List Request
  marked = mark_requested clock type_id peer (id ∷ []) (requests_in count t)

  pub new_long : length (request_bytes new) ≡ record_size
  new_long = length_request new one.long

  pub one_pending : {i : ℕ} {answer : Result ℕ ℕ} → answer ≡ found id 0 es → answer ≡ Ok i → (count ≡ length marked) × (t ≡ holding count marked t)
  one_pending {i} e h =
      let p : is_pending id (requests_in count t) ≡ true = pending_key id es one.long ∙ found_has id es i (sym e ∙ h) in
      rw p (sym (length_requests count t), sym (holding_same count t one.fits one.bytes))

  module _ {g : ℕ} {answer : Result ℕ ℕ} (e : answer ≡ found id 0 es) (h : answer ≡ Err g) where
    gap : found id 0 es ≡ Err g
    gap = sym e ∙ h

    absent : is_pending id (requests_in count t) ≡ false
    absent = pending_key id es one.long ∙ gap_has id es g (rw one.long one.rises) gap

    pub gap_fits : g ≤ count
    gap_fits = omega (arith, (gap_stop id es g gap).inside, length_entries record_size count t)

    longer : length (inserted id_before new (requests_in count t)) ≡ suc count
    longer = length_inserted id_before new (requests_in count t) ∙ ap suc (length_requests count t)

    as_bytes : map request_bytes (inserted id_before new (requests_in count t)) ≡ inserted_at g (request_bytes new) es
    as_bytes =
        let key : take id_size (request_bytes new) ≡ id = request_id new one.long in
        let wide = entries_wide record_size count t one.fits in
        let back : map request_bytes (requests_in count t) ≡ es = records_of_requests es wide (entries_bytes record_size count t one.bytes) in
        map_inserted id_before (λ (x y : List ℕ). before (take id_size x) (take id_size y)) request_bytes (λ (x : Request). length x.id ≡ id_size)
        (λ x y a b. rw (request_id x a, request_id y b)) new (requests_in count t) one.long (ids_long es wide)
        ∙ rw back
        (inserted-at (request_bytes new) es g (gap_stop id es g gap).inside
        (λ j l. rw key (rw one.long at ((gap_stop id es g gap).below j l)))
        (λ l. rw key (rw one.long at ((gap_stop id es g gap).stops l))))

    pub one_entered : {entry' t' : List ℕ} → entry' ≡ request_bytes new → t' ≡ replaced record_size count (inserted_at g entry' es) t
        → (count + 1 ≡ length marked) × (t' ≡ holding count marked t)
    unfolding holding
    one_entered er et = rw absent (omega (arith, longer), et ∙ rw (er, ← as_bytes))
