-- Rule 3's filter: keys in tables as pending and stored ids, and one pass that keeps the wanted ids.
use Prim.Native.Nat.{ℕ, suc, ◌+◌, ◌-◌, ◌*◌, ◌/◌, ◌^◌, ◌≤◌, ◌<◌}
use mathlib.Core.Path.{◌≡◌, refl, sym, ap, ◌∙◌}
use mathlib.Core.Bool.{Bool, true, false, not, ◌&&◌}
use mathlib.Core.List.{List, [], ◌∷◌, ◌++◌, map}
use native.Mathlib.Omega.{arith}
use native.Mathlib.Numerals.{add-one}
use lib.Dec.{eqb}
use lib.ListN.{length, take, drop, get_or, length-drop, take-append-drop, drop_of_length-le}
use lib.Seq.{drop-cons, take_all, length-take-le}
use Rattle.fields.specs.Facts.{All, Bytes}
use Rattle.fields.specs.Number.{to_be}
use Rattle.fields.specs.Order.{same}
use Rattle.fields.specs.Filter.{kept, cons_if}
use Rattle.fields.specs.Entries.{entries, joined, rising}
use Rattle.fields.specs.Overwrite.{overwritten}
use Rattle.fields.proofs.NumberLaws.{bytes_take, to_be_bytes, from_be_to_be}
use Rattle.fields.proofs.OrderLaws.{and_right, same_append, same_number}
use Rattle.fields.proofs.OverwriteLaws.{overwritten_all, overwritten_next, overwritten_nil, length_overwritten}
use Rattle.fields.proofs.EntriesLaws.{Wide, entries_wide, entries_bytes, length_joined}
use Rattle.fields.proofs.FilterLaws.{length_kept}
use Rattle.fields.proofs.AllLaws.{all_at, all_kept, all_drop}
use Rattle.model.specs.Protocol.{Id, list_limit}
use Rattle.model.specs.Delivery.{Request, is_pending}
use Rattle.model.specs.Requests.{Pair, is_stored, wanted}
use Rattle.model.specs.Lists.{type_in, pair_of, pairs_fit, pairs_in, list_fits}
use Rattle.model.specs.Calls.{pair_bytes}
use Rattle.model.proofs.ListLaws.{length_pair}
use Rattle.keys.specs.Find.{found}
use Rattle.keys.specs.Keys.{has_key}
use Rattle.keys.proofs.HasLaws.{found_has, gap_has}
use Rattle.std.proofs.Common.{Result, Ok, Err, is_ok}
use Rattle.model.specs.Layout.{id_size, pair_size, type_size}

-- ---- a search

-- whether it finds the key says whether an entry starts with it
pub found_says : (key : List ℕ) (es : List (List ℕ)) → rising (length key) es ≡ true → is_ok (found key 0 es) ≡ has_key key es
found_says key es r = go (found key 0 es) refl
  where
    go : (answer : Result ℕ ℕ) → found key 0 es ≡ answer → is_ok answer ≡ has_key key es
    go (Ok i) e = sym (found_has key es i e)
    go (Err i) e = sym (gap_has key es i r e)

-- ---- stored

-- a pair written into room for it
pub pair_written : (type_id : ℕ) (id zero : List ℕ) {typed pair : List ℕ} → length id ≡ id_size → length zero ≡ pair_size
    → typed ≡ overwritten 0 (to_be type_size type_id) zero → pair ≡ overwritten type_size id typed → pair ≡ pair_bytes type_id id
pair_written type_id id zero l n w e =
    e ∙ rw w (overwritten_next 0 (to_be type_size type_id) id zero (omega arith))
    ∙ overwritten_all (pair_bytes type_id id) zero (length_pair type_id id l ∙ sym n)

pair_same : (e : List ℕ) (type_id : ℕ) (id : List ℕ) → type_id < 2 ^ 16 → length e ≡ pair_size → Bytes e → length id ≡ id_size
    → eqb (type_in e) type_id && same (drop type_size e) id ≡ same (take (length (pair_bytes type_id id)) e) (pair_bytes type_id id)
pair_same e type_id id t l f h =
    let typed : List ℕ = to_be type_size type_id in
    let two : length (take type_size e) ≡ type_size = length-take-le type_size e (omega arith) in
    let n : length (pair_bytes type_id id) ≡ pair_size = length_pair type_id id h in
    let types : same (take type_size e) typed ≡ eqb (type_in e) type_id =
    same_number (take type_size e) typed two (bytes_take type_size e f) (to_be_bytes type_size type_id) ∙ ap (eqb (type_in e)) (from_be_to_be type_size type_id t) in
    let whole : take (length (pair_bytes type_id id)) e ≡ take type_size e ++ drop type_size e =
    ap (λ (k : ℕ). take k e) n ∙ take_all pair_size e (omega arith) ∙ sym (take-append-drop type_size e) in
    ap (λ (b : Bool). b && same (drop type_size e) id) (sym types) ∙ sym (same_append (take type_size e) typed (drop type_size e) id two)
    ∙ ap (λ (x : List ℕ). same x (pair_bytes type_id id)) (sym whole)

pub stored_key : (type_id : ℕ) (id : List ℕ) (es : List (List ℕ)) → type_id < 2 ^ 16 → length id ≡ id_size → Wide pair_size es → All Bytes es
    → is_stored (map pair_of es) type_id id ≡ has_key (pair_bytes type_id id) es
unfolding is_stored pair_of
stored_key type_id id [] t l w f = refl
stored_key type_id id (e ∷ es) t l w f = rw (pair_same e type_id id t w.0 f.0 l, stored_key type_id id es t l w.1 f.1)

module _ (stored : List ℕ) (fit : pairs_fit stored ≡ true) where
  pub pairs_rise : rising pair_size (entries pair_size (length stored / pair_size) stored) ≡ true
  unfolding pairs_fit
  pairs_rise = and_right (list_fits pair_size list_limit stored) (rising pair_size (entries pair_size (length stored / pair_size) stored)) fit

  pub stored_as : Bytes stored → (type_id : ℕ) (id : List ℕ) → type_id < 2 ^ 16 → length id ≡ id_size
      → has_key (pair_bytes type_id id) (entries pair_size (length stored / pair_size) stored) ≡ is_stored (pairs_in stored) type_id id
  unfolding pairs_in
  stored_as f type_id id t l =
      let n : ℕ = length stored / pair_size in
      let wide : Wide pair_size (entries pair_size n stored) = entries_wide pair_size n stored (omega arith) in
      sym (stored_key type_id id (entries pair_size n stored) t l wide (entries_bytes pair_size n stored f))

-- ---- the pass

module _ {A : Type 0} (p q : A → Bool) where
  kept_both : (xs : List A) → kept p (kept q xs) ≡ kept (λ (x : A). q x && p x) xs
  kept_both [] = refl
  kept_both (x ∷ xs) = go (q x) (kept_both xs)
    where
      go : (b : Bool) → kept p (kept q xs) ≡ kept (λ (y : A). q y && p y) xs
          → kept p (cons_if b x (kept q xs)) ≡ cons_if (b && p x) x (kept (λ (y : A). q y && p y) xs)
      go true e = ap (cons_if (p x) x) e
      go false e = e

-- the test of one id
abbrev pub is_wanted : List Request → ℕ → List Pair → Id → Bool
is_wanted pending type_id pairs id = not (is_pending id pending) && not (is_stored pairs type_id id)

pub wanted_kept : (pending : List Request) (type_id : ℕ) (pairs : List Pair) (ids : List Id)
    → wanted pending type_id pairs ids ≡ kept (is_wanted pending type_id pairs) ids
unfolding wanted
wanted_kept pending type_id pairs ids = kept_both (λ (id : Id). not (is_stored pairs type_id id)) (λ (id : Id). not (is_pending id pending)) ids

pub kept_wide : (width : ℕ) (test : List ℕ → Bool) (es : List (List ℕ)) → Wide width es → Wide width (kept test es)
kept_wide width = all_kept (λ (e : List ℕ). length e ≡ width)

-- The pass at id i: what is left of the wanted ones, written behind those kept, gives the whole.
pub record Wanting (test : Id → Bool) (ids : List Id) (d rest : List ℕ) (c i : ℕ) : Type 0 where
  pub c_le : c ≤ i
  pub long : length rest ≡ length d
  pub count : c + length (kept test (drop i ids)) ≡ length (kept test ids)
  pub bytes : overwritten (c * id_size) (joined (kept test (drop i ids))) rest ≡ overwritten 0 (joined (kept test ids)) d

module _ {test : Id → Bool} {ids : List Id} {d rest : List ℕ} {c i : ℕ} (s : Wanting test ids d rest c i) where
  module _ (h : i < length ids) {b : Bool} (tested : b ≡ test (get_or ids i [])) where
    abbrev id : Id
    id = get_or ids i []

    abbrev behind : List Id
    behind = drop (i + 1) ids

    this : drop i ids ≡ id ∷ behind
    this = rw add-one (drop-cons ids i [] h)

    pub want_skip : b ≡ false → {rest' : List ℕ} {c' : ℕ} → rest' ≡ rest → c' ≡ c → Wanting test ids d rest' c' (i + 1)
    want_skip f e g =
        let t : test id ≡ false = sym tested ∙ f in
        rw (e, g) (record { c_le = omega (arith, s.c_le); long = s.long; count = rw (this, t) at s.count; bytes = rw (this, t) at s.bytes })

    pub want_take : Wide id_size ids → length ids * id_size ≤ length d → b ≡ true
        → {rest' : List ℕ} {c' : ℕ} → rest' ≡ overwritten (c * id_size) id rest → c' ≡ c + 1 → Wanting test ids d rest' c' (i + 1)
    want_take wide room f e g =
        let t : test id ≡ true = sym tested ∙ f in
        let others : List Id = kept test behind in
        let l : length id ≡ id_size = all_at (λ (x : Id). length x ≡ id_size) ids i [] h wide in
        let fewer : length others ≤ length ids - (i + 1) = omega (arith, length_kept test behind, length-drop (i + 1) ids) in
        let lj : length (joined others) ≡ length others * id_size =
        length_joined id_size others (kept_wide id_size test behind (all_drop (λ (x : Id). length x ≡ id_size) (i + 1) ids wide)) in
        let n : (c + 1) * id_size ≡ c * id_size + length id = omega arith in
        let q : c + suc (length others) ≡ length (kept test ids) = rw (this, t) at s.count in
        let r : overwritten (c * id_size) (id ++ joined others) rest ≡ overwritten 0 (joined (kept test ids)) d = rw (this, t) at s.bytes in
        rw (e, g) (record {
          c_le = omega (arith, s.c_le);
          long = length_overwritten (c * id_size) id rest (omega (arith, s.long, s.c_le)) ∙ s.long;
          count = omega arith;
          bytes = rw n (overwritten_next (c * id_size) id (joined others) rest (omega (arith, s.long, s.c_le)) ∙ r);
        })

  want_ends : length ids ≤ i → (rest ≡ overwritten 0 (joined (kept test ids)) d) × (c ≡ length (kept test ids))
  want_ends h =
      let z : drop i ids ≡ [] = drop_of_length-le ids {i = i} h in
      let k : c + length (kept test []) ≡ length (kept test ids) = rw z at s.count in
      (sym (overwritten_nil (c * id_size) rest) ∙ rw z at s.bytes, omega arith)

-- by the rule's own words
pub want_all : (pending : List Request) (type_id : ℕ) (pairs : List Pair) {ids : List Id} {d rest : List ℕ} {c i : ℕ}
    → Wanting (is_wanted pending type_id pairs) ids d rest c i → length ids ≤ i
    → (rest ≡ overwritten 0 (joined (wanted pending type_id pairs ids)) d) × (c ≡ length (wanted pending type_id pairs ids))
want_all pending type_id pairs {ids} s h = rw (wanted_kept pending type_id pairs ids) (want_ends s h)
