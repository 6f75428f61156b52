-- Ids entered one after another in any order: `enter` looks for the id's place and for the id at once.
use Prim.Native.Nat.{ℕ}
use mathlib.Core.Path.{◌≡◌, refl, sym, ap, ◌∙◌}
use mathlib.Core.Bool.{Bool, true, false, cond, ◌||◌, false≢true}
use mathlib.Core.List.{List, [], ◌∷◌}
use Rattle.fields.specs.Facts.{All}
use Rattle.fields.specs.Order.{before, same}
use Rattle.fields.specs.Sort.{inserted, sorted}
use Rattle.fields.proofs.AllLaws.{all_weaker}
use Rattle.fields.proofs.SortLaws.{Rising}
use Rattle.fields.proofs.OrderLaws.{same_eq, same_refl, same_sym, before_irreflexive, before_transitive, before_asymmetric}
use Rattle.fields.proofs.OrderLaws.{before_not_same, before_or_same, not_before_transitive}
use Rattle.model.specs.Protocol.{Id, is_among}
use Rattle.model.specs.Delivery.{Request, ids_of, is_pending, id_before, mark_requested}
use Rattle.model.proofs.Well.{RisingIds}
use Rattle.model.proofs.PendingLaws.{rising_requested}
use Rattle.mark_requested.specs.Marking.{new_request}

-- ---- order

-- what comes before x comes before all that x does not come after
pub below_rest : (a x : Id) (ys : List Id) → before a x ≡ true → All (λ (y : Id). before y x ≡ false) ys → All (λ (y : Id). before a y ≡ true) ys
below_rest a x ys h = all_weaker (λ (y : Id). before y x ≡ false) (λ (y : Id). before a y ≡ true) one ys
  where
    one : (y : Id) → before y x ≡ false → before a y ≡ true
    one y e = go (before a y) refl
      where
        go : (t : Bool) → before a y ≡ t → t ≡ true
        go true f = refl
        go false f = absurd (false≢true (sym (not_before_transitive a y x f e) ∙ h))

-- sorted ids of which the first does not come again
pub below_unlike : (x y : Id) (ys : List Id) → same x y ≡ false → Rising before (x ∷ (y ∷ ys)) → All (λ (z : Id). before x z ≡ true) (y ∷ ys)
below_unlike x y ys n r =
    let s : same y x ≡ false = same_sym y x ∙ n in
    let h : before x y ≡ true = before_or_same y x r.0.0 s in
    (h, below_rest x y ys h r.1.0)

module _ (clock type_id peer : ℕ) where
  abbrev new : Id → Request
  new id = new_request clock type_id peer id

  abbrev pub enter : Id → List Request → List Request
  enter id [] = new id ∷ []
  enter id (r ∷ rs) = cond (before r.id id) (r ∷ enter id rs) (cond (same r.id id) (r ∷ rs) (new id ∷ (r ∷ rs)))

  abbrev pub enter_all : List Id → List Request → List Request
  enter_all [] rs = rs
  enter_all (id ∷ ids) rs = enter_all ids (enter id rs)

  -- ---- in any order

  pub enter_twice : (x : Id) (rs : List Request) → enter x (enter x rs) ≡ enter x rs
  enter_twice x [] = rw (before_irreflexive x, same_refl x)
  enter_twice x (r ∷ rs) = go (before r.id x) (same r.id x) refl refl (enter_twice x rs)
    where
      go : (p q : Bool) → before r.id x ≡ p → same r.id x ≡ q → enter x (enter x rs) ≡ enter x rs
          → enter x (cond p (r ∷ enter x rs) (cond q (r ∷ rs) (new x ∷ (r ∷ rs)))) ≡ cond p (r ∷ enter x rs) (cond q (r ∷ rs) (new x ∷ (r ∷ rs)))
      go true q e f i = rw (e, i)
      go false true e f i = rw (e, f)
      go false false e f i = rw (before_irreflexive x, same_refl x)

  -- of two ids the one before the other
  swap_below : (x y : Id) → before x y ≡ true → (rs : List Request) → enter x (enter y rs) ≡ enter y (enter x rs)
  swap_below x y h [] = rw (h, before_asymmetric x y h, same_sym y x, before_not_same x y h)
  swap_below x y h (r ∷ rs) = go (before r.id x) (same r.id x) (before r.id y) (same r.id y) refl refl refl refl (swap_below x y h rs)
    where
      go : (p q u v : Bool) → before r.id x ≡ p → same r.id x ≡ q → before r.id y ≡ u → same r.id y ≡ v
          → enter x (enter y rs) ≡ enter y (enter x rs)
          → enter x (cond u (r ∷ enter y rs) (cond v (r ∷ rs) (new y ∷ (r ∷ rs)))) ≡ enter y (cond p (r ∷ enter x rs) (cond q (r ∷ rs) (new x ∷ (r ∷ rs))))
      go true q true v a b c d i = rw (a, c, i)
      go true q false v a b c d i = absurd (false≢true (sym c ∙ before_transitive r.id x y a h))
      go false true true v a b c d i = rw (a, b, c)
      go false true false v a b c d i = absurd (false≢true (sym c ∙ rw (same_eq r.id x b) h))
      go false false true v a b c d i = rw (a, b, h, c)
      go false false false true a b c d i = rw (a, b, h, c, d)
      go false false false false a b c d i = rw (a, b, h, c, d, before_asymmetric x y h, same_sym y x, before_not_same x y h)

  enter_swap : (x y : Id) (rs : List Request) → enter x (enter y rs) ≡ enter y (enter x rs)
  enter_swap x y rs = go (before x y) (same x y) refl refl
    where
      go : (p q : Bool) → before x y ≡ p → same x y ≡ q → enter x (enter y rs) ≡ enter y (enter x rs)
      go true q e f = swap_below x y e rs
      go false true e f = rw (same_eq x y f)
      go false false e f = sym (swap_below y x (before_or_same x y e f) rs)

  entered_inserted : (x : Id) (ids : List Id) (rs : List Request) → enter_all (inserted before x ids) rs ≡ enter_all ids (enter x rs)
  entered_inserted x [] rs = refl
  entered_inserted x (y ∷ ids) rs = go (before y x) (entered_inserted x ids (enter y rs))
    where
      go : (t : Bool) → enter_all (inserted before x ids) (enter y rs) ≡ enter_all ids (enter x (enter y rs))
          → enter_all (cond t (y ∷ inserted before x ids) (x ∷ (y ∷ ids))) rs ≡ enter_all ids (enter y (enter x rs))
      go true e = e ∙ ap (enter_all ids) (enter_swap x y rs)
      go false e = refl

  pub entered_sorted : (ids : List Id) (rs : List Request) → enter_all (sorted before ids) rs ≡ enter_all ids rs
  entered_sorted [] rs = refl
  entered_sorted (x ∷ ids) rs = entered_inserted x (sorted before ids) rs ∙ entered_sorted ids (enter x rs)

  -- a request before all of them stays in front
  pub entered_behind : (r : Request) (ids : List Id) (rs : List Request) → All (λ (y : Id). before r.id y ≡ true) ids
      → enter_all ids (r ∷ rs) ≡ r ∷ enter_all ids rs
  entered_behind r [] rs p = refl
  entered_behind r (y ∷ ids) rs p = rw p.0 (entered_behind r ids (enter y rs) p.1)

  -- ---- it is how they are marked

  absent : (id : Id) (rs : List Request) → All (λ (other : Id). before id other ≡ true) (ids_of rs) → is_pending id rs ≡ false
  unfolding is_pending is_among
  absent id [] p = refl
  absent id (r ∷ rs) p = rw (before_not_same id r.id p.0, absent id rs p.1)

  marked_entered : (id : Id) (rs : List Request) → RisingIds (ids_of rs) → cond (is_pending id rs) rs (inserted id_before (new id) rs) ≡ enter id rs
  unfolding is_pending is_among
  marked_entered id [] h = refl
  marked_entered id (r ∷ rs) h = go (before r.id id) (same r.id id) (is_pending id rs) refl refl refl (marked_entered id rs h.1)
    where
      go : (p q w : Bool) → before r.id id ≡ p → same r.id id ≡ q → is_pending id rs ≡ w
          → cond (is_pending id rs) rs (inserted id_before (new id) rs) ≡ enter id rs
          → cond (same id r.id || is_pending id rs) (r ∷ rs) (cond p (r ∷ inserted id_before (new id) rs) (new id ∷ (r ∷ rs)))
          ≡ cond p (r ∷ enter id rs) (cond q (r ∷ rs) (new id ∷ (r ∷ rs)))
      go true q true a b m i = rw (same_sym id r.id, before_not_same r.id id a, m) (ap (λ (l : List Request). r ∷ l) (rw m at i))
      go true q false a b m i = rw (same_sym id r.id, before_not_same r.id id a, m) (ap (λ (l : List Request). r ∷ l) (rw m at i))
      go false true w a b m i = rw (same_sym id r.id, b)
      go false false w a b m i =
          let l : before id r.id ≡ true = before_or_same r.id id a b in
          let first_below : Id → Type 0 = λ (other : Id). before r.id other ≡ true in
          let id_below : Id → Type 0 = λ (other : Id). before id other ≡ true in
          let below : All id_below (ids_of rs) = all_weaker first_below id_below (λ other q. before_transitive id r.id other l q) (ids_of rs) h.0 in
          rw (same_sym id r.id, b, absent id rs below)

  pub all_marked_entered : (ids : List Id) (rs : List Request) → RisingIds (ids_of rs) → mark_requested clock type_id peer ids rs ≡ enter_all ids rs
  all_marked_entered [] rs h = refl
  all_marked_entered (id ∷ ids) rs h =
      all_marked_entered ids (cond (is_pending id rs) rs (inserted id_before (new id) rs)) (rising_requested clock type_id peer (id ∷ []) rs h)
      ∙ ap (enter_all ids) (marked_entered id rs h)

  pub marked_sorted : (ids : List Id) (rs : List Request) → RisingIds (ids_of rs)
      → mark_requested clock type_id peer (sorted before ids) rs ≡ mark_requested clock type_id peer ids rs
  marked_sorted ids rs h = all_marked_entered (sorted before ids) rs h ∙ entered_sorted ids rs ∙ sym (all_marked_entered ids rs h)
