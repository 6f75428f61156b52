-- The batches of some places, one after another, and a list that is filled with them.
use Prim.Native.Nat.{ℕ, zero, suc, ◌+◌, ◌-◌, ◌≤◌, ◌<◌}
use mathlib.Core.Path.{◌≡◌, refl, sym, ap, subst, ◌∙◌}
use mathlib.Core.List.{List, [], ◌∷◌, ◌++◌, append_assoc}
use native.Mathlib.Omega.{arith}
use native.Mathlib.Nat.{add-zero}
use native.Mathlib.Numerals.{add-one}
use lib.ListN.{length, take, drop, set, get_or, length-set, length-drop, length-map, take-append-drop}
use lib.Seq.{drop-set-lt, take-suc-set, take_at}
use borrow.Author.Tests.{lt-ltb, le-ltb}
use Rattle.retries.specs.Items.{item_at, items_at, alike}
use Rattle.retries.specs.Batches.{batch_at, batches_from, batches_in, filled_with}
use Rattle.retries.specs.declared.batches.Batch.{Batch}
use Rattle.retries.proofs.ItemLaws.{span_le}

module _ (t places : List ℕ) (f : ℕ) where
  pub batch_counts : 0 < (batch_at t places f).count
  unfolding batch_at
  batch_counts = omega arith

  pub batch_ends : f < length places → f + (batch_at t places f).count ≤ length places
  unfolding batch_at
  batch_ends h =
      let x = item_at t (get_or places f 0) in
      let s = span_le (alike x) (items_at t (drop (f + 1) places)) in
      let l : length (items_at t (drop (f + 1) places)) ≡ length (drop (f + 1) places) = length-map (drop (f + 1) places) (item_at t) in
      let d : length (drop (f + 1) places) ≡ length places - (f + 1) = length-drop (f + 1) places in
      omega (arith, s, l, d)

  -- the batches from f on: the one that starts there, then those behind it
  pub batches_next : (u : ℕ) → f < length places → length places ≤ f + u
      → batches_from u t places f ≡ batch_at t places f ∷ batches_from (u - 1) t places (f + (batch_at t places f).count)
  batches_next zero less enough = absurd (omega (arith, less, enough))
  batches_next (suc u) less enough =
      let e : suc u - 1 ≡ u = omega arith in
      rw (lt-ltb f (length places) less, e)

  pub batches_end : (u : ℕ) → length places ≤ f → batches_from u t places f ≡ []
  batches_end zero over = refl
  batches_end (suc u) over = rw (le-ltb f (length places) over)

-- a list as far as it is filled, k elements, with some batches to come
abbrev filling : ℕ → List Batch → List Batch → List Batch
filling k rest list = take k list ++ (rest ++ drop (k + length rest) list)

filling_next : (k : ℕ) (b : Batch) (rest list : List Batch) → k < length list → filling (k + 1) rest (set list k b) ≡ filling k (b ∷ rest) list
filling_next k b rest list h =
    let n : k + 1 + length rest ≡ k + suc (length rest) = omega arith in
    let a : take (k + 1) (set list k b) ≡ take k list ++ (b ∷ []) = rw (add-one k) (take-suc-set list k b h) in
    let d : drop (k + 1 + length rest) (set list k b) ≡ drop (k + suc (length rest)) list =
    drop-set-lt (k + 1 + length rest) list k b (omega arith) ∙ ap (λ (m : ℕ). drop m list) n in
    rw (a, d) (append_assoc (take k list) (b ∷ []) (rest ++ drop (k + suc (length rest)) list))

filling_done : (k : ℕ) (list : List Batch) → filling k [] list ≡ list
filling_done k list = rw (add-zero k) (take-append-drop k list)

-- The list that is filled, `list` as it is: k batches of it stored, the next from place f on, at most u to come.
pub record Filling (t places : List ℕ) (ys list : List Batch) (k f : ℕ) : Type 0 where
  pub u : ℕ
  pub len : length list ≡ length ys
  pub behind : k ≤ f
  pub upto : f ≤ length places
  pub enough : length places ≤ f + u
  pub fills : filling k (batches_from u t places f) list ≡ filled_with (batches_in t places) ys
  pub counts : k + length (batches_from u t places f) ≡ length (batches_in t places)

module _ (t places : List ℕ) (ys : List Batch) where
  starts_filled : filling 0 (batches_from (length places) t places 0) ys ≡ filled_with (batches_in t places) ys
  unfolding batches_in filled_with
  starts_filled = let e : 0 + length (batches_from (length places) t places 0) ≡ length (batches_from (length places) t places 0) = omega arith in rw e

  starts_counted : 0 + length (batches_from (length places) t places 0) ≡ length (batches_in t places)
  unfolding batches_in
  starts_counted = omega arith

  pub fill_starts : Filling t places ys ys 0 0
  fill_starts = record {
    u = length places;
    len = refl;
    behind = omega arith;
    upto = omega arith;
    enough = omega arith;
    fills = starts_filled;
    counts = starts_counted;
  }

module _ {t places : List ℕ} {ys list : List Batch} {k f : ℕ} (s : Filling t places ys list k f) where
  pub fill_within : length places ≤ length ys → f < length places → k < length list
  fill_within room less = omega (arith, s.behind, less, room, s.len)

  -- a turn that stores the batch b
  module _ {b : Batch} (e : b ≡ batch_at t places f) (less : f < length places) where
    pub fill_upto : f + b.count ≤ length places
    fill_upto = omega (arith, ap (λ (c : Batch). c.count) e, batch_ends t places f less)

    pub fill_falls : length places - (f + b.count) < length places - f
    fill_falls = omega (arith, ap (λ (c : Batch). c.count) e, batch_counts t places f, less)

    next_fills : k < length list → filling (k + 1) (batches_from (s.u - 1) t places (f + b.count)) (set list k b) ≡ filled_with (batches_in t places) ys
    next_fills room =
        let with-batch : Batch → List Batch = λ (c : Batch). filling (k + 1) (batches_from (s.u - 1) t places (f + c.count)) (set list k c) in
        subst (λ (c : Batch). with-batch c ≡ filled_with (batches_in t places) ys) (sym e)
        (filling_next k (batch_at t places f) (batches_from (s.u - 1) t places (f + (batch_at t places f).count)) list room
        ∙ ap (λ (rest : List Batch). filling k rest list) (sym (batches_next t places f s.u less s.enough)) ∙ s.fills)

    next_counts : k + 1 + length (batches_from (s.u - 1) t places (f + b.count)) ≡ length (batches_in t places)
    next_counts =
        let n = ap length (batches_next t places f s.u less s.enough) in
        let m = ap (λ (c : Batch). length (batches_from (s.u - 1) t places (f + c.count))) e in
        omega (arith, n, m, s.counts)

    pub fill_turn : length places ≤ length ys → Filling t places ys (set list k b) (k + 1) (f + b.count)
    fill_turn room = record {
      u = s.u - 1;
      len = length-set list k b ∙ s.len;
      behind = omega (arith, s.behind, ap (λ (c : Batch). c.count) e, batch_counts t places f);
      upto = fill_upto;
      enough = omega (arith, s.enough, ap (λ (c : Batch). c.count) e, batch_counts t places f, less);
      fills = next_fills (fill_within room less);
      counts = next_counts;
    }

  pub fill_ends : length places ≤ f → (list ≡ filled_with (batches_in t places) ys) × ((k ≡ length (batches_in t places)) × (k ≤ length places))
  fill_ends over =
      let none = batches_end t places f s.u over in
      let as-stored = ap (λ (rest : List Batch). filling k rest list) (sym none) in
      let number = ap length none in
      (sym (filling_done k list) ∙ as-stored ∙ s.fills, (omega (arith, number, s.counts), omega (arith, s.behind, s.upto)))

-- the batches are at the front of a list that was filled with them
pub front_filled : (bs start : List Batch) {list : List Batch} {n : ℕ} → list ≡ filled_with bs start → n ≡ length bs → take n list ≡ bs
unfolding filled_with
front_filled bs start {list} {n} e l = rw e (take_at bs (drop (length bs) start) n (sym l))
