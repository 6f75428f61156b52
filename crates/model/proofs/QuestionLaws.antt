-- The question's answer: at most 1,024 pairs, strictly rising, so that they can be handed in as a stored list.
use Prim.Native.Nat.{ℕ, suc, ◌*◌, ◌/◌, ◌%◌, ◌≤◌}
use mathlib.Core.Path.{◌≡◌, refl, ap}
use mathlib.Core.Bool.{Bool, true, false, not, cond, ◌&&◌}
use mathlib.Core.List.{List, [], ◌∷◌, map, append-nil}
use lib.ListN.{length, length-map}
use lib.Seq.{take_all}
use lib.Dec.{eqb}
use native.Mathlib.Omega.{arith}
use borrow.Author.Tests.{eq-eqb, le-leb}
use Rattle.fields.specs.Facts.{All}
use Rattle.fields.specs.Order.{before, same}
use Rattle.fields.specs.Entries.{entries, joined, rising}
use Rattle.fields.proofs.AllLaws.{all_map, all_kept, all_weaker, either}
use Rattle.fields.proofs.FilterLaws.{length_kept}
use Rattle.fields.proofs.EntriesLaws.{Wide, length_joined, entries_joined}
use Rattle.fields.proofs.OrderLaws.{before_transitive, before_or_same}
use Rattle.model.specs.Protocol.{header_type, is_transaction, tracked_limit}
use Rattle.model.specs.Delivery.{Request, orphans_of}
use Rattle.model.specs.State.{State, has_sync_peer}
use Rattle.model.specs.Lists.{list_fits, pairs_fit}
use Rattle.model.specs.Calls.{pair_bytes, inserted_once, strictly_rising, question_pairs}
use Rattle.model.proofs.Well.{Well, WellId, WellRequest, RisingIds}
use Rattle.model.specs.Layout.{pair_size}
use Rattle.model.proofs.ListLaws.{length_pair}

-- ---- each pair once, in order

module _ (P : List ℕ → Type 0) where
  all_inserted_once : (x : List ℕ) (xs : List (List ℕ)) → P x → All P xs → All P (inserted_once x xs)
  all_inserted_once x [] p ps = (p, tt)
  all_inserted_once x (y ∷ ys) p ps = go (before y x) (same y x) (all_inserted_once x ys p ps.1)
    where
      go : (t u : Bool) → All P (inserted_once x ys) → All P (cond t (y ∷ inserted_once x ys) (cond u (y ∷ ys) (x ∷ (y ∷ ys))))
      go true u q = (ps.0, q)
      go false true q = ps
      go false false q = (p, ps)

  all_strictly : (xs : List (List ℕ)) → All P xs → All P (strictly_rising xs)
  all_strictly [] p = tt
  all_strictly (x ∷ xs) p = all_inserted_once x (strictly_rising xs) p.0 (all_strictly xs p.1)

inserted-once-few : (x : List ℕ) (xs : List (List ℕ)) → length (inserted_once x xs) ≤ suc (length xs)
inserted-once-few x [] = omega arith
inserted-once-few x (y ∷ ys) = go (before y x) (same y x) (inserted-once-few x ys)
  where
    go : (t u : Bool) → length (inserted_once x ys) ≤ suc (length ys) → length (cond t (y ∷ inserted_once x ys) (cond u (y ∷ ys) (x ∷ (y ∷ ys)))) ≤ suc (suc (length ys))
    go true u h = omega arith
    go false true h = omega arith
    go false false h = omega arith

strictly_few : (xs : List (List ℕ)) → length (strictly_rising xs) ≤ length xs
strictly_few [] = omega arith
strictly_few (x ∷ xs) = let a = inserted-once-few x (strictly_rising xs) in let b = strictly_few xs in omega arith

inserted-once-rises : (x : List ℕ) (xs : List (List ℕ)) → RisingIds xs → RisingIds (inserted_once x xs)
inserted-once-rises x [] h = (tt, tt)
inserted-once-rises x (y ∷ ys) h = go (before y x) (same y x) refl refl (inserted-once-rises x ys h.1)
  where
    go : (t u : Bool) → before y x ≡ t → same y x ≡ u → RisingIds (inserted_once x ys) → RisingIds (cond t (y ∷ inserted_once x ys) (cond u (y ∷ ys) (x ∷ (y ∷ ys))))
    go true u e f q = (all_inserted_once (λ (z : List ℕ). before y z ≡ true) x ys e h.0, q)
    go false true e f q = h
    go false false e f q =
        let first : before x y ≡ true = before_or_same y x e f in
        ((first, all_weaker (λ (z : List ℕ). before y z ≡ true) (λ (z : List ℕ). before x z ≡ true) (λ z p. before_transitive x y z first p) ys h.0), h)

pub strictly_rises : (xs : List (List ℕ)) → RisingIds (strictly_rising xs)
strictly_rises [] = tt
strictly_rises (x ∷ xs) = inserted-once-rises x (strictly_rising xs) (strictly_rises xs)

-- whole entries that rise, as the test for tables has it
pub rising_whole : (width : ℕ) (es : List (List ℕ)) → Wide width es → RisingIds es → rising width es ≡ true
unfolding rising
rising_whole width [] w h = refl
rising_whole width (e ∷ []) w h = refl
rising_whole width (e ∷ (f ∷ es)) w h =
    rw (take_all width e (omega (arith, w.0)), take_all width f (omega (arith, w.1.0)), h.0.0, rising_whole width (f ∷ es) w.1 h.1)

-- ---- the pairs of a state

abbrev PairLong : List ℕ → Type 0
PairLong e = length e ≡ pair_size

pub record Answerable (pairs : List (List ℕ)) : Type 0 where
  pub long : All PairLong pairs
  pub few : length pairs ≤ tracked_limit

strictly_answerable : (pairs : List (List ℕ)) → Answerable pairs → Answerable (strictly_rising pairs)
strictly_answerable pairs w = let f = strictly_few pairs in let g = w.few in record { long = all_strictly PairLong pairs w.long; few = omega arith }

pub question_answerable : (st : State) (flag : ℕ) → Well st → Answerable (question_pairs st flag)
unfolding question_pairs orphans_of
question_answerable st flag well =
    either Answerable (has_sync_peer st.mode) (strictly_rising (cond (eqb flag 0) evicted orphans)) []
    (strictly_answerable (cond (eqb flag 0) evicted orphans) (either Answerable (eqb flag 0) evicted orphans evicted_fit orphans_fit)) (record { long = tt; few = omega arith })
  where
    test : Request → Bool
    test = λ (r : Request). eqb r.peer st.sync.sync_peer && not (is_transaction r.type_id)

    pair : Request → List ℕ
    pair = λ (r : Request). pair_bytes r.type_id r.id

    evicted : List (List ℕ)
    evicted = map (pair_bytes header_type) st.sync.evicted

    orphans : List (List ℕ)
    orphans = map pair (orphans_of st.sync.sync_peer st.pending)

    evicted_fit : Answerable evicted
    evicted_fit =
        let t = well.tracked in
        record {
          long = all_map WellId PairLong (pair_bytes header_type) (λ id w. length_pair header_type id w.long) st.sync.evicted well.sync.evicted;
          few = rw (length-map st.sync.evicted (pair_bytes header_type)) (omega arith);
        }

    orphans_fit : Answerable orphans
    orphans_fit =
        let t = well.tracked in
        let k : length (orphans_of st.sync.sync_peer st.pending) ≤ length st.pending = length_kept test st.pending in
        let w = all_kept (WellRequest st.settings st.last_clock) test st.pending well.requests in
        record {
          long = all_map (WellRequest st.settings st.last_clock) PairLong pair (λ r w. length_pair r.type_id r.id w.id.long) (orphans_of st.sync.sync_peer st.pending) w;
          few = rw (length-map (orphans_of st.sync.sync_peer st.pending) pair) (omega arith);
        }

question_rises : (st : State) (flag : ℕ) → RisingIds (question_pairs st flag)
unfolding question_pairs
question_rises st flag = go (has_sync_peer st.mode) (cond (eqb flag 0) (map (pair_bytes header_type) st.sync.evicted) (map (λ (r : Request). pair_bytes r.type_id r.id) (orphans_of st.sync.sync_peer st.pending)))
  where
    go : (t : Bool) (pairs : List (List ℕ)) → RisingIds (cond t (strictly_rising pairs) [])
    go true pairs = strictly_rises pairs
    go false pairs = tt

wide : (pairs : List (List ℕ)) → All PairLong pairs → Wide pair_size pairs
wide [] h = tt
wide (e ∷ es) h = (h.0, wide es h.1)

-- They take at most 34,816 bytes.
pub question_bytes_most : (st : State) (flag : ℕ) → Well st → length (joined (question_pairs st flag)) ≤ tracked_limit * pair_size
question_bytes_most st flag well =
    let w : Answerable (question_pairs st flag) = question_answerable st flag well in
    let f = w.few in
    rw (length_joined pair_size (question_pairs st flag) (wide (question_pairs st flag) w.long)) (omega arith)

-- What the question answers can be handed in as a stored list.
pub question_pairs_fit : (st : State) (flag : ℕ) → Well st → pairs_fit (joined (question_pairs st flag)) ≡ true
unfolding pairs_fit list_fits
question_pairs_fit st flag well =
    let pairs = question_pairs st flag in
    let w : Wide pair_size pairs = wide pairs (question_answerable st flag well).long in
    let most : length (joined pairs) ≤ tracked_limit * pair_size = question_bytes_most st flag well in
    let l : length (joined pairs) ≡ length pairs * pair_size = length_joined pair_size pairs w in
    let whole : length (joined pairs) % pair_size ≡ 0 = omega arith in
    let count : length (joined pairs) / pair_size ≡ length pairs = omega arith in
    let e : entries pair_size (length pairs) (joined pairs) ≡ pairs = rw append-nil at (entries_joined pair_size pairs [] w) in
    rw (eq-eqb (length (joined pairs) % pair_size) 0 whole, le-leb (length (joined pairs)) (tracked_limit * pair_size) most, count, e, rising_whole pair_size pairs w (question_rises st flag))
