-- The records at some places, as items: what is read of them, and where a batch ends.
use Prim.Native.Nat.{ℕ, suc, ◌+◌, ◌-◌, ◌*◌, ◌≤◌, ◌<◌}
use mathlib.Core.Path.{◌≡◌, ◌∙◌}
use mathlib.Core.Bool.{Bool, true, false, cond, ◌&&◌}
use mathlib.Core.List.{List, [], ◌∷◌}
use native.Mathlib.Omega.{arith}
use lib.Dec.{eqb}
use lib.ListN.{length, take, drop, get_or}
use Rattle.fields.specs.Facts.{All}
use Rattle.fields.specs.Number.{from_be}
use Rattle.model.specs.Sections.{Item}
use Rattle.commands.specs.Pending.{Stands}
use Rattle.commands.proofs.RecordedLaws.{peer_read, type_read}
use Rattle.retries.specs.Items.{item_of, item_at, items_at, alike, span}
use Rattle.retries.specs.Batches.{batch_at}
use Rattle.model.specs.Layout.{id_size, record_size}

-- ---- what is read

module _ (t : List ℕ) where
  pub item_type : (place : ℕ) → from_be (take 2 (drop (place * record_size + 40) t)) ≡ (item_at t place).type_id
  unfolding item_at item_of
  item_type place = type_read place t

  pub item_peer : (place : ℕ) → from_be (take 8 (drop (place * record_size + id_size) t)) ≡ (item_at t place).peer
  unfolding item_at item_of
  item_peer place = peer_read place t

  pub same_batch_lem : (p q : ℕ) {p' q' a b c d : ℕ} → p' ≡ p → q' ≡ q
      → a ≡ from_be (take 2 (drop (p' * record_size + 40) t)) → b ≡ from_be (take 2 (drop (q' * record_size + 40) t))
      → c ≡ from_be (take 8 (drop (p' * record_size + id_size) t)) → d ≡ from_be (take 8 (drop (q' * record_size + id_size) t))
      → eqb a b && eqb c d ≡ alike (item_at t p) (item_at t q)
  unfolding alike
  same_batch_lem p q {p'} {q'} {a} {b} {c} {d} ep eq ea eb ec ed =
      let fa : a ≡ (item_at t p).type_id = ea ∙ rw ep (item_type p) in
      let fb : b ≡ (item_at t q).type_id = eb ∙ rw eq (item_type q) in
      let fc : c ≡ (item_at t p).peer = ec ∙ rw ep (item_peer p) in
      let fd : d ≡ (item_at t q).peer = ed ∙ rw eq (item_peer q) in
      rw (fa, fb, fc, fd)

-- ---- where a batch ends

pub span_le : (test : Item → Bool) (items : List Item) → span test items ≤ length items
span_le test [] = omega arith
span_le test (i ∷ items) = go (test i) (span_le test items)
  where
    go : (t : Bool) → span test items ≤ length items → cond t (suc (span test items)) 0 ≤ suc (length items)
    go true h = omega arith
    go false h = omega arith

-- how many items from place j on are alike to that at `first`, one after another
abbrev pub alike_from : List ℕ → List ℕ → ℕ → ℕ → ℕ
alike_from t places first j = span (alike (item_at t (get_or places first 0))) (items_at t (drop j places))

-- ---- one batch by value

-- The place at which a batch starts, and what the places ask of the table.
pub record First (t places : List ℕ) (first : ℕ) : Type 0 where
  pub asked : All (Stands t) places
  pub inside : first < length places

module _ {t places : List ℕ} {first : ℕ} (s : First t places first) where
  module _ {place : ℕ} (e : place ≡ get_or places first 0) where
    pub batch_as : {target typeid end : ℕ} → target ≡ from_be (take 8 (drop (place * record_size + id_size) t))
        → typeid ≡ from_be (take 2 (drop (place * record_size + 40) t)) → end ≡ first + suc (alike_from t places first (first + 1))
        → record { target = target; typeid = typeid; first = first; count = end - first } ≡ batch_at t places first
    unfolding batch_at
    batch_as {target} {typeid} {end} a b c =
        let to : target ≡ (item_at t (get_or places first 0)).peer = a ∙ rw e (item_peer t (get_or places first 0)) in
        let kind : typeid ≡ (item_at t (get_or places first 0)).type_id = b ∙ rw e (item_type t (get_or places first 0)) in
        let number : end - first ≡ suc (alike_from t places first (first + 1)) = omega arith in
        rw (to, kind, number)
