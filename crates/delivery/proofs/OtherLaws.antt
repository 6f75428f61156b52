-- Marks for the records of other peers, and the table that they leave.
use Prim.Native.Nat.{ℕ, zero, suc, ◌+◌, ◌-◌, ◌*◌, ◌≤◌, ◌<◌}
use mathlib.Core.Path.{◌≡◌, refl, sym, ap, ◌∙◌}
use mathlib.Core.Bool.{not, cond}
use mathlib.Core.List.{List, [], ◌∷◌, map}
use native.Mathlib.Nat.{not-suc-le-zero, le_of_suc-le-suc}
use native.Mathlib.Omega.{arith}
use lib.Dec.{eqb}
use lib.ListN.{length, take, drop, get_or, set, length-map}
use lib.Seq.{take_all}
use Rattle.fields.specs.Zero.{zeros}
use Rattle.fields.specs.Number.{from_be}
use Rattle.fields.specs.Overwrite.{overwritten}
use Rattle.fields.specs.Entries.{entries, entry, replaced}
use Rattle.fields.specs.Filter.{kept}
use Rattle.fields.proofs.ZeroLaws.{length_zeros}
use Rattle.fields.proofs.OverwriteLaws.{turn_up}
use Rattle.fields.proofs.EntriesLaws.{length_entries, entries_at, replaced_fewer}
use Rattle.model.specs.Delivery.{Request, purge_peer, purge_all}
use Rattle.commands.specs.Pending.{requests_in, holding}
use Rattle.commands.proofs.RecordedLaws.{peer_read}
use Rattle.delivery.proofs.HeldLaws.{Table, cut_down}
use Rattle.delivery.specs.Others.{of_other}
use Rattle.model.specs.Layout.{id_size, record_size}

get_d_map {ℓ κ} : {A : Type ℓ} {B : Type κ} (f : A → B) (xs : List A) (i : ℕ) (a : A) (b : B) → i < length xs → get_or (map f xs) i b ≡ f (get_or xs i a)
get_d_map f [] i a b h = absurd (not-suc-le-zero h)
get_d_map f (x ∷ xs) zero a b h = refl
get_d_map f (x ∷ xs) (suc i) a b h = get_d_map f xs i a b (le_of_suc-le-suc h)

-- ---- whose a record is

module _ (i : ℕ) (table : List ℕ) where
  pub other_test : (asked peer : ℕ) → asked ≡ from_be (take 8 (drop (i * record_size + id_size) table)) → not (eqb asked peer) ≡ of_other peer (entry record_size i table)
  unfolding of_other
  other_test asked peer a = rw (a ∙ peer_read i table)

-- ---- marks for the others, written one by one

abbrev others_marks : ℕ → ℕ → List ℕ → List ℕ
others_marks peer count table = map (λ (e : List ℕ). cond (of_other peer e) 1 0) (entries record_size count table)

length_others : (peer count : ℕ) (table : List ℕ) → length (others_marks peer count table) ≡ count
length_others peer count table = length-map (entries record_size count table) (λ (e : List ℕ). cond (of_other peer e) 1 0) ∙ length_entries record_size count table

-- The first i marks are written.
pub record Marking (peer count : ℕ) (table marks₀ marks : List ℕ) (i : ℕ) : Type 0 where
  pub written : marks ≡ overwritten 0 (take i (others_marks peer count table)) marks₀

module _ {peer count : ℕ} {table marks₀ marks : List ℕ} {i : ℕ} (s : Marking peer count table marks₀ marks i) where
  pub others_turn : i < count → count ≤ length marks₀ → {mark : ℕ} → mark ≡ cond (of_other peer (entry record_size i table)) 1 0
      → Marking peer count table marks₀ (set marks i mark) (i + 1)
  others_turn h l {mark} m =
      let f : List ℕ → ℕ = λ (e : List ℕ). cond (of_other peer e) 1 0 in
      let es : List (List ℕ) = entries record_size count table in
      let k : length es ≡ count = length_entries record_size count table in
      let n : length (map f es) ≡ count = length_others peer count table in
      let g : get_or (map f es) i 0 ≡ mark = get_d_map f es i [] 0 (omega arith) ∙ ap f (entries_at record_size count i table h) ∙ sym m in
      let z : 0 + i ≡ i = omega arith in
      record { written = rw (s.written, ← g) (rw z at (turn_up 0 i (map f es) marks₀ (omega arith) (omega arith))) }

  pub others_end : count ≤ i → marks ≡ overwritten 0 (others_marks peer count table) marks₀
  others_end h =
      let n : length (others_marks peer count table) ≡ count = length_others peer count table in
      s.written ∙ ap (λ (new : List ℕ). overwritten 0 new marks₀) (take_all i (others_marks peer count table) (omega arith))

-- ---- the table then

module _ {count : ℕ} {table : List ℕ} (t : Table count table) where
  pub purged : (peer : ℕ) {es : List (List ℕ)} {left : ℕ} {new : List ℕ} → es ≡ kept (of_other peer) (entries record_size count table)
      → (left ≡ length es) × (new ≡ replaced record_size count es table)
      → (left ≡ length (purge_peer peer (requests_in count table))) × (new ≡ holding count (purge_peer peer (requests_in count table)) table)
  unfolding of_other purge_peer
  purged peer e k = cut_down t (λ (r : Request). not (eqb r.peer peer)) e k

pub purged_all : (count : ℕ) (table : List ℕ) {new : List ℕ} → new ≡ overwritten 0 (zeros (count * record_size)) table
    → new ≡ holding count (purge_all (requests_in count table)) table
unfolding holding purge_all overwritten
purged_all count table e =
    let z : 0 + length (zeros (count * record_size)) ≡ count * record_size = rw (length_zeros (count * record_size)) (omega arith) in
    let k : count - 0 ≡ count = omega arith in
    e ∙ rw z (sym (replaced_fewer record_size count [] table (omega arith) ∙ rw k))
