-- A peer's records that are no transactions, gathered as pairs.
use Prim.Native.Nat.{ℕ, suc, ◌+◌, ◌*◌, ◌≤◌, ◌<◌}
use mathlib.Core.Path.{◌≡◌, refl, sym, ap, ◌∙◌}
use mathlib.Core.Bool.{Bool, true, false, not, ◌&&◌}
use mathlib.Core.List.{List, [], ◌∷◌, map}
use native.Mathlib.Numerals.{add-one}
use native.Mathlib.Omega.{arith}
use lib.Dec.{eqb}
use lib.ListN.{length, take, drop, length-map, length-drop, drop_of_length-le}
use lib.Seq.{drop-cons, length-take-le}
use Rattle.fields.specs.Number.{from_be, to_be}
use Rattle.fields.specs.Overwrite.{overwritten}
use Rattle.fields.specs.Entries.{entries, entry, joined}
use Rattle.fields.specs.Filter.{cons_if, kept}
use Rattle.fields.proofs.AllLaws.{all_kept, all_drop, all_map}
use Rattle.fields.proofs.FilterLaws.{length_kept}
use Rattle.fields.proofs.MarkLaws.{kept_map}
use Rattle.fields.proofs.OverwriteLaws.{overwritten_nil, overwritten_next, length_overwritten}
use Rattle.fields.proofs.EntriesLaws.{Wide, length_entries, length_entry, entries_at, entries_wide, entry_front, length_joined}
use Rattle.model.specs.Protocol.{is_transaction}
use Rattle.model.specs.Delivery.{Request, orphans_of}
use Rattle.model.specs.Image.{request_of}
use Rattle.model.specs.Calls.{pair_bytes}
use Rattle.model.proofs.ListLaws.{length_pair}
use Rattle.commands.specs.Pending.{requests_in}
use Rattle.commands.proofs.RecordedLaws.{peer_read, type_read}
use Rattle.delivery.proofs.HeldLaws.{length_filtered}
use Rattle.delivery.specs.Orphans.{is_orphan, pair_in}
use Rattle.model.specs.Layout.{id_size, pair_size, record_size, type_size}

map_map {ℓ κ ν} : {A : Type ℓ} {B : Type κ} {C : Type ν} (g : B → C) (f : A → B) (xs : List A) → map g (map f xs) ≡ map (λ (x : A). g (f x)) xs
map_map g f [] = refl
map_map g f (x ∷ xs) = ap (λ ys. g (f x) ∷ ys) (map_map g f xs)

-- ---- a record's fields in the table

module _ (i : ℕ) (table : List ℕ) where
  id_at : (request_of (entry record_size i table)).id ≡ take id_size (drop (i * record_size) table)
  unfolding request_of
  id_at = entry_front record_size i 32 table (omega arith)

  -- ---- whose it is

  pub orphan_test : (asked type_id peer : ℕ) → asked ≡ from_be (take 8 (drop (i * record_size + id_size) table))
      → type_id ≡ from_be (take 2 (drop (i * record_size + 40) table))
      → eqb asked peer && not (eqb type_id 2) ≡ is_orphan peer (entry record_size i table)
  unfolding is_orphan is_transaction
  orphan_test asked type_id peer a b = rw (a ∙ peer_read i table, b ∙ type_read i table)

  -- ---- its pair

  pub pair_put : (to : ℕ) (pairs : List ℕ) {typeid : ℕ} {new typed : List ℕ} → i * record_size + record_size ≤ length table
      → to * pair_size + pair_size ≤ length pairs
      → typeid ≡ from_be (take 2 (drop (i * record_size + 40) table))
      → typed ≡ overwritten (to * pair_size) (to_be type_size typeid) pairs
      → new ≡ overwritten (to * pair_size + type_size) (take id_size (drop (i * record_size) table)) typed
      → new ≡ overwritten (to * pair_size) (pair_in (entry record_size i table)) pairs
  unfolding pair_in
  pair_put to pairs {typeid} h l e w q =
      let id : List ℕ = take id_size (drop (i * record_size) table) in
      let n : length id ≡ id_size = length-take-le 32 (drop (i * record_size) table) (rw (length-drop (i * record_size) table) (omega arith)) in
      let t : typeid ≡ (request_of (entry record_size i table)).type_id = e ∙ type_read i table in
      q ∙ rw (w, t, id_at) (overwritten_next (to * pair_size) (to_be type_size (request_of (entry record_size i table)).type_id) id pairs (omega arith))

-- ---- orphans gathered

length_pair_in : (e : List ℕ) → length e ≡ record_size → length (pair_in e) ≡ pair_size
unfolding pair_in request_of
length_pair_in e l = length_pair (request_of e).type_id (take id_size e) (length-take-le 32 e (omega arith))

-- the peer's records from i on that are no transactions
abbrev orphans_from : ℕ → ℕ → List ℕ → ℕ → List (List ℕ)
orphans_from peer count table i = kept (is_orphan peer) (drop i (entries record_size count table))

-- The pass at record i: `found` pairs are written.
pub record Gathering (peer count : ℕ) (table pairs₀ pairs : List ℕ) (found i : ℕ) : Type 0 where
  pub found_le : found ≤ i
  pub long : length pairs ≡ length pairs₀
  pub number : found + length (orphans_from peer count table i) ≡ length (orphans_from peer count table 0)
  pub written : overwritten (found * pair_size) (joined (map pair_in (orphans_from peer count table i))) pairs
      ≡ overwritten 0 (joined (map pair_in (orphans_from peer count table 0))) pairs₀

module _ {peer count : ℕ} {table pairs₀ pairs : List ℕ} {found i : ℕ} (s : Gathering peer count table pairs₀ pairs found i) (h : i < count) where
  abbrev one : List ℕ
  one = entry record_size i table

  abbrev rest : List (List ℕ)
  rest = orphans_from peer count table (i + 1)

  next : orphans_from peer count table i ≡ cons_if (is_orphan peer one) one rest
  next =
      let l : i < length (entries record_size count table) = rw (length_entries record_size count table) h in
      rw (add-one, drop-cons (entries record_size count table) i [] l, entries_at record_size count i table h)

  pub passes : {answer : Bool} → answer ≡ is_orphan peer one → answer ≡ false → {pairs' : List ℕ} {found' : ℕ} → pairs' ≡ pairs → found' ≡ found
      → Gathering peer count table pairs₀ pairs' found' (i + 1)
  passes a b e f =
      let no : is_orphan peer one ≡ false = sym a ∙ b in
      rw (e, f) (record {
        found_le = omega (arith, s.found_le);
        long = s.long;
        number = rw (next, no) at s.number;
        written = rw (next, no) at s.written;
      })

  module _ (n : count * record_size ≤ length table) (m : count * pair_size ≤ length pairs₀) where
    length_rest : length (joined (map pair_in rest)) ≡ length rest * pair_size
    length_rest =
        let wide-entries = entries_wide record_size count table n in
        let behind = all_drop (λ (e : List ℕ). length e ≡ record_size) (i + 1) (entries record_size count table) wide-entries in
        let es : List (List ℕ) = drop (i + 1) (entries record_size count table) in
        let w : Wide record_size rest = all_kept (λ (e : List ℕ). length e ≡ record_size) (is_orphan peer) es behind in
        let pairs_wide = all_map (λ (e : List ℕ). length e ≡ record_size) (λ (e : List ℕ). length e ≡ pair_size) pair_in length_pair_in rest w in
        length_joined pair_size (map pair_in rest) pairs_wide ∙ rw (length-map rest pair_in)

    pub takes : {answer : Bool} → answer ≡ is_orphan peer one → answer ≡ true → {pairs' : List ℕ} {found' : ℕ}
        → pairs' ≡ overwritten (found * pair_size) (pair_in one) pairs → found' ≡ found + 1 → Gathering peer count table pairs₀ pairs' found' (i + 1)
    takes a b e f =
        let yes : is_orphan peer one ≡ true = sym a ∙ b in
        let lo : length one ≡ record_size = length_entry record_size i table (omega arith) in
        let lp : length (pair_in one) ≡ pair_size = length_pair_in one lo in
        let lr : length (joined (map pair_in rest)) ≡ length rest * pair_size = length_rest in
        let le : length pairs ≡ length pairs₀ = s.long in
        let nu : found + suc (length rest) ≡ length (orphans_from peer count table 0) = rw (next, yes) at s.number in
        let most : length (orphans_from peer count table 0) ≤ count =
        rw (length_entries record_size count table) at (length_kept (is_orphan peer) (entries record_size count table)) in
        let at : (found + 1) * pair_size ≡ found * pair_size + length (pair_in one) = omega arith in
        rw (e, f) (record {
          found_le = omega (arith, s.found_le);
          long = length_overwritten (found * pair_size) (pair_in one) pairs (omega arith) ∙ le;
          number = omega arith;
          written = rw at (overwritten_next (found * pair_size) (pair_in one) (joined (map pair_in rest)) pairs (omega arith)) ∙ rw (next, yes) at s.written;
        })

-- ---- as requests

module _ (peer count : ℕ) (table : List ℕ) where
  abbrev pair : Request → List ℕ
  pair r = pair_bytes r.type_id r.id

  pairs_of_orphans : map pair_in (orphans_from peer count table 0)
      ≡ map (λ (r : Request). pair_bytes r.type_id r.id) (orphans_of peer (requests_in count table))
  unfolding orphans_of is_orphan pair_in
  pairs_of_orphans =
      let test : Request → Bool = λ (r : Request). eqb r.peer peer && not (is_transaction r.type_id) in
      let es : List (List ℕ) = kept (λ (e : List ℕ). test (request_of e)) (entries record_size count table) in
      sym (ap (map pair) (kept_map request_of test (entries record_size count table)) ∙ map_map pair request_of es)

  number_of_orphans : length (orphans_from peer count table 0) ≡ length (orphans_of peer (requests_in count table))
  unfolding orphans_of is_orphan
  number_of_orphans = length_filtered count table (λ (r : Request). eqb r.peer peer && not (is_transaction r.type_id))

pub gathered : {peer count : ℕ} {table pairs₀ pairs : List ℕ} {found i : ℕ} → Gathering peer count table pairs₀ pairs found i → count ≤ i
    → (found ≡ length (orphans_of peer (requests_in count table)))
    × (pairs ≡ overwritten 0 (joined (map (λ (r : Request). pair_bytes r.type_id r.id) (orphans_of peer (requests_in count table)))) pairs₀)
gathered {peer} {count} {table} {pairs₀} {pairs} {found} {i} s h =
    let all : List (List ℕ) = orphans_from peer count table 0 in
    let past : length (entries record_size count table) ≤ i = rw (length_entries record_size count table) h in
    let k : drop i (entries record_size count table) ≡ [] = drop_of_length-le (entries record_size count table) {i = i} past in
    let n : found + length (kept (is_orphan peer) []) ≡ length all = rw k at s.number in
    let n' : found ≡ length all = omega arith in
    let w : overwritten (found * pair_size) [] pairs ≡ overwritten 0 (joined (map pair_in all)) pairs₀ = rw k at s.written in
    let as-pairs = ap (λ (ps : List (List ℕ)). overwritten 0 (joined ps) pairs₀) (pairs_of_orphans peer count table) in
    (n' ∙ number_of_orphans peer count table, sym (overwritten_nil (found * pair_size) pairs) ∙ w ∙ as-pairs)
