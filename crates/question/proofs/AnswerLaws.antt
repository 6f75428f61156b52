-- Pairs gathered and read back: evicted ids as headers, a peer's pending ids.
use Prim.Native.Nat.{ℕ, suc, ◌+◌, ◌-◌, ◌*◌, ◌/◌, ◌≤◌, ◌<◌}
use mathlib.Core.Path.{◌≡◌, sym, ap, ◌∙◌}
use mathlib.Core.Bool.{Bool, not, ◌&&◌}
use mathlib.Core.List.{List, [], ◌∷◌, map, append-nil}
use native.Mathlib.Omega.{arith}
use native.Mathlib.Numerals.{add-one}
use lib.Dec.{eqb}
use lib.ListN.{length, take, drop, length-map, length-drop, drop_of_length-le}
use lib.Seq.{drop-cons, length-take-le}
use Rattle.fields.specs.Facts.{All}
use Rattle.fields.specs.Number.{to_be}
use Rattle.fields.specs.Entries.{entries, entry, joined}
use Rattle.fields.specs.Overwrite.{overwritten}
use Rattle.fields.proofs.AllLaws.{all_map, all_kept, all_drop}
use Rattle.fields.proofs.FilterLaws.{length_kept}
use Rattle.fields.proofs.OverwriteLaws.{overwritten_nil, overwritten_next, length_overwritten, front_read_back}
use Rattle.fields.proofs.EntriesLaws.{Wide, length_entries, length_entry, entries_at, entries_wide, length_joined, entries_joined}
use Rattle.model.specs.Protocol.{header_type, is_transaction, tracked_limit}
use Rattle.model.specs.Delivery.{Request, orphans_of}
use Rattle.model.specs.Image.{request_of}
use Rattle.model.specs.Lists.{entries_of}
use Rattle.model.specs.Calls.{pair_bytes}
use Rattle.model.proofs.ListLaws.{length_pair}
use Rattle.commands.specs.Pending.{requests_in}
use Rattle.model.specs.Layout.{id_size, pair_list_size, pair_size, record_size, type_size}

-- an id as a header's pair
abbrev pub header : List ℕ → List ℕ
header = pair_bytes header_type

-- ---- one evicted id

pub header_put : (ids : List ℕ) (i : ℕ) (pairs : List ℕ) {x y : List ℕ} → i * id_size + id_size ≤ length ids → i * pair_size + pair_size ≤ length pairs
    → x ≡ overwritten (i * pair_size) (to_be type_size header_type) pairs → y ≡ overwritten (i * pair_size + type_size) (take (i * id_size + id_size - i * id_size) (drop (i * id_size) ids)) x
    → y ≡ overwritten (i * pair_size) (header (entry id_size i ids)) pairs
unfolding entry
header_put ids i pairs {x = x} h l p q =
    let id : List ℕ = take id_size (drop (i * id_size) ids) in
    let k : i * id_size + id_size - i * id_size ≡ id_size = omega arith in
    let n : length id ≡ id_size = length-take-le 32 (drop (i * id_size) ids) (rw (length-drop (i * id_size) ids) (omega arith)) in
    q ∙ rw (p, k) (overwritten_next (i * pair_size) (to_be type_size header_type) id pairs (omega arith))

-- ---- all of them

pub headers_wide : (es : List (List ℕ)) → Wide id_size es → Wide pair_size (map header es)
headers_wide es w = all_map (λ (e : List ℕ). length e ≡ id_size) (λ (e : List ℕ). length e ≡ pair_size) header (λ e l. length_pair header_type e l) es w

-- The pass at id i: what is written, then the rest, is the whole.
pub record Heading (ids d pairs : List ℕ) (i : ℕ) : Type 0 where
  pub i_le : i ≤ length ids / id_size
  pub long : length pairs ≡ length d
  pub rest : overwritten (i * pair_size) (joined (map header (drop i (entries_of id_size ids)))) pairs
      ≡ overwritten 0 (joined (map header (entries_of id_size ids))) d

module _ {ids d pairs : List ℕ} {i : ℕ} (s : Heading ids d pairs i) where
  pub heading_next : i < length ids / id_size → length ids / id_size * pair_size ≤ length d → {o : List ℕ}
      → o ≡ overwritten (i * pair_size) (header (entry id_size i ids)) pairs → Heading ids d o (i + 1)
  heading_next h room eo =
      let count : ℕ = length ids / id_size in
      let es : List (List ℕ) = entries_of id_size ids in
      let le : length es ≡ count = length_entries id_size count ids in
      let one : List ℕ = header (entry id_size i ids) in
      let ds : List (List ℕ) = drop (i + 1) es in
      let T : List ℕ = joined (map header ds) in
      let w : Wide id_size ds = all_drop (λ (e : List ℕ). length e ≡ id_size) (i + 1) es (entries_wide 32 count ids (omega arith)) in
      let n : drop i es ≡ entry id_size i ids ∷ ds = rw (add-one, ← entries_at 32 count i ids h) (drop-cons es i [] (omega arith)) in
      let lo : length one ≡ pair_size = length_pair header_type (entry id_size i ids) (length_entry id_size i ids (omega arith)) in
      let ld : length ds ≡ count - (i + 1) = length-drop (i + 1) es ∙ rw le in
      let l_t : length T ≡ length ds * pair_size = length_joined pair_size (map header ds) (headers_wide ds w) ∙ rw (length-map ds header) in
      let at : (i + 1) * pair_size ≡ i * pair_size + length one = omega arith in
      record {
        i_le = omega arith;
        long = rw eo (length_overwritten (i * pair_size) one pairs (omega (arith, s.long))) ∙ s.long;
        rest = rw (at, eo) (overwritten_next (i * pair_size) one T pairs (omega (arith, s.long)) ∙ rw n at s.rest);
      }

  pub heading_ends : length ids / id_size ≤ i → pairs ≡ overwritten 0 (joined (map header (entries_of id_size ids))) d
  heading_ends h =
      let es : List (List ℕ) = entries_of id_size ids in
      let z : drop i es ≡ [] = drop_of_length-le es {i = i} (rw (length_entries id_size (length ids / id_size) ids) h) in
      let a : overwritten (i * pair_size) [] pairs ≡ overwritten 0 (joined (map header es)) d = rw z at s.rest in
      sym (overwritten_nil (i * pair_size) pairs) ∙ a

-- ---- pairs read back from the front of their room

pub pairs_back : (es : List (List ℕ)) (n : ℕ) (d pairs : List ℕ) → Wide pair_size es → n ≡ length es → pairs ≡ overwritten 0 (joined es) d
    → entries_of pair_size (take (n * pair_size) pairs) ≡ es
pairs_back es n d pairs w e f =
    let l : length (joined es) ≡ length es * pair_size = length_joined pair_size es w in
    let k : n * pair_size ≡ length (joined es) = rw (l, e) in
    let b : take (n * pair_size) pairs ≡ joined es = rw (k, f) (front_read_back (joined es) d) in
    let m : length (joined es) / pair_size ≡ length es = omega arith in
    rw (b, m) (rw append-nil at (entries_joined pair_size es [] w))

-- n pairs at the front of a room of 1,024
module _ {n : ℕ} (room : List ℕ) (few : n ≤ tracked_limit) (size : length room ≡ pair_list_size) where
  abbrev front : List ℕ
  front = take (n * pair_size) room

  pub front_long : length front ≡ n * pair_size
  front_long = length-take-le (n * pair_size) room (omega arith)

-- ---- the peer's pending ids

-- a request's type and id as a pair
abbrev pub pair_of : Request → List ℕ
pair_of r = pair_bytes r.type_id r.id

abbrev LongId : Request → Type 0
LongId r = length r.id ≡ id_size

module _ (peer count : ℕ) (table : List ℕ) where
  -- what makes a request the peer's orphan
  abbrev orphan : Request → Bool
  orphan r = eqb r.peer peer && not (is_transaction r.type_id)

  pub orphans_few : length (orphans_of peer (requests_in count table)) ≤ count
  unfolding orphans_of
  orphans_few =
      let k = length_kept orphan (requests_in count table) in
      let l : length (requests_in count table) ≡ count = length-map (entries record_size count table) request_of ∙ length_entries record_size count table in
      omega arith

  pub orphans_wide : count * record_size ≤ length table → Wide pair_size (map pair_of (orphans_of peer (requests_in count table)))
  unfolding orphans_of request_of
  orphans_wide h =
      let wide : Wide record_size (entries record_size count table) = entries_wide record_size count table h in
      let long : All LongId (requests_in count table) =
      all_map (λ (e : List ℕ). length e ≡ record_size) LongId request_of (λ e l. length-take-le 32 e (omega arith)) (entries record_size count table) wide in
      all_map LongId (λ (e : List ℕ). length e ≡ pair_size) pair_of (λ r l. length_pair r.type_id r.id l) (orphans_of peer (requests_in count table))
      (all_kept LongId orphan (requests_in count table) long)
