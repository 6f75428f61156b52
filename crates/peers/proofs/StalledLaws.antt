-- The stalled set's places: the elements of an array from an index on, a search, one more of them, and their bytes.
use Rattle.std.proofs.Common.{ℕ, zero, suc, ◌+◌, ◌-◌, ◌*◌, ◌≤◌, ◌<◌, ◌≡◌, refl, sym, ap, subst, ◌∙◌, Bool, true, false, eqb, List, [], ◌∷◌, ◌++◌, map, append_assoc}
use Rattle.std.proofs.Common.{length, take, drop, get_or, set, arith, add-one, drop-cons}
use Rattle.std.specs.List.{list_any}
use Rattle.std.proofs.lemmas.List.{length-map, take_more, take_more_set, length-take-le}
use Rattle.std.proofs.Math.Seq.{take-append_seam, drop-append-add}
use mathlib.Core.List.{map-append}
use borrow.Author.Tests.{eqb-true, eqb-false, eq-eqb, ne_eqb}
use Rattle.fields.specs.Number.{from_be, to_be}
use Rattle.fields.specs.Zero.{zeros}
use Rattle.fields.specs.Entries.{entries, joined}
use Rattle.fields.specs.Overwrite.{overwritten}
use Rattle.fields.proofs.ZeroLaws.{drop_zeros}
use Rattle.fields.proofs.EntriesLaws.{entries_add, joined_append, length_joined}
use Rattle.fields.proofs.PartLaws.{numbers_wide}
use Rattle.model.specs.Peers.{is_listed}
use Rattle.peers.specs.Stalled.{elements, stalled_peers}
use Rattle.peers.specs.declared.stalled_set.Stalled.{Stalled}

-- ---- elements

-- those from index i on
pub elements_drop : (n i : ℕ) (places : List ℕ) → i + n ≤ length places → elements n i places ≡ take n (drop i places)
elements_drop zero i places h = refl
elements_drop (suc n) i places h = rw (drop-cons places i 0 (omega arith), elements_drop n (i + 1) places (omega arith), add-one)

pub elements_take : (n : ℕ) (places : List ℕ) → n ≤ length places → elements n 0 places ≡ take n places
elements_take n places h = elements_drop n 0 places (omega arith)

pub length_elements : (n i : ℕ) (places : List ℕ) → length (elements n i places) ≡ n
length_elements zero i places = refl
length_elements (suc n) i places = ap suc (length_elements n (i + 1) places)

-- the set holds as many peers as it counts
pub length_stalled : (s : Stalled) → length (stalled_peers s) ≡ s.count
unfolding stalled_peers
length_stalled s = length_elements s.count 0 s.peers

-- ---- the search

eqb_turned : (a b : ℕ) → eqb a b ≡ eqb b a
eqb_turned a b = go (eqb b a) refl
  where
    go : (t : Bool) → eqb b a ≡ t → eqb a b ≡ t
    go true q = eq-eqb a b (sym (eqb-true b a q))
    go false q = ne_eqb a b (λ e. eqb-false b a q (sym e))

-- the library's search finds what is listed
pub listed_any : (peer : ℕ) (peers : List ℕ) → list_any (λ (p : ℕ). eqb p peer) peers ≡ is_listed peer peers
listed_any peer [] = refl
listed_any peer (p ∷ peers) = rw (eqb_turned p peer, listed_any peer peers)

-- ---- the set in bytes

-- one more place read
pub read_next : (i v : ℕ) (peers bytes : List ℕ) → i < length peers → take i peers ≡ map from_be (entries 8 i bytes)
    → v ≡ from_be (take 8 (drop (i * 8) bytes))
    → take (i + 1) (set peers i v) ≡ map from_be (entries 8 (i + 1) bytes)
read_next i v peers bytes h e r =
    rw (take_more_set peers i v h, entries_add 8 i 1 bytes, map-append from_be (entries 8 i bytes) (entries 8 1 (drop (i * 8) bytes)), e, r)

-- peers as their bytes, one after another
abbrev pub peer_bytes : List ℕ → List ℕ
peer_bytes peers = joined (map (to_be 8) peers)

pub length_peer_bytes : (peers : List ℕ) → length (peer_bytes peers) ≡ length peers * 8
length_peer_bytes peers = length_joined 8 (map (to_be 8) peers) (numbers_wide 8 peers) ∙ rw length-map

pub peer_bytes_snoc : (peers : List ℕ) (peer : ℕ) → peer_bytes (peers ++ (peer ∷ [])) ≡ peer_bytes peers ++ to_be 8 peer
peer_bytes_snoc peers peer =
    rw (map-append (to_be 8) peers (peer ∷ []), joined_append (map (to_be 8) peers) (to_be 8 peer ∷ [])) (simp append_assoc)

-- the places once the first i peers are written
abbrev pub written : ℕ → List ℕ → List ℕ
written i peers = peer_bytes (take i peers) ++ zeros (2048 - 8 * i)

module _ (i : ℕ) (peers : List ℕ) where
  length_first : i ≤ length peers → length (peer_bytes (take i peers)) ≡ i * 8
  length_first h = length_peer_bytes (take i peers) ∙ rw (length-take-le i peers h)

  pub written_next : i < length peers → i < 256 → overwritten (i * 8) (to_be 8 (get_or peers i 0)) (written i peers) ≡ written (i + 1) peers
  unfolding overwritten
  written_next h m =
      let old : List ℕ = peer_bytes (take i peers) in
      let new : List ℕ = to_be 8 (get_or peers i 0) in
      let room : List ℕ = zeros (2048 - 8 * i) in
      let l : length old ≡ i * 8 = length_first (omega arith) in
      let n : 2048 - 8 * i - 8 ≡ 2048 - 8 * (i + 1) = omega arith in
      let front : take (i * 8) (old ++ room) ≡ old = subst (λ (k : ℕ). take k (old ++ room) ≡ old) l (take-append_seam old room) in
      let behind : drop (i * 8 + 8) (old ++ room) ≡ zeros (2048 - 8 * (i + 1)) =
      subst (λ (k : ℕ). drop (k + 8) (old ++ room) ≡ zeros (2048 - 8 * (i + 1))) l (drop-append-add old room 8 ∙ drop_zeros (2048 - 8 * i) 8 ∙ rw n) in
      rw (front, behind, take_more peers i 0 h, peer_bytes_snoc (take i peers) (get_or peers i 0)) (sym (append_assoc old new (zeros (2048 - 8 * (i + 1)))))
