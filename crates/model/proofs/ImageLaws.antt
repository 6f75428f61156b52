-- The state area in its parts: what stands where, and the area from its parts.
use Prim.Native.Nat.{ℕ, ◌+◌, ◌-◌, ◌*◌, ◌≤◌}
use mathlib.Core.Path.{◌≡◌, refl, sym, ap, ◌∙◌}
use mathlib.Core.List.{List, [], ◌∷◌, ◌++◌, map, append_assoc, append-nil}
use native.Mathlib.Omega.{arith}
use lib.ListN.{length, take, drop, length-append, length-drop, length-map}
use lib.Seq.{take_all}
use Rattle.fields.specs.Facts.{All, Bytes}
use Rattle.fields.specs.Number.{to_be}
use Rattle.fields.specs.Zero.{zeros}
use Rattle.fields.specs.Entries.{entries, joined}
use Rattle.fields.proofs.AllLaws.{all_weaker}
use Rattle.fields.proofs.ZeroLaws.{length_zeros}
use Rattle.fields.proofs.EntriesLaws.{Wide, length_joined, entries_joined, joined_entries}
use Rattle.fields.proofs.PartLaws.{written, Fit, written_holds, holds_written, part_at, part_behind, part_joined, numbers_wide}
use Rattle.model.specs.Protocol.{Id, stalled_limit, tracked_limit}
use Rattle.model.specs.State.{State}
use Rattle.model.specs.Image.{padded, header_bytes, request_bytes, encode}
use Rattle.model.proofs.Well.{Well, WellId}
use Rattle.model.proofs.RecordLaws.{Recorded, well_recorded, records_wide}
use Rattle.model.proofs.HeaderLaws.{mark, header_cells, Header, header_holds, holds_header, header_written, header_fit}
use Rattle.model.specs.Layout.{area_size, id_size, peer_size, record_size, region_at, stalled_at}

-- ---- how much room each part takes

module _ (st : State) where
  abbrev pub stalled_bytes : List ℕ
  stalled_bytes = joined (map (to_be peer_size) st.sync.stalled_peers)

  abbrev pub pending_bytes : List ℕ
  pending_bytes = joined (map request_bytes st.pending)

  abbrev pub evicted_bytes : List ℕ
  evicted_bytes = joined st.sync.evicted

  abbrev pub stalled_end : ℕ
  stalled_end = stalled_at + length st.sync.stalled_peers * peer_size

  -- unused places of stalled peers
  abbrev pub stalled_free : ℕ
  stalled_free = (stalled_limit - length st.sync.stalled_peers) * peer_size

  abbrev pub pending_end : ℕ
  pending_end = region_at + length st.pending * record_size

  -- between pending and evicted
  abbrev pub region_free : ℕ
  region_free = area_size - region_at - length st.pending * record_size - length st.sync.evicted * id_size

  abbrev pub evicted_at : ℕ
  evicted_at = area_size - length st.sync.evicted * id_size

-- the bytes between the header's last number and the stalled peers
abbrev pub header_free : ℕ
header_free = stalled_at - 74

-- The area holds the state.
pub record Laid (st : State) (area : List ℕ) : Type 0 where
  pub start : take 3 area ≡ mark
  pub header : Header st area
  pub header_rest : take header_free (drop 74 area) ≡ zeros header_free
  pub stalled : entries peer_size (length st.sync.stalled_peers) (drop stalled_at area) ≡ map (to_be peer_size) st.sync.stalled_peers
  pub stalled_rest : take (stalled_free st) (drop (stalled_end st) area) ≡ zeros (stalled_free st)
  pub pending : entries record_size (length st.pending) (drop region_at area) ≡ map request_bytes st.pending
  pub between : take (region_free st) (drop (pending_end st) area) ≡ zeros (region_free st)
  pub evicted : entries id_size (length st.sync.evicted) (drop (evicted_at st) area) ≡ st.sync.evicted

-- The state has room in the area.
pub record Sized (st : State) : Type 0 where
  pub records : Wide record_size (map request_bytes st.pending)
  pub ids : Wide id_size st.sync.evicted
  pub stalled_few : length st.sync.stalled_peers ≤ stalled_limit
  pub tracked : length st.pending + length st.sync.evicted ≤ tracked_limit

ids_wide : (ids : List Id) → All WellId ids → Wide id_size ids
ids_wide [] w = tt
ids_wide (id ∷ ids) w = (w.0.long, ids_wide ids w.1)

ids_bytes : (ids : List Id) → All WellId ids → All Bytes ids
ids_bytes [] w = tt
ids_bytes (id ∷ ids) w = (w.0.bytes, ids_bytes ids w.1)

pub well_requests : (st : State) → Well st → All Recorded st.pending
well_requests st w = all_weaker _ Recorded (well_recorded st.settings st.last_clock w.settings.max_checks w.last_clock) st.pending w.requests

pub well_sized : (st : State) → Well st → Sized st
well_sized st w =
    record {
      records = records_wide st.pending (well_requests st w);
      ids = ids_wide st.sync.evicted w.sync.evicted;
      stalled_few = w.sync.stalled_few;
      tracked = w.tracked;
    }

-- ---- the parts one after another

padded_split : (header stalled pending evicted : List ℕ) (s r a : ℕ) → length header ≤ s → s + length stalled ≤ r
    → padded (a - length evicted) (padded r (padded s header ++ stalled) ++ pending) ++ evicted
    ≡ header ++ (zeros (s - length header) ++ (stalled ++ (zeros (r - (s + length stalled)) ++ (pending ++ (zeros (a - length evicted - (r + length pending)) ++ evicted)))))
unfolding padded
padded_split header stalled pending evicted s r a h k =
    let one : List ℕ = header ++ zeros (s - length header) in
    let two : List ℕ = one ++ stalled in
    let l₁ : length one ≡ s = simp (length-append, length_zeros) (omega arith) in
    let l₂ : length two ≡ s + length stalled = rw (length-append one stalled, l₁) in
    let three : List ℕ = two ++ zeros (r - length two) in
    let l₃ : length three ≡ r = rw (length-append two (zeros (r - length two)), length_zeros (r - length two)) (omega arith) in
    let l₄ : length (three ++ pending) ≡ r + length pending = rw (length-append three pending, l₃) in
    rw (l₄, l₂) (simp append_assoc)

-- from each part to the end
module _ (st : State) where
  abbrev pub from_between : List ℕ
  from_between = zeros (region_free st) ++ evicted_bytes st

  abbrev pub from_pending : List ℕ
  from_pending = pending_bytes st ++ from_between

  abbrev pub from_stalled_rest : List ℕ
  from_stalled_rest = zeros (stalled_free st) ++ from_pending

  abbrev pub from_stalled : List ℕ
  from_stalled = stalled_bytes st ++ from_stalled_rest

  abbrev pub from_header_rest : List ℕ
  from_header_rest = zeros header_free ++ from_stalled

module _ (st : State) (z : Sized st) where
  pub length_stalled : length (stalled_bytes st) ≡ length st.sync.stalled_peers * peer_size
  length_stalled =
      length_joined peer_size (map (to_be peer_size) st.sync.stalled_peers) (numbers_wide peer_size st.sync.stalled_peers) ∙ rw (length-map st.sync.stalled_peers (to_be peer_size))

  pub length_pending : length (pending_bytes st) ≡ length st.pending * record_size
  length_pending = length_joined record_size (map request_bytes st.pending) z.records ∙ rw (length-map st.pending request_bytes)

  pub length_evicted : length (evicted_bytes st) ≡ length st.sync.evicted * id_size
  length_evicted = length_joined id_size st.sync.evicted z.ids

pub length_header : (st : State) → length (header_bytes st) ≡ 74
length_header st = rw (header_written st)

same_parts : (header m h q p b : List ℕ) (n₁ n₂ n₃ k₁ k₂ k₃ : ℕ) → header ≡ m ++ h → n₁ ≡ k₁ → n₂ ≡ k₂ → n₃ ≡ k₃
    → header ++ (zeros n₁ ++ (q ++ (zeros n₂ ++ (p ++ (zeros n₃ ++ b))))) ≡ m ++ (h ++ (zeros k₁ ++ (q ++ (zeros k₂ ++ (p ++ (zeros k₃ ++ b))))))
same_parts header m h q p b n₁ n₂ n₃ k₁ k₂ k₃ e e₁ e₂ e₃ =
    rw (e, e₁, e₂, e₃, append_assoc m h (zeros k₁ ++ (q ++ (zeros k₂ ++ (p ++ (zeros k₃ ++ b))))))

-- The area is its parts one after another.
pub encode_parts : (st : State) → Sized st
    → encode st ≡ mark ++ (written (header_cells st) ++ from_header_rest st)
unfolding encode
encode_parts st z =
    let h : length (header_bytes st) ≡ 74 = length_header st in
    let q : length (stalled_bytes st) ≡ length st.sync.stalled_peers * peer_size = length_stalled st z in
    let p : length (pending_bytes st) ≡ length st.pending * record_size = length_pending st z in
    let b : length (evicted_bytes st) ≡ length st.sync.evicted * id_size = length_evicted st z in
    let few : length st.sync.stalled_peers ≤ stalled_limit = z.stalled_few in
    padded_split (header_bytes st) (stalled_bytes st) (pending_bytes st) (evicted_bytes st) stalled_at region_at area_size (omega arith) (omega arith)
    ∙ same_parts (header_bytes st) mark (written (header_cells st)) (stalled_bytes st) (pending_bytes st) (evicted_bytes st)
    (stalled_at - length (header_bytes st)) (region_at - (stalled_at + length (stalled_bytes st))) (area_size - length (evicted_bytes st) - (region_at + length (pending_bytes st)))
    header_free (stalled_free st) (region_free st) (header_written st) (omega arith) (omega arith) (omega arith)

-- where parts end
module _ (st : State) (z : Sized st) where
  pub stalled_end_lem : stalled_end st + stalled_free st ≡ region_at
  stalled_end_lem =
      let few : length st.sync.stalled_peers ≤ stalled_limit = z.stalled_few in
      omega arith

  pub pending_end_lem : pending_end st + region_free st ≡ evicted_at st
  pending_end_lem =
      let few : length st.pending + length st.sync.evicted ≤ tracked_limit = z.tracked in
      omega arith

  pub evicted_end : evicted_at st + length st.sync.evicted * id_size ≡ area_size
  evicted_end =
      let few : length st.pending + length st.sync.evicted ≤ tracked_limit = z.tracked in
      omega arith

-- An area that holds a state is its encoding.
pub laid_encode : (st : State) (area : List ℕ) → Sized st → length area ≡ area_size → Bytes area → Laid st area → area ≡ encode st
laid_encode st area z l f laid =
    let d₇ : drop (evicted_at st) area ≡ evicted_bytes st =
    sym (take_all (length st.sync.evicted * id_size) (drop (evicted_at st) area) (rw (length-drop (evicted_at st) area) (omega (arith, evicted_end st z))))
    ∙ sym (joined_entries id_size (length st.sync.evicted) (drop (evicted_at st) area)) ∙ ap joined laid.evicted
    in
    let d₆ : drop (pending_end st) area ≡ from_between st =
    part_joined (pending_end st) (region_free st) (zeros (region_free st)) (evicted_bytes st) area laid.between (rw (pending_end_lem st z) d₇)
    in
    let d₅ : drop region_at area ≡ from_pending st =
    part_joined region_at (length st.pending * record_size) (pending_bytes st) (from_between st) area
    (sym (joined_entries record_size (length st.pending) (drop region_at area)) ∙ ap joined laid.pending) d₆
    in
    let d₄ : drop (stalled_end st) area ≡ from_stalled_rest st =
    part_joined (stalled_end st) (stalled_free st) (zeros (stalled_free st)) (from_pending st) area laid.stalled_rest (rw (stalled_end_lem st z) d₅)
    in
    let d₃ : drop stalled_at area ≡ from_stalled st =
    part_joined stalled_at (length st.sync.stalled_peers * peer_size) (stalled_bytes st) (from_stalled_rest st) area
    (sym (joined_entries peer_size (length st.sync.stalled_peers) (drop stalled_at area)) ∙ ap joined laid.stalled) d₄
    in
    let d₂ : drop 74 area ≡ from_header_rest st = part_joined 74 header_free (zeros header_free) (from_stalled st) area laid.header_rest d₃ in
    let d₁ : drop 3 area ≡ written (header_cells st) ++ (from_header_rest st) =
    part_joined 3 71 (written (header_cells st)) (from_header_rest st) area
    (holds_written (header_cells st) 3 area f (omega arith) (header_holds st area laid.header)) d₂
    in
    part_joined 0 3 mark (written (header_cells st) ++ (from_header_rest st)) area laid.start d₁ ∙ sym (encode_parts st z)

table_at : (width at : ℕ) (es : List (List ℕ)) (n : ℕ) (rest bytes : List ℕ) → length es ≡ n → Wide width es → drop at bytes ≡ joined es ++ rest → entries width n (drop at bytes) ≡ es
table_at width at es n rest bytes l w e = rw (e, ← l) (entries_joined width es rest w)

-- the encoding from each part on
module _ (st : State) (z : Sized st) where
  drop_mark : drop 3 (encode st) ≡ written (header_cells st) ++ from_header_rest st
  drop_mark = part_behind 0 3 mark (written (header_cells st) ++ from_header_rest st) (encode st) refl (encode_parts st z)

  pub drop_header : drop 74 (encode st) ≡ from_header_rest st
  drop_header = part_behind 3 71 (written (header_cells st)) (from_header_rest st) (encode st) refl drop_mark

  pub drop_to_stalled : drop stalled_at (encode st) ≡ from_stalled st
  drop_to_stalled = part_behind 74 header_free (zeros header_free) (from_stalled st) (encode st) (length_zeros header_free) drop_header

  pub drop_stalled : drop (stalled_end st) (encode st) ≡ from_stalled_rest st
  drop_stalled = part_behind stalled_at (length st.sync.stalled_peers * peer_size) (stalled_bytes st) (from_stalled_rest st) (encode st) (length_stalled st z) drop_to_stalled

  pub drop_to_region : drop region_at (encode st) ≡ from_pending st
  drop_to_region =
      rw (stalled_end_lem st z) at (part_behind (stalled_end st) (stalled_free st) (zeros (stalled_free st)) (from_pending st) (encode st) (length_zeros (stalled_free st)) drop_stalled)

  pub drop_pending : drop (pending_end st) (encode st) ≡ from_between st
  drop_pending = part_behind region_at (length st.pending * record_size) (pending_bytes st) (from_between st) (encode st) (length_pending st z) drop_to_region

  pub drop_to_evicted : drop (evicted_at st) (encode st) ≡ evicted_bytes st
  drop_to_evicted =
      rw (pending_end_lem st z) at (part_behind (pending_end st) (region_free st) (zeros (region_free st)) (evicted_bytes st) (encode st) (length_zeros (region_free st)) drop_pending)

  pub take_header : take 74 (encode st) ≡ header_bytes st
  take_header =
      let e : encode st ≡ header_bytes st ++ from_header_rest st = encode_parts st z ∙ sym (append_assoc mark (written (header_cells st)) (from_header_rest st)) ∙ ap (λ (h : List ℕ). h ++ from_header_rest st) (sym (header_written st)) in
      part_at 0 74 (header_bytes st) (from_header_rest st) (encode st) (length_header st) e

  pub encode_laid : Fit (header_cells st) → Laid st (encode st)
  encode_laid f =
      record {
        start = part_at 0 3 mark (written (header_cells st) ++ from_header_rest st) (encode st) refl (encode_parts st z);
        header = holds_header st (encode st) (written_holds (header_cells st) 3 (from_header_rest st) (encode st) f drop_mark);
        header_rest = part_at 74 header_free (zeros header_free) (from_stalled st) (encode st) (length_zeros header_free) drop_header;
        stalled =
            table_at peer_size stalled_at (map (to_be peer_size) st.sync.stalled_peers) (length st.sync.stalled_peers) (from_stalled_rest st) (encode st)
            (length-map st.sync.stalled_peers (to_be peer_size)) (numbers_wide peer_size st.sync.stalled_peers) drop_to_stalled;
        stalled_rest = part_at (stalled_end st) (stalled_free st) (zeros (stalled_free st)) (from_pending st) (encode st) (length_zeros (stalled_free st)) drop_stalled;
        pending =
            table_at record_size region_at (map request_bytes st.pending) (length st.pending) (from_between st) (encode st) (length-map st.pending request_bytes) z.records drop_to_region;
        between = part_at (pending_end st) (region_free st) (zeros (region_free st)) (evicted_bytes st) (encode st) (length_zeros (region_free st)) drop_pending;
        evicted = table_at id_size (evicted_at st) st.sync.evicted (length st.sync.evicted) [] (encode st) refl z.ids (rw append-nil drop_to_evicted);
      }

-- The header's fields and the tables of an encoding.
pub well_laid : (st : State) → Well st → Laid st (encode st)
well_laid st w = encode_laid st (well_sized st w) (header_fit st w)

-- ---- length and bytes

module _ (a b c d e f g h : List ℕ) where
  parts_length : (total : ℕ) → length a + (length b + (length c + (length d + (length e + (length f + (length g + length h)))))) ≡ total
      → length (a ++ (b ++ (c ++ (d ++ (e ++ (f ++ (g ++ h))))))) ≡ total
  parts_length total t = simp length-append t

pub sized_length : (st : State) → Sized st → length (encode st) ≡ area_size
sized_length st z =
    let h : length (written (header_cells st)) ≡ 71 = refl in
    let k : length (zeros header_free) ≡ header_free = length_zeros header_free in
    let q : length (stalled_bytes st) ≡ length st.sync.stalled_peers * peer_size = length_stalled st z in
    let m : length (zeros (stalled_free st)) ≡ stalled_free st = length_zeros (stalled_free st) in
    let p : length (pending_bytes st) ≡ length st.pending * record_size = length_pending st z in
    let n : length (zeros (region_free st)) ≡ region_free st = length_zeros (region_free st) in
    let b : length (evicted_bytes st) ≡ length st.sync.evicted * id_size = length_evicted st z in
    ap length (encode_parts st z)
    ∙ parts_length mark (written (header_cells st)) (zeros header_free) (stalled_bytes st) (zeros (stalled_free st)) (pending_bytes st) (zeros (region_free st)) (evicted_bytes st) area_size
    (omega (arith, stalled_end_lem st z, pending_end_lem st z, evicted_end st z))

pub encode_length : (st : State) → Well st → length (encode st) ≡ area_size
encode_length st w = sized_length st (well_sized st w)
