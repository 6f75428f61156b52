-- The header: what it says of an area and of a state.
use Prim.Native.Nat.{ℕ, ◌-◌, ◌*◌}
use mathlib.Core.Path.{◌≡◌, refl, ◌∙◌}
use mathlib.Core.Bool.{true}
use mathlib.Core.List.{List}
use lib.ListN.{length, drop, length-map}
use Rattle.fields.specs.Number.{from_be}
use Rattle.fields.specs.Entries.{entries}
use Rattle.fields.proofs.EntriesLaws.{length_entries}
use Rattle.model.specs.State.{State}
use Rattle.model.specs.Image.{mode_byte, header_bytes, request_of, decode, settings_of, stalled_of, pending_of, evicted_of, stalled_count, pending_count, evicted_count, well_formed}
use Rattle.model.proofs.HeaderLaws.{number_of_mode}
use Rattle.model.proofs.FormedLaws.{formed}
use Rattle.image.specs.declared.head.Head.{Head}
use Rattle.image.specs.Heads.{head_in, head_bytes, head_of}
use Rattle.model.specs.Layout.{area_size, id_size, record_size, region_at}

-- ---- the header of a state

pub head_of_lem : (st : State) → head_bytes (head_of st) ≡ header_bytes st
unfolding head_bytes head_of header_bytes
head_of_lem st = refl

pub length_head : (h : Head) → length (head_bytes h) ≡ 74
unfolding head_bytes
length_head h = refl

-- ---- the state of an area

length_stalled_of : (area : List ℕ) → length (stalled_of area) ≡ stalled_count area
unfolding stalled_of
length_stalled_of area = length-map (entries 8 (stalled_count area) (drop 512 area)) from_be ∙ length_entries 8 (stalled_count area) (drop 512 area)

length_pending_of : (area : List ℕ) → length (pending_of area) ≡ pending_count area
unfolding pending_of
length_pending_of area =
    let records : List (List ℕ) = entries record_size (pending_count area) (drop region_at area) in
    length-map records request_of ∙ length_entries record_size (pending_count area) (drop region_at area)

length_evicted_of : (area : List ℕ) → length (evicted_of area) ≡ evicted_count area
unfolding evicted_of
length_evicted_of area = length_entries id_size (evicted_count area) (drop (area_size - evicted_count area * id_size) area)

-- the header of a well-formed area is its state's
pub head_decode : (area : List ℕ) → well_formed area ≡ true → head_of (decode area) ≡ head_in area
unfolding head_of head_in decode settings_of
head_decode area w =
    rw (number_of_mode (mode_byte area) (formed area w).mode, length_stalled_of area, length_pending_of area, length_evicted_of area)
