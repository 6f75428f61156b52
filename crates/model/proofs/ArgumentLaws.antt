-- What the argument tests give: a call whose numbers and bytes are within their widths is read as well-formed arguments.
use Prim.Native.Nat.{ℕ, ◌+◌, ◌-◌, ◌*◌, ◌/◌, ◌%◌, ◌≤◌, ◌<◌, ◌^◌}
use mathlib.Core.Path.{◌≡◌, refl}
use mathlib.Core.Bool.{Bool, true, false, not, cond, ◌&&◌, ◌||◌}
use mathlib.Core.List.{List, [], ◌∷◌, map}
use mathlib.Core.Option.{none, some}
use lib.ListN.{length, drop, get_or, length-map, length-drop}
use lib.Seq.{length-take-le}
use lib.Dec.{eqb, leb, ltb}
use native.Mathlib.Omega.{arith}
use borrow.Author.Tests.{leb-true, ltb-true}
use Rattle.fields.specs.Facts.{All, Bytes}
use Rattle.fields.specs.Number.{from_be}
use Rattle.fields.specs.Entries.{entries, entry}
use Rattle.fields.proofs.NumberLaws.{bytes_take, bytes_drop, from_be_below}
use Rattle.fields.proofs.EntriesLaws.{length_entries, entries_at, length_entry}
use Rattle.fields.proofs.AllLaws.{all_map, all_at, all_weaker, all_both, either, entries_all}
use Rattle.fields.proofs.OrderLaws.{and_left, and_right}
use Rattle.fields.proofs.PartLaws.{part_below}
use Rattle.model.specs.Sections.{absent, present}
use Rattle.model.specs.Lists.{list_fits, ids_in, peers_in, pair_of, pairs_in, entries_of, ids_fit, continuation_fits, pairs_fit, view_fits, section_of, header_of, used_places, row_fits, rows_fit, first_height, row_count, view_of}
use Rattle.model.specs.Calls.{Call, step_of, args_of, lists_fit}
use Rattle.model.specs.Demand3.{InWidth}
use Rattle.model.proofs.Well.{WellId}
use Rattle.model.proofs.ListLaws.{ids_wide, length_ids, ids_bytes}
use Rattle.model.proofs.Widths.{IfSome, WellPeer, WellHeight, WellPair, WellSection, WellHeader, WellView, WellStep, WellArgs}
use Rattle.model.specs.Layout.{id_size, pair_size, peer_size, place_size, row_size, type_size}
use Rattle.model.specs.Protocol.{tracked_limit}

-- ---- lists

pub ids_well : (bytes : List ℕ) → Bytes bytes → All WellId (ids_in bytes)
ids_well bytes b =
    all_weaker (λ (e : List ℕ). (length e ≡ id_size) × Bytes e) WellId (λ e p. record { long = p.0; bytes = p.1 }) (ids_in bytes)
    (all_both (λ (e : List ℕ). length e ≡ id_size) Bytes (ids_in bytes) (ids_wide bytes) (ids_bytes bytes b))

pub ids_few : (most : ℕ) (bytes : List ℕ) → list_fits id_size most bytes ≡ true → length (ids_in bytes) ≤ most
unfolding list_fits
ids_few most bytes h =
    let l : length bytes ≤ most * id_size = leb-true (length bytes) (most * id_size) (and_right (eqb (length bytes % id_size) 0) (leb (length bytes) (most * id_size)) h) in
    rw (length_ids bytes) (omega arith)

peer_well : (e : List ℕ) → (length e ≡ peer_size) × Bytes e → WellPeer (from_be e)
peer_well e p = let f : from_be e < 256 ^ length e = from_be_below e p.1 in rw p.0 at f

pub peers_well : (bytes : List ℕ) → Bytes bytes → All WellPeer (peers_in bytes)
unfolding peers_in
peers_well bytes b =
    let h : length bytes / peer_size * peer_size ≤ length bytes = omega arith in
    all_map (λ (e : List ℕ). (length e ≡ peer_size) × Bytes e) WellPeer from_be peer_well (entries_of peer_size bytes) (entries_all peer_size (length bytes / peer_size) bytes h b)

pair_well : (e : List ℕ) → (length e ≡ pair_size) × Bytes e → WellPair (pair_of e)
unfolding pair_of
pair_well e p =
    let l : length e ≡ pair_size = p.0 in
    record { type_id = part_below 0 type_size e (omega arith) p.1; id = record { long = simp length-drop (omega arith); bytes = bytes_drop type_size e p.1 } }

pub pairs_well : (bytes : List ℕ) → Bytes bytes → All WellPair (pairs_in bytes)
unfolding pairs_in
pairs_well bytes b =
    let h : length bytes / pair_size * pair_size ≤ length bytes = omega arith in
    all_map (λ (e : List ℕ). (length e ≡ pair_size) × Bytes e) WellPair pair_of pair_well (entries_of pair_size bytes) (entries_all pair_size (length bytes / pair_size) bytes h b)

-- ---- the view

section_well : (place : List ℕ) → (length place ≡ place_size) × Bytes place → WellSection (section_of place)
unfolding section_of
section_well place p =
    let l : length place ≡ place_size = p.0 in
    record {
      type_id = part_below 0 type_size place (omega arith) p.1;
      id = record { long = length-take-le id_size (drop type_size place) (simp length-drop (omega arith)); bytes = bytes_take id_size (drop type_size place) (bytes_drop type_size place p.1) };
    }

pub header_well : (row : List ℕ) → length row ≡ row_size → Bytes row → row_fits row ≡ true → WellHeader (header_of row)
unfolding header_of row_fits used_places
header_well row l b h = go (eqb (get_or row 0 0) 255) (and_left (leb (cond (eqb (get_or row 0 0) 255) 0 (get_or row 0 0)) 3) _ h)
  where
    go : (t : Bool) → leb (cond t 0 (get_or row 0 0)) 3 ≡ true → WellHeader (cond t absent (present (map section_of (entries place_size (get_or row 0 0) (drop 1 row)))))
    go true f = tt
    go false f =
        let n = get_or row 0 0 in
        let few : get_or row 0 0 ≤ 3 = leb-true (get_or row 0 0) 3 f in
        let long : get_or row 0 0 * place_size ≤ length (drop 1 row) = simp length-drop (omega arith) in
        let places = entries place_size n (drop 1 row) in (
          all_map (λ (e : List ℕ). (length e ≡ place_size) × Bytes e) WellSection section_of section_well places (entries_all place_size n (drop 1 row) long (bytes_drop 1 row b)),
          rw (length-map places section_of, length_entries place_size n (drop 1 row)) few,
        )

rows_fit_lem : (rows : List (List ℕ)) → rows_fit rows ≡ true → All (λ (row : List ℕ). row_fits row ≡ true) rows
rows_fit_lem [] h = tt
rows_fit_lem (row ∷ rows) h = (and_left (row_fits row) (rows_fit rows) h, rows_fit_lem rows (and_right (row_fits row) (rows_fit rows) h))

pub row_fits_lem : (i n : ℕ) (bytes : List ℕ) → i < n → rows_fit (entries row_size n bytes) ≡ true → row_fits (entry row_size i bytes) ≡ true
row_fits_lem i n bytes h f =
    let l : i < length (entries row_size n bytes) = rw length_entries h in
    let p : row_fits (get_or (entries row_size n bytes) i []) ≡ true = all_at (λ (row : List ℕ). row_fits row ≡ true) (entries row_size n bytes) i [] l (rows_fit_lem (entries row_size n bytes) f) in
    rw (entries_at row_size n i bytes h) at p

pub view_well : (bytes : List ℕ) → Bytes bytes → view_fits bytes ≡ true → WellView (view_of bytes)
unfolding view_of view_fits row_count entry
view_well bytes b h height = go (leb (first_height bytes) height && ltb i n) refl
  where
    i : ℕ
    i = height - first_height bytes

    n : ℕ
    n = (length bytes - 4) / row_size

    rest : Bool
    rest = eqb ((length bytes - 4) % row_size) 0 && (leb (first_height bytes + n) (2 ^ 32) && rows_fit (entries row_size n (drop 4 bytes)))

    long : 4 ≤ length bytes
    long = leb-true 4 (length bytes) (and_left (leb 4 (length bytes)) rest h)

    fit : rows_fit (entries row_size n (drop 4 bytes)) ≡ true
    fit =
        and_right (leb (first_height bytes + n) (2 ^ 32)) (rows_fit (entries row_size n (drop 4 bytes)))
        (and_right (eqb ((length bytes - 4) % row_size) 0) (leb (first_height bytes + n) (2 ^ 32) && rows_fit (entries row_size n (drop 4 bytes)))
        (and_right (leb 4 (length bytes)) rest h))

    go : (t : Bool) → leb (first_height bytes) height && ltb i n ≡ t → IfSome WellHeader (cond t (some (header_of (entry row_size i (drop 4 bytes)))) none)
    go true e =
        let k : i < n = ltb-true i n (and_right (leb (first_height bytes) height) (ltb i n) e) in
        let l : i * row_size + row_size ≤ length (drop 4 bytes) = simp length-drop (omega arith) in
        header_well (entry row_size i (drop 4 bytes)) (length_entry row_size i (drop 4 bytes) l) (bytes_take row_size (drop (i * row_size) (drop 4 bytes)) (bytes_drop (i * row_size) (drop 4 bytes) (bytes_drop 4 bytes b)))
        (row_fits_lem i n (drop 4 bytes) k fit)
    go false e = tt

-- ---- the step

module _ (call : Call) (width : InWidth call) (fits : lists_fit call ≡ true) where
  ids_fit_lem : ids_fit call.ids ≡ true
  unfolding lists_fit
  ids_fit_lem =
      let other = not (eqb call.kind 3) || eqb (length call.ids) 32 in
      and_left (ids_fit call.ids) other (and_left (ids_fit call.ids && other) (continuation_fits call.continuation && pairs_fit call.stored) fits)

  continuation_fits_lem : continuation_fits call.continuation ≡ true
  unfolding lists_fit
  continuation_fits_lem =
      let first = ids_fit call.ids && (not (eqb call.kind 3) || eqb (length call.ids) 32) in
      and_left (continuation_fits call.continuation) (pairs_fit call.stored) (and_right first (continuation_fits call.continuation && pairs_fit call.stored) fits)

  tip_well : (t : Bool) → IfSome WellHeight (cond t (some call.tip) none)
  tip_well true = width.tip
  tip_well false = tt

  pub step_of_well : WellStep (step_of call)
  unfolding step_of ids_fit continuation_fits
  step_of_well =
      let few = ids_few tracked_limit call.ids ids_fit_lem in
      let all = ids_well call.ids width.ids in
      either WellStep (eqb call.kind 1) _ _ tt
      (either WellStep (eqb call.kind 2) _ _ tt
      (either WellStep (eqb call.kind 3) _ _ (width.typeid, (all, few))
      (either WellStep (eqb call.kind 4) _ _ tt
      (either WellStep (eqb call.kind 5) _ _ (record { type_id = width.typeid; peer = width.peer; ids = all }, few)
      (either WellStep (eqb call.kind 6) _ _
      ((width.peer, tip_well (eqb call.hastip 1)), (ids_well call.continuation width.continuation, ids_few 400 call.continuation continuation_fits_lem))
      (either WellStep (eqb call.kind 7) _ _ tt
      (either WellStep (eqb call.kind 8) _ _ tt
      (either WellStep (eqb call.kind 9) _ _ tt
      (either WellStep (eqb call.kind 10) _ _ all
      (either WellStep (eqb call.kind 11) _ _ tt
      (either WellStep (eqb call.kind 12) _ _ tt
      (either WellStep (eqb call.kind 13) _ _ tt
      (either WellStep (eqb call.kind 14) _ _ tt
      (either WellStep (eqb call.kind 15) _ _ tt tt))))))))))))))

  pub arguments_well : view_fits call.view ≡ true → WellArgs (args_of call)
  unfolding args_of
  arguments_well view =
      record {
        clock = width.clock;
        chain_height = width.height;
        peers = peers_well call.peers width.peers;
        stored = pairs_well call.stored width.stored;
        view = view_well call.view width.view view;
        step = step_of_well;
      }
