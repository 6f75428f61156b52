-- A list of ids in runs, by its bytes.
use Prim.Native.Nat.{ℕ, zero, suc, ◌+◌, ◌-◌, ◌*◌, ◌/◌, ◌%◌, ◌≤◌, ◌<◌, min}
use mathlib.Core.Path.{◌≡◌, refl, sym, ap, ◌∙◌}
use mathlib.Core.List.{List, [], ◌∷◌, ◌++◌}
use native.Mathlib.Omega.{arith}
use lib.ListN.{length, take, drop, get_or, length-append, length-drop, drop_of_length-le}
use lib.Seq.{drop-drop, take_all, length-take-le}
use Rattle.std.specs.Simd.{first_chunks}
use Rattle.fields.specs.Entries.{entries, entry}
use Rattle.fields.specs.Overwrite.{overwritten}
use Rattle.fields.proofs.OverwriteLaws.{overwritten_nil, overwritten_next, length_overwritten}
use Rattle.fields.proofs.EntriesLaws.{length_entries, entries_at, take_entries, drop_entries, entries_take}
use Rattle.model.specs.Protocol.{Id, request_size, tracked_limit}
use Rattle.model.specs.Requests.{request, runs, runs_within, commands_of}
use Rattle.model.specs.Lists.{ids_in}
use Rattle.model.specs.Commands.{command_bytes, all_command_bytes}
use Rattle.commands.proofs.WriteLaws.{counted_ids, command_for, length_command}
use Rattle.model.specs.Layout.{command_header, id_size}

-- ---- runs of ids

-- more runs than ids change nothing
within_more : (n m : ℕ) (ids : List Id) → length ids ≤ n → length ids ≤ m → runs_within n ids ≡ runs_within m ids
within_more zero zero ids h k = refl
within_more zero (suc m) [] h k = refl
within_more zero (suc m) (id ∷ ids) h k = absurd (omega arith)
within_more (suc n) zero [] h k = refl
within_more (suc n) zero (id ∷ ids) h k = absurd (omega arith)
within_more (suc n) (suc m) [] h k = refl
within_more (suc n) (suc m) (id ∷ ids) h k =
    let e : length (drop 400 (id ∷ ids)) ≡ length (id ∷ ids) - 400 = length-drop 400 (id ∷ ids) in
    ap (λ (r : List (List Id)). take 400 (id ∷ ids) ∷ r) (within_more n m (drop 400 (id ∷ ids)) (omega arith) (omega arith))

runs_turn : (ids : List Id) → 0 < length ids → runs ids ≡ take 400 ids ∷ runs (drop 400 ids)
unfolding runs
runs_turn [] h = absurd (omega arith)
runs_turn (id ∷ ids) h =
    let e : length (drop 400 (id ∷ ids)) ≡ length (id ∷ ids) - 400 = length-drop 400 (id ∷ ids) in
    let rest : List Id = drop 400 (id ∷ ids) in
    ap (λ (r : List (List Id)). take 400 (id ∷ ids) ∷ r) (within_more (length ids) (length rest) rest (omega arith) (omega arith))

-- the next run, by its count
runs_next : (ids : List Id) {n : ℕ} → 0 < length ids → n ≡ min request_size (length ids) → runs ids ≡ take n ids ∷ runs (drop n ids)
runs_next ids {n} h e = runs_turn ids h ∙ go (length ids - request_size) refl
  where
    go : (over : ℕ) → length ids - request_size ≡ over → take request_size ids ∷ runs (drop request_size ids) ≡ take n ids ∷ runs (drop n ids)
    go zero q =
        let none : drop request_size ids ≡ drop n ids =
        drop_of_length-le ids {i = request_size} (omega arith) ∙ sym (drop_of_length-le ids {i = n} (omega arith)) in
        rw (take_all request_size ids (omega arith), take_all n ids (omega arith), none)
    go (suc over) q = let full : n ≡ request_size = omega arith in rw full

-- ---- the first m ids and the others, by their bytes

module _ (m : ℕ) (bytes : List ℕ) (whole : length bytes % id_size ≡ 0) where
  abbrev number : ℕ
  number = length bytes / id_size

  abbrev ids : List Id
  ids = entries id_size number bytes

  pub take_ids : take m (ids_in bytes) ≡ ids_in (take (m * id_size) bytes)
  unfolding ids_in
  take_ids = go (number - m) refl
    where
      go : (k : ℕ) → number - m ≡ k → take m ids ≡ entries id_size (length (take (m * id_size) bytes) / id_size) (take (m * id_size) bytes)
      go zero e =
          let b : take (m * id_size) bytes ≡ bytes = take_all (m * id_size) bytes (omega arith) in
          let l : length ids ≡ number = length_entries id_size number bytes in
          take_all m ids (omega arith) ∙ rw b
      go (suc k) e =
          let s : m + (number - m) ≡ number = omega arith in
          let l : length (take (m * id_size) bytes) ≡ m * id_size = length-take-le (m * id_size) bytes (omega arith) in
          let n : length (take (m * id_size) bytes) / id_size ≡ m = omega arith in
          let t : take m ids ≡ entries id_size m bytes = rw s at (take_entries id_size m (number - m) bytes) in
          t ∙ rw n (sym (entries_take id_size m (m * id_size) bytes (omega arith) (omega arith)))

  pub drop_ids : drop m (ids_in bytes) ≡ ids_in (drop (m * id_size) bytes)
  unfolding ids_in
  drop_ids = go (number - m) refl
    where
      go : (k : ℕ) → number - m ≡ k → drop m ids ≡ entries id_size (length (drop (m * id_size) bytes) / id_size) (drop (m * id_size) bytes)
      go zero e =
          let l : length ids ≡ number = length_entries id_size number bytes in
          rw (drop_of_length-le ids {i = m} (omega arith), drop_of_length-le bytes {i = m * id_size} (omega arith))
      go (suc k) e =
          let s : m + (number - m) ≡ number = omega arith in
          let l : length (drop (m * id_size) bytes) ≡ length bytes - m * id_size = length-drop (m * id_size) bytes in
          let n : length (drop (m * id_size) bytes) / id_size ≡ number - m = omega arith in
          let t : drop m ids ≡ entries id_size (number - m) (drop (m * id_size) bytes) = rw s at (drop_entries id_size m (number - m) bytes) in
          t ∙ rw n

-- ---- ids as arrays

chunks_are_entries : (width n : ℕ) (bytes : List ℕ) → first_chunks width n bytes ≡ entries width n bytes
chunks_are_entries width zero bytes = refl
chunks_are_entries width (suc n) bytes = ap (λ (es : List (List ℕ)). take width bytes ∷ es) (chunks_are_entries width n (drop width bytes))

-- what `as_chunks` gives
pub chunks_are_ids : (bytes : List ℕ) → first_chunks id_size (length bytes / id_size) bytes ≡ ids_in bytes
unfolding ids_in
chunks_are_ids bytes = chunks_are_entries id_size (length bytes / id_size) bytes

pub chunk_at : (bytes : List ℕ) (i : ℕ) → i * id_size + id_size ≤ length bytes
    → get_or (first_chunks id_size (length bytes / id_size) bytes) i [] ≡ entry id_size i bytes
chunk_at bytes i h =
    let count : ℕ = length bytes / id_size in
    ap (λ (es : List (List ℕ)). get_or es i []) (chunks_are_entries id_size count bytes) ∙ entries_at id_size count i bytes (omega arith)

-- ---- the commands of a list

abbrev pub requests_for : ℕ → ℕ → ℕ → List ℕ → List ℕ
requests_for type_id batch peer bytes = all_command_bytes (commands_of batch (request type_id peer (ids_in bytes)))

module _ (type_id batch peer : ℕ) where
  requests_nil : requests_for type_id batch peer [] ≡ []
  unfolding runs ids_in
  requests_nil = refl

  requests_turn : (bytes : List ℕ) {left n : ℕ} → length bytes ≡ left * id_size → 0 < left → n ≡ min request_size left
      → requests_for type_id batch peer bytes
      ≡ command_bytes (command_for 1 type_id batch peer (take (n * id_size) bytes)) ++ requests_for type_id batch peer (drop (n * id_size) bytes)
  requests_turn bytes {left} {n} whole some e =
      let l : length (ids_in bytes) ≡ left = counted_ids bytes whole in
      rw (runs_next (ids_in bytes) {n = n} (rw l some) (rw l e), take_ids n bytes (omega arith), drop_ids n bytes (omega arith))

-- ---- the list written

-- What stays the same: so many ids, and room for all their requests.
pub record Run (type_id batch peer at : ℕ) (bytes : List ℕ) (count : ℕ) (d : List ℕ) : Type 0 where
  pub whole : length bytes ≡ count * id_size
  pub few : count ≤ tracked_limit
  pub room : at + length (requests_for type_id batch peer bytes) ≤ length d

-- `left` ids are not cut yet; they, written at `place`, give the whole.
pub record Putting (type_id batch peer at : ℕ) (bytes d out : List ℕ) (place done left : ℕ) : Type 0 where
  pub cut : done + left * id_size ≡ length bytes
  pub long : length out ≡ length d
  pub to : place + length (requests_for type_id batch peer (drop done bytes)) ≡ at + length (requests_for type_id batch peer bytes)
  pub rest : overwritten place (requests_for type_id batch peer (drop done bytes)) out ≡ overwritten at (requests_for type_id batch peer bytes) d

module _ {type_id batch peer at : ℕ} {bytes : List ℕ} {count : ℕ} {d : List ℕ} (all : Run type_id batch peer at bytes count d) where
  module _ {out : List ℕ} {place done left : ℕ} (s : Putting type_id batch peer at bytes d out place done left) where
    left_whole : length (drop done bytes) ≡ left * id_size
    left_whole = length-drop done bytes ∙ omega (arith, s.cut)

    -- the next n ids of what is left
    module _ (some : 0 < left) {n : ℕ} (counted : n ≡ min request_size left) where
      -- some, and no more than are left
      next_some : (0 < n) × (n ≤ left)
      next_some = (omega arith, omega arith)

      next_within : done + n * id_size ≤ length bytes
      next_within = omega (arith, next_some, s.cut)

      next_few : n ≤ tracked_limit
      next_few = omega arith

      module _ {run : List ℕ} (e : run ≡ take (n * id_size) (drop done bytes)) where
        abbrev this : List ℕ
        this = command_bytes (command_for 1 type_id batch peer run)

        abbrev others : List ℕ
        others = requests_for type_id batch peer (drop (n * id_size) (drop done bytes))

        run_whole : length run ≡ n * id_size
        run_whole = ap length e ∙ length-take-le (n * id_size) (drop done bytes) (omega (arith, next_some, left_whole))

        this_first : requests_for type_id batch peer (drop done bytes) ≡ this ++ others
        this_first = requests_turn type_id batch peer (drop done bytes) left_whole some counted ∙ rw (← e)

        long_run : length this ≡ command_header + length run
        long_run = length_command 1 type_id batch peer run n run_whole

        long_left : length (requests_for type_id batch peer (drop done bytes)) ≡ command_header + length run + length others
        long_left = ap length this_first ∙ length-append this others ∙ rw long_run

        -- what writing it asks
        pub put_asks : (length run ≡ n * id_size) × ((n ≤ tracked_limit) × (place + command_header + length run ≤ length out))
        put_asks = (run_whole, (next_few, omega (arith, s.to, s.long, long_left, all.room)))

        behind : drop (done + length run) bytes ≡ drop (n * id_size) (drop done bytes)
        behind = rw (run_whole, drop-drop)

        pub put_turn : {o : List ℕ} {place' : ℕ} → (o ≡ overwritten place this out) × (place' ≡ place + command_header + length run)
            → Putting type_id batch peer at bytes d o place' (done + length run) (left - n)
        put_turn {o} {place'} w =
            let r : place + length this + length others ≤ length out = omega (arith, s.to, s.long, long_left, long_run, all.room) in
            let p : place' ≡ place + length this = omega (arith, long_run, w.1) in
            record {
              cut = omega (arith, s.cut, run_whole, next_some);
              long = rw w.0 (length_overwritten place this out (omega arith)) ∙ s.long;
              to = rw behind (omega (arith, s.to, long_left, w.1));
              rest = rw (behind, w.0, p) (overwritten_next place this others out r ∙ rw (← this_first) s.rest);
            }

    pub put_ends : left ≤ 0
        → (out ≡ overwritten at (requests_for type_id batch peer bytes) d) × (place ≡ at + length (requests_for type_id batch peer bytes))
    put_ends h =
        let z : drop done bytes ≡ [] = drop_of_length-le bytes {i = done} (omega (arith, s.cut)) in
        let r : requests_for type_id batch peer (drop done bytes) ≡ [] = rw z (requests_nil type_id batch peer) in
        let l : length (requests_for type_id batch peer (drop done bytes)) ≡ 0 = ap length r in
        (sym (overwritten_nil place out) ∙ rw r at s.rest, omega (arith, s.to))
