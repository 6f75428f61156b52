-- Pairs at places: their types, their ids gathered.
use Prim.Native.Nat.{ℕ, suc, ◌+◌, ◌*◌}
use mathlib.Core.Path.{◌≡◌, refl, sym, ap, ◌∙◌, subst}
use mathlib.Core.List.{List, [], ◌∷◌}
use native.Mathlib.Omega.{arith}
use lib.ListN.{length, take, drop, get_or}
use lib.Seq.{take-take}
use Rattle.fields.specs.Facts.{All}
use Rattle.fields.specs.Number.{from_be}
use Rattle.fields.specs.Entries.{entry, joined}
use Rattle.fields.specs.Overwrite.{overwritten}
use Rattle.fields.proofs.OverwriteLaws.{drop_take}
use Rattle.fields.proofs.EntriesLaws.{Wide, entry_front}
use Rattle.order.specs.Gathered.{gathered}
use Rattle.order.proofs.GatheredLaws.{gathered_wide, length_gathered, gathered_front}
use Rattle.request_announced.specs.Pairs.{Within, pairs_at, ids_at, type_at, of_type}
use Rattle.model.specs.Layout.{id_size, pair_size, type_size}

-- ---- types

pub type_read : (pairs : List ℕ) (place p : ℕ) → p ≡ place → from_be (take type_size (drop (p * pair_size) pairs)) ≡ type_at pairs place
unfolding type_at
type_read pairs place p e = rw e (ap from_be (sym (entry_front pair_size place type_size pairs (omega arith))))

-- where the run of one type that starts at `first` ends
abbrev pub run_end : List ℕ → List ℕ → ℕ → ℕ
run_end pairs places first = first + suc (of_type (type_at pairs (get_or places first 0)) (pairs_at pairs (drop (first + 1) places)))

-- ---- ids

module _ (pairs : List ℕ) where
  id_taken : (place : ℕ) → take id_size (drop type_size (entry pair_size place pairs)) ≡ drop type_size (entry pair_size place pairs)
  unfolding entry
  id_taken place =
      rw (drop_take type_size 32 (drop (place * pair_size) pairs)) (take-take id_size 32 (drop type_size (drop (place * pair_size) pairs)) (omega arith))

  -- behind the type there is the id alone
  pub ids_taken : (places : List ℕ) → gathered pair_size type_size pairs places ≡ ids_at pairs places
  ids_taken [] = refl
  ids_taken (place ∷ places) = rw (id_taken place, ids_taken places)

  pub ids_wide : (places : List ℕ) → All (Within pairs) places → Wide id_size (ids_at pairs places)
  ids_wide places w = subst (Wide id_size) (ids_taken places) (gathered_wide pair_size type_size pairs (omega arith) places w)

  pub length_ids : (places : List ℕ) → All (Within pairs) places → length (joined (ids_at pairs places)) ≡ length places * id_size
  length_ids places w = rw (ids_taken places) at (length_gathered pair_size type_size pairs (omega arith) places w)

  pub ids_in_front : (places d : List ℕ) {ids : List ℕ} → All (Within pairs) places → ids ≡ overwritten 0 (joined (ids_at pairs places)) d
      → take (length places * id_size) ids ≡ joined (ids_at pairs places)
  ids_in_front places d {ids} w e = gathered_front pair_size type_size pairs (omega arith) places d ids w (rw (ids_taken places) e) ∙ ap joined (ids_taken places)
