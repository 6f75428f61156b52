-- An array of batches in a local's cell is its elements in memory, which can be lent as a slice; and back. At any number n of elements.
--     mach         the machine value of a batch.        list_val     the machine value of an array of them
--     list_in      the local's cell, with the array's relation, is the elements in memory
--     list_out     and back, with the relation
--     list_held    an array's relation is that of a field that is such an array
--     place_fits   where element i starts is a number of 64 bits
-- `list_in` and `list_out` assume `Logic`.
use Prim.Native.Nat.{ℕ, ◌<◌, ◌^◌, ◌*◌}
use native.Mathlib.Omega.{arith}
use mathlib.Core.List.{[], ◌∷◌, List, map}
use mathlib.Core.Path.{refl, ◌∙◌}
use lib.ListN.{length-map}
use seplogic.Ra.Ura.{Ura}
use base.Fraction.{full_share}
use mir.Syntax.{w8, w64, ty_array}
use mir.Val.{Val, vint, vstruct, vnil, vcons}
use base.Logic.{ent, guard}
use base.Fml.{fat}
use types.Logic.{Logic, sem}
use types.Kit.{‵, given, ◌$◌, ◌∵◌, !, qed, move, drop, use1, fsplit, fjoin, done}
use types.SemTy.{cells, Arr}
use types.Share.{arr_parts}
use denote.Laws.{Is, Makes, Lawful, Tells}
use denote.Memory.{mem, part_at, shares}
use denote.Shadow.{shadow}
use denote.Struct.Field.{array_field}
use denote.Array.{Array, each, array_vals, Array-Tells, Array-Makes, Array-Lawful}
use denote.ArrayMemory.{Array-apart, Array-whole}
use denote.Slice.{Room}
use denote.Index.{row, whole_in, whole_out}
use denote.Steps.{only}
use denote.Struct.Laws as LL
use Rattle.lending.proofs.LendLaws.{lies_in, lies_out}
use Rattle.retries.specs.declared.batches.Batch.{Batch}
use Rattle.retries.specs.contracts.batches.Batch as T
use Rattle.retries.proofs.batches.Batch.TheLaws as T'
use Rattle.model.specs.Layout.{id_size}

abbrev pub mach : Batch → Val
mach v = vstruct (vcons (vint w64 v.target) (vcons (vint w8 v.typeid) (vcons (vint w64 v.first) (vcons (vint w64 v.count) vnil))))

abbrev pub list_val : List Batch → Val
list_val xs = only (array_vals (LL.vals T.the_type T'.the_laws) xs)

pub place_fits : (n i : ℕ) → Room T.the_row n → i < n → i * id_size < 2 ^ 64
place_fits n i room within = omega (arith, room.1, within)

-- an array of batches as a field of a struct: the field's relation is at the tuples of the batches' fields, which own the same by computation
each_held : (zs : List Batch) (us : List Val) → shadow (each Batch (T.the_row).own_val zs us)
    → shadow (each (T.the_field).row.Denot (T.the_field).row.own_val (map (T.the_field).into zs) us)
each_held [] [] s = s
each_held [] (u ∷ us) s = s
each_held (z ∷ zs) [] s = s
each_held (z ∷ zs) (u ∷ us) s = (s.0, each_held zs us s.1)

pub list_held : (n : ℕ) (zs : List Batch) (vs : List Val) → Is (Array T.the_row n) zs vs
    → Is (array_field T.the_field n).row ((array_field T.the_field n).into zs) vs
list_held n zs vs is = (is.0, ((is.1.0.0, length-map zs (T.the_field).into ∙ is.1.0.1), each_held zs is.0 is.1.1))

module _ {M : Type 1} {𝓤 : Ura M} (𝓛 : Logic 𝓤) (n : ℕ) where
  pub list_makes : Makes 𝓛 (Array T.the_row n) (Is (Array T.the_row n))
  list_makes = Array-Makes 𝓛 T.the_row (LL.makes T.the_type T'.the_plain 𝓛) n

  pub list_lawful : Lawful 𝓛 (Array T.the_row n)
  list_lawful = Array-Lawful 𝓛 T.the_row (LL.lawful T.the_type T'.the_laws 𝓛) n

  list_tells : Tells (Array T.the_row n) (Is (Array T.the_row n)) (λ xs. list_val xs ∷ [])
  list_tells = Array-Tells T.the_row (LL.vals T.the_type T'.the_laws) (LL.tells T.the_type T'.the_laws) n

  module _ (xs : List Batch) (b o : ℕ) where
    pub list_in : Is (Array T.the_row n) xs (list_val xs ∷ [])
        → ent 𝓤 (sem 𝓛 (fat full_share (ty_array T'.mir n) b o (list_val xs))) (sem 𝓛 (cells (mem T.the_row) xs b o))
    list_in is =
        qed 𝓛 (‵ (fat full_share (ty_array T'.mir n) b o (list_val xs)) ∷ []) ∵
        use1 𝓛 (‵ (part_at (Array T.the_row n) full_share xs b o))
        (lies_in 𝓛 (Array T.the_row n) (ty_array T'.mir n) refl list_val list_makes list_tells xs b o is) $
        use1 𝓛 (‵ ((arr_parts (shares T.the_row) n).part full_share xs b o)) (Array-apart 𝓛 T.the_row full_share tt n xs b o) $
        fsplit ! $ drop ! $ use1 𝓛 (‵ (cells (mem T.the_row) xs b o)) (whole_in 𝓛 T.the_row xs b o) $ done !

    pub list_out : ent 𝓤 (sem 𝓛 ((Arr (mem T.the_row) n).own_at xs b o))
        (guard 𝓤 (Is (Array T.the_row n) xs (list_val xs ∷ [])) (sem 𝓛 (fat full_share (ty_array T'.mir n) b o (list_val xs))))
    list_out =
        qed 𝓛 (‵ ((Arr (mem T.the_row) n).own_at xs b o) ∷ []) ∵
        fsplit ! $ move ! (1 ∷ []) $ use1 𝓛 (‵ (row T.the_row full_share xs b o)) (whole_out 𝓛 T.the_row xs b o) $ move ! (1 ∷ 0 ∷ []) $ fjoin ! $
        use1 𝓛 (‵ (part_at (Array T.the_row n) full_share xs b o)) (Array-whole 𝓛 T.the_row full_share n xs b o) $
        use1 𝓛 (given (Is (Array T.the_row n) xs (list_val xs ∷ [])) (‵ (fat full_share (ty_array T'.mir n) b o (list_val xs))))
        (lies_out 𝓛 (Array T.the_row n) (ty_array T'.mir n) refl list_val list_makes list_tells xs b o) $ done !
