-- A well-formed area copied onto zeros: all up to its last record, then its evicted ids. What is between them is zero.
use Prim.Native.Nat.{ℕ, ◌+◌, ◌-◌, ◌*◌, ◌≤◌}
use mathlib.Core.Path.{◌≡◌, refl, sym, ap, ◌∙◌}
use mathlib.Core.Bool.{true}
use mathlib.Core.List.{List, ◌++◌}
use native.Mathlib.Omega.{arith}
use lib.ListN.{length, take, drop, length-drop, take-append-drop}
use lib.Seq.{take-add, take-append-add, take_at, length-take-le}
use borrow.Rule.Slice.PartMut.{mid_of, put_mid}
use Rattle.fields.specs.Zero.{zeros}
use Rattle.fields.proofs.ZeroLaws.{length_zeros, zeros_append, drop_zeros, all_zero_eq}
use Rattle.image.specs.declared.head.Head.{Head}
use Rattle.image.specs.Heads.{head_in}
use Rattle.model.specs.Image.{well_formed, pending_count, evicted_count}
use Rattle.model.specs.Protocol.{tracked_limit}
use Rattle.model.specs.Layout.{area_size, id_size, record_size, region_at}
use Rattle.model.proofs.FormedLaws.{region_free_in, formed}
use Rattle.step.proofs.TailLaws.{tail_all, front_kept, tail_put}

take_zeros : (n m : ℕ) → n ≤ m → take n (zeros m) ≡ zeros n
take_zeros n m h =
    let sum : n + (m - n) ≡ m = omega arith in
    let e : zeros n ++ zeros (m - n) ≡ zeros m = zeros_append n (m - n) ∙ ap zeros sum in
    ap (take n) (sym e) ∙ take_at (zeros n) (zeros (m - n)) n (length_zeros n)

module _ (area : List ℕ) (long : length area ≡ area_size) (ok : well_formed area ≡ true) where
  -- where the records end, and where the evicted ids start
  abbrev pub records_end : ℕ
  records_end = region_at + pending_count area * record_size

  abbrev pub evicted_at : ℕ
  evicted_at = area_size - evicted_count area * id_size

  abbrev free : ℕ
  free = region_free_in area

  pub used_apart : records_end + free ≡ evicted_at
  used_apart = omega (arith, (formed area ok).tracked)

  zero_between : take free (drop records_end area) ≡ zeros free
  zero_between =
      let n : length (take free (drop records_end area)) ≡ free =
      length-take-le free (drop records_end area) (rw (length-drop records_end area) (omega (arith, long, (formed area ok).tracked))) in
      all_zero_eq (take free (drop records_end area)) (formed area ok).between ∙ ap zeros n

  -- the front on zeros, up to the evicted ids
  front_on_zeros : take evicted_at (take records_end area ++ drop records_end (zeros area_size)) ≡ take evicted_at area
  front_on_zeros =
      let front : List ℕ = take records_end area in
      let n : length front ≡ records_end = length-take-le records_end area (omega (arith, long, (formed area ok).tracked)) in
      let rest : List ℕ = zeros (area_size - records_end) in
      let cut : take (length front + free) (front ++ rest) ≡ front ++ zeros free =
      take-append-add front rest free ∙ ap (λ (x : List ℕ). front ++ x) (take_zeros free (area_size - records_end) (omega (arith, used_apart))) in
      rw (drop_zeros area_size records_end, sym used_apart) (rw n at cut ∙ ap (λ (x : List ℕ). front ++ x) (sym zero_between) ∙ sym (take-add records_end free area))

  pub used_copied : {image₁ image₂ part : List ℕ} → image₁ ≡ take records_end area ++ drop records_end (zeros area_size) → length image₁ ≡ area_size
      → part ≡ mid_of evicted_at (length area - evicted_at) area → image₂ ≡ put_mid evicted_at (length image₁ - evicted_at) image₁ part
      → image₂ ≡ area
  used_copied {image₁} {image₂} {part} first long₁ second whole =
      let within : evicted_at ≤ length image₁ = omega (arith, long₁) in
      let front : take evicted_at image₂ ≡ take evicted_at area =
      ap (take evicted_at) whole ∙ front_kept evicted_at image₁ part within ∙ ap (take evicted_at) first ∙ front_on_zeros in
      let back : drop evicted_at image₂ ≡ drop evicted_at area =
      ap (drop evicted_at) whole ∙ tail_put evicted_at image₁ part within ∙ second ∙ tail_all evicted_at area in
      sym (take-append-drop evicted_at image₂) ∙ rw (front, back) (take-append-drop evicted_at area)

-- ---- by a header that was read

module _ (area : List ℕ) (ok : well_formed area ≡ true) (head : Head) (read : head ≡ head_in area) where
  pub read_few : head.pending + head.evicted ≤ tracked_limit
  unfolding head_in
  read_few = rw read (formed area ok).tracked

  -- the front is copied, then what stands from the evicted ids on
  pub copied_whole : (image₀ image₁ part : List ℕ) → length area ≡ area_size → image₀ ≡ zeros area_size
      → image₁ ≡ take (region_at + head.pending * record_size) area ++ drop (region_at + head.pending * record_size) image₀ → length image₁ ≡ area_size
      → part ≡ mid_of (area_size - head.evicted * id_size) (length area - (area_size - head.evicted * id_size)) area
      → put_mid (area_size - head.evicted * id_size) (length image₁ - (area_size - head.evicted * id_size)) image₁ part ≡ area
  unfolding head_in
  copied_whole image₀ image₁ part long zero first long₁ second =
      rw read (used_copied area long ok (rw (read, zero) at first) long₁ (rw read at second) refl)
