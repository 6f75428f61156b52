-- A fresh core: its header over zeros.
use Prim.Native.Nat.{ℕ, ◌+◌, ◌-◌}
use mathlib.Core.Path.{◌≡◌, sym, ◌∙◌}
use mathlib.Core.List.{List, [], ◌++◌, append-nil}
use native.Mathlib.Omega.{arith}
use lib.ListN.{length, drop, take-append-drop}
use Rattle.fields.specs.Zero.{zeros}
use Rattle.fields.specs.Overwrite.{overwritten}
use Rattle.fields.proofs.ZeroLaws.{zeros_append, drop_zeros}
use Rattle.model.specs.Settings.{Settings}
use Rattle.model.specs.State.{State, opened}
use Rattle.model.specs.Image.{encode}
use Rattle.model.proofs.ImageLaws.{Sized, take_header, drop_header}
use Rattle.image.specs.Heads.{head_bytes, head_of}
use Rattle.image.proofs.HeadLaws.{head_of_lem, length_head}
use Rattle.model.specs.Layout.{area_size, region_size}

-- an area that has all but the header of an encoding
pub header_encode : (st : State) (area : List ℕ) → Sized st → drop 74 area ≡ drop 74 (encode st) → overwritten 0 (head_bytes (head_of st)) area ≡ encode st
unfolding overwritten
header_encode st area z d =
    let l : 0 + length (head_bytes (head_of st)) ≡ 74 = omega (arith, length_head (head_of st)) in
    rw (l, d, head_of_lem st, ← take_header st z) (take-append-drop 74 (encode st))

zeros_joined : (a b c n : ℕ) → a + (b + c) ≡ n → zeros a ++ ([] ++ (zeros b ++ ([] ++ (zeros c ++ [])))) ≡ zeros n
zeros_joined a b c n h = rw (append-nil (zeros c), zeros_append b c, zeros_append a (b + c), h)

pub opened_sized : (settings : Settings) (clock height : ℕ) → Sized (opened settings clock height)
unfolding opened
opened_sized settings clock height = record { records = tt; ids = tt; stalled_few = omega arith; tracked = omega arith }

module _ (settings : Settings) (clock height : ℕ) where
  opened_rest : (n : ℕ) → n ≡ area_size → drop 74 (zeros n) ≡ drop 74 (encode (opened settings clock height))
  unfolding opened
  opened_rest n h =
      drop_zeros n 74 ∙ sym (zeros_joined 438 2048 region_size (n - 74) (omega arith))
      ∙ sym (drop_header (opened settings clock height) (opened_sized settings clock height))

  -- its header written over zeros
  pub opened_written : (n : ℕ) → n ≡ area_size → overwritten 0 (head_bytes (head_of (opened settings clock height))) (zeros n)
      ≡ encode (opened settings clock height)
  opened_written n h = header_encode (opened settings clock height) (zeros n) (opened_sized settings clock height) (opened_rest n h)
