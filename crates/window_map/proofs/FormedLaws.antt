-- The test of an area in parts: the start, the unused bytes, the heights one by one, the words.
use Prim.Native.Nat.{ℕ, suc, ◌+◌, ◌≤◌, ◌<◌}
use mathlib.Core.Path.{◌≡◌, refl, ap, ◌∙◌}
use mathlib.Core.Bool.{Bool, true, false, ◌&&◌, ◌||◌}
use mathlib.Core.List.{List, [], ◌∷◌}
use native.Mathlib.Nat.{lt_irrefl}
use native.Mathlib.Omega.{arith}
use lib.Dec.{eqb, leb, ltb}
use lib.ListN.{length, take, drop, get_or, length-drop, drop_of_length-le}
use lib.Seq.{drop-cons, drop_at, drop-drop, get_or-take, get_or-drop, length-take-le, take-add, take_all, take-take}
use Rattle.fields.specs.Order.{same}
use Rattle.fields.specs.Zero.{all_zero}
use Rattle.model.specs.Protocol.{window_size}
use Rattle.model.specs.Image.{field}
use Rattle.model.specs.Layout.{map_size}
use Rattle.model.specs.MapBytes.{height_bytes, byte_formed, byte_mark, bytes_formed, bytes_absent_above, words_formed, area_formed}
use Rattle.window_map.specs.Parts.{room_zero, heights_formed}

-- ---- the start

pub same_four : (s : List ℕ) (a b c d : ℕ) → 4 ≤ length s
    → eqb (get_or s 0 0) a && (eqb (get_or s 1 0) b && (eqb (get_or s 2 0) c && eqb (get_or s 3 0) d)) ≡ same (take 4 s) (a ∷ b ∷ c ∷ d ∷ [])
unfolding same
same_four [] a b c d h = absurd (lt_irrefl 0 (omega arith))
same_four (x ∷ []) a b c d h = absurd (lt_irrefl 0 (omega arith))
same_four (x ∷ y ∷ []) a b c d h = absurd (lt_irrefl 0 (omega arith))
same_four (x ∷ y ∷ z ∷ []) a b c d h = absurd (lt_irrefl 0 (omega arith))
same_four (x ∷ y ∷ z ∷ w ∷ s) a b c d h = go (eqb x a) (eqb y b) (eqb z c) (eqb w d)
  where
    go : (p q r t : Bool) → p && (q && (r && t)) ≡ p && (q && (r && (t && true)))
    go false q r t = refl
    go true false r t = refl
    go true true false t = refl
    go true true true false = refl
    go true true true true = refl

-- ---- the heights

-- the answer so far, with that of the heights left
turned : (ok formed above formed' above' : Bool) → ok && ((formed && formed') && (above && above')) ≡ (ok && (formed && above)) && (formed' && above')
turned false formed above formed' above' = refl
turned true false above formed' above' = refl
turned true true true formed' above' = refl
turned true true false true above' = refl
turned true true false false above' = refl

and_end : (ok : Bool) → ok && (true && true) ≡ ok
and_end true = refl
and_end false = refl

module _ (area : List ℕ) (chain downloaded : ℕ) where
  -- of the heights from the i-th on
  abbrev pub formed_from : ℕ → Bool
  formed_from i = bytes_formed (drop i (height_bytes area)) && bytes_absent_above chain (downloaded + i) (drop i (height_bytes area))

  module _ (l : length area ≡ map_size) where
    many : length (height_bytes area) ≡ window_size
    many = length-take-le window_size (drop 64 area) (simp length-drop (omega arith))

    pub heights_start : true && formed_from 0 ≡ heights_formed chain downloaded area
    heights_start = let z : downloaded + 0 ≡ downloaded = omega arith in rw z

    pub heights_turn : (ok : Bool) (i : ℕ) {formed : Bool} → i < window_size → formed ≡ byte_formed (get_or area (64 + i) 0)
        → ok && formed_from i ≡ (ok && (formed && (ltb (downloaded + i) chain || leb 128 (get_or area (64 + i) 0)))) && formed_from (i + 1)
    heights_turn ok i {formed} h e =
        let byte : ℕ = get_or area (64 + i) 0 in
        let b : get_or (height_bytes area) i 0 ≡ byte = get_or-take window_size (drop 64 area) i 0 h ∙ get_or-drop 64 area i 0 in
        let s : i + 1 ≡ suc i = omega arith in
        let n : downloaded + suc i ≡ suc (downloaded + i) = omega arith in
        let d : drop i (height_bytes area) ≡ byte ∷ drop (suc i) (height_bytes area) = drop-cons (height_bytes area) i 0 (omega (arith, many)) ∙ rw b in
        rw (s, n, d, e) (turned ok (byte_formed byte) (ltb (downloaded + i) chain || leb 128 byte) (bytes_formed (drop (suc i) (height_bytes area)))
        (bytes_absent_above chain (suc (downloaded + i)) (drop (suc i) (height_bytes area))))

    pub heights_end : (ok : Bool) (i : ℕ) → window_size ≤ i → ok && formed_from i ≡ ok
    heights_end ok i h = rw (drop_of_length-le (height_bytes area) {i = i} (omega (arith, many))) (and_end ok)

-- ---- the words

drop_take : (m n : ℕ) (s : List ℕ) → m ≤ length s → drop m (take (m + n) s) ≡ take n (drop m s)
drop_take m n s h = rw (take-add m n s) (drop_at (take m s) (take n (drop m s)) m (length-take-le m s h))

module _ (area : List ℕ) (l : length area ≡ map_size) where
  pub room_end : all_zero (take 256 (drop 256 area)) ≡ all_zero (drop 256 area)
  room_end = ap all_zero (take_all 256 (drop 256 area) (simp length-drop (omega arith)))

  long : window_size ≤ length (drop 64 area)
  long = simp length-drop (omega arith)

  pub first_part : take 64 (height_bytes area) ≡ take 64 (drop 64 area)
  first_part = take-take 64 window_size (drop 64 area) (omega arith)

  pub second_part : take 64 (drop 64 (height_bytes area)) ≡ take 64 (drop 128 area)
  second_part =
      ap (take 64) (drop_take 64 128 (drop 64 area) (omega (arith, long))) ∙ take-take 64 128 (drop 64 (drop 64 area)) (omega arith)
      ∙ ap (take 64) (drop-drop 64 64 area)

  pub third_part : drop 128 (height_bytes area) ≡ take 64 (drop 192 area)
  third_part = drop_take 128 64 (drop 64 area) (omega (arith, long)) ∙ ap (take 64) (drop-drop 128 64 area)

  pub words_are : {w₁ w₂ w₃ m₁ m₂ m₃ : ℕ} → w₁ ≡ field 16 8 area → m₁ ≡ byte_mark (take 64 (drop 64 area)) → w₂ ≡ field 24 8 area
      → m₂ ≡ byte_mark (take 64 (drop 128 area)) → w₃ ≡ field 32 8 area → m₃ ≡ byte_mark (take 64 (drop 192 area))
      → eqb w₁ m₁ && (eqb w₂ m₂ && eqb w₃ m₃) ≡ words_formed area
  unfolding words_formed
  words_are a b c d e f = rw (a, b, c, d, e, f, first_part, second_part, third_part)

-- ---- all of it

together : (start numbers words end formed above marks : Bool)
    → (start && (numbers && (words && end))) && ((formed && above) && marks) ≡ start && (numbers && (words && (end && (formed && (above && marks)))))
together false numbers words end formed above marks = refl
together true false words end formed above marks = refl
together true true false end formed above marks = refl
together true true true false formed above marks = refl
together true true true true false above marks = refl
together true true true true true above marks = refl

module _ (area : List ℕ) where
  pub formed_parts : {downloaded chain : ℕ} {start room heights words : Bool} → downloaded ≡ field 4 4 area → chain ≡ field 8 4 area
      → start ≡ same (take 4 area) (69 ∷ 68 ∷ 77 ∷ 1 ∷ [])
      → room ≡ room_zero area
      → heights ≡ heights_formed chain downloaded area
      → words ≡ words_formed area
      → (start && room) && (heights && words) ≡ area_formed area
  unfolding area_formed
  formed_parts d c s r h w =
      rw (s, r, h, w, d, c) (together (same (take 4 area) (69 ∷ 68 ∷ 77 ∷ 1 ∷ [])) (all_zero (take 4 (drop 12 area)))
      (all_zero (take 24 (drop 40 area))) (all_zero (drop 256 area)) (bytes_formed (height_bytes area))
      (bytes_absent_above (field 8 4 area) (field 4 4 area) (height_bytes area)) (words_formed area))
