-- A mark digit by digit, from the last height down.
use Prim.Native.Nat.{ℕ, zero, suc, ◌+◌, ◌-◌, ◌*◌, ◌^◌, ◌≤◌, ◌<◌}
use mathlib.Core.Path.{◌≡◌, ap, ◌∙◌}
use mathlib.Core.Bool.{Bool}
use mathlib.Core.List.{List, [], ◌∷◌, map}
use native.Mathlib.Omega.{arith}
use lib.ListN.{length, take, drop, get_or, length-map, length-drop, drop_of_length-le}
use lib.Seq.{drop-cons, get_or-take, get_or-drop, length-take-le}
use native.Mathlib.Nat.{lt_irrefl, pow-suc}
use Rattle.model.specs.Image.{bit}
use Rattle.model.specs.MapBytes.{byte_complete, byte_mark}
use Rattle.model.specs.WindowMap.{bits}
use Rattle.model.proofs.MapLaws.{bit_most}

bits_most : (n : ℕ) (flags : List Bool) → length flags ≤ n → bits flags < 2 ^ n
bits_most zero [] h = omega arith
bits_most (suc n) [] h = let k = bits_most n [] (omega arith) in rw (pow-suc 2 n) (omega arith)
bits_most zero (flag ∷ flags) h = absurd (lt_irrefl 0 (omega arith))
bits_most (suc n) (flag ∷ flags) h =
    let b = bit_most flag in
    let k = bits_most n flags (omega arith) in
    rw (pow-suc 2 n) (omega arith)

module _ (area : List ℕ) (at : ℕ) (h : at + 64 ≤ length area) where
  abbrev heights : List ℕ
  heights = take 64 (drop at area)

  many : length heights ≡ 64
  many = length-take-le 64 (drop at area) (simp length-drop (omega arith))

  pub mark_starts : 0 ≡ byte_mark (drop 64 heights)
  mark_starts = rw (drop_of_length-le heights {i = 64} (omega (arith, many)))

  mark_most : (n left : ℕ) → 64 ≤ n + left → byte_mark (drop left heights) < 2 ^ n
  mark_most n left k =
      let l : length (map byte_complete (drop left heights)) ≡ 64 - left =
      length-map (drop left heights) byte_complete ∙ length-drop left heights ∙ ap (λ (x : ℕ). x - left) many in
      bits_most n (map byte_complete (drop left heights)) (omega arith)

  -- a turn: the height before those that the word marks
  module _ (left word : ℕ) (from : 0 < left) where
    pub mark_twice : word ≡ byte_mark (drop left heights) → word * 2 < 2 ^ 64
    mark_twice e = let k : byte_mark (drop left heights) < 2 ^ 63 = mark_most 63 left (omega arith) in omega (arith, k, e)

    module _ (to : left ≤ 64) (e : word ≡ byte_mark (drop left heights)) {digit : ℕ} (d : digit ≡ bit (byte_complete (get_or area (at + (left - 1)) 0))) where
      pub mark_turn : word * 2 + digit ≡ byte_mark (drop (left - 1) heights)
      mark_turn =
          let i : ℕ = left - 1 in
          let b : get_or heights i 0 ≡ get_or area (at + i) 0 = get_or-take 64 (drop at area) i 0 (omega arith) ∙ get_or-drop at area i 0 in
          let s : suc i ≡ left = omega arith in
          let c : drop i heights ≡ get_or area (at + i) 0 ∷ drop left heights =
          drop-cons heights i 0 (omega (arith, many)) ∙ rw (b, s) in
          rw (c, d, e) (omega arith)

      pub mark_fits : word * 2 + digit < 2 ^ 64
      mark_fits = rw mark_turn (mark_most 64 (left - 1) (omega arith))

  pub mark_ends : (left word : ℕ) → left ≤ 0 → word ≡ byte_mark (drop left heights) → word ≡ byte_mark heights
  mark_ends left word k e = let z : left ≡ 0 = omega arith in rw z at e
