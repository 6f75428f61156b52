-- Numbers, words and unused bytes written one behind another: the map over the heights' bytes that stand there.
use Prim.Native.Nat.{ℕ, ◌+◌, ◌≤◌}
use mathlib.Core.Path.{◌≡◌, refl, sym, ap, ◌∙◌}
use mathlib.Core.List.{List, ◌++◌, append_assoc, append-nil}
use native.Mathlib.Omega.{arith}
use lib.ListN.{length, take, drop, length-append, length-drop, drop_of_length-le}
use lib.Seq.{take-append-add}
use Rattle.fields.specs.Number.{to_be}
use Rattle.fields.specs.Overwrite.{overwritten}
use Rattle.fields.specs.Zero.{zeros}
use Rattle.fields.proofs.OverwriteLaws.{overwritten_next, drop_after, read_back}
use Rattle.model.specs.Layout.{map_size}
use Rattle.model.specs.Protocol.{window_size}
use Rattle.model.specs.MapBytes.{height_bytes, byte_mark, map_over}
use Rattle.window_map.specs.Around.{numbers_of, words_of}
use Rattle.window_map.specs.Changes.{word_anew}
use Rattle.window_map.proofs.FormedLaws.{first_part, second_part, third_part}

-- the next bytes behind those written from `at` on
pub written_next : (at n : ℕ) (a b s : List ℕ) {t u : List ℕ} → at + length a + length b ≤ length s → at + length a ≡ n
    → t ≡ overwritten at a s → u ≡ overwritten n b t → u ≡ overwritten at (a ++ b) s
written_next at n a b s h e f g = g ∙ rw (f, sym e) (overwritten_next at a b s h)

length_numbers : (downloaded chain : ℕ) → length (numbers_of downloaded chain) ≡ 16
unfolding numbers_of
length_numbers downloaded chain = refl

length_words : (heights : List ℕ) → length (words_of heights) ≡ 24
unfolding words_of
length_words heights = refl

module _ (s : List ℕ) (l : length s ≡ map_size) where
  pub numbers_written : (downloaded chain : ℕ) {t₁ t₂ t₃ t₄ : List ℕ} → t₁ ≡ overwritten 0 (to_be 4 1162104065) s
      → t₂ ≡ overwritten 4 (to_be 4 downloaded) t₁
      → t₃ ≡ overwritten 8 (to_be 4 chain) t₂
      → t₄ ≡ overwritten 12 (to_be 4 0) t₃
      → t₄ ≡ overwritten 0 (numbers_of downloaded chain) s
  unfolding numbers_of
  numbers_written downloaded chain e₁ e₂ e₃ e₄ =
      let a : List ℕ = to_be 4 1162104065 in
      let b : List ℕ = a ++ to_be 4 downloaded in
      let c : List ℕ = b ++ to_be 4 chain in
      let m₂ = written_next 0 4 a (to_be 4 downloaded) s (omega arith) refl e₁ e₂ in
      let m₃ = written_next 0 8 b (to_be 4 chain) s (omega arith) refl m₂ e₃ in
      written_next 0 12 c (to_be 4 0) s (omega arith) refl m₃ e₄

  pub words_written : {t₁ t₂ t₃ : List ℕ} → t₁ ≡ word_anew 16 64 s → t₂ ≡ word_anew 24 128 t₁ → t₃ ≡ word_anew 32 192 t₂
      → t₃ ≡ overwritten 16 (words_of (height_bytes s)) s
  unfolding word_anew words_of
  words_written {t₁} {t₂} {t₃} e₁ e₂ e₃ =
      let a : List ℕ = to_be 8 (byte_mark (take 64 (height_bytes s))) in
      let b : List ℕ = to_be 8 (byte_mark (take 64 (drop 64 (height_bytes s)))) in
      let c : List ℕ = to_be 8 (byte_mark (drop 128 (height_bytes s))) in
      let m₁ : t₁ ≡ overwritten 16 a s = e₁ ∙ rw (first_part s l) in
      let d₁ : drop 128 t₁ ≡ drop 128 s = ap (drop 128) m₁ ∙ drop_after 16 a s (omega arith) 128 (omega arith) in
      let n₂ : t₂ ≡ overwritten 24 b t₁ = e₂ ∙ rw (d₁, second_part s l) in
      let m₂ : t₂ ≡ overwritten 16 (a ++ b) s = written_next 16 24 a b s (omega arith) refl m₁ n₂ in
      let d₂ : drop 192 t₂ ≡ drop 192 s = ap (drop 192) m₂ ∙ drop_after 16 (a ++ b) s (omega arith) 192 (omega arith) in
      let n₃ : t₃ ≡ overwritten 32 c t₂ = e₃ ∙ rw (d₂, third_part s l) in
      written_next 16 32 (a ++ b) c s (omega arith) refl m₂ n₃

-- the front and the end written, the heights' bytes between them
between : (a s z : List ℕ) → length a ≡ 64 → 256 + length z ≡ length s → overwritten 256 z (overwritten 0 a s) ≡ a ++ (height_bytes s ++ z)
unfolding overwritten
between a s z l k =
    let e : 0 + length a ≡ 64 = omega arith in
    let f : 256 ≡ length a + 192 = omega arith in
    let rest : List ℕ = drop 64 s in
    let p : overwritten 0 a s ≡ a ++ rest = ap (λ (n : ℕ). a ++ drop n s) e in
    let t : take 256 (a ++ rest) ≡ a ++ take 192 rest = ap (λ (n : ℕ). take n (a ++ rest)) f ∙ take-append-add a rest 192 in
    let n : length (a ++ rest) ≤ 256 + length z = simp (length-append, length-drop) (omega arith) in
    ap (overwritten 256 z) p ∙ rw (t, drop_of_length-le (a ++ rest) {i = 256 + length z} n, append-nil) (append_assoc a (take 192 rest) z)

over_parts : (downloaded chain : ℕ) (heights : List ℕ)
    → ((numbers_of downloaded chain ++ words_of heights) ++ zeros 24) ++ (heights ++ zeros 256) ≡ map_over downloaded chain heights
unfolding numbers_of words_of map_over
over_parts downloaded chain heights = refl

pub around_written : (s : List ℕ) → length s ≡ map_size → (downloaded chain : ℕ) {t₁ t₂ t₃ t₄ : List ℕ}
    → t₁ ≡ overwritten 0 (numbers_of downloaded chain) s
    → t₂ ≡ overwritten 16 (words_of (height_bytes t₁)) t₁
    → t₃ ≡ overwritten 40 (zeros 24) t₂
    → t₄ ≡ overwritten 256 (zeros 256) t₃
    → t₄ ≡ map_over downloaded chain (height_bytes s)
around_written s l downloaded chain {t₁} {t₂} {t₃} {t₄} e₁ e₂ e₃ e₄ =
    let a : List ℕ = numbers_of downloaded chain in
    let heights : List ℕ = height_bytes s in
    let b : List ℕ = words_of heights in
    let la : length a ≡ 16 = length_numbers downloaded chain in
    let lb : length b ≡ 24 = length_words heights in
    let lab : length (a ++ b) ≡ 40 = length-append a b ∙ rw (la, lb) in
    let lc : length ((a ++ b) ++ zeros 24) ≡ 64 = length-append (a ++ b) (zeros 24) ∙ rw lab in
    let same : drop 64 t₁ ≡ drop 64 s = ap (drop 64) e₁ ∙ drop_after 0 a s (omega arith) 64 (omega arith) in
    let n₂ : t₂ ≡ overwritten 16 b t₁ = e₂ ∙ rw same in
    let m₂ : t₂ ≡ overwritten 0 (a ++ b) s = written_next 0 16 a b s (omega arith) (omega arith) e₁ n₂ in
    let m₃ : t₃ ≡ overwritten 0 ((a ++ b) ++ zeros 24) s = written_next 0 40 (a ++ b) (zeros 24) s (omega arith) (omega arith) m₂ e₃ in
    e₄ ∙ ap (overwritten 256 (zeros 256)) m₃ ∙ between ((a ++ b) ++ zeros 24) s (zeros 256) lc (sym l) ∙ over_parts downloaded chain heights

-- the bytes of all heights written
pub heights_read : (area heights : List ℕ) → length area ≡ map_size → length heights ≡ window_size → height_bytes (overwritten 64 heights area) ≡ heights
heights_read area heights l n = rw n at (read_back 64 heights area (omega arith))
