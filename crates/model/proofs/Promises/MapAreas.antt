-- Two well-formed maps side by side: alike in the two numbers at the start and in the heights' bytes, they are alike in every byte.
use Prim.Native.Nat.{ℕ, zero, suc, ◌+◌, ◌-◌, ◌*◌, ◌/◌, ◌%◌, ◌^◌, ◌≤◌, ◌<◌}
use mathlib.Core.Path.{◌≡◌, refl, sym, ap, ◌∙◌, subst}
use mathlib.Core.Bool.{Bool, true, false}
use mathlib.Core.Logic.{◌⊎◌, inl, inr}
use mathlib.Core.List.{List}
use native.Mathlib.Nat.{pow-suc}
use native.Mathlib.Omega.{arith}
use lib.Dec.{eqb, ltb}
use lib.ListN.{length, take, drop, get_or}
use lib.Seq.{get_or-take, get_or-drop, ext_get_or}
use borrow.Author.Tests.{eqb-true, eqb-false, ltb-true, ltb-false}
use Rattle.fields.proofs.NumberLaws.{from_be_injective, bytes_take, bytes_drop}
use Rattle.fields.proofs.PartLaws.{length_part, part_below}
use Rattle.model.specs.Image.{bit, field}
use Rattle.model.specs.MapBytes.{byte_complete}
use Rattle.model.specs.Promises.Maps.{downloaded_in, chain_height_in, byte_at, digit, WellFormed}
use Rattle.model.proofs.Promises.MapFormed.{digit_next, marked_is}

-- a number by its lowest digits
digits_same : (k m n : ℕ) → m < 2 ^ k → n < 2 ^ k → ((b : ℕ) → b < k → digit b m ≡ digit b n) → m ≡ n
digits_same zero m n h i f = omega arith
digits_same (suc k) m n h i f =
    let p = pow-suc 2 k in
    let first : m / 1 % 2 ≡ n / 1 % 2 = f 0 (omega arith) in
    let rest : m / 2 ≡ n / 2 =
    digits_same k (m / 2) (n / 2) (omega arith) (omega arith) (λ b l. sym (digit_next b m) ∙ f (suc b) (omega arith) ∙ digit_next b n)
    in
    omega arith

-- one side of a number or the other
pub below_or : (a b : ℕ) → (a < b) ⊎ (b ≤ a)
below_or a b = go (ltb a b) refl
  where
    go : (t : Bool) → ltb a b ≡ t → (a < b) ⊎ (b ≤ a)
    go true e = inl (ltb-true a b e)
    go false e = inr (ltb-false a b e)

module _ (a b : List ℕ) (f : WellFormed a) (g : WellFormed b) where
  -- bytes of a number that is the same in both
  part_same : (at width : ℕ) → at + width ≤ 512 → field at width a ≡ field at width b → (j : ℕ) → at ≤ j → j < at + width → get_or a j 0 ≡ get_or b j 0
  part_same at width h e j p q =
      let k : at + (j - at) ≡ j = omega arith in
      let la : length (take width (drop at a)) ≡ width = length_part at width a (rw f.size h) in
      let lb : length (take width (drop at b)) ≡ width = length_part at width b (rw g.size h) in
      let same : take width (drop at a) ≡ take width (drop at b) =
      from_be_injective (take width (drop at a)) (take width (drop at b)) (la ∙ sym lb)
      (bytes_take width (drop at a) (bytes_drop at a f.bytes)) (bytes_take width (drop at b) (bytes_drop at b g.bytes)) e
      in
      let there : (s : List ℕ) → get_or (take width (drop at s)) (j - at) 0 ≡ get_or s j 0 =
      λ (s : List ℕ). get_or-take width (drop at s) (j - at) 0 (omega arith) ∙ get_or-drop at s (j - at) 0 ∙ ap (λ (n : ℕ). get_or s n 0) k
      in
      sym (there a) ∙ ap (λ (s : List ℕ). get_or s (j - at) 0) same ∙ there b

  -- a word of marks whose heights are the same in both
  word_same : (w : ℕ) → w < 3 → ((c : ℕ) → c < 64 → byte_at a (64 * w + c) ≡ byte_at b (64 * w + c)) → field (16 + 8 * w) 8 a ≡ field (16 + 8 * w) 8 b
  word_same w h e =
      digits_same 64 (field (16 + 8 * w) 8 a) (field (16 + 8 * w) 8 b)
      (part_below (16 + 8 * w) 8 a (rw f.size (omega arith)) f.bytes) (part_below (16 + 8 * w) 8 b (rw g.size (omega arith)) g.bytes)
      (λ c k.
      marked_is a w c (f.marks w c h k) ∙ ap (λ (byte : ℕ). bit (byte_complete byte)) (e c k) ∙ sym (marked_is b w c (g.marks w c h k)))

  module _ (low : downloaded_in a ≡ downloaded_in b) (chain : chain_height_in a ≡ chain_height_in b) where
    -- all but one height and its word
    pub alike_but : (i : ℕ) → ((k : ℕ) → k < 192 → (k ≡ i → ⊥) → byte_at a k ≡ byte_at b k)
        → (j : ℕ) → j < 512 → (j ≡ 64 + i → ⊥) → (16 + 8 * (i / 64) ≤ j → j < 24 + 8 * (i / 64) → ⊥) → get_or a j 0 ≡ get_or b j 0
    alike_but i e j h n m = go (below_or j 4) (below_or j 8) (below_or j 12) (below_or j 16) (below_or j 40) (below_or j 64) (below_or j 256)
      where
        start_same : j < 4 → get_or a j 0 ≡ get_or b j 0
        start_same k =
            sym (get_or-take 4 a j 0 k) ∙ ap (λ (s : List ℕ). get_or s j 0) (f.start ∙ sym g.start) ∙ get_or-take 4 b j 0 k

        in-word : 16 ≤ j → j < 40 → get_or a j 0 ≡ get_or b j 0
        in-word p q =
            let w : ℕ = (j - 16) / 8 in
            part_same (16 + 8 * w) 8 (omega arith)
            (word_same w (omega arith) (λ c k. e (64 * w + c) (omega arith) (λ s. m (omega arith) (omega arith)))) j (omega arith) (omega arith)

        in-heights : 64 ≤ j → j < 256 → get_or a j 0 ≡ get_or b j 0
        in-heights p q =
            let k : 64 + (j - 64) ≡ j = omega arith in
            rw k at (e (j - 64) (omega arith) (λ s. n (omega arith)))

        go : (j < 4) ⊎ (4 ≤ j) → (j < 8) ⊎ (8 ≤ j) → (j < 12) ⊎ (12 ≤ j) → (j < 16) ⊎ (16 ≤ j) → (j < 40) ⊎ (40 ≤ j) → (j < 64) ⊎ (64 ≤ j)
            → (j < 256) ⊎ (256 ≤ j) → get_or a j 0 ≡ get_or b j 0
        go (inl p) q r s t u v = start_same p
        go (inr p) (inl q) r s t u v = part_same 4 4 (omega arith) low j p q
        go (inr p) (inr q) (inl r) s t u v = part_same 8 4 (omega arith) chain j q r
        go (inr p) (inr q) (inr r) (inl s) t u v = f.unused j (inl (r, s)) ∙ sym (g.unused j (inl (r, s)))
        go (inr p) (inr q) (inr r) (inr s) (inl t) u v = in-word s t
        go (inr p) (inr q) (inr r) (inr s) (inr t) (inl u) v = f.unused j (inr (inl (t, u))) ∙ sym (g.unused j (inr (inl (t, u))))
        go (inr p) (inr q) (inr r) (inr s) (inr t) (inr u) (inl v) = in-heights u v
        go (inr p) (inr q) (inr r) (inr s) (inr t) (inr u) (inr v) = f.unused j (inr (inr (v, h))) ∙ sym (g.unused j (inr (inr (v, h))))

    -- all of them: nothing stands at a height or in a word so far behind
    pub alike : ((k : ℕ) → k < 192 → byte_at a k ≡ byte_at b k) → a ≡ b
    alike e =
        ext_get_or 0 a b (f.size ∙ sym g.size)
        (λ j h. let k : j < 512 = rw f.size at h in alike_but 4096 (λ i l n. e i l) j k (λ s. absurd (omega arith)) (λ s t. absurd (omega arith)))

-- that byte or another
pub this_or : (P : ℕ → Type 0) (i k : ℕ) → P i → ((k ≡ i → ⊥) → P k) → P k
this_or P i k p f = go (eqb k i) refl
  where
    go : (t : Bool) → eqb k i ≡ t → P k
    go true t = subst P (sym (eqb-true k i t)) p
    go false t = f (eqb-false k i t)
