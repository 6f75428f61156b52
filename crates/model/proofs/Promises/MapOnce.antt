-- The promises of F-1's map leave no byte open: two maps that are both what is promised of one call are the same.
use Prim.Native.Nat.{ℕ, ◌+◌, ◌-◌, ◌*◌, ◌/◌, ◌≤◌, ◌<◌}
use mathlib.Core.Path.{◌≡◌, sym, ap, ◌∙◌}
use mathlib.Core.Bool.{Bool}
use mathlib.Core.Logic.{◌⊎◌, inl, inr}
use mathlib.Core.List.{List, [], ◌∷◌}
use mathlib.Core.Option.{Option, none, some}
use native.Mathlib.Nat.{lt_irrefl}
use native.Mathlib.Omega.{arith}
use lib.ListN.{length, take, drop, get_or}
use lib.Seq.{get_or-take, get_or-drop, ext_get_or}
use Rattle.fields.specs.Number.{from_be}
use Rattle.fields.proofs.PartLaws.{length_part}
use Rattle.model.specs.Image.{field}
use Rattle.model.specs.Sections.{Header, absent, present}
use Rattle.model.specs.Lists.{view_of}
use Rattle.model.specs.Promises.Maps.{downloaded_in, byte_at, RowByte, FilledByte, Filled, Changed, Slid}
use Rattle.model.proofs.Promises.MapAreas.{below_or, alike, this_or}

-- ---- a height filled from a view has one byte

row_once : (header : Option Header) (m n : ℕ) → RowByte header m → RowByte header n → m ≡ n
row_once none m n p q = absurd p
row_once (some absent) m n p q = p ∙ sym q
row_once (some (present [])) m n p q = p ∙ sym q
row_once (some (present (a ∷ []))) m n p q = p ∙ sym q
row_once (some (present (a ∷ b ∷ []))) m n p q = p ∙ sym q
row_once (some (present (a ∷ b ∷ c ∷ []))) m n p q = p ∙ sym q
row_once (some (present (a ∷ b ∷ c ∷ d ∷ more))) m n p q = absurd p

byte_once : (view : List ℕ) (chain_height height m n : ℕ) → FilledByte view chain_height height m → FilledByte view chain_height height n → m ≡ n
byte_once view chain_height height m n (inl p) (inl q) = p.1 ∙ sym q.1
byte_once view chain_height height m n (inl p) (inr q) = let a = p.0 in let b = q.0 in absurd (lt_irrefl 0 (omega arith))
byte_once view chain_height height m n (inr p) (inl q) = let a = p.0 in let b = q.0 in absurd (lt_irrefl 0 (omega arith))
byte_once view chain_height height m n (inr p) (inr q) = row_once (view_of view height) m n p.1 q.1

-- ---- the three calls that write

pub filled_once : (downloaded chain_height : ℕ) (view a b : List ℕ) → Filled a downloaded chain_height view → Filled b downloaded chain_height view → a ≡ b
filled_once downloaded chain_height view a b f g =
    alike a b f.formed g.formed (f.low ∙ sym g.low) (f.chain ∙ sym g.chain)
    (λ i h. byte_once view chain_height (downloaded + 1 + i) (byte_at a i) (byte_at b i) (f.heights i h) (g.heights i h))

pub slid_once : (area : List ℕ) (downloaded : ℕ) (view a b : List ℕ) → downloaded_in area ≤ downloaded
    → Slid area a downloaded view → Slid area b downloaded view → a ≡ b
slid_once area downloaded view a b up f g =
    alike a b f.formed g.formed (f.low ∙ sym g.low) (f.chain ∙ sym g.chain)
    (λ j h. go j h (below_or (downloaded_in area + 192) (downloaded + 1 + j)))
  where
    go : (j : ℕ) → j < 192 → (downloaded_in area + 192 < downloaded + 1 + j) ⊎ (downloaded + 1 + j ≤ downloaded_in area + 192) → byte_at a j ≡ byte_at b j
    go j h (inl new) = byte_once view (field 8 4 area) (downloaded + 1 + j) (byte_at a j) (byte_at b j) (f.comes j h new) (g.comes j h new)
    go j h (inr old) =
        let i : ℕ = downloaded + j - downloaded_in area in
        f.stays i j (omega arith) h (omega arith) ∙ sym (g.stays i j (omega arith) h (omega arith))

-- a number whose bytes are the same in both
field_same : (a b : List ℕ) → length a ≡ 512 → length b ≡ 512 → (at width : ℕ) → at + width ≤ 512
    → ((j : ℕ) → at ≤ j → j < at + width → get_or a j 0 ≡ get_or b j 0) → field at width a ≡ field at width b
field_same a b l k at width h e =
    let la : length (take width (drop at a)) ≡ width = length_part at width a (rw l h) in
    let lb : length (take width (drop at b)) ≡ width = length_part at width b (rw k h) in
    let there : (s : List ℕ) (i : ℕ) → i < width → get_or (take width (drop at s)) i 0 ≡ get_or s (at + i) 0 =
    λ (s : List ℕ) (i : ℕ) (m : i < width). get_or-take width (drop at s) i 0 m ∙ get_or-drop at s i 0
    in
    ap from_be
    (ext_get_or 0 (take width (drop at a)) (take width (drop at b)) (la ∙ sym lb)
    (λ i m. let n : i < width = rw la at m in there a i n ∙ e (at + i) (omega arith) (omega arith) ∙ sym (there b i n)))

pub changed_once : (area a b : List ℕ) (i place : ℕ) (flag : Bool) → i < 192 → Changed area a i place flag → Changed area b i place flag → a ≡ b
changed_once area a b i place flag h f g =
    alike a b f.formed g.formed
    (number_same 4 (omega arith) (omega arith))
    (number_same 8 (omega arith) (omega arith))
    (λ k l. this_or (λ (k : ℕ). byte_at a k ≡ byte_at b k) i k here
    (λ n. outside (64 + k) (omega arith) (λ e. n (omega arith)) (λ r s. absurd (omega arith))))
  where
    outside : (j : ℕ) → j < 512 → (j ≡ 64 + i → ⊥) → (16 + 8 * (i / 64) ≤ j → j < 24 + 8 * (i / 64) → ⊥) → get_or a j 0 ≡ get_or b j 0
    outside j l n w = f.others j l n w ∙ sym (g.others j l n w)

    -- the two heights, in front of the marks
    number_same : (at : ℕ) → 4 ≤ at → at ≤ 8 → field at 4 a ≡ field at 4 b
    number_same at low high =
        field_same a b f.formed.size g.formed.size at 4 (omega arith)
        (λ j p q. outside j (omega arith) (λ e. absurd (omega arith)) (λ r s. absurd (omega arith)))

    here : byte_at a i ≡ byte_at b i
    here = let p = f.alone in let q = g.alone in omega arith
