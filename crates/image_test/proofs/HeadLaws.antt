-- The header's bytes one by one, and what a header that fits says of the counts.
use Prim.Native.Nat.{ℕ, zero, suc, ◌+◌, ◌≤◌, ◌<◌}
use mathlib.Core.Path.{◌≡◌, refl}
use mathlib.Core.Bool.{Bool, true, false, ◌&&◌, ◌||◌}
use mathlib.Core.List.{List, [], ◌∷◌}
use native.Mathlib.Nat.{lt_irrefl}
use native.Mathlib.Omega.{arith}
use lib.Dec.{eqb, leb}
use lib.ListN.{length, take, get_or}
use borrow.Author.Tests.{leb-true, ne_eqb}
use Rattle.fields.specs.Order.{same}
use Rattle.fields.proofs.OrderLaws.{and_left, and_right}
use Rattle.model.specs.State.{syncing, is_mode, has_sync_peer}
use Rattle.model.specs.Image.{field, mode_of, mode_byte, version_fits, marks_fit, counts_fit, clocks_fit, pending_count, stalled_count, evicted_count}
use Rattle.image_test.specs.Head.{head_fits}
use Rattle.model.specs.Protocol.{tracked_limit}

-- ---- bytes

pub same_three : (s : List ℕ) (a b c : ℕ) → 3 ≤ length s → same (take 3 s) (a ∷ b ∷ c ∷ []) ≡ eqb (get_or s 0 0) a && (eqb (get_or s 1 0) b && eqb (get_or s 2 0) c)
unfolding same
same_three [] a b c h = absurd (lt_irrefl 0 (omega arith))
same_three (x ∷ []) a b c h = absurd (lt_irrefl 0 (omega arith))
same_three (x ∷ (y ∷ [])) a b c h = absurd (lt_irrefl 0 (omega arith))
same_three (x ∷ (y ∷ (z ∷ s))) a b c h = go (eqb x a) (eqb y b) (eqb z c)
  where
    go : (p q r : Bool) → p && (q && (r && true)) ≡ p && (q && r)
    go false q r = refl
    go true false r = refl
    go true true false = refl
    go true true true = refl

-- a byte above 3 is none of these
other : (n k : ℕ) → k < 4 → eqb (suc (suc (suc (suc n)))) k ≡ false
other n k h = ne_eqb (suc (suc (suc (suc n)))) k (λ e. lt_irrefl 0 (omega arith))

-- which byte stands for which mode
pub syncing_byte : (n : ℕ) → is_mode (mode_of n) syncing ≡ eqb n 2
unfolding mode_of
syncing_byte zero = refl
syncing_byte (suc zero) = refl
syncing_byte (suc (suc zero)) = refl
syncing_byte (suc (suc (suc zero))) = refl
syncing_byte (suc (suc (suc (suc n)))) = rw (other n 0 (omega arith), other n 1 (omega arith), other n 2 (omega arith), other n 3 (omega arith))

pub peer_byte : (n : ℕ) → has_sync_peer (mode_of n) ≡ eqb n 2 || eqb n 3
unfolding mode_of
peer_byte zero = refl
peer_byte (suc zero) = refl
peer_byte (suc (suc zero)) = refl
peer_byte (suc (suc (suc zero))) = refl
peer_byte (suc (suc (suc (suc n)))) = rw (other n 0 (omega arith), other n 1 (omega arith), other n 2 (omega arith), other n 3 (omega arith))

-- ---- all of it

together : (mark version mode marks rest : Bool) → ((mark && (version && mode)) && marks) && rest ≡ mark && (version && (mode && (marks && rest)))
together false version mode marks rest = refl
together true false mode marks rest = refl
together true true false marks rest = refl
together true true true marks rest = refl

module _ (area : List ℕ) where
  pub parts_fit : {starts marks counts clocks peer : Bool}
      → starts ≡ same (take 3 area) (69 ∷ 68 ∷ 84 ∷ []) && (version_fits area && leb (mode_byte area) 4)
      → marks ≡ marks_fit area
      → counts ≡ counts_fit area
      → clocks ≡ clocks_fit area
      → peer ≡ has_sync_peer (mode_of (mode_byte area)) || eqb (field 48 8 area) 0
      → (starts && marks) && (counts && (clocks && peer)) ≡ head_fits area
  unfolding head_fits
  parts_fit e₁ e₂ e₃ e₄ e₅ =
      rw (e₁, e₂, e₃, e₄, e₅) (together (same (take 3 area) (69 ∷ 68 ∷ 84 ∷ [])) (version_fits area) (leb (mode_byte area) 4) (marks_fit area)
      (counts_fit area && (clocks_fit area && (has_sync_peer (mode_of (mode_byte area)) || eqb (field 48 8 area) 0))))

  counts_few : counts_fit area ≡ true → (stalled_count area ≤ 256) × (pending_count area + evicted_count area ≤ tracked_limit)
  unfolding counts_fit
  counts_few h = (
    leb-true (stalled_count area) 256 (and_left (leb (stalled_count area) 256) (leb (pending_count area + evicted_count area) tracked_limit) h),
    leb-true (pending_count area + evicted_count area) tracked_limit
        (and_right (leb (stalled_count area) 256) (leb (pending_count area + evicted_count area) tracked_limit) h),
  )

  -- behind a header that fits the tables lie within the area
  pub head_few : head_fits area ≡ true → (stalled_count area ≤ 256) × (pending_count area + evicted_count area ≤ tracked_limit)
  unfolding head_fits
  head_few h =
      let last : Bool = clocks_fit area && (has_sync_peer (mode_of (mode_byte area)) || eqb (field 48 8 area) 0) in
      let later : Bool = marks_fit area && (counts_fit area && last) in
      let h₁ : version_fits area && (leb (mode_byte area) 4 && later) ≡ true = and_right (same (take 3 area) (69 ∷ 68 ∷ 84 ∷ [])) _ h in
      let h₂ : leb (mode_byte area) 4 && later ≡ true = and_right (version_fits area) _ h₁ in
      let h₃ : later ≡ true = and_right (leb (mode_byte area) 4) _ h₂ in
      let h₄ : counts_fit area && last ≡ true = and_right (marks_fit area) _ h₃ in
      counts_few (and_left (counts_fit area) last h₄)
