-- The commands of some bytes, counted one by one.
use Prim.Native.Nat.{ℕ, zero, suc, ◌+◌, ◌-◌, ◌*◌, ◌≤◌, ◌<◌}
use mathlib.Core.Path.{◌≡◌, refl, ap, ◌∙◌}
use mathlib.Core.List.{List, [], ◌∷◌}
use native.Mathlib.Nat.{lt_irrefl, not-suc-le-zero}
use native.Mathlib.Omega.{arith}
use lib.ListN.{length, take, drop, length-drop, drop_of_length-le}
use lib.Seq.{drop-drop}
use Rattle.fields.specs.Number.{from_be}
use Rattle.model.specs.Requests.{Command}
use Rattle.model.specs.Image.{field}
use Rattle.model.specs.Commands.{command_of, commands_within, commands_in}
use Rattle.model.specs.Layout.{command_header, id_size}

-- where the next command stands
abbrev pub behind : List ℕ → ℕ
behind bytes = command_header + field 13 4 bytes * id_size

-- more than enough is enough
within_alike : (n m : ℕ) (bytes : List ℕ) → length bytes ≤ n → length bytes ≤ m → commands_within n bytes ≡ commands_within m bytes
within_alike zero zero bytes h k = refl
within_alike zero (suc m) [] h k = refl
within_alike (suc n) zero [] h k = refl
within_alike (suc n) (suc m) [] h k = refl
within_alike zero (suc m) (b ∷ bytes) h k = absurd (not-suc-le-zero h)
within_alike (suc n) zero (b ∷ bytes) h k = absurd (not-suc-le-zero k)
within_alike (suc n) (suc m) (b ∷ bytes) h k =
    let l = length-drop (behind (b ∷ bytes)) (b ∷ bytes) in
    ap (λ (others : List Command). command_of (b ∷ bytes) ∷ others)
    (within_alike n m (drop (behind (b ∷ bytes)) (b ∷ bytes)) (omega (arith, l, h)) (omega (arith, l, k)))

-- one command, and those behind it
pub count_first : (bytes : List ℕ) → 0 < length bytes → length (commands_in bytes) ≡ suc (length (commands_in (drop (behind bytes) bytes)))
unfolding commands_in
count_first [] h = absurd (lt_irrefl 0 h)
count_first (b ∷ bytes) h =
    let rest : List ℕ = drop (behind (b ∷ bytes)) (b ∷ bytes) in
    let l = length-drop (behind (b ∷ bytes)) (b ∷ bytes) in
    ap (λ (others : List Command). suc (length others)) (within_alike (length bytes) (length rest) rest (omega (arith, l)) (omega arith))

pub count_none : (at : ℕ) (bytes : List ℕ) → length bytes ≤ at → length (commands_in (drop at bytes)) ≡ 0
unfolding commands_in
count_none at bytes h = rw (drop_of_length-le bytes {i = at} h)

-- ---- the loop: `count` commands stand before `at`

pub record Counted (bytes : List ℕ) (count at : ℕ) : Type 0 where
  pub rest : count + length (commands_in (drop at bytes)) ≡ length (commands_in bytes)
  pub few : count ≤ at

module _ {bytes : List ℕ} {count at : ℕ} (c : Counted bytes count at) where
  pub ends : length bytes ≤ at → count ≡ length (commands_in bytes)
  ends h = omega (arith, c.rest, count_none at bytes h)

  module _ (inside : at < length bytes) where
    first : length (commands_in (drop at bytes)) ≡ suc (length (commands_in (drop (at + behind (drop at bytes)) bytes)))
    first = count_first (drop at bytes) (omega (arith, length-drop at bytes)) ∙ rw (drop-drop (behind (drop at bytes)) at bytes)

    -- too short for a header
    pub ends_short : length bytes - at < command_header → count + 1 ≡ length (commands_in bytes)
    ends_short h = omega (arith, c.rest, first, count_none (at + behind (drop at bytes)) bytes (omega arith))

    pub goes_on_lem : {ids : ℕ} → ids ≡ from_be (take 4 (drop (at + 13) bytes)) → Counted bytes (count + 1) (at + command_header + ids * id_size)
    goes_on_lem {ids} e =
        let same : at + behind (drop at bytes) ≡ at + command_header + ids * id_size = rw (e, drop-drop 13 at bytes) (omega arith) in
        let next = rw same at first in
        record { rest = omega (arith, c.rest, next); few = omega (arith, c.few) }

-- ---- there are no more commands than bytes

within_few : (n : ℕ) (bytes : List ℕ) → length (commands_within n bytes) ≤ n
within_few zero bytes = omega arith
within_few (suc n) [] = omega arith
within_few (suc n) (b ∷ bytes) = omega (arith, within_few n (drop (behind (b ∷ bytes)) (b ∷ bytes)))

pub counted_few : (bytes : List ℕ) → length (commands_in bytes) ≤ length bytes
unfolding commands_in
counted_few bytes = within_few (length bytes) bytes
