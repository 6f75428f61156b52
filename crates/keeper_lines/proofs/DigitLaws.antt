-- Digits: written one behind another, and read back.
use Prim.Native.Nat.{ℕ, zero, suc, ◌+◌, ◌-◌, ◌*◌, ◌/◌, ◌%◌, ◌^◌, ◌≤◌, ◌<◌}
use mathlib.Core.Path.{◌≡◌, refl, sym, ap, ◌∙◌}
use mathlib.Core.Bool.{Bool, true, false, ◌&&◌, cond, and_assoc}
use mathlib.Core.List.{List, [], ◌∷◌, ◌++◌}
use Rattle.std.proofs.Common.{Some}
use lib.Dec.{ltb}
use lib.ListN.{length, set, length-append}
use native.Mathlib.Nat.{lt_irrefl, pow-suc, mod-lt, div-add-mod', div-lt_iff_lt-mul}
use native.Mathlib.Omega.{arith}
use borrow.Author.Tests.{lt-ltb, le-ltb, ltb-true}
use Rattle.fields.specs.Overwrite.{overwritten}
use Rattle.fields.proofs.OverwriteLaws.{overwritten_nil, overwritten_one, overwritten_next, length_overwritten}
use Rattle.keeper_lines.specs.Number.{is_digit, all_digits, value_after, is_empty, decimal}
use Rattle.keeper_lines.proofs.NumberLaws.{within_yes}
use Rattle.keeper_lines.specs.Row.{digits_within, digits}

module _ (most n : ℕ) where
  digits_last : n < 10 → digits_within (suc most) n ≡ (48 + n) ∷ []
  digits_last h = rw (lt-ltb n 10 h)

  digits_more : 10 ≤ n → digits_within (suc most) n ≡ digits_within most (n / 10) ++ ((48 + n % 10) ∷ [])
  digits_more h = rw (le-ltb n 10 h)

pub length_digits : (most n : ℕ) → length (digits_within most n) ≤ most
length_digits zero n = omega arith
length_digits (suc most) n = go (ltb n 10) (length_digits most (n / 10))
  where
    go : (t : Bool) → length (digits_within most (n / 10)) ≤ most
        → length (cond t ((48 + n) ∷ []) (digits_within most (n / 10) ++ ((48 + n % 10) ∷ []))) ≤ suc most
    go true h = omega arith
    go false h = rw (length-append (digits_within most (n / 10)) ((48 + n % 10) ∷ [])) (omega arith)

digits_empty : (n : ℕ) → is_empty (digits n) ≡ false
digits_empty n = go (ltb n 10) (digits_within 19 (n / 10))
  where
    go : (t : Bool) (high : List ℕ) → is_empty (cond t ((48 + n) ∷ []) (high ++ ((48 + n % 10) ∷ []))) ≡ false
    go true high = refl
    go false [] = refl
    go false (byte ∷ high) = refl

all_digits_append : (a b : List ℕ) → all_digits (a ++ b) ≡ all_digits a && all_digits b
all_digits_append [] b = refl
all_digits_append (x ∷ a) b = rw (all_digits_append a b) (sym (and_assoc (is_digit x) (all_digits a) (all_digits b)))

value_append : (n : ℕ) (a b : List ℕ) → value_after n (a ++ b) ≡ value_after (value_after n a) b
value_append n [] b = refl
value_append n (x ∷ a) b = value_append (n * 10 + (x - 48)) a b

digits_all : (most n : ℕ) → all_digits (digits_within most n) ≡ true
unfolding is_digit
digits_all zero n = refl
digits_all (suc most) n = go (ltb n 10) refl (digits_all most (n / 10))
  where
    go : (t : Bool) → ltb n 10 ≡ t → all_digits (digits_within most (n / 10)) ≡ true
        → all_digits (cond t ((48 + n) ∷ []) (digits_within most (n / 10) ++ ((48 + n % 10) ∷ []))) ≡ true
    go true e h = rw (within_yes 48 57 (48 + n) (omega arith) (omega (arith, ltb-true n 10 e)))
    go false e h =
        let last : is_digit (48 + n % 10) ≡ true = within_yes 48 57 (48 + n % 10) (omega arith) (omega (arith, mod-lt n {m = 10} (omega arith))) in
        rw (all_digits_append (digits_within most (n / 10)) ((48 + n % 10) ∷ []), h, last)

digits_value : (most n : ℕ) → n < 10 ^ most → value_after 0 (digits_within most n) ≡ n
digits_value zero n h = omega arith
digits_value (suc most) n h = go (ltb n 10) (digits_value most (n / 10) ((div-lt_iff_lt-mul (omega arith)).1 (rw (pow-suc 10 most) at h)))
  where
    go : (t : Bool) → value_after 0 (digits_within most (n / 10)) ≡ n / 10
        → value_after 0 (cond t ((48 + n) ∷ []) (digits_within most (n / 10) ++ ((48 + n % 10) ∷ []))) ≡ n
    go true h = omega arith
    go false h = rw (value_append 0 (digits_within most (n / 10)) ((48 + n % 10) ∷ []), h) (omega (arith, div-add-mod' n 10))

-- a printed number reads back
pub digits_read_back : (n : ℕ) → n < 2 ^ 64 → decimal (2 ^ 64) (digits n) ≡ Some n
unfolding decimal
digits_read_back n h =
    rw (digits_empty n, digits_all 20 n, digits_value 20 n (omega arith), lt-ltb n (2 ^ 64) h)

-- ---- digits written

-- What was put from `at` on, and where it ends.
abbrev pub Put : ℕ → List ℕ → List ℕ → List ℕ → ℕ → Type 0
Put at s done o end = record { out_after : o ≡ overwritten at done s; value : end ≡ at + length done }

pub none_put : (at most n : ℕ) (s : List ℕ) → most < 1 → Put at s (digits_within most n) s at
none_put at zero n s h = record { out_after = sym (overwritten_nil at s); value = omega arith }
none_put at (suc most) n s h = absurd (lt_irrefl 0 (omega arith))

pub only_put : (at most n : ℕ) (s : List ℕ) → at + most ≤ length s → 1 ≤ most → n < 10
    → Put at s (digits_within most n) (set s at (48 + n)) (at + 1)
only_put at zero n s room positive l = absurd (lt_irrefl 0 (omega arith))
only_put at (suc most) n s room positive l = rw (digits_last most n l) (record { out_after = overwritten_one at (48 + n) s (omega arith); value = refl })

-- one byte more, behind what was put
pub byte_put : (at byte : ℕ) (s o done : List ℕ) (end : ℕ) → at + length done < length s
    → Put at s done o end → Put at s (done ++ (byte ∷ [])) (set o end byte) (end + 1)
byte_put at byte s o done end room p =
    let kept : length o ≡ length s = ap length p.out_after ∙ length_overwritten at done s (omega arith) in
    let one : set o end byte ≡ overwritten end (byte ∷ []) o = overwritten_one end byte o (omega (arith, p.value)) in
    let longer : length (done ++ (byte ∷ [])) ≡ length done + 1 = length-append done (byte ∷ []) in
    record { out_after = one ∙ rw (p.out_after, p.value) (overwritten_next at done (byte ∷ []) s (omega arith)); value = omega (arith, p.value) }

-- The last digit has room at `end`, and with it the digits are put.
pub record LastPut (at most n : ℕ) (s o : List ℕ) (end : ℕ) : Type 0 where
  pub room : end < length o
  pub put : 10 ≤ n → Put at s (digits_within most n) (set o end (48 + n % 10)) (end + 1)

pub last_put : (at most n : ℕ) (s o : List ℕ) (end : ℕ) → at + most ≤ length s → 1 ≤ most
    → Put at s (digits_within (most - 1) (n / 10)) o end → LastPut at most n s o end
last_put at zero n s o end room positive p = absurd (lt_irrefl 0 (omega arith))
last_put at (suc most) n s o end room positive p =
    let e : suc most - 1 ≡ most = omega arith in
    go (rw e at p)
  where
    high : List ℕ
    high = digits_within most (n / 10)

    go : Put at s high o end → LastPut at (suc most) n s o end
    go q =
        let few : length high ≤ most = length_digits most (n / 10) in
        let kept : length o ≡ length s = ap length q.out_after ∙ length_overwritten at high s (omega arith) in
        record { room = omega (arith, q.value); put = λ l. rw (digits_more most n l) (byte_put at (48 + n % 10) s o high end (omega arith) q) }

-- 10050 printed
pub printed : digits 10050 ≡ 49 ∷ 48 ∷ 48 ∷ 53 ∷ 48 ∷ []
printed = refl
