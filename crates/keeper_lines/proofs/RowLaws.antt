-- Numbers written one behind another.
use Prim.Native.Nat.{ℕ, ◌+◌, ◌*◌, ◌≤◌, ◌<◌}
use mathlib.Core.Path.{◌≡◌, refl, sym, ap, ◌∙◌}
use mathlib.Core.List.{List, [], ◌∷◌, ◌++◌, append_assoc, append-nil}
use native.Mathlib.Omega.{arith}
use lib.ListN.{length, take, get_or, set, length-append}
use Rattle.std.proofs.lemmas.List.{take_all, take_more, length-take}
use Rattle.fields.specs.Overwrite.{overwritten}
use Rattle.fields.proofs.OverwriteLaws.{overwritten_nil, overwritten_next, length_overwritten}
use Rattle.keeper_lines.specs.Row.{digits, number_then, row}
use Rattle.keeper_lines.proofs.DigitLaws.{Put, length_digits, byte_put}

length_then : (ds : List ℕ) (mark : ℕ) → length ds ≤ 20 → length (ds ++ (mark ∷ [])) ≤ 21
length_then ds mark h = rw (length-append ds (mark ∷ [])) (omega arith)

-- a number and its mark have at most 21 bytes
pub number_fits : (mark n : ℕ) → length (number_then mark n) ≤ 21
unfolding number_then
number_fits mark n = length_then (digits n) mark (length_digits 20 n)

-- ---- a mark behind digits

-- The mark has room at `end`, and with it the number is put.
pub record Marked (at mark n : ℕ) (s o : List ℕ) (end : ℕ) : Type 0 where
  pub room : end < length o
  pub put : Put at s (number_then mark n) (set o end mark) (end + 1)

pub number_marked : (at mark : ℕ) (s o : List ℕ) (n end : ℕ) → at + 21 ≤ length s → Put at s (digits n) o end → Marked at mark n s o end
unfolding number_then
number_marked at mark s o n end room p =
    let few : length (digits n) ≤ 20 = length_digits 20 n in
    let kept : length o ≡ length s = ap length p.out_after ∙ length_overwritten at (digits n) s (omega arith) in
    record { room = omega (arith, p.value); put = byte_put at mark s o (digits n) end (omega arith) p }

-- ---- numbers, each with its mark

pub next_put : (at : ℕ) (s done new o o' : List ℕ) (end end' : ℕ) → at + length done + length new ≤ length s
    → Put at s done o end → Put end o new o' end' → Put at s (done ++ new) o' end'
next_put at s done new o o' end end' room p q =
    let e : o' ≡ overwritten (at + length done) new o = rw p.value at q.out_after in
    let l : length (done ++ new) ≡ length done + length new = length-append done new in
    record { out_after = e ∙ ap (overwritten (at + length done) new) p.out_after ∙ overwritten_next at done new s room; value = omega (arith, p.value, q.value) }

-- numbers with a space behind each
abbrev pub spaced : List ℕ → List ℕ
spaced [] = []
spaced (n ∷ ns) = number_then 32 n ++ spaced ns

spaced_few : (ns : List ℕ) → length (spaced ns) ≤ length ns * 21
spaced_few [] = omega arith
spaced_few (n ∷ ns) = rw (length-append (number_then 32 n) (spaced ns)) (omega (arith, number_fits 32 n, spaced_few ns))

spaced_next : (ns : List ℕ) (n : ℕ) → spaced ns ++ number_then 32 n ≡ spaced (ns ++ (n ∷ []))
spaced_next [] n = sym (append-nil (number_then 32 n))
spaced_next (m ∷ ns) n =
    append_assoc (number_then 32 m) (spaced ns) (number_then 32 n) ∙ ap (λ (x : List ℕ). number_then 32 m ++ x) (spaced_next ns n)

-- the last number ends the row
spaced_row : (ns : List ℕ) (n : ℕ) → spaced ns ++ number_then 10 n ≡ row (ns ++ (n ∷ []))
spaced_row [] n = refl
spaced_row (m ∷ []) n = rw append-nil
spaced_row (m ∷ (k ∷ ns)) n =
    append_assoc (number_then 32 m) (spaced (k ∷ ns)) (number_then 10 n) ∙ ap (λ (x : List ℕ). number_then 32 m ++ x) (spaced_row (k ∷ ns) n)

-- The first i numbers are written from `at` on, in a slice with room for all and one more; `end` is behind them.
pub record Written (at : ℕ) (s numbers : List ℕ) (i : ℕ) (o : List ℕ) (end : ℕ) : Type 0 where
  pub room : at + (length numbers + 1) * 21 ≤ length s
  pub put : Put at s (spaced (take i numbers)) o end

pub none_written : (at : ℕ) (s numbers : List ℕ) → at + (length numbers + 1) * 21 ≤ length s → Written at s numbers 0 s at
none_written at s numbers room = record { room = room; put = record { out_after = sym (overwritten_nil at s); value = omega arith } }

module _ {at : ℕ} {s numbers : List ℕ} {i : ℕ} {o : List ℕ} {end : ℕ} (w : Written at s numbers i o end) where
  still_room : at + length (spaced (take i numbers)) + 21 ≤ length s
  still_room = omega (arith, w.room, spaced_few (take i numbers), length-take i numbers)

  -- one more number has room
  pub room_for_next : end + 21 ≤ length o
  room_for_next =
      let kept : length o ≡ length s = ap length w.put.out_after ∙ length_overwritten at (spaced (take i numbers)) s (omega (arith, still_room)) in
      omega (arith, still_room, w.put.value)

  behind : (mark n : ℕ) {o' : List ℕ} {end' : ℕ} → Put end o (number_then mark n) o' end' → Put at s (spaced (take i numbers) ++ number_then mark n) o' end'
  behind mark n p = next_put at s (spaced (take i numbers)) (number_then mark n) o _ end _ (omega (arith, still_room, number_fits mark n)) w.put p

  pub next_written : {o' : List ℕ} {end' : ℕ} → i < length numbers → Put end o (number_then 32 (get_or numbers i 0)) o' end'
      → Written at s numbers (i + 1) o' end'
  next_written more p = record { room = w.room; put = rw (take_more numbers i 0 more, ← spaced_next (take i numbers) (get_or numbers i 0)) (behind 32 _ p) }

  pub row_written : (n : ℕ) {o' : List ℕ} {end' : ℕ} → length numbers ≤ i → Put end o (number_then 10 n) o' end' → Put at s (row (numbers ++ (n ∷ []))) o' end'
  row_written n all p = rw (← spaced_row numbers n) (rw (take_all i numbers all) at (behind 10 n p))

pub nothing_put : (at : ℕ) (numbers s : List ℕ) → length numbers ≡ 0 → Put at s (row numbers) s at
nothing_put at [] s e = record { out_after = sym (overwritten_nil at s); value = omega arith }
nothing_put at (n ∷ numbers) s e = absurd (omega arith)

-- ---- a row's length

-- a row has at most 126 bytes
pub row_few : (a b c d e f : ℕ) → length (row (a ∷ b ∷ c ∷ d ∷ e ∷ f ∷ [])) ≤ 126
row_few a b c d e f =
    rw (← spaced_row (a ∷ b ∷ c ∷ d ∷ e ∷ []) f, length-append (spaced (a ∷ b ∷ c ∷ d ∷ e ∷ [])) (number_then 10 f))
    (omega (arith, spaced_few (a ∷ b ∷ c ∷ d ∷ e ∷ []), number_fits 10 f))
