-- Fields one behind another, and the line that they make.
use Prim.Native.Nat.{ℕ, zero, suc, ◌+◌, ◌-◌, ◌≤◌, ◌<◌}
use mathlib.Core.Path.{◌≡◌, refl, sym, ap, ◌∙◌}
use mathlib.Core.Bool.{Bool, true, false, cond}
use mathlib.Core.List.{List, [], ◌∷◌}
use Rattle.std.proofs.Common.{Option, None, Some}
use lib.Dec.{eqb, ltb}
use lib.ListN.{length, take, drop, get_or, length-drop, drop_of_length-le}
use lib.Seq.{drop-cons}
use native.Mathlib.Nat.{zero-add, suc-add, lt_irrefl}
use native.Mathlib.Numerals.{add-one}
use native.Mathlib.Omega.{arith}
use borrow.Author.Tests.{eq-eqb, ne_eqb, eqb-true, ltb-true, ltb-false}
use Rattle.keeper_lines.specs.Number.{decimal, hex_byte}
use Rattle.keeper_lines.proofs.NumberLaws.{decimal_none, decimal_below, hex_none}
use Rattle.keeper_lines.specs.Line.{up_to, onto_first, fields_of, given, field, done, settings_of, request_of, check_of, by_letter, of_fields, line_of}
use Rattle.keeper_lines.specs.Reading.{field_behind, end_behind, field_of, fields_behind}
use Rattle.keeper_lines.specs.declared.lines.Line.{Line}

-- ---- the bytes before a stop

pub length_up_to : (stop : ℕ) (bytes : List ℕ) → length (up_to stop bytes) ≤ length bytes
length_up_to stop [] = omega arith
length_up_to stop (byte ∷ bytes) = go (eqb byte stop) (length_up_to stop bytes)
  where
    go : (t : Bool) → length (up_to stop bytes) ≤ length bytes → length (cond t [] (byte ∷ up_to stop bytes)) ≤ suc (length bytes)
    go true h = omega arith
    go false h = omega arith

pub take_up_to : (stop : ℕ) (bytes : List ℕ) → take (length (up_to stop bytes)) bytes ≡ up_to stop bytes
take_up_to stop [] = refl
take_up_to stop (byte ∷ bytes) = go (eqb byte stop) (take_up_to stop bytes)
  where
    go : (t : Bool) → take (length (up_to stop bytes)) bytes ≡ up_to stop bytes
        → take (length (cond t [] (byte ∷ up_to stop bytes))) (byte ∷ bytes) ≡ cond t [] (byte ∷ up_to stop bytes)
    go true h = refl
    go false h = rw h

pub up_to_pass : (stop i : ℕ) (s : List ℕ) → i < length s → (get_or s i 0 ≡ stop → ⊥)
    → length (up_to stop (drop i s)) ≡ suc (length (up_to stop (drop (i + 1) s)))
up_to_pass stop i s h e = rw (add-one, drop-cons s i 0 h, ne_eqb (get_or s i 0) stop e)

pub up_to_stop : (stop i : ℕ) (s : List ℕ) → i < length s → get_or s i 0 ≡ stop → up_to stop (drop i s) ≡ []
up_to_stop stop i s h e = rw (drop-cons s i 0 h, eq-eqb (get_or s i 0) stop e)

pub up_to_end : (stop i : ℕ) (s : List ℕ) → length s ≤ i → up_to stop (drop i s) ≡ []
up_to_end stop i s h = rw (drop_of_length-le s {i = i} h)

-- where the first stop from `from` on was found, the bytes before it end
module _ (stop : ℕ) (s : List ℕ) (end : ℕ) (within : end ≤ length s) (found : end < length s → get_or s end 0 ≡ stop) where
  stop_found : up_to stop (drop end s) ≡ []
  stop_found = go (ltb end (length s)) refl
    where
      go : (t : Bool) → ltb end (length s) ≡ t → up_to stop (drop end s) ≡ []
      go true e = let h : end < length s = ltb-true end (length s) e in up_to_stop stop end s h (found h)
      go false e = up_to_end stop end s (ltb-false end (length s) e)

  pub found_up_to : (n from : ℕ) → from + n ≡ end → ((k : ℕ) → from ≤ k → k < end → get_or s k 0 ≡ stop → ⊥) → end ≡ from + length (up_to stop (drop from s))
  found_up_to zero from e before =
      let same : from ≡ end = omega arith in
      rw (same, stop_found) (omega arith)
  found_up_to (suc n) from e before =
      omega (
        arith,
        up_to_pass stop from s (omega arith) (before from (omega arith) (omega arith)),
        found_up_to n (from + 1) (omega arith) (λ k h l. before k (omega arith) l),
      )

-- ---- fields

pub fields_first : (bytes : List ℕ) → fields_of bytes ≡ up_to 32 bytes ∷ fields_behind (length (up_to 32 bytes)) bytes
fields_first [] = refl
fields_first (byte ∷ bytes) = go (eqb byte 32) (fields_first bytes)
  where
    go : (t : Bool) → fields_of bytes ≡ up_to 32 bytes ∷ fields_behind (length (up_to 32 bytes)) bytes
        → cond t ([] ∷ fields_of bytes) (onto_first byte (fields_of bytes))
        ≡ cond t [] (byte ∷ up_to 32 bytes) ∷ fields_behind (length (cond t [] (byte ∷ up_to 32 bytes))) (byte ∷ bytes)
    go true e = refl
    go false e = rw e

fields_drop : (m k : ℕ) (line : List ℕ) → fields_behind k (drop m line) ≡ fields_behind (m + k) line
fields_drop zero k line = rw zero-add
fields_drop (suc m) k [] = refl
fields_drop (suc m) k (byte ∷ bytes) = rw suc-add (fields_drop m k bytes)

fields_behind_lem : (space : ℕ) (line : List ℕ) → space < length line → fields_behind space line ≡ fields_of (drop (suc space) line)
fields_behind_lem zero [] h = absurd (lt_irrefl 0 h)
fields_behind_lem (suc space) [] h = absurd (lt_irrefl 0 (omega arith))
fields_behind_lem zero (byte ∷ bytes) h = refl
fields_behind_lem (suc space) (byte ∷ bytes) h = fields_behind_lem space bytes (omega arith)

pub fields_none : (space : ℕ) (line : List ℕ) → length line ≤ space → fields_behind space line ≡ []
fields_none space [] h = refl
fields_none zero (byte ∷ bytes) h = absurd (lt_irrefl 0 (omega arith))
fields_none (suc space) (byte ∷ bytes) h = fields_none space bytes (omega arith)

pub fields_next : (space : ℕ) (line : List ℕ) → space < length line
    → fields_behind space line ≡ field_behind space line ∷ fields_behind (end_behind space line) line
unfolding field_behind end_behind
fields_next space line h =
    let rest : List ℕ = drop (suc space) line in
    rw (add-one space, fields_behind_lem space line h, fields_first rest, fields_drop (suc space) (length (up_to 32 rest)) line)

pub field_none : (space : ℕ) (line : List ℕ) → length line ≤ space → field_behind space line ≡ []
unfolding field_behind
field_none space line h = up_to_end 32 (space + 1) line (omega arith)

-- ---- a field read, and then the next

same_pair : {n at v end : ℕ} → ◌≡◌ {A = Option (ℕ × ℕ)} (Some (n, at)) (Some (v, end)) → (n ≡ v) × (at ≡ end)
same_pair {n = n} {at = at} {v = v} {end = end} h =
    let p : ◌≡◌ {A = ℕ × ℕ} (n, at) (v, end) = cc in
    (ap (λ (x : ℕ × ℕ). x.0) p, ap (λ (x : ℕ × ℕ). x.1) p)

given_read : (o : Option ℕ) (at v end : ℕ) (next : ℕ → ℕ → Option Line) → field_of o at ≡ Some (v, end) → given o (λ n. next n at) ≡ next v end
given_read None at v end next h = let z : ◌≡◌ {A = ℕ} 0 1 = cc in absurd (lt_irrefl 0 (omega arith))
given_read (Some n) at v end next h =
    let p = same_pair h in
    rw (p.0, p.1)

given_refused : (o : Option ℕ) (at : ℕ) (next : ℕ → Option Line) → field_of o at ≡ None → given o next ≡ None
given_refused None at next h = refl
given_refused (Some n) at next h = let z : ◌≡◌ {A = ℕ} 0 1 = cc in absurd (lt_irrefl 0 (omega arith))

pub value_read : (o : Option ℕ) (at v end : ℕ) → field_of o at ≡ Some (v, end) → o ≡ Some v
value_read None at v end h = let z : ◌≡◌ {A = ℕ} 0 1 = cc in absurd (lt_irrefl 0 (omega arith))
value_read (Some n) at v end h = rw (same_pair h).0

module _ (read : List ℕ → Option ℕ) (empty : read [] ≡ None) (next : ℕ → List (List ℕ) → Option Line) (space : ℕ) (line : List ℕ) where
  field_read : (v end : ℕ) → field_of (read (field_behind space line)) (end_behind space line) ≡ Some (v, end)
      → field read next (fields_behind space line) ≡ next v (fields_behind end line)
  field_read v end h = go (ltb space (length line)) refl
    where
      go : (t : Bool) → ltb space (length line) ≡ t → field read next (fields_behind space line) ≡ next v (fields_behind end line)
      go true e =
          rw (fields_next space line (ltb-true space (length line) e))
          (given_read (read (field_behind space line)) (end_behind space line) v end (λ n at. next n (fields_behind at line)) h)
      go false e =
          let b : read (field_behind space line) ≡ None = rw (field_none space line (ltb-false space (length line) e)) empty in
          let c : read (field_behind space line) ≡ Some v = value_read (read (field_behind space line)) (end_behind space line) v end h in
          let z : ◌≡◌ {A = ℕ} 0 1 = cc in
          absurd (lt_irrefl 0 (omega arith))

  field_refused : field_of (read (field_behind space line)) (end_behind space line) ≡ None → field read next (fields_behind space line) ≡ None
  field_refused h = go (ltb space (length line)) refl
    where
      go : (t : Bool) → ltb space (length line) ≡ t → field read next (fields_behind space line) ≡ None
      go true e =
          rw (fields_next space line (ltb-true space (length line) e))
          (given_refused (read (field_behind space line)) (end_behind space line) (λ n. next n (fields_behind (end_behind space line) line)) h)
      go false e = rw (fields_none space line (ltb-false space (length line) e))

-- A reader's answer, and what follows: read, or refused.
module _ (limit : ℕ) (next : ℕ → List (List ℕ) → Option Line) (space : ℕ) (line : List ℕ) {r : Option (ℕ × ℕ)}
    (answer : r ≡ field_of (decimal limit (field_behind space line)) (end_behind space line)) where
  pub decimal_then : {v end : ℕ} → r ≡ Some (v, end) → field (decimal limit) next (fields_behind space line) ≡ next v (fields_behind end line)
  decimal_then {v = v} {end = end} e = field_read (decimal limit) (decimal_none limit) next space line v end (sym answer ∙ e)

  pub decimal_refused : r ≡ None → field (decimal limit) next (fields_behind space line) ≡ None
  decimal_refused e = field_refused (decimal limit) (decimal_none limit) next space line (sym answer ∙ e)

module _ (next : ℕ → List (List ℕ) → Option Line) (space : ℕ) (line : List ℕ) {r : Option (ℕ × ℕ)}
    (answer : r ≡ field_of (hex_byte (field_behind space line)) (end_behind space line)) where
  pub hex_then : {v end : ℕ} → r ≡ Some (v, end) → field hex_byte next (fields_behind space line) ≡ next v (fields_behind end line)
  hex_then {v = v} {end = end} e = field_read hex_byte hex_none next space line v end (sym answer ∙ e)

  pub hex_refused : r ≡ None → field hex_byte next (fields_behind space line) ≡ None
  hex_refused e = field_refused hex_byte hex_none next space line (sym answer ∙ e)

pub decimal_as_below : (limit space : ℕ) (line : List ℕ) {v end : ℕ} {r : Option (ℕ × ℕ)}
    → r ≡ field_of (decimal limit (field_behind space line)) (end_behind space line) → r ≡ Some (v, end) → v < limit
decimal_as_below limit space line {v = v} {end = end} answer e =
    decimal_below limit v (field_behind space line) (value_read (decimal limit (field_behind space line)) (end_behind space line) v end (sym answer ∙ e))

pub done_last : (made : Line) (space : ℕ) (line : List ℕ) → length line ≤ space → done made (fields_behind space line) ≡ Some made
done_last made space line h = rw (fields_none space line h)

pub done_more : (made : Line) (space : ℕ) (line : List ℕ) → space < length line → done made (fields_behind space line) ≡ None
done_more made space line h = rw (fields_next space line h)

-- ---- a line by its letter

cond_same : (t : Bool) (a : Option Line) → cond t a a ≡ a
cond_same true a = refl
cond_same false a = refl

letter-only : (letter : ℕ) → by_letter letter [] ≡ None
unfolding by_letter settings_of request_of check_of
letter-only letter = rw (cond_same (eqb letter 99) None, cond_same (eqb letter 113) None, cond_same (eqb letter 116) None)

pub too_short : (line : List ℕ) → length line < 2 → line_of line ≡ None
unfolding line_of
too_short [] h = refl
too_short (a ∷ []) h = go (eqb a 32)
  where
    go : (t : Bool) → of_fields (cond t ([] ∷ ([] ∷ [])) (onto_first a ([] ∷ []))) ≡ None
    go true = refl
    go false = letter-only a
too_short (a ∷ (b ∷ line)) h = absurd (lt_irrefl 0 (omega arith))

pub no_letter : (line : List ℕ) → 2 ≤ length line → (get_or line 1 0 ≡ 32 → ⊥) → line_of line ≡ None
unfolding line_of
no_letter [] h e = absurd (lt_irrefl 0 (omega arith))
no_letter (a ∷ []) h e = absurd (lt_irrefl 0 (omega arith))
no_letter (a ∷ (b ∷ line)) h e = rw (ne_eqb b 32 e, fields_first line) (go (eqb a 32) (up_to 32 line) (fields_behind (length (up_to 32 line)) line))
  where
    go : (t : Bool) (bytes : List ℕ) (fields : List (List ℕ))
        → of_fields (cond t ([] ∷ ((b ∷ bytes) ∷ fields)) (onto_first a ((b ∷ bytes) ∷ fields))) ≡ None
    go true bytes fields = refl
    go false bytes fields = refl

pub by_letter_lem : (line : List ℕ) → 2 ≤ length line → get_or line 1 0 ≡ 32 → line_of line ≡ by_letter (get_or line 0 0) (fields_behind 1 line)
unfolding line_of by_letter
by_letter_lem [] h e = absurd (lt_irrefl 0 (omega arith))
by_letter_lem (a ∷ []) h e = absurd (lt_irrefl 0 (omega arith))
by_letter_lem (a ∷ (b ∷ line)) h e = rw (eq-eqb b 32 e) (go (eqb a 32) refl)
  where
    go : (t : Bool) → eqb a 32 ≡ t → of_fields (cond t ([] ∷ ([] ∷ fields_of line)) (onto_first a ([] ∷ fields_of line))) ≡ by_letter a (fields_of line)
    go true f = rw (eqb-true a 32 f)
    go false f = refl

-- ---- what `line_end` gives its callers

pub line_end_within : (stop from : ℕ) (text : List ℕ) → from ≤ length text → from + length (up_to stop (drop from text)) ≤ length text
line_end_within stop from text h = omega (arith, length_up_to stop (drop from text), length-drop from text)

pub line_taken : (stop from : ℕ) (text : List ℕ) → take (from + length (up_to stop (drop from text)) - from) (drop from text) ≡ up_to stop (drop from text)
line_taken stop from text =
    let e : from + length (up_to stop (drop from text)) - from ≡ length (up_to stop (drop from text)) = omega arith in
    rw e (take_up_to stop (drop from text))

-- ---- the part of a line that is a field

module _ (space end : ℕ) (line : List ℕ) (ends : end ≡ space + 1 + length (up_to 32 (drop (space + 1) line))) where
  pub part_is_field : take (end - (space + 1)) (drop (space + 1) line) ≡ field_behind space line
  unfolding field_behind
  part_is_field = rw ends (line_taken 32 (space + 1) line)

  pub end_is_end : end_behind space line ≡ end
  unfolding field_behind end_behind
  end_is_end = sym ends
