-- Every ended stay has one of the five reasons.
use Prim.Native.Nat.{ℕ, suc, ◌+◌}
use mathlib.Core.Path.{◌≡◌, refl}
use mathlib.Core.List.{List, [], ◌∷◌}
use native.Mathlib.Omega.{arith}
use lib.ListN.{length}
use lib.Dec.{eqb}
use Rattle.fields.specs.Filter.{cons_if, kept}
use Rattle.model.specs.Book as book
use Rattle.model.specs.Book.{Ended, Reason, reason_number, ended_for}

abbrev pub by_reason : List Ended → ℕ
by_reason ended = ended_for book.delivered ended + ended_for book.evicted ended + ended_for book.abandoned ended + ended_for book.forgotten ended + ended_for book.purged ended

pub ended_reasons : (ended : List Ended) → length ended ≡ by_reason ended
unfolding ended_for
ended_reasons [] = refl
ended_reasons (e ∷ ended) = go e.reason (ended_reasons ended)
  where
    count : Reason → Reason → ℕ
    count x reason = length (cons_if (eqb (reason_number x) (reason_number reason)) e (kept (λ (e : Ended). eqb (reason_number e.reason) (reason_number reason)) ended))

    go : (x : Reason) → length ended ≡ by_reason ended → suc (length ended) ≡ count x book.delivered + count x book.evicted + count x book.abandoned + count x book.forgotten + count x book.purged
    go book.delivered h = omega arith
    go book.evicted h = omega arith
    go book.purged h = omega arith
    go book.abandoned h = omega arith
    go book.forgotten h = omega arith
