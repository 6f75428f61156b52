-- The mean age is what the request asks for: quotient and remainder of the sum, and no others.
use Prim.Native.Nat.{ℕ, ◌+◌, ◌-◌, ◌*◌, ◌/◌, ◌%◌, ◌≤◌, ◌<◌}
use mathlib.Core.Path.{◌≡◌, refl, sym, ap, ◌∙◌}
use mathlib.Core.Bool.{Bool, true, false}
use mathlib.Core.List.{List, [], ◌∷◌}
use native.Mathlib.Nat.{mod-lt}
use native.Mathlib.Omega.{arith}
use lib.ListN.{length}
use lib.Dec.{eqb, leb, ltb}
use borrow.Author.Tests.{eqb-true, eqb-false, leb-true}
use Rattle.std.specs.Prelude.{sum_by}
use Rattle.std.proofs.lemmas.List.Sums.{sum_by-cons}
use Rattle.std.proofs.lemmas.Nat.{div-add-mod', div-mul-add, mod-mul-add, div_below}
use Rattle.fields.specs.Facts.{All}
use Rattle.fields.proofs.OrderLaws.{and_left, and_right}
use Rattle.model.specs.Settings.{Settings, most_requests}
use Rattle.model.specs.Delivery.{Request}
use Rattle.model.specs.Image.{request_fits, all_fit, settings_of, last_clock_of, pending_of, decode, well_formed}
use Rattle.model.specs.Calls.{unless}
use Rattle.model.specs.MeanAge.{ages, MeanAge, mean_of, mean_age_refusal, mean_age, Divides, Tells, MeanAgeHolds}
use Rattle.model.specs.Layout.{area_size}
use Rattle.model.proofs.FormedLaws.{Formed, formed}
use Rattle.model.proofs.FinishedLaws.{held}

-- ---- any requests

module _ (clock : ℕ) where
  abbrev age : Request → ℕ
  age r = clock - r.stamp

  pub ages_next : (r : Request) (rs : List Request) → ages clock (r ∷ rs) ≡ age r + ages clock rs
  ages_next r rs = sum_by-cons age r rs

  pub ages_most : (rs : List Request) → ages clock rs ≤ length rs * clock
  ages_most [] = omega arith
  ages_most (r ∷ rs) = omega (arith, ages_next r rs, ages_most rs)

  -- as long as the oldest age at most
  pub mean_most : (rs : List Request) → 0 < length rs → ages clock rs / length rs ≤ clock
  mean_most rs h =
      let most = ages_most rs in
      let below = div_below (ages clock rs) (length rs) (clock + 1) h (omega arith) in
      omega arith

  pub mean_parts : (rs : List Request)
      → ◌≡◌ {A = MeanAge} (record { number = 0; count = length rs; quotient = (mean_of clock rs).quotient; remainder = (mean_of clock rs).remainder })
      (mean_of clock rs)
  unfolding mean_of
  mean_parts [] = refl
  mean_parts (r ∷ rs) = refl

  pub mean_none : (rs : List Request) → length rs ≡ 0 → ((mean_of clock rs).quotient ≡ 0) × ((mean_of clock rs).remainder ≡ 0)
  unfolding mean_of
  mean_none [] e = (refl, refl)
  mean_none (r ∷ rs) e = absurd (omega (arith, e))

  pub mean_some : (rs : List Request) → 0 < length rs
      → ((mean_of clock rs).quotient ≡ ages clock rs / length rs) × ((mean_of clock rs).remainder ≡ ages clock rs % length rs)
  unfolding mean_of
  mean_some [] h = absurd (omega (arith, h))
  mean_some (r ∷ rs) h = (refl, refl)

  divides : (rs : List Request) → Divides clock rs (mean_of clock rs).quotient (mean_of clock rs).remainder
  unfolding mean_of
  divides [] = record { sum = refl; below = λ h. absurd (omega (arith, h)); nothing = λ e. (refl, refl) }
  divides (r ∷ rs) =
      record {
        sum = sym (div-add-mod' (ages clock (r ∷ rs)) (length (r ∷ rs)));
        below = λ h. mod-lt (ages clock (r ∷ rs)) h;
        nothing = λ e. absurd (omega (arith, e));
      }

  only : (rs : List Request) (q r : ℕ) → Divides clock rs q r → (q ≡ (mean_of clock rs).quotient) × (r ≡ (mean_of clock rs).remainder)
  unfolding mean_of
  only [] q r d = d.nothing refl
  only (one ∷ rs) q r d =
      let n : ℕ = length (one ∷ rs) in
      let below : r < n = d.below (omega arith) in (
        sym (ap (λ (sum : ℕ). sum / n) d.sum ∙ div-mul-add q n r below),
        sym (ap (λ (sum : ℕ). sum % n) d.sum ∙ mod-mul-add q n r below),
      )

  whole : (rs : List Request) → All (λ (r : Request). r.stamp ≤ clock) rs → ages clock rs + sum_by (λ (r : Request). r.stamp) rs ≡ length rs * clock
  whole [] h = omega arith
  whole (r ∷ rs) h =
      let stamp : r.stamp ≤ clock = h.0 in
      let others = whole rs h.1 in
      omega (arith, ages_next r rs, sum_by-cons (λ (r : Request). r.stamp) r rs, others)

  counted : (rs : List Request) → (mean_of clock rs).count ≡ length rs
  unfolding mean_of
  counted [] = refl
  counted (r ∷ rs) = refl

-- ---- an answer that is no refusal

-- no stamp of a well-formed image is after its last clock
stamps_fit : (settings : Settings) (last clock : ℕ) → last ≤ clock → (rs : List Request) → all_fit settings last rs ≡ true
    → All (λ (r : Request). r.stamp ≤ clock) rs
unfolding request_fits
stamps_fit settings last clock h [] e = tt
stamps_fit settings last clock h (r ∷ rs) e =
    let first = request_fits settings last r in
    let others = all_fit settings last rs in
    let fits : first ≡ true = and_left first others e in
    let stamp : r.stamp ≤ last = leb-true r.stamp last (and_left (leb r.stamp last) (ltb r.checks (most_requests settings r.type_id)) fits) in
    (omega arith, stamps_fit settings last clock h rs (and_right first others e))

record Passed (state : List ℕ) (clock : ℕ) : Type 0 where
  pub image : well_formed state ≡ true
  pub in_time : (decode state).last_clock ≤ clock

passed : (state : List ℕ) (clock : ℕ) → mean_age_refusal state clock ≡ 0 → Passed state clock
unfolding mean_age_refusal
passed state clock e =
    let last = (decode state).last_clock in
    let r4 = unless (leb last clock) 4 0 in
    let r2 = unless (well_formed state) 2 r4 in
    let h1 = held (eqb (length state) area_size) 1 r2 (omega arith) e in
    let h2 = held (well_formed state) 2 r4 (omega arith) h1.1 in
    let h4 = held (leb last clock) 4 0 (omega arith) h2.1 in
    record { image = h2.0; in_time = leb-true last clock h4.0 }

stamps : (state : List ℕ) (clock : ℕ) → Passed state clock → All (λ (r : Request). r.stamp ≤ clock) (decode state).pending
unfolding decode
stamps state clock p =
    let whole : Formed state = formed state p.image in
    stamps_fit (settings_of state) (last_clock_of state) clock p.in_time (pending_of state) whole.requests_fit

pub mean_age_holds : MeanAgeHolds
unfolding mean_age
mean_age_holds state clock answered = go (eqb (mean_age_refusal state clock) 0) refl answered
  where
    go : (t : Bool) → eqb (mean_age_refusal state clock) 0 ≡ t → (mean_age state clock).number ≡ 0 → Tells clock (decode state).pending (mean_age state clock)
    go true e h =
        let pending = (decode state).pending in
        let p = passed state clock (eqb-true (mean_age_refusal state clock) 0 e) in
        rw e (record {
          count = counted clock pending;
          divides = divides clock pending;
          only = only clock pending;
          stamps = stamps state clock p;
          whole = whole clock pending (stamps state clock p);
        })
    go false e h = absurd (eqb-false (mean_age_refusal state clock) 0 e (rw e at h))
