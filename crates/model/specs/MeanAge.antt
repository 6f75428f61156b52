-- F-7: the mean age of what is pending, exactly.
use Rattle.std.specs.Prelude.{ℕ, ◌≡◌, ◌+◌, ◌-◌, ◌*◌, ◌/◌, ◌%◌, ◌<◌, ◌≤◌, cond, List, [], ◌∷◌, length, eqb, leb, sum_by}
use Rattle.fields.specs.Facts.{All}
use Rattle.model.specs.Delivery.{Request}
use Rattle.model.specs.Image.{decode}
use Rattle.model.specs.Calls.{unless, image_refusal}

-- "all pending ages (clock − stamp)": "the sum"
abbrev pub ages : ℕ → List Request → ℕ
ages clock requests = sum_by (λ (r : Request). clock - r.stamp) requests

-- "Answer the count n, the quotient q and the remainder r"
pub record MeanAge : Type 0 where
  pub number : ℕ
  pub count : ℕ
  pub quotient : ℕ
  pub remainder : ℕ

abbrev pub no_mean : ℕ → MeanAge
no_mean number = record { number = number; count = 0; quotient = 0; remainder = 0 }

-- "With nothing pending all three are 0."
unfoldable pub mean_of : ℕ → List Request → MeanAge
mean_of clock [] = no_mean 0
mean_of clock (r ∷ rs) =
    record {
      number = 0;
      count = length (r ∷ rs);
      quotient = ages clock (r ∷ rs) / length (r ∷ rs);
      remainder = ages clock (r ∷ rs) % length (r ∷ rs);
    }

-- "A clock before the image's last clock is number 4 here too."
unfoldable pub mean_age_refusal : List ℕ → ℕ → ℕ
mean_age_refusal state clock = image_refusal state (unless (leb (decode state).last_clock clock) 4 0)

-- The entry: the state is read only.
unfoldable pub mean_age : List ℕ → ℕ → MeanAge
mean_age state clock =
    cond (eqb (mean_age_refusal state clock) 0) (mean_of clock (decode state).pending) (no_mean (mean_age_refusal state clock))

-- ---- in the request's own words

-- What q and r are asked to be, of the ages of some requests.
pub record Divides (clock : ℕ) (requests : List Request) (q r : ℕ) : Type 0 where
  -- "the sum of all pending ages .. is q × n + r"
  pub sum : ages clock requests ≡ q * length requests + r
  -- "with r below n", unless n is 0
  pub below : 0 < length requests → r < length requests
  -- "With nothing pending all three are 0."
  pub nothing : length requests ≡ 0 → (q ≡ 0) × (r ≡ 0)

-- An answer tells some requests so, and no other q and r would.
pub record Tells (clock : ℕ) (pending : List Request) (answer : MeanAge) : Type 0 where
  pub count : answer.count ≡ length pending
  pub divides : Divides clock pending answer.quotient answer.remainder
  pub only : (q r : ℕ) → Divides clock pending q r → (q ≡ answer.quotient) × (r ≡ answer.remainder)
  -- no age is cut off at 0, so that each age and its stamp are the clock
  pub stamps : All (λ (r : Request). r.stamp ≤ clock) pending
  pub whole : ages clock pending + sum_by (λ (r : Request). r.stamp) pending ≡ length pending * clock

-- An answer that is no refusal tells what is pending.
abbrev pub MeanAgeHolds : Type 0
MeanAgeHolds = (state : List ℕ) (clock : ℕ) → (mean_age state clock).number ≡ 0 → Tells clock (decode state).pending (mean_age state clock)
