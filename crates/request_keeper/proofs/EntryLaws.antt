-- The entries by their tests.
use Prim.Native.Nat.{ℕ, zero, suc, ◌-◌, ◌*◌, ◌<◌, ◌≤◌}
use mathlib.Core.Path.{◌≡◌, refl, sym, ◌∙◌}
use mathlib.Core.Bool.{true, false}
use mathlib.Core.List.{List}
use lib.ListN.{length, take, drop, length-drop}
use lib.Seq.{take_all}
use lib.Dec.{eqb, leb}
use borrow.Author.Tests.{ne_eqb, eqb-true, leb-true}
use native.Mathlib.Nat.{lt_irrefl}
use native.Mathlib.Omega.{arith}
use Rattle.fields.specs.Overwrite.{overwritten}
use Rattle.fields.specs.Entries.{joined}
use Rattle.model.specs.Delivery.{Request}
use Rattle.model.specs.State.{State, opened}
use Rattle.model.specs.Image.{bit, field, pending_of, encode, decode, well_formed}
use Rattle.model.proofs.FormedLaws.{Formed, formed}
use Rattle.model.proofs.FinishedLaws.{held}
use Rattle.commands.specs.Pending.{requests_in}
use Rattle.commands.proofs.HoldingLaws.{length_requests}
use Rattle.refusals.specs.Refusals.{given_refusal}
use Rattle.refusals.proofs.RefusalLaws.{StateFits, state_fits, refusal_split}
use Rattle.model.specs.Calls.{is_flag, unless, Call, Result, refused, step_refusal, step, Opening, Opened, open', Asked, question_refusal, question_pairs, question}
use Rattle.model.specs.Forecast.{forecast_refusal, no_figures, forecast}
use Rattle.model.specs.MeanAge.{MeanAge, no_mean, mean_of, mean_age_refusal, mean_age}
use Rattle.model.proofs.MeanAgeLaws.{mean_parts}
use Rattle.model.specs.Layout.{area_size, pair_size, record_size, region_at}
use Rattle.model.specs.Protocol.{tracked_limit}
use Rattle.model.proofs.Well.{Well}
use Rattle.model.proofs.QuestionLaws.{question_bytes_most}
use Rattle.model.proofs.ForecastLaws.{same_refusal}
use Rattle.fields.specs.Zero.{zeros}
use Rattle.fields.proofs.ZeroLaws.{length_zeros}

pub not_opened : (state : List ℕ) (o : Opening)
    → eqb (length state) area_size ≡ false
    → ◌≡◌ {A = Opened} (record { number = 1; state = state }) (open' state o)
unfolding open'
not_opened state o t = rw t

pub opened_here : (state exit : List ℕ) (o : Opening)
    → eqb (length state) area_size ≡ true
    → exit ≡ encode (opened o.settings o.clock o.height)
    → ◌≡◌ {A = Opened} (record { number = 0; state = exit }) (open' state o)
unfolding open'
opened_here state exit o t e = rw (t, e)

-- a number that is not 0, as tests see it
module _ {number : ℕ} (positive : 0 < number) where
  told : eqb number 0 ≡ false
  told = ne_eqb number 0 (λ z. lt_irrefl 0 (omega arith))

  pub not_stepped : (state area : List ℕ) (call : Call) → number ≡ given_refusal state (length area) call
      → ◌≡◌ {A = Result} (record { answer = refused number; state = state; commands = area }) (step state area call)
  unfolding step
  not_stepped state area call e =
      let whole : step_refusal state area call ≡ number = refusal_split state area call ∙ rw (sym e, told) in
      rw (whole, told)

  pub not_forecast : (state : List ℕ) (call : Call) → number ≡ given_refusal state area_size call → no_figures number ≡ forecast state call
  unfolding forecast
  not_forecast state call e =
      let area : List ℕ = zeros area_size in
      let long : length area ≡ area_size = length_zeros area_size in
      let whole : forecast_refusal state call ≡ number =
      sym (same_refusal state area call long) ∙ refusal_split state area call ∙ rw (long, sym e, told) in
      rw (whole, told)

  pub not_asked : (state area : List ℕ) (flag : ℕ) → number ≡ question_refusal state area flag
      → ◌≡◌ {A = Asked} (record { number = number; length = 0; commands = area }) (question state area flag)
  unfolding question
  not_asked state area flag e = rw (sym e, told)

  pub mean_refused : (state : List ℕ) (clock : ℕ) → number ≡ mean_age_refusal state clock → no_mean number ≡ mean_age state clock
  unfolding mean_age
  mean_refused state clock e = rw (sym e, told)

-- a flag as what it says
pub flag_bit : (flag : ℕ) → flag ≤ 1 → bit (eqb flag 1) ≡ flag
flag_bit zero h = refl
flag_bit (suc zero) h = refl
flag_bit (suc (suc n)) h = absurd (omega arith)

-- the pairs that `said` picks, which is the flag
pub asked : (state area : List ℕ) (flag : ℕ) → 0 ≡ question_refusal state area flag → {said : ℕ} → said ≡ flag → (size : ℕ) (exit : List ℕ)
    → size ≡ length (joined (question_pairs (decode state) said))
    → exit ≡ overwritten 0 (joined (question_pairs (decode state) said)) area
    → ◌≡◌ {A = Asked} (record { number = 0; length = size; commands = exit }) (question state area flag)
unfolding question
asked state area flag e f size exit l w = rw (sym e, l, w, f)

pub pairs_short : (st : State) (flag : ℕ) → Well st → {size : ℕ} → size ≡ length (joined (question_pairs st flag)) → size ≤ tracked_limit * pair_size
pairs_short st flag well e = rw e (question_bytes_most st flag well)

-- what a question that is not refused was given
pub record Asking (state area : List ℕ) (flag : ℕ) : Type 0 where
  pub size : length state ≡ area_size
  pub image : well_formed state ≡ true
  pub room : area_size ≤ length area
  pub flag_fits : flag ≤ 1

pub asking : (state area : List ℕ) (flag : ℕ) → question_refusal state area flag ≡ 0 → Asking state area flag
unfolding question_refusal
asking state area flag e =
    let one = held (eqb (length state) area_size) 1 _ (omega arith) e in
    let two = held (well_formed state) 2 _ (omega arith) one.1 in
    let three = held (leb area_size (length area)) 3 _ (omega arith) two.1 in
    let five = held (is_flag flag) 5 0 (omega arith) three.1 in
    record { size = eqb-true _ _ one.0; image = two.0; room = leb-true _ _ three.0; flag_fits = leb-true _ _ five.0 }

-- ---- the mean age

module _ (state : List ℕ) (clock : ℕ) (past : 0 ≡ mean_age_refusal state clock) where
  -- the region as it is lent
  abbrev pub region : List ℕ
  region = take (length state - region_at) (drop region_at state)

  fits : StateFits state
  unfolding mean_age_refusal
  fits = state_fits state (unless (leb (decode state).last_clock clock) 4 0) past

  pub state_size : length state ≡ area_size
  state_size = eqb-true _ _ fits.size

  whole_region : region ≡ drop region_at state
  whole_region = take_all _ _ (omega (arith, length-drop region_at state))

  pub records_in_region : field 70 2 state * record_size ≤ length region
  records_in_region =
      let whole : Formed state = formed state fits.image in
      rw (whole_region, length-drop region_at state, state_size) (omega (arith, whole.tracked))

  -- the requests in the region are those of the state
  pub mean_told : {count records quotient remainder : ℕ} → count ≡ field 70 2 state → records ≡ field 70 2 state
      → quotient ≡ (mean_of clock (requests_in records region)).quotient
      → remainder ≡ (mean_of clock (requests_in records region)).remainder
      → ◌≡◌ {A = MeanAge} (record { number = 0; count = count; quotient = quotient; remainder = remainder }) (mean_age state clock)
  unfolding mean_age decode pending_of
  mean_told c e q r =
      let pending : List Request = requests_in (field 70 2 state) (drop region_at state) in
      let many : length pending ≡ field 70 2 state = length_requests (field 70 2 state) (drop region_at state) in
      rw (← past, q, r, c, e, whole_region) (rw many at (mean_parts clock pending))
