-- F-6: an image with another version written into it: what version 1 wrote, and what version 2 makes of it.
use Rattle.std.specs.Prelude.{ℕ, ◌<◌, ◌^◌, ◌≡◌, ◌⊎◌, true, List}
use Rattle.fields.specs.Facts.{All}
use Rattle.fields.specs.Number.{to_be}
use Rattle.fields.specs.Overwrite.{overwritten}
use Rattle.model.specs.Delivery.{Request}
use Rattle.model.specs.State.{State}
use Rattle.model.specs.Image.{newest_version, version, encode, decode, well_formed}
use Rattle.model.specs.Calls.{Call, step, question}
use Rattle.model.specs.Forecast.{forecast}
use Rattle.model.specs.MeanAge.{mean_age}

-- The image with a version's number.
unfoldable pub as_version : ℕ → List ℕ → List ℕ
as_version number area = overwritten 3 (to_be 2 number) area

abbrev pub as_newest : List ℕ → List ℕ
as_newest = as_version newest_version

-- What version 1 wrote of a state is "still accepted", and is read as that state.
pub record ReadAsFirst (st : State) : Type 0 where
  pub accepted : well_formed (as_version 1 (encode st)) ≡ true
  pub state : decode (as_version 1 (encode st)) ≡ st

-- A well-formed image means what it means as the newest version, and every entry that reads it answers the same.
pub record SameAsNewest (area : List ℕ) : Type 0 where
  -- "any other version is number 2"
  pub versions : (version area ≡ 1) ⊎ (version area ≡ newest_version)
  pub accepted : well_formed (as_newest area) ≡ true
  -- the state is the same, and only the version's bytes are others
  pub state : decode area ≡ decode (as_newest area)
  pub image : encode (decode area) ≡ as_newest area
  -- what version 1 can say of types
  pub types : version area ≡ 1 → All (λ (r : Request). r.type_id < 2 ^ 8) (decode area).pending
  -- "and is version 2 after its first finished step"; byte for byte the step of the image of version 2
  pub finished :
      (commands : List ℕ) (call : Call) → (step area commands call).answer.number ≡ 0
      → (step area commands call ≡ step (as_newest area) commands call) × (version (step area commands call).state ≡ newest_version)
  -- finished or refused, and a refused step leaves the area as it was (`EntryLaws.step_refused`)
  pub answered : (commands : List ℕ) (call : Call) → (step area commands call).answer ≡ (step (as_newest area) commands call).answer
  pub asked : (commands : List ℕ) (flag : ℕ) → question area commands flag ≡ question (as_newest area) commands flag
  pub foretold : (call : Call) → forecast area call ≡ forecast (as_newest area) call
  pub aged : (clock : ℕ) → mean_age area clock ≡ mean_age (as_newest area) clock
