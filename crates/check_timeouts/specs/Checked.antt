-- The delivery check on a table: where retries go, and what it counts.
use Rattle.std.specs.Prelude.{ℕ, suc, Bool, List, [], ◌∷◌, length}
use Rattle.model.specs.Settings.{Settings}
use Rattle.model.specs.Delivery.{Request, Verdict, waiting, retried, abandoned, forgotten, verdict, judged, check_timeouts}
use Rattle.model.specs.Check.{retries, mark_all_retried}
use Rattle.check_timeouts.specs.declared.check.Checked.{Checked}

-- the pending requests after rule 6's check and the marking of its retries
unfoldable pub pending_after_check : Bool → Settings → ℕ → (ℕ → ℕ) → List Request → List Request
pending_after_check gate settings clock target pending =
    mark_all_retried (retries gate settings clock target pending) (check_timeouts settings clock pending)

unfoldable pub checked_as : Settings → ℕ → List Request → Checked
checked_as settings clock pending =
    record {
      pending = length (check_timeouts settings clock pending);
      retried = length (judged settings clock retried pending);
      abandoned = length (judged settings clock abandoned pending);
      forgotten = length (judged settings clock forgotten pending);
    }

-- the places, among those that stay, of the retried requests
abbrev pub placed_after : Verdict → ℕ → (ℕ → List ℕ) → List ℕ
placed_after waiting place others = others (suc place)
placed_after retried place others = place ∷ others (suc place)
placed_after abandoned place others = others place
placed_after forgotten place others = others place

abbrev pub retried_places : Settings → ℕ → List Request → ℕ → List ℕ
retried_places settings clock [] place = []
retried_places settings clock (r ∷ pending) place = placed_after (verdict settings clock r) place (retried_places settings clock pending)
