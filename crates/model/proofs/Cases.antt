-- The starred cases hold: one test, computed over the table, and the lemma that turns it into an equation for each case.
use Prim.Native.Nat.{ℕ}
use mathlib.Core.Path.{◌≡◌, refl}
use mathlib.Core.Bool.{true, false≢true}
use mathlib.Core.List.{List, [], ◌∷◌}
use Rattle.fields.specs.Facts.{All}
use Rattle.fields.specs.Order.{same}
use Rattle.fields.proofs.OrderLaws.{same_eq, and_left, and_right}
use Rattle.model.specs.Protocol as protocol
use Rattle.model.specs.Settings as settings
use Rattle.model.specs.Delivery as delivery
use Rattle.model.specs.State as state
use Rattle.model.specs.Peers as peers
use Rattle.model.specs.Requests as requests
use Rattle.model.specs.Sections as sections
use Rattle.model.specs.Check as check
use Rattle.model.specs.Events as events
use Rattle.model.specs.Steps as steps
use Rattle.model.specs.Cases.{Starred, found, starred, same_lists, all_as_expected}

test : all_as_expected starred ≡ true
unfolding same found protocol.is_transaction protocol.is_among protocol.is_announceable settings.patience settings.expired settings.given_up
    settings.throttled settings.stalled delivery.is_pending delivery.verdict delivery.restarted delivery.judged state.opened peers.first_unstalled
    peers.select_peer peers.stalled_after_select requests.runs requests.sync_info_to requests.wanted requests.is_stored sections.item_below
    sections.batches_of sections.request_sections_from sections.request_next_sections check.retries check.retry_of check.retry_sendings events.tip_outcome
    steps.plan steps.plan_of steps.ticks_syncing steps.say_to steps.unmarked steps.continues steps.hears_announced steps.hears_sync_info steps.answers
    steps.is_at_tip steps.enters_syncing steps.picks steps.progresses steps.checks steps.sections_from steps.remaining steps.retried steps.performed
    steps.after steps.commands steps.count_of
test = refl

pub same_lists_eq : (xs ys : List (List ℕ)) → same_lists xs ys ≡ true → xs ≡ ys
same_lists_eq [] [] t = refl
same_lists_eq [] (y ∷ ys) t = absurd (false≢true t)
same_lists_eq (x ∷ xs) [] t = absurd (false≢true t)
same_lists_eq (x ∷ xs) (y ∷ ys) t =
    rw (same_eq x y (and_left (same x y) (same_lists xs ys) t), same_lists_eq xs ys (and_right (same x y) (same_lists xs ys) t))

each : (table : List Starred) → all_as_expected table ≡ true → All (λ (s : Starred). found s.case ≡ s.expected) table
each [] t = tt
each (s ∷ others) t = (
  same_lists_eq (found s.case) s.expected (and_left (same_lists (found s.case) s.expected) (all_as_expected others) t),
  each others (and_right (same_lists (found s.case) s.expected) (all_as_expected others) t),
)

pub starred_cases : All (λ (s : Starred). found s.case ≡ s.expected) starred
starred_cases = each starred test
