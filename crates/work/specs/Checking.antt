-- What a check makes of the region's requests, by the header, the call's numbers and where its retries go.
use Rattle.std.specs.Prelude.{ℕ, List, length, eqb}
use Rattle.model.specs.Delivery.{Request, Verdict, retried, abandoned, forgotten, judged}
use Rattle.model.specs.Requests.{Sending}
use Rattle.model.specs.Check.{retries, retry_sendings}
use Rattle.settings.specs.Values.{settings_of}
use Rattle.image.specs.declared.head.Head.{Head}
use Rattle.commands.specs.Pending.{requests_in}
use Rattle.commands.specs.Sent.{behind}
use Rattle.commands.specs.declared.place.Place.{Place}
use Rattle.check_timeouts.specs.Checked.{pending_after_check}
use Rattle.plan.specs.declared.Call.{Call}
use Rattle.work.specs.declared.Counts.{Counts}

module _ (head : Head) (call : Call) (target : ℕ → ℕ) (region : List ℕ) where
  -- the pending requests after it
  unfoldable pub checked_pending : List Request
  checked_pending = pending_after_check (eqb call.gate 1) (settings_of head.settings) call.clock target (requests_in head.pending region)

  -- what it sends again
  unfoldable pub checked_sendings : List Sending
  checked_sendings = retry_sendings (retries (eqb call.gate 1) (settings_of head.settings) call.clock target (requests_in head.pending region))

  unfoldable pub judged_count : Verdict → ℕ
  judged_count what = length (judged (settings_of head.settings) call.clock what (requests_in head.pending region))

  unfoldable pub checked_counts : Place → Counts
  checked_counts place =
      record {
        pending = length checked_pending;
        evicted = 0;
        retried = judged_count retried;
        fresh = head.evicted;
        abandoned = judged_count abandoned;
        forgotten = judged_count forgotten;
        place = behind place checked_sendings;
      }
