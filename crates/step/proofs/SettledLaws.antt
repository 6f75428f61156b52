-- What settling asks of the counts, and what it leaves: the last command, the image, the areas, the answer.
use Prim.Native.Nat.{ℕ, ◌≤◌}
use mathlib.Core.Path.{◌≡◌}
use mathlib.Core.List.{List}
use lib.ListN.{length, take, drop}
use Rattle.model.specs.Calls as calls
use Rattle.model.specs.Layout.{most_bytes}
use Rattle.model.specs.Protocol.{tracked_limit}
use Rattle.peers.specs.Peers.{listed_peer}
use Rattle.commands.specs.Sent.{sent_bytes, sent_at, behind}
use Rattle.plan.specs.declared.Plan.{Plan}
use Rattle.work.specs.declared.Counts.{Counts}
use Rattle.step.specs.Stalling.{places_of, stalled_then, stalled_count_then}
use Rattle.step.specs.Finished.{said, counted, completed}

-- what settling asks of the counts
abbrev pub Few : Counts → Type 0
Few counts =
    (counts.pending ≤ tracked_limit)
    × ((counts.evicted ≤ tracked_limit)
    × ((counts.retried ≤ tracked_limit) × ((counts.fresh ≤ tracked_limit) × ((counts.abandoned ≤ tracked_limit) × (counts.forgotten ≤ tracked_limit)))))

abbrev pub CountsFew : Plan → Counts → ℕ → Type 0
CountsFew plan counts count = ((stalled_count_then plan.stalling count ≤ 256) × (counts.place.at ≤ most_bytes)) × Few counts

-- the last command's bytes, and the place behind them
abbrev pub last : Plan → Counts → List ℕ
last plan counts = sent_bytes counts.place.batch (said (listed_peer plan.says))

abbrev pub end : Plan → Counts → ℕ
end plan counts = (behind counts.place (said (listed_peer plan.says))).at

-- the image that settling leaves, and its answer
abbrev pub ImageSettled : Plan → Counts → ℕ → List ℕ → List ℕ → Type 0
ImageSettled plan counts count image image' =
    (old : List ℕ) → length old ≡ count → take 2048 (drop 512 image) ≡ places_of old
    → image' ≡ completed (counted plan.head counts.pending counts.evicted) (places_of (stalled_then plan.stalling old)) image

abbrev pub answered : Plan → Counts → calls.Answer
answered plan counts =
    record {
      number = 0;
      outcome = plan.outcome;
      retried = counts.retried;
      fresh = counts.fresh;
      abandoned = counts.abandoned;
      forgotten = counts.forgotten;
      pending = counts.pending;
      evicted = counts.evicted;
      length = end plan counts;
    }

-- what settling leaves of an image and of room for commands, and answers
abbrev pub Settles : Plan → Counts → ℕ → List ℕ → List ℕ → calls.Answer → List ℕ → List ℕ → Type 0
Settles plan counts count image out answer image' out' =
    ImageSettled plan counts count image image'
    × ((out' ≡ sent_at counts.place (said (listed_peer plan.says)) out) × (answer ≡ answered plan counts))
