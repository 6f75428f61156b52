-- One turn of the check: what it makes of a request's record, of the places noted and of the counts.
use Rattle.std.specs.Prelude.{ℕ, ◌+◌, ◌*◌, ◌^◌, ◌≤◌, ◌<◌, List, set}
use Rattle.fields.specs.Entries.{entry}
use Rattle.fields.specs.Overwrite.{overwritten}
use Rattle.model.specs.Delivery.{Request, with_peer, restarted}
use Rattle.model.specs.Delivery as delivery
use Rattle.model.specs.Image.{request_of, request_bytes}
use Rattle.check_timeouts.specs.declared.check.Checked.{Checked}
use Rattle.check_timeouts.specs.declared.check.Verdict.{Verdict}
use Rattle.check_timeouts.specs.declared.check.Verdict.TheVariants.{Waiting, Retried, Abandoned, Forgotten}
use Rattle.model.specs.Layout.{record_size}

-- request i of a table
abbrev pub request_at : List ℕ → ℕ → Request
request_at table i = request_of (entry record_size i table)

-- one check more can be written down
abbrev pub Countable : Request → Type 0
Countable r = r.checks + 1 < 2 ^ 32

-- what the requests before the i-th can come to
abbrev pub AtMost : ℕ → Checked → Type 0
AtMost i c = (c.pending ≤ i) × ((c.retried ≤ i) × ((c.abandoned ≤ i) × (c.forgotten ≤ i)))

abbrev pub verdict_of : Verdict → delivery.Verdict
verdict_of Waiting = delivery.waiting
verdict_of Retried = delivery.retried
verdict_of Abandoned = delivery.abandoned
verdict_of Forgotten = delivery.forgotten

-- a retried request, now asked of its target
unfoldable pub restarted_to : ℕ → (ℕ → ℕ) → Request → Request
restarted_to clock target r = with_peer (target r.peer) (restarted clock r)

-- the table after record i was judged, `place` records staying before it
abbrev pub table_after : ℕ → (ℕ → ℕ) → delivery.Verdict → ℕ → ℕ → List ℕ → List ℕ
table_after clock target delivery.waiting i place table = overwritten (place * record_size) (entry record_size i table) table
table_after clock target delivery.retried i place table =
    overwritten (place * record_size) (request_bytes (restarted_to clock target (request_at table i))) table
table_after clock target delivery.abandoned i place table = table
table_after clock target delivery.forgotten i place table = table

-- the place of a retried request noted behind those noted before it
abbrev pub places_after : delivery.Verdict → ℕ → ℕ → List ℕ → List ℕ
places_after delivery.waiting noted place places = places
places_after delivery.retried noted place places = set places noted place
places_after delivery.abandoned noted place places = places
places_after delivery.forgotten noted place places = places

abbrev pub counts_after : delivery.Verdict → Checked → Checked
counts_after delivery.waiting c = record { pending = c.pending + 1; retried = c.retried; abandoned = c.abandoned; forgotten = c.forgotten }
counts_after delivery.retried c = record { pending = c.pending + 1; retried = c.retried + 1; abandoned = c.abandoned; forgotten = c.forgotten }
counts_after delivery.abandoned c = record { pending = c.pending; retried = c.retried; abandoned = c.abandoned + 1; forgotten = c.forgotten }
counts_after delivery.forgotten c = record { pending = c.pending; retried = c.retried; abandoned = c.abandoned; forgotten = c.forgotten + 1 }
