-- The region that pending records and evicted ids share: records at its low end, ids at its high end.
use Rattle.std.specs.Prelude.{ℕ, ◌+◌, ◌-◌, ◌*◌, cond, List, length, drop, leb, Result, Ok, Err}
use Rattle.fields.specs.Overwrite.{overwritten}
use Rattle.fields.specs.Entries.{entries, joined}
use Rattle.model.specs.Protocol.{Id}
use Rattle.model.specs.Delivery.{Request}
use Rattle.commands.specs.Pending.{holding}
use Rattle.commands.specs.declared.tracker.TrackerError.{TrackerError}
use Rattle.commands.specs.declared.tracker.TrackerError.TheVariants.{Full}
use Rattle.model.specs.Layout.{id_size}

-- the last `count` ids of the region
abbrev pub evicted_in : ℕ → List ℕ → List Id
evicted_in count region = entries id_size count (drop (length region - count * id_size) region)

-- the region once these ids end it
unfoldable pub ending_with : List Id → List ℕ → List ℕ
ending_with ids region = overwritten (length region - length ids * id_size) (joined ids) region

-- what scheduling a re-request answers: how many are pending then, or that pending and evicted would be more than `most`
unfoldable pub scheduled_as : ℕ → List Request → List Id → Result ℕ TrackerError
scheduled_as most pending evicted = cond (leb (length pending + length evicted) most) (Ok (length pending)) (Err Full)

unfoldable pub region_then : ℕ → ℕ → List Request → List Id → List ℕ → List ℕ
region_then most count pending evicted region =
    cond (leb (length pending + length evicted) most) (ending_with evicted (holding count pending region)) region
