-- A retried record is moved and restarted where it goes: `moved_retried`.
use mathlib.Core.Path.{◌≡◌, sym, ap, ◌∙◌}
use Rattle.peers.specs.Aims.{aimed_at}
use Rattle.model.specs.Delivery.{verdict}
use Rattle.model.specs.Delivery as delivery
use Rattle.settings.specs.Values.{settings_of}
use Rattle.check_timeouts.specs.Turn.{request_at, verdict_of}
use Rattle.check_timeouts.proofs.RecordLaws.{Moved, entry_moved, fits_moved, moved_retried}
use Rattle.check_timeouts.proofs.check.Check.turn.Goals.{After-move_entry-in-Retried}
use Rattle.check_timeouts.proofs.check.Check.turn.Goals as goal

-- the record, moved down
moved : (c : After-move_entry-in-Retried) → let a = c.args in Moved a.i a.counts.pending a.table.now c.move_entry-in-Retried.new.table
moved c = record { down = c.requires.counted.0; inside = c.requires.stands.0; written = c.move_entry-in-Retried.ensures }

pub retry-requires : goal.retry-requires
retry-requires c =
    let here = (goal.at.retry-requires c).After-move_entry-in-Retried in
    (fits_moved (moved here), rw (entry_moved (moved here)) here.requires.judged)

pub returns-in-Retried-clause-table_after : goal.returns-in-Retried-clause-table_after
returns-in-Retried-clause-table_after c =
    let here = (goal.at.returns-in-Retried-clause-table_after c).After-move_entry-in-Retried in
    let a = c.args in
    let told : verdict (settings_of a.self.settings) a.self.clock (request_at a.table.now a.i) ≡ delivery.retried =
    sym c.verdict_at.ensures ∙ ap verdict_of c.in-Retried.is in
    rw told (moved_retried (moved here) a.self.clock (aimed_at a.self.aim) c.retry.ensures)
