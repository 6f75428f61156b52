-- All promises, proved: of any finished call, of any refused one, of any run, of any call of the map.
use Rattle.model.specs.State.{State}
use Rattle.model.specs.Calls.{Call}
use Rattle.model.specs.Promises.{Promises, AnyFinished}
use Rattle.model.specs.Promises.Asked.{Asks}
use Rattle.model.specs.Promises.Refusals.{Refusals}
use Rattle.model.specs.Promises.Runs.{AnyRun}
use Rattle.model.specs.Promises.Maps.{Maps}
use Rattle.model.proofs.Promises.SeenLaws.{seen_as, Finished, promised}
use Rattle.model.proofs.Promises.OutcomesKept.{outcomes_kept, modes_kept}
use Rattle.model.proofs.Promises.PassedOverKept.{passed_over_kept}
use Rattle.model.proofs.Promises.MarksKept.{sync_peer_kept, stalled_set_kept, marks_kept}
use Rattle.model.proofs.Promises.SyncInfosKept.{sync_infos_kept, announcements_kept}
use Rattle.model.proofs.Promises.HeightsKept.{downloaded_kept, known_tip_kept}
use Rattle.model.proofs.Promises.AsksKept.{shut_gate_lem, others_ask_nothing, announced_asked, needed_asked}
use Rattle.model.proofs.Promises.SectionsAsked.{sections_asked}
use Rattle.model.proofs.Promises.OrphansAsked.{orphans_asked}
use Rattle.model.proofs.Promises.CheckAsked.{check_asked}
use Rattle.model.proofs.Promises.BatchesKept.{batches_kept}
use Rattle.model.proofs.Promises.PendingKept.{pending_kept, evicted_kept}
use Rattle.model.proofs.Promises.ToldKept.{told_kept}
use Rattle.model.proofs.Promises.RefusalsKept.{refusals_kept}
use Rattle.model.proofs.Promises.RunsKept.{any_run}
use Rattle.model.proofs.Promises.MapsKept.{maps_kept}

asks_kept : (st : State) (call : Call) → Finished st call → Asks (seen_as st call)
asks_kept st call f =
    record {
      shut_gate = shut_gate_lem st call f;
      others = others_ask_nothing st call f;
      announced = announced_asked st call f;
      needed = needed_asked st call f;
      sections = sections_asked st call f;
      orphans = orphans_asked st call f;
      checks = check_asked st call f;
    }

kept : (st : State) (call : Call) → Finished st call → Promises (seen_as st call)
kept st call f =
    record {
      outcomes = outcomes_kept st call f;
      passed_over = passed_over_kept st call;
      modes = modes_kept st call f;
      sync_peer = sync_peer_kept st call f;
      stalled_set = stalled_set_kept st call f;
      marks = marks_kept st call f;
      sync_infos = sync_infos_kept st call f;
      announcements = announcements_kept st call f;
      downloaded = downloaded_kept st call f;
      known_tip = known_tip_kept st call f;
      asks = asks_kept st call f;
      batches = batches_kept st call f;
      pending = pending_kept st call f;
      evicted = evicted_kept st call f;
      told = told_kept st call f;
    }

-- What is promised of any finished call.
pub any_finished : AnyFinished
any_finished = promised Promises kept

-- What is promised of a refused one: its number exactly, and nothing touched.
pub refusals : Refusals
refusals = refusals_kept

-- What is promised along any run.
pub runs : AnyRun
runs = any_run

-- What is promised of the map's calls, on any lent bytes.
pub maps : Maps
maps = maps_kept
