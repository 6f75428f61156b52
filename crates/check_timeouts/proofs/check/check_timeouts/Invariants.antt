-- The loop: the requests that stay, then what the rest gives, is what the whole gives (`Checking`).
use Rattle.settings.specs.Values.{settings_of}
use Rattle.peers.specs.Aims.{aimed_at}
use Rattle.check_timeouts.proofs.CheckLaws.{Checking}
use Rattle.check_timeouts.proofs.check.check_timeouts.Given as goal

abbrev pub invariant-loop-i : goal.invariant-loop-i
invariant-loop-i l =
    Checking (settings_of l.check.settings) l.check.clock (aimed_at l.check.aim) l.count l.initial.table l.initial.places l.table l.places l.counts l.i
