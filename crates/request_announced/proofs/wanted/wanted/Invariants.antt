-- The loop: the wanted ids so far in front, and what is left gives the whole (`Wanting`).
use Rattle.model.specs.Lists.{pairs_in}
use Rattle.commands.specs.Pending.{requests_in}
use Rattle.request_announced.proofs.WantedLaws.{is_wanted, Wanting}
use Rattle.request_announced.proofs.wanted.wanted.Given as goal

abbrev pub invariant-loop-id : goal.invariant-loop-id
invariant-loop-id l =
    Wanting (is_wanted (requests_in l.count l.table) l.typeid (pairs_in l.stored.bytes.now)) l.id-items l.initial.rest l.rest l.kept l.id-index
