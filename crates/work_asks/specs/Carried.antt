-- What a plan sends and does before its sync info: continuation ids announced, then the work.
use Rattle.std.specs.Prelude.{ℕ, List, [], ◌∷◌, ◌++◌}
use Rattle.std.proofs.Math.Option.{Option, none, some}
use Rattle.model.specs.Protocol.{Id}
use Rattle.model.specs.State.{State}
use Rattle.model.specs.Requests.{Sending, announcement}
use Rattle.model.specs.Lists.{ids_in}
use Rattle.model.specs.Calls as calls
use Rattle.peers.specs.Peers.{listed_peer}
use Rattle.plan.specs.declared.Plan.{Plan}
use Rattle.work.specs.Worked.{Worked, worked_by}

abbrev pub announced : Option ℕ → List Id → List Sending
announced none ids = []
announced (some peer) [] = []
announced (some peer) (id ∷ ids) = announcement peer (id ∷ ids) ∷ []

-- the work with what is announced before it
unfoldable pub carried_by : State → calls.Call → Plan → Worked
carried_by st c plan =
    let w : Worked = worked_by st c plan.head.downloaded plan.work in
    record {
      pending = w.pending;
      evicted = w.evicted;
      sendings = announced (listed_peer plan.announces) (ids_in c.continuation) ++ w.sendings;
      retried = w.retried;
      fresh = w.fresh;
      abandoned = w.abandoned;
      forgotten = w.forgotten;
    }
