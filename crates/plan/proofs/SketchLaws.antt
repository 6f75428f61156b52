-- A plan by value and one of the model have the same sketch if they agree part by part.
use mathlib.Core.Path.{◌≡◌}
use mathlib.Core.List.{◌++◌}
use Rattle.model.specs.State.{State}
use Rattle.model.specs.Events.{outcome_number}
use Rattle.model.specs.Steps as steps
use Rattle.model.specs.Calls as calls
use Rattle.model.specs.Lists.{ids_in}
use Rattle.peers.specs.Peers.{listed_peer}
use Rattle.plan.specs.declared.Plan.{Plan}
use Rattle.plan.specs.Plans.{announce_to, say_to, acts_by, stalled_by, head_by, sketch_in, sketch_of}

pub sketched : (st : State) (c : calls.Call) (p : Plan) (q : steps.Plan)
    → p.outcome ≡ outcome_number q.outcome
    → p.head ≡ head_by st c c.clock q.mode q.sync
    → announce_to (listed_peer p.announces) (ids_in c.continuation) ++ (acts_by st c p.head.downloaded p.work ++ say_to (listed_peer p.says)) ≡ q.acts
    → stalled_by st c p.stalling ≡ q.sync.stalled_peers
    → p.seen ≡ q.in_view
    → sketch_in st c p ≡ sketch_of st c q
unfolding sketch_in sketch_of
sketched st c p q o h a s v = rw (o, a, h, s, v)
