-- What a plan by value stands for in the model's words.
use Rattle.std.specs.Prelude.{ℕ, ◌≡◌, Bool, true, false, cond, List, [], ◌∷◌, ◌++◌, eqb, None}
use Rattle.std.proofs.Math.Option.{Option, none, some}
use Rattle.model.specs.Protocol.{Id}
use Rattle.model.specs.Delivery.{Request, mark_received, pending_after_eviction, evicted_after_eviction, purge_all, purge_peer, check_timeouts}
use Rattle.model.specs.State.{Mode, Sync, State, with_evicted}
use Rattle.model.specs.Requests.{Act, ask, send, sync_info}
use Rattle.model.specs.Sections.{Item, request_sections_from}
use Rattle.model.specs.Check.{retries, ask_fresh}
use Rattle.model.specs.Events.{outcome_number, announce}
use Rattle.model.specs.Steps as steps
use Rattle.model.specs.Lists.{ids_in, pairs_in, view_of}
use Rattle.model.specs.Calls as calls
use Rattle.model.specs.Calls.{step_of, args_of}
use Rattle.peers.specs.Peers.{listed_peer}
use Rattle.peers.specs.Aims.{aimed_at}
use Rattle.peers.specs.declared.aim.Aim.{Aim}
use Rattle.peers.specs.declared.aim.Aim.TheVariants.{Same}
use Rattle.image.specs.declared.head.Head.{Head}
use Rattle.image.specs.Heads.{head_of}
use Rattle.plan.specs.declared.Call.{Call}
use Rattle.plan.specs.declared.Work.{Work}
use Rattle.plan.specs.declared.Work.TheVariants.{Nothing, Ids, Sections, Received, Evicted, Purge, PurgeSections, Lose, LoseAsk, Check, CheckFresh}
use Rattle.plan.specs.declared.Stalling.{Stalling}
use Rattle.plan.specs.declared.Stalling.TheVariants.{Stay, Empty, Join}
use Rattle.plan.specs.declared.Plan.{Plan}
use Rattle.plan.specs.declared.shown.Shown.{Shown}

-- the numbers of a call
unfoldable pub numbers_of : calls.Call → Call
numbers_of c =
    record { kind = c.kind; clock = c.clock; gate = c.gate; height = c.height; peer = c.peer; typeid = c.typeid; fork = c.fork; parsed = c.parsed; hastip = c.hastip; tip = c.tip }

-- the call shows this of the node
pub record Shows (c : calls.Call) (shown : Shown) : Type 0 where
  pub height : c.height ≡ shown.height
  pub peers : c.peers ≡ shown.peers.now
  pub view : c.view ≡ shown.view.bytes.now

-- a call from its numbers and its lists
unfoldable pub call_of : Call → List ℕ → List ℕ → List ℕ → List ℕ → List ℕ → calls.Call
call_of n ids continuation stored peers view =
    record {
      kind = n.kind;
      clock = n.clock;
      gate = n.gate;
      height = n.height;
      peer = n.peer;
      typeid = n.typeid;
      fork = n.fork;
      parsed = n.parsed;
      hastip = n.hastip;
      tip = n.tip;
      ids = ids;
      continuation = continuation;
      stored = stored;
      peers = peers;
      view = view;
    }

abbrev pub is_check_by : Work → Bool
is_check_by Nothing = false
is_check_by (Ids peer) = false
is_check_by (Sections peer) = false
is_check_by Received = false
is_check_by Evicted = false
is_check_by Purge = false
is_check_by (PurgeSections peer) = false
is_check_by Lose = false
is_check_by (LoseAsk peer) = false
is_check_by (Check aim) = true
is_check_by (CheckFresh peer aim) = true

-- where its retries go
abbrev pub aim_by : Work → Aim
aim_by Nothing = Same
aim_by (Ids peer) = Same
aim_by (Sections peer) = Same
aim_by Received = Same
aim_by Evicted = Same
aim_by Purge = Same
aim_by (PurgeSections peer) = Same
aim_by Lose = Same
aim_by (LoseAsk peer) = Same
aim_by (Check aim) = aim
aim_by (CheckFresh peer aim) = aim

-- takes nothing out of pending
abbrev pub is_quiet : Work → Bool
is_quiet Nothing = true
is_quiet (Ids peer) = true
is_quiet (Sections peer) = true
is_quiet Received = false
is_quiet Evicted = false
is_quiet Purge = false
is_quiet (PurgeSections peer) = false
is_quiet Lose = false
is_quiet (LoseAsk peer) = false
is_quiet (Check aim) = false
is_quiet (CheckFresh peer aim) = false

-- rule 4's work, of the first listed peer if there is one; a reorg purges first
abbrev pub sections_work : Bool → Option ℕ → Work
sections_work false none = Nothing
sections_work false (some peer) = Sections peer
sections_work true none = Purge
sections_work true (some peer) = PurgeSections peer

abbrev pub check_work : Aim → Option ℕ → Work
check_work aim none = Check aim
check_work aim (some peer) = CheckFresh peer aim

abbrev pub lose_work : Option ℕ → Work
lose_work none = Lose
lose_work (some peer) = LoseAsk peer

abbrev pub announce_to : Option ℕ → List Id → List Act
announce_to none ids = []
announce_to (some peer) ids = announce peer ids

abbrev pub say_to : Option ℕ → List Act
say_to none = []
say_to (some peer) = send (sync_info peer) ∷ []

-- continues, tells and says nothing, leaves the stalled set as it is and reads no height
abbrev pub usual_plan : Head → Work → Plan
usual_plan head work = record { outcome = 0; head = head; announces = None; work = work; says = None; stalling = Stay; seen = true }

-- What a plan comes to, but for pending and evicted: outcome, header with the counts of pending and evicted as before, acts,
-- stalled peers, and whether every height that it read is in the view.
pub record Sketch : Type 0 where
  pub outcome : ℕ
  pub head : Head
  pub acts : List Act
  pub stalled : List ℕ
  pub in_view : Bool

module _ (st : State) (c : calls.Call) where
  -- what the work leaves of pending before it adds anything
  abbrev pub remaining_by : Work → List Request
  remaining_by Nothing = st.pending
  remaining_by (Ids peer) = st.pending
  remaining_by (Sections peer) = st.pending
  remaining_by Received = mark_received (ids_in c.ids) st.pending
  remaining_by Evicted = pending_after_eviction (ids_in c.ids) st.pending
  remaining_by Purge = purge_all st.pending
  remaining_by (PurgeSections peer) = purge_all st.pending
  remaining_by Lose = purge_peer st.sync.sync_peer st.pending
  remaining_by (LoseAsk peer) = purge_peer st.sync.sync_peer st.pending
  remaining_by (Check aim) = check_timeouts st.settings c.clock st.pending
  remaining_by (CheckFresh peer aim) = check_timeouts st.settings c.clock st.pending

  -- what it asks for again
  unfoldable pub retried_by : Work → List Item
  retried_by work = cond (is_check_by work) (retries (eqb c.gate 1) st.settings c.clock (aimed_at (aim_by work)) st.pending) []

  -- the evicted ids after it
  abbrev pub evicted_by : Work → List Id
  evicted_by Nothing = st.sync.evicted
  evicted_by (Ids peer) = st.sync.evicted
  evicted_by (Sections peer) = st.sync.evicted
  evicted_by Received = st.sync.evicted
  evicted_by Evicted = evicted_after_eviction (ids_in c.ids) st.sync.evicted
  evicted_by Purge = st.sync.evicted
  evicted_by (PurgeSections peer) = st.sync.evicted
  evicted_by Lose = st.sync.evicted
  evicted_by (LoseAsk peer) = st.sync.evicted
  evicted_by (Check aim) = []
  evicted_by (CheckFresh peer aim) = []

  -- what it asks for through rule 3; sections from this downloaded height on
  abbrev pub acts_by : ℕ → Work → List Act
  acts_by height Nothing = []
  acts_by height (Ids peer) = ask c.typeid peer (pairs_in c.stored) (ids_in c.ids) ∷ []
  acts_by height (Sections peer) = (request_sections_from (view_of c.view) c.height height (some peer)).acts
  acts_by height Received = []
  acts_by height Evicted = []
  acts_by height Purge = []
  acts_by height (PurgeSections peer) = (request_sections_from (view_of c.view) c.height height (some peer)).acts
  acts_by height Lose = []
  acts_by height (LoseAsk peer) = steps.ask_orphans st (args_of c) st.sync.sync_peer (some peer)
  acts_by height (Check aim) = []
  acts_by height (CheckFresh peer aim) = ask_fresh (some peer) (pairs_in c.stored) st.sync.evicted

  abbrev pub stalled_by : Stalling → List ℕ
  stalled_by Stay = st.sync.stalled_peers
  stalled_by Empty = []
  stalled_by (Join peer) = st.sync.stalled_peers ++ (peer ∷ [])

  -- the header of the state with this clock, mode and sync part, and with as many pending and evicted as before
  unfoldable pub head_by : ℕ → Mode → Sync → Head
  head_by clock mode sync =
      head_of (record { settings = st.settings; mode = mode; last_clock = clock; pending = st.pending; sync = with_evicted sync st.sync.evicted })

  unfoldable pub sketch_in : Plan → Sketch
  sketch_in p =
      record {
        outcome = p.outcome;
        head = p.head;
        acts = announce_to (listed_peer p.announces) (ids_in c.continuation) ++ (acts_by p.head.downloaded p.work ++ say_to (listed_peer p.says));
        stalled = stalled_by p.stalling;
        in_view = p.seen;
      }

  unfoldable pub sketch_of : steps.Plan → Sketch
  sketch_of p =
      record { outcome = outcome_number p.outcome; head = head_by c.clock p.mode p.sync; acts = p.acts; stalled = p.sync.stalled_peers; in_view = p.in_view }

  -- The plan is the model's for this call.
  pub record Follows (p : Plan) : Type 0 where
    pub sketch : sketch_in p ≡ sketch_of (steps.plan st (args_of c))
    pub remaining : remaining_by p.work ≡ steps.remaining st (args_of c) (step_of c)
    pub retried : retried_by p.work ≡ steps.retried st (args_of c)
    pub evicted : evicted_by p.work ≡ (steps.plan st (args_of c)).sync.evicted
    pub check : is_check_by p.work ≡ steps.is_check (step_of c)
    pub apart : is_check_by p.work ≡ true → listed_peer p.announces ≡ none
