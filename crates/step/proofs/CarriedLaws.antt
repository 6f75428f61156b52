-- A plan that follows the model's: what it comes to when it is carried out.
use Prim.Native.Nat.{ℕ, ◌+◌}
use mathlib.Core.Path.{◌≡◌, refl, sym, ap, ◌∙◌}
use mathlib.Core.Bool.{Bool, true, false}
use mathlib.Core.List.{List, [], ◌∷◌, ◌++◌, append_assoc}
use mathlib.Core.Option.{Option, none, some}
use lib.ListN.{length}
use lib.Dec.{eqb, leb}
use Rattle.model.specs.Protocol.{Id, tracked_limit}
use Rattle.model.specs.Delivery as delivery
use Rattle.model.specs.Delivery.{Request, Verdict}
use Rattle.model.specs.State.{State}
use Rattle.model.specs.Requests.{Sending, commands_from, Act, Done, perform, perform_all}
use Rattle.model.specs.Sections.{Item, batches_of}
use Rattle.model.specs.Check.{mark_all_retried, retry_sendings}
use Rattle.model.specs.Events.{outcome_number}
use Rattle.model.specs.Steps as steps
use Rattle.model.specs.Lists.{ids_in}
use Rattle.model.specs.Commands.{all_command_bytes}
use Rattle.model.specs.Calls as calls
use Rattle.model.specs.Calls.{args_of, step_bytes}
use Rattle.peers.specs.Peers.{listed_peer}
use Rattle.image.specs.declared.head.Head.{Head}
use Rattle.image.specs.Heads.{head_of}
use Rattle.commands.specs.Sent.{sent_bytes}
use Rattle.plan.specs.declared.Plan.{Plan}
use Rattle.plan.specs.Plans.{is_check_by, announce_to, say_to, Sketch, acts_by, remaining_by, retried_by, stalled_by, head_by, sketch_in, sketch_of, Follows}
use Rattle.work.specs.Worked.{acted_by, count_by, worked_by, fits}
use Rattle.step.specs.Finished.{said}
use Rattle.work_asks.specs.Carried.{announced, carried_by}
use Rattle.step.specs.Finished.{counted}

-- ---- messages before and after other acts

module _ (gate : Bool) (clock : ℕ) where
  announced_first : (peer : Option ℕ) (ids : List Id) (acts : List Act) (rs : List Request)
      → perform_all gate clock (announce_to peer ids ++ acts) rs
      ≡ record { pending = (perform_all gate clock acts rs).pending; sendings = announced peer ids ++ (perform_all gate clock acts rs).sendings }
  announced_first none ids acts rs = refl
  announced_first (some peer) [] acts rs = refl
  announced_first (some peer) (id ∷ ids) acts rs = refl

  said_last : (peer : Option ℕ) (acts : List Act) (rs : List Request)
      → perform_all gate clock (acts ++ say_to peer) rs
      ≡ record { pending = (perform_all gate clock acts rs).pending; sendings = (perform_all gate clock acts rs).sendings ++ said peer }
  said_last none [] rs = refl
  said_last (some peer) [] rs = refl
  said_last peer (act ∷ acts) rs =
      let one : Done = perform gate clock act rs in
      let rest : Done = perform_all gate clock acts one.pending in
      let add : Done → Done = λ (d : Done). record { pending = d.pending; sendings = one.sendings ++ d.sendings } in
      ap add (said_last peer acts one.pending) ∙ rw (append_assoc one.sendings rest.sendings (said peer))

-- ---- a plan that follows the model's

no_retries : (check : Bool) (first : List Sending) (retried : List Sending) (rest : List Sending)
    → (check ≡ true → first ≡ []) → (check ≡ false → retried ≡ [])
    → retried ++ (first ++ rest) ≡ first ++ (retried ++ rest)
no_retries true first retried rest e f = rw (e refl)
no_retries false first retried rest e f = rw (f refl)

module _ (st : State) (c : calls.Call) (p : Plan) (f : Follows st c p) where
  abbrev args : steps.Args
  args = args_of c

  abbrev acted : Done
  acted = acted_by st c p.head.downloaded p.work

  acts_are : (steps.plan st args).acts
      ≡ announce_to (listed_peer p.announces) (ids_in c.continuation) ++ (acts_by st c p.head.downloaded p.work ++ say_to (listed_peer p.says))
  unfolding sketch_in sketch_of
  acts_are = sym (ap (λ (s : Sketch). s.acts) f.sketch)

  performed_is : steps.performed st args
      ≡ record {
        pending = acted.pending;
        sendings = announced (listed_peer p.announces) (ids_in c.continuation) ++ (acted.sendings ++ said (listed_peer p.says));
      }
  unfolding steps.performed acted_by args_of
  performed_is =
      let gate : Bool = eqb c.gate 1 in
      let rs : List Request = mark_all_retried (retried_by st c p.work) (remaining_by st c p.work) in
      let acts : List Act = acts_by st c p.head.downloaded p.work in
      let first : List Sending = announced (listed_peer p.announces) (ids_in c.continuation) in
      let add : Done → Done = λ (d : Done). record { pending = d.pending; sendings = first ++ d.sendings } in
      rw (acts_are, ← f.retried, ← f.remaining)
      (announced_first gate c.clock (listed_peer p.announces) (ids_in c.continuation) (acts ++ say_to (listed_peer p.says)) rs
      ∙ ap add (said_last gate c.clock (listed_peer p.says) acts rs))

  pub carried_pending : (carried_by st c p).pending ≡ (steps.after st args).pending
  unfolding carried_by worked_by steps.after
  carried_pending = sym (ap (λ (d : Done). d.pending) performed_is)

  pub carried_evicted : (carried_by st c p).evicted ≡ (steps.after st args).sync.evicted
  unfolding carried_by worked_by steps.after
  carried_evicted = f.evicted

  pub carried_bytes : step_bytes st args ≡ sent_bytes 0 ((carried_by st c p).sendings ++ said (listed_peer p.says))
  unfolding step_bytes steps.commands sent_bytes carried_by worked_by retried_by retry_sendings batches_of
  carried_bytes =
      let first : List Sending = announced (listed_peer p.announces) (ids_in c.continuation) in
      let again : List Sending = retry_sendings (retried_by st c p.work) in
      let last : List Sending = said (listed_peer p.says) in
      let moved : again ++ (first ++ (acted.sendings ++ last)) ≡ (first ++ (again ++ acted.sendings)) ++ last =
      no_retries (is_check_by p.work) first again (acted.sendings ++ last) (λ e. rw (f.apart e)) (λ e. rw e)
      ∙ rw (append_assoc first (again ++ acted.sendings) last, append_assoc again acted.sendings last) in
      let all : retry_sendings (steps.retried st args) ++ (steps.performed st args).sendings ≡ (first ++ (again ++ acted.sendings)) ++ last =
      ap (λ (d : Done). retry_sendings (steps.retried st args) ++ d.sendings) performed_is
      ∙ ap (λ (items : List Item). retry_sendings items ++ (first ++ (acted.sendings ++ last))) (sym f.retried) ∙ moved in
      ap (λ (ss : List Sending). all_command_bytes (commands_from 0 ss)) all

  carried_count : (what : Verdict) → count_by st c p.work what ≡ steps.count_of st args what
  unfolding count_by steps.count_of args_of
  carried_count what = rw f.check

  pub carried_retried : (carried_by st c p).retried ≡ steps.count_of st args delivery.retried
  unfolding carried_by worked_by
  carried_retried = carried_count delivery.retried

  pub carried_abandoned : (carried_by st c p).abandoned ≡ steps.count_of st args delivery.abandoned
  unfolding carried_by worked_by
  carried_abandoned = carried_count delivery.abandoned

  pub carried_forgotten : (carried_by st c p).forgotten ≡ steps.count_of st args delivery.forgotten
  unfolding carried_by worked_by
  carried_forgotten = carried_count delivery.forgotten

  pub carried_fresh : (carried_by st c p).fresh ≡ steps.fresh_count st args
  unfolding carried_by worked_by steps.fresh_count args_of
  carried_fresh = rw f.check

  pub carried_fits : fits (carried_by st c p) ≡ leb (length (steps.after st args).pending + length (steps.after st args).sync.evicted) tracked_limit
  unfolding fits
  carried_fits = rw (carried_pending, carried_evicted)

  pub outcome_is : p.outcome ≡ outcome_number (steps.plan st args).outcome
  unfolding sketch_in sketch_of
  outcome_is = ap (λ (s : Sketch). s.outcome) f.sketch

  pub seen_is : p.seen ≡ (steps.plan st args).in_view
  unfolding sketch_in sketch_of
  seen_is = ap (λ (s : Sketch). s.in_view) f.sketch

  head_is : p.head ≡ head_by st c c.clock (steps.plan st args).mode (steps.plan st args).sync
  unfolding sketch_in sketch_of
  head_is = ap (λ (s : Sketch). s.head) f.sketch

  pub stalled_is : stalled_by st c p.stalling ≡ (steps.after st args).sync.stalled_peers
  unfolding sketch_in sketch_of steps.after
  stalled_is = ap (λ (s : Sketch). s.stalled) f.sketch

  pub stalled_count_lem : p.head.stalled ≡ length (steps.after st args).sync.stalled_peers
  unfolding head_by head_of steps.after
  stalled_count_lem = ap (λ (h : Head). h.stalled) head_is

  -- the header with the counts of the work
  pub head_after : (pending evicted : ℕ) → pending ≡ length (carried_by st c p).pending → evicted ≡ length (carried_by st c p).evicted
      → counted p.head pending evicted ≡ head_of (steps.after st args)
  unfolding head_by head_of steps.after counted args_of
  head_after pending evicted m n =
      ap (λ (h : Head). counted h pending evicted) head_is
      ∙ ap (λ (k : ℕ). counted (head_by st c c.clock (steps.plan st args).mode (steps.plan st args).sync) k evicted) (m ∙ ap length carried_pending)
      ∙ ap (λ (k : ℕ). counted (head_by st c c.clock (steps.plan st args).mode (steps.plan st args).sync) (length (steps.after st args).pending) k)
      (n ∙ ap length carried_evicted)
