-- A plan follows the model, by the numbers and the header that the code was given.
use Prim.Native.Nat.{ℕ, min}
use mathlib.Core.Path.{◌≡◌, sym, ap, ◌∙◌}
use mathlib.Core.Bool.{Bool, true, false, cond, ◌&&◌}
use mathlib.Core.List.{List, [], ◌∷◌}
use mathlib.Core.Option.{Option}
use lib.Dec.{eqb}
use Rattle.model.specs.State.{State, is_mode, syncing}
use Rattle.model.specs.Settings as settings
use Rattle.model.specs.Requests.{ask}
use Rattle.model.specs.Peers.{first_of, select_peer}
use Rattle.model.specs.Lists.{ids_in, peers_in, pairs_in}
use Rattle.model.specs.Steps as steps
use Rattle.model.specs.Calls.{Call, args_of}
use Rattle.plan.specs.declared.Plan.{Plan}
use Rattle.plan.specs.declared.Work.TheVariants.{Nothing}
use Rattle.plan.specs.Plans.{Follows, is_quiet, sketch_in, sketch_of, sections_work, lose_work}
use Rattle.image.specs.declared.head.Head.{Head}
use Rattle.image.specs.Heads.{head_of}
use Rattle.plan.proofs.HeadLaws.{peer_of_lem}
use Rattle.plan.proofs.HeightLaws.{quiet_sections}
use Rattle.fields.proofs.OrderLaws.{and_left}
use borrow.Author.Tests.{eqb-true}
use Rattle.plan.proofs.FollowLaws.{pick_follows, needed_follows, reorg_follows, tick_follows, sections_follows, lost_follows}

module _ (st : State) (c : Call) (p : Plan) where
  pub picked : (peers : List ℕ) → c.kind ≡ 2 → c.peers ≡ peers → is_quiet p.work ≡ true
      → sketch_in st c p ≡ sketch_of st c (steps.picks st (args_of c) (select_peer st.sync.stalled_peers (peers_in peers))) → Follows st c p
  picked peers e f q k =
      pick_follows st c p e q (k ∙ ap (λ (l : List ℕ). sketch_of st c (steps.picks st (args_of c) (select_peer st.sync.stalled_peers (peers_in l)))) (sym f))

  pub needed : (peer : ℕ) → c.kind ≡ 3 → peer ≡ st.sync.sync_peer → is_quiet p.work ≡ true
      → sketch_in st c p ≡ sketch_of st c (steps.continues st (args_of c) (ask c.typeid peer (pairs_in c.stored) (ids_in c.ids) ∷ [])) → Follows st c p
  needed peer e f q k =
      needed_follows st c p e q (k ∙ ap (λ (x : ℕ). sketch_of st c (steps.continues st (args_of c) (ask c.typeid x (pairs_in c.stored) (ids_in c.ids) ∷ []))) f)

  pub reorged : (o : Option ℕ) (from : ℕ) → c.kind ≡ 4 → from ≡ min st.sync.downloaded c.fork → p.work ≡ sections_work true o
      → sketch_in st c p ≡ sketch_of st c (steps.advances_and_requests st (args_of c) from) → Follows st c p
  reorged o from e f w k = reorg_follows st c p e o w (k ∙ ap (λ (x : ℕ). sketch_of st c (steps.advances_and_requests st (args_of c) x)) f)

  pub ticked_syncing : (clock : ℕ) → c.kind ≡ 13 → is_mode st.mode syncing ≡ true → c.clock ≡ clock → is_quiet p.work ≡ true
      → sketch_in st c p ≡ sketch_of st c (steps.ticks_syncing st (args_of c) (settings.stalled st.settings clock st.sync.last_progress)) → Follows st c p
  ticked_syncing clock e m f q k =
      let tick : steps.Plan = steps.ticks_syncing st (args_of c) (settings.stalled st.settings c.clock st.sync.last_progress) in
      let other : steps.Plan = steps.ticks_synced st (args_of c) (first_of (peers_in c.peers)) in
      tick_follows st c p e q
      (k ∙ ap (λ (x : ℕ). sketch_of st c (steps.ticks_syncing st (args_of c) (settings.stalled st.settings x st.sync.last_progress))) (sym f)
      ∙ ap (λ (t : Bool). sketch_of st c (cond t tick other)) (sym m))

  pub ticked_synced : (peers : List ℕ) → c.kind ≡ 13 → is_mode st.mode syncing ≡ false → c.peers ≡ peers → is_quiet p.work ≡ true
      → sketch_in st c p ≡ sketch_of st c (steps.ticks_synced st (args_of c) (first_of (peers_in peers))) → Follows st c p
  ticked_synced peers e m f q k =
      let tick : steps.Plan = steps.ticks_syncing st (args_of c) (settings.stalled st.settings c.clock st.sync.last_progress) in
      let other : steps.Plan = steps.ticks_synced st (args_of c) (first_of (peers_in c.peers)) in
      tick_follows st c p e q
      (k ∙ ap (λ (l : List ℕ). sketch_of st c (steps.ticks_synced st (args_of c) (first_of (peers_in l)))) (sym f)
      ∙ ap (λ (t : Bool). sketch_of st c (cond t tick other)) (sym m))

  pub sectioned : (o : Option ℕ) (from : ℕ) → c.kind ≡ 14 → from ≡ st.sync.downloaded → p.work ≡ sections_work false o
      → sketch_in st c p ≡ sketch_of st c (steps.advances_and_requests st (args_of c) from) → Follows st c p
  sectioned o from e f w k =
      sections_follows st c p e (ap is_quiet w ∙ quiet_sections o) (k ∙ ap (λ (x : ℕ). sketch_of st c (steps.advances_and_requests st (args_of c) x)) f)

  pub lost : (o : Option ℕ) (head : Head) (peer : ℕ) → c.kind ≡ 8 → head_of st ≡ head → c.peer ≡ peer
      → p.work ≡ cond (eqb peer head.peer && eqb head.mode 2) (lose_work o) Nothing
      → sketch_in st c p ≡ sketch_of st c (steps.loses st (args_of c) peer) → Follows st c p
  unfolding head_of
  lost o head peer e h f w k =
      let x : head.peer ≡ st.sync.sync_peer = peer_of_lem st head h in
      let gone : Bool = eqb peer head.peer && eqb head.mode 2 in
      lost_follows st c p e o gone (rw (sym h, f))
      (λ g. f ∙ eqb-true peer head.peer (and_left (eqb peer head.peer) (eqb head.mode 2) g) ∙ x)
      w (k ∙ ap (λ (x : ℕ). sketch_of st c (steps.loses st (args_of c) x)) (sym f))
