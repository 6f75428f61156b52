-- What a message's bytes and flags say, in the model's words.
use Prim.Native.Nat.{ℕ, ◌/◌, ◌≤◌, ◌<◌}
use mathlib.Core.Path.{◌≡◌, refl, sym, ap, ◌∙◌}
use mathlib.Core.Bool.{Bool, true, false, cond, ◌&&◌}
use mathlib.Core.List.{List, [], ◌∷◌}
use mathlib.Core.Option.{Option, none, some}
use native.Mathlib.Nat.{lt_irrefl}
use native.Mathlib.Omega.{arith}
use lib.ListN.{length}
use lib.Dec.{eqb, ltb}
use Rattle.fields.proofs.EntriesLaws.{length_entries}
use Rattle.model.specs.Protocol.{Id, header_type, is_announceable}
use Rattle.model.specs.State.{State}
use Rattle.model.specs.Requests.{Act, ask}
use Rattle.model.specs.Events.{Outcome, tip_outcome, raised_tip, not_above, continuation, announce}
use Rattle.model.specs.Lists.{ids_in, pairs_in}
use Rattle.model.specs.Steps as steps
use Rattle.model.specs.Steps.{Args}
use Rattle.model.specs.Calls.{Call, args_of}
use Rattle.std.specs.Prelude as program
use Rattle.std.specs.Bool.{then_some}
use Rattle.peers.specs.Peers.{listed_peer}
use Rattle.plan_messages.specs.Heard.{tip_of}
use Rattle.plan.specs.declared.Plan.{Plan}
use Rattle.plan.specs.declared.Work.TheVariants.{Nothing}
use Rattle.plan.specs.Plans.{announce_to, is_quiet, sections_work, sketch_in, sketch_of}
use Rattle.plan.proofs.HeightLaws.{quiet_sections}
use Rattle.model.specs.Layout.{id_size}

length_ids : (bytes : List ℕ) → length (ids_in bytes) ≡ length bytes / id_size
unfolding ids_in
length_ids bytes = length_entries id_size (length bytes / id_size) bytes

-- what an empty list comes to, by whether it tells the tip
abbrev of_none : State → Args → Bool → steps.Plan
of_none st a t = cond t (steps.is_at_tip st a [] st.sync.known_tip) (steps.continues st a [])

module _ (st : State) (a : Args) (peer type_id : ℕ) where
  heard_some : (ids : List Id) → 0 < length ids
      → steps.hears_announced st a peer type_id ids ≡ steps.continues st a (cond (is_announceable type_id) (ask type_id peer a.stored ids ∷ []) [])
  unfolding steps.hears_announced
  heard_some [] l = absurd (lt_irrefl 0 l)
  heard_some (id ∷ ids) l = refl

  heard_none : (ids : List Id) → length ids ≡ 0 → steps.hears_announced st a peer type_id ids ≡ of_none st a (steps.tells_tip st a peer type_id)
  unfolding steps.hears_announced
  heard_none [] l = refl
  heard_none (id ∷ ids) l = absurd (lt_irrefl 0 (omega arith))

  pub some_announced : (bytes : List ℕ) → id_size ≤ length bytes
      → steps.hears_announced st a peer type_id (ids_in bytes)
      ≡ steps.continues st a (cond (is_announceable type_id) (ask type_id peer a.stored (ids_in bytes) ∷ []) [])
  some_announced bytes l =
      let n : 0 < length bytes / id_size = omega arith in
      heard_some (ids_in bytes) (rw (length_ids bytes) n)

  none_announced : (bytes : List ℕ) → length bytes < id_size
      → steps.hears_announced st a peer type_id (ids_in bytes) ≡ of_none st a (steps.tells_tip st a peer type_id)
  none_announced bytes l =
      let n : length bytes / id_size ≡ 0 = omega arith in
      heard_none (ids_in bytes) (length_ids bytes ∙ n)

-- a tip is read only if parsing worked
known_tip_lem : (parsed has : Bool) (tip : ℕ) → tip_of (then_some (parsed && has) tip) ≡ cond parsed (cond has (some tip) none) none
known_tip_lem true true tip = refl
known_tip_lem true false tip = refl
known_tip_lem false has tip = refl

announced_if : (goes : Bool) (peer : ℕ) (ids : List Id) → announce_to (listed_peer (then_some goes peer)) ids ≡ cond goes (announce peer ids) []
announced_if true peer ids = refl
announced_if false peer ids = refl

-- a sync info by what was made of it
pub heard_by : (st : State) (c : Call) (tip : program.Option ℕ) (known : ℕ) (goes : Bool) (announces : program.Option ℕ) (outcome : Outcome)
    → tip ≡ then_some (eqb c.parsed 1 && eqb c.hastip 1) c.tip
    → known ≡ raised_tip st.sync.known_tip (tip_of tip)
    → goes ≡ (eqb c.parsed 1 && (ltb 0 c.height && not_above c.height (tip_of tip)))
    → announces ≡ then_some goes c.peer
    → outcome ≡ tip_outcome (eqb c.peer st.sync.sync_peer) c.height (tip_of tip)
    → steps.answers st (args_of c) c.peer (announce_to (listed_peer announces) (ids_in c.continuation)) known outcome
    ≡ steps.hears_sync_info st (args_of c) c.peer (eqb c.parsed 1) (cond (eqb c.hastip 1) (some c.tip) none) (ids_in c.continuation)
unfolding steps.hears_sync_info continuation args_of
heard_by st c tip known goes announces outcome t k g a o =
    rw (k, o, a, announced_if goes c.peer (ids_in c.continuation), g, t, known_tip_lem (eqb c.parsed 1) (eqb c.hastip 1) c.tip)

-- ---- by the numbers that the code was given

module _ (st : State) (c : Call) {bytes : List ℕ} {typeid : ℕ} (ids : c.ids ≡ bytes) (types : c.typeid ≡ typeid) where
  abbrev pub heard : steps.Plan
  heard = steps.hears_announced st (args_of c) c.peer c.typeid (ids_in c.ids)

  module _ (l : id_size ≤ length bytes) where
    pub heard_served : {peer : ℕ} → c.peer ≡ peer → is_announceable typeid ≡ true
        → steps.continues st (args_of c) (ask c.typeid peer (pairs_in c.stored) (ids_in c.ids) ∷ []) ≡ heard
    unfolding args_of
    heard_served e i =
        let served : is_announceable c.typeid ≡ true = rw types i in
        sym
        (some_announced st (args_of c) c.peer c.typeid c.ids (rw ids l)
        ∙ ap (λ (t : Bool). steps.continues st (args_of c) (cond t (ask c.typeid c.peer (pairs_in c.stored) (ids_in c.ids) ∷ []) [])) served
        ∙ ap (λ (x : ℕ). steps.continues st (args_of c) (ask c.typeid x (pairs_in c.stored) (ids_in c.ids) ∷ [])) e)

    pub heard_unserved : is_announceable typeid ≡ false → steps.continues st (args_of c) [] ≡ heard
    unfolding args_of
    heard_unserved i =
        let unserved : is_announceable c.typeid ≡ false = rw types i in
        sym
        (some_announced st (args_of c) c.peer c.typeid c.ids (rw ids l)
        ∙ ap (λ (t : Bool). steps.continues st (args_of c) (cond t (ask c.typeid c.peer (pairs_in c.stored) (ids_in c.ids) ∷ []) [])) unserved)

  module _ (l : length bytes < id_size) where
    empty : (t : Bool) → steps.tells_tip st (args_of c) c.peer c.typeid ≡ t → of_none st (args_of c) t ≡ heard
    empty t e = sym (none_announced st (args_of c) c.peer c.typeid c.ids (rw ids l) ∙ ap (of_none st (args_of c)) e)

    module _ {peer sync_peer : ℕ} (sender : c.peer ≡ peer) (mine : st.sync.sync_peer ≡ sync_peer) where
      told_alike : steps.tells_tip st (args_of c) c.peer c.typeid ≡ (eqb typeid 101 && eqb peer sync_peer)
      told_alike =
          ap (λ (x : ℕ). eqb x header_type && eqb c.peer st.sync.sync_peer) types
          ∙ ap (λ (x : ℕ). eqb typeid header_type && eqb x st.sync.sync_peer) sender
          ∙ ap (λ (x : ℕ). eqb typeid header_type && eqb peer x) mine

      pub heard_no_headers : {tip : ℕ} → tip ≡ st.sync.known_tip → (eqb typeid 101 && eqb peer sync_peer) ≡ true
          → steps.is_at_tip st (args_of c) [] tip ≡ heard
      heard_no_headers e i = ap (λ (x : ℕ). steps.is_at_tip st (args_of c) [] x) e ∙ empty true (told_alike ∙ i)

      pub heard_nothing : (eqb typeid 101 && eqb peer sync_peer) ≡ false → steps.continues st (args_of c) [] ≡ heard
      heard_nothing i = empty false (told_alike ∙ i)

pub answered_alike : (st : State) (c : Call) (p : Plan) (before : List Act) (tip : ℕ) {peer peer' : ℕ} {o o' : Outcome}
    → sketch_in st c p ≡ sketch_of st c (steps.answers st (args_of c) peer before tip o) → peer' ≡ peer → o' ≡ o
    → sketch_in st c p ≡ sketch_of st c (steps.answers st (args_of c) peer' before tip o')
answered_alike st c p before tip k e f = rw (e, f) k

pub quiet_tip : (t : Bool) (o : Option ℕ) → is_quiet (cond t (sections_work false o) Nothing) ≡ true
quiet_tip true o = quiet_sections o
quiet_tip false o = refl
