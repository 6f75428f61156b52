-- Rules 4 and 5 by value and in the model: the height reached, and what is asked for.
use Prim.Native.Nat.{ℕ}
use mathlib.Core.Path.{◌≡◌, refl, sym}
use mathlib.Core.Bool.{Bool, true, false}
use mathlib.Core.List.{List}
use mathlib.Core.Option.{Option, none, some}
use Rattle.model.specs.State.{State}
use Rattle.model.specs.Peers.{first_of}
use Rattle.model.specs.Sections.{advance_downloaded_height, request_sections_from, request_next_sections}
use Rattle.model.specs.Steps as steps
use Rattle.model.specs.Lists.{peers_in, view_of}
use Rattle.model.specs.Calls as calls
use Rattle.model.specs.Calls.{args_of}
use Rattle.heights.specs.Advanced.{advance_of}
use Rattle.heights.specs.declared.downloaded.Advance.{Advance}
use Rattle.plan.specs.declared.Work.{Work}
use Rattle.plan.specs.declared.shown.Shown.{Shown}
use Rattle.plan.specs.Plans.{Shows, acts_by, is_quiet, sections_work}

-- Rule 5's answer is the model's from this height on.
pub record Reached (st : State) (c : calls.Call) (from : ℕ) (r : Advance) : Type 0 where
  pub height : r.height ≡ (steps.advance_from st (args_of c) from).height
  pub seen : r.seen ≡ (steps.advance_from st (args_of c) from).in_view

pub reached : (st : State) (c : calls.Call) (from : ℕ) (r : Advance) (view : List ℕ) (height : ℕ)
    → c.height ≡ height
    → c.view ≡ view
    → advance_of r ≡ advance_downloaded_height (view_of view) height from
    → Reached st c from r
unfolding steps.advance_from args_of advance_of
reached st c from r view height eh ev a = record { height = rw (eh, ev, sym a); seen = rw (eh, ev, sym a) }

-- Rule 4's work asks for the window's sections of the first listed peer; a purge changes nothing about that.
pub asked : (st : State) (c : calls.Call) (purges : Bool) (height : ℕ) (peers : List ℕ) (work : Work)
    → c.peers ≡ peers
    → work ≡ sections_work purges (first_of (peers_in peers))
    → acts_by st c height work ≡ (steps.sections_from st (args_of c) height).acts
unfolding steps.sections_from args_of request_next_sections request_sections_from
asked st c purges height peers work p e = rw (e, sym p) (go purges (first_of (peers_in c.peers)))
  where
    go : (b : Bool) (o : Option ℕ) → acts_by st c height (sections_work b o) ≡ (request_sections_from (view_of c.view) c.height height o).acts
    go false none = refl
    go false (some peer) = refl
    go true none = refl
    go true (some peer) = refl

pub seen_by_lem : (st : State) (c : calls.Call) (from : ℕ) (seen : Bool) (shown : Shown)
    → Shows c shown
    → seen ≡ (request_next_sections (view_of shown.view.bytes.now) shown.height from (peers_in shown.peers.now)).in_view
    → seen ≡ (steps.sections_from st (args_of c) from).in_view
unfolding steps.sections_from args_of
seen_by_lem st c from seen shown s e = rw (s.height, s.peers, s.view) e

pub quiet_sections : (o : Option ℕ) → is_quiet (sections_work false o) ≡ true
quiet_sections none = refl
quiet_sections (some peer) = refl
