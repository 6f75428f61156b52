-- Number 9: a plan is out of view exactly when the step reads a height that the lent view lacks.
use Prim.Native.Nat.{ℕ, ◌+◌, min}
use mathlib.Core.Path.{◌≡◌, refl, sym, ◌∙◌, subst}
use mathlib.Core.Bool.{Bool, true, false, ◌&&◌, false≢true}
use mathlib.Core.List.{[]}
use mathlib.Core.Option.{none}
use native.Mathlib.Omega.{arith}
use Rattle.fields.proofs.OrderLaws.{and_left, and_right}
use Rattle.model.specs.Protocol.{window_size}
use Rattle.model.specs.Steps.{Plan, of_mode, plan}
use Rattle.model.specs.Calls.{args_of, step_of}
use Rattle.model.specs.Promises.Words.{Seen, peers, view}
use Rattle.model.specs.Promises.Heights.{Complete, LooksOn, StartsFrom}
use Rattle.model.specs.Promises.Asked.{Present, NextSections}
use Rattle.model.specs.Promises.Refusals.{Reached, AsksFrom, raised, as_it_stands, Reads, looking_on, asking, Unseen, outside}
use Rattle.model.proofs.Promises.SeenLaws.{Kind}
use Rattle.model.proofs.Promises.ViewLaws.{Behind, Lacks, Reaches, reaches_once, raised_reaches, raised_lacks, raised_shows}
use Rattle.model.proofs.Promises.ViewLaws.{sections_lack, sections_show}
use Rattle.model.proofs.Promises.LookLaws.{here, starts_once, risen, window, Reading, looks, looks_and_asks, asks, neither, plan_reads}

module _ (s : Seen) where
  -- ---- a height that the view lacks is read

  lacked_looking : (from : ℕ) → LooksOn s → StartsFrom s from → Lacks Complete (view s) from s.call.height → Unseen s
  lacked_looking from l starts lack =
      let r = lack.read in
      outside lack.height (looking_on from l starts r.above r.within r.behind) lack.lacked

  lacked_asking : (from : ℕ) → NextSections s → AsksFrom s from → (window s from).in_view ≡ false → Unseen s
  lacked_asking from n start e =
      let w = sections_lack (view s) s.call.height from (peers s) e in
      let lack = w.1 in
      let r = lack.read in
      let within = r.within in
      outside lack.height (asking from n w.0 start r.above (omega arith) (omega arith) r.behind) lack.lacked

  reached : (from : ℕ) → Reached s from (risen s from).height
  reached from =
      let r = raised_reaches (view s) s.call.height from in
      record { rises = r.rises; over_complete = r.over; as_far = r.as_far }

  reading_unseen : (p : Plan) → Reading s p → p.in_view ≡ false → Unseen s
  reading_unseen p (looks from l n starts d v) e = lacked_looking from l starts (raised_lacks (view s) s.call.height from (sym v ∙ e))
  reading_unseen p (looks_and_asks from l n starts d v) e = go (risen s from).in_view refl (sym v ∙ e)
    where
      go : (t : Bool) → (risen s from).in_view ≡ t → t && (window s (risen s from).height).in_view ≡ false → Unseen s
      go true a w = lacked_asking (risen s from).height n (raised from l starts (reached from)) w
      go false a w = lacked_looking from l starts (raised_lacks (view s) s.call.height from a)
  reading_unseen p (asks l n d v) e = lacked_asking (here s) n (as_it_stands l refl) (sym v ∙ e)
  reading_unseen p (neither l n still) e = absurd (false≢true (sym e ∙ still.1))

  pub unseen : Kind s.call (step_of s.call) → of_mode s.before.mode s.before.sync.entry_sent (step_of s.call) ≡ true
      → (plan s.before (args_of s.call)).in_view ≡ false → Unseen s
  unseen kind mode e = reading_unseen (plan s.before (args_of s.call)) (plan_reads s kind mode) e

  -- ---- every height that is read is in the view

  shown_looking : (from from' height : ℕ) → StartsFrom s from → StartsFrom s from' → (risen s from).in_view ≡ true
      → Behind (λ h. Complete (view s h)) from' s.call.height height → view s height ≡ none → ⊥
  shown_looking from from' height starts starts' e b lacked =
      let same : from' ≡ from = starts_once s from' from starts' starts in
      raised_shows (view s) s.call.height from e (record { height = height; read = rw same at b; lacked = lacked })

  shown_asking : (from height : ℕ) → (window s from).in_view ≡ true → (peers s ≡ [] → ⊥)
      → Behind (λ h. Present (view s h)) from (min (from + window_size) s.call.height) height → view s height ≡ none → ⊥
  shown_asking from height e listed b lacked =
      sections_show (view s) s.call.height from (peers s) e listed (record { height = height; read = b; lacked = lacked })

  -- rule 4 starts where rule 5 got to, or where the height stands
  asks_raised : (from height : ℕ) → LooksOn s → StartsFrom s from → AsksFrom s height → height ≡ (risen s from).height
  asks_raised from height l starts (raised from' l' starts' r) =
      let there : Reaches (view s) from' s.call.height height = record { rises = r.rises; over = r.over_complete; as_far = r.as_far } in
      let same : from' ≡ from = starts_once s from' from starts' starts in
      reaches_once (view s) from s.call.height height (risen s from).height (rw same at there) (raised_reaches (view s) s.call.height from)
  asks_raised from height l starts (as_it_stands other e) = absurd (other l)

  asks_here : (height : ℕ) → (LooksOn s → ⊥) → AsksFrom s height → height ≡ here s
  asks_here height other (raised from l starts r) = absurd (other l)
  asks_here height other (as_it_stands o e) = e

  reading_shows : (p : Plan) → Reading s p → p.in_view ≡ true → (height : ℕ) → Reads s height → view s height ≡ none → ⊥
  reading_shows p (looks from l n starts d v) e height (looking_on from' l' starts' above within behind) lacked =
      shown_looking from from' height starts starts' (sym v ∙ e) (record { above = above; within = within; behind = behind }) lacked
  reading_shows p (looks from l n starts d v) e height (asking from' n' listed start above few within behind) lacked = n n'
  reading_shows p (looks_and_asks from l n starts d v) e height (looking_on from' l' starts' above within behind) lacked =
      shown_looking from from' height starts starts' (and_left (risen s from).in_view (window s (risen s from).height).in_view (sym v ∙ e))
      (record { above = above; within = within; behind = behind }) lacked
  reading_shows p (looks_and_asks from l n starts d v) e height (asking from' n' listed start above few within behind) lacked =
      let w = and_right (risen s from).in_view (window s (risen s from).height).in_view (sym v ∙ e) in
      shown_asking from' height (subst (λ f. (window s f).in_view ≡ true) (sym (asks_raised from from' l starts start)) w) listed
      (record { above = above; within = omega arith; behind = behind }) lacked
  reading_shows p (asks l n d v) e height (looking_on from' l' starts' above within behind) lacked = l l'
  reading_shows p (asks l n d v) e height (asking from' n' listed start above few within behind) lacked =
      shown_asking from' height (subst (λ f. (window s f).in_view ≡ true) (sym (asks_here from' l start)) (sym v ∙ e)) listed
      (record { above = above; within = omega arith; behind = behind }) lacked
  reading_shows p (neither l n still) e height (looking_on from' l' starts' above within behind) lacked = l l'
  reading_shows p (neither l n still) e height (asking from' n' listed start above few within behind) lacked = n n'

  unseen_lacks : (p : Plan) → Reading s p → p.in_view ≡ true → Unseen s → ⊥
  unseen_lacks p r e (outside height read lacked) = reading_shows p r e height read lacked

  pub all_seen : Kind s.call (step_of s.call) → of_mode s.before.mode s.before.sync.entry_sent (step_of s.call) ≡ true
      → (plan s.before (args_of s.call)).in_view ≡ true → Unseen s → ⊥
  all_seen kind mode e u = unseen_lacks (plan s.before (args_of s.call)) (plan_reads s kind mode) e u
