-- The second half of a step: the requests that the core marks are those that the book reads off the commands.
use Prim.Native.Nat.{ℕ, suc, ◌+◌}
use mathlib.Core.Path.{◌≡◌, refl, sym, ap, ◌∙◌}
use mathlib.Core.Bool.{Bool, true, false, not, cond, ◌||◌, false≢true}
use mathlib.Core.List.{List, [], ◌∷◌, ◌++◌, map, append-nil}
use native.Mathlib.Omega.{arith}
use lib.ListN.{length, length-map}
use Rattle.fields.specs.Facts.{All}
use Rattle.fields.specs.Order.{same}
use Rattle.fields.specs.Filter.{kept}
use Rattle.fields.specs.Sort.{inserted, sorted}
use Rattle.fields.proofs.OrderLaws.{neither, or_left, same_eq, same_sym}
use Rattle.fields.proofs.AllLaws.{all_weaker, all_kept, all_pass}
use Rattle.fields.proofs.SortLaws.{all_inserted, length_inserted, map_inserted}
use borrow.Author.Tests.{not-true}
use Rattle.model.specs.Protocol.{Id, is_among}
use Rattle.model.specs.Settings.{Settings}
use Rattle.model.specs.Delivery.{Request, is_pending, id_before, with_peer, mark_requested, mark_retried}
use Rattle.model.specs.Requests.{Pair, is_stored, Act, ask, send, wanted, request_of, Done, perform, perform_all}
use Rattle.model.specs.Requests
use Rattle.model.specs.Sections.{Item}
use Rattle.model.specs.Check.{mark_all_retried}
use Rattle.model.specs.Book.{Stay, Requested, Entering, requested_again, takes_peer, enters, stay_before, enter, enter_all}
use Rattle.model.proofs.Widths.{WellAct}
use Rattle.model.proofs.PendingLaws.{most_positive}
use Rattle.model.proofs.IdLaws.{Distinct, EachAmong, NoneAmong, none_among_cons, among_inserted, distinct_inserted, among_sorted}
use Rattle.model.proofs.FateLaws.{open_requests, open_ids, open_ids_lem}
use Rattle.model.proofs.RequestedLaws.{requested, requested_item, requested_by_sendings, requested_append}
use Rattle.model.proofs.StayLaws.{Good, Room}

abbrev pub item_ids : List Item → List Id
item_ids items = map (λ (i : Item). i.id) items

-- ---- marking in any order

module _ (p q : ℕ) (i j : Id) (n : same i j ≡ false) where
  mark_twice : (r : Request)
      → cond (same (cond (same r.id j) (with_peer q r) r).id i) (with_peer p (cond (same r.id j) (with_peer q r) r)) (cond (same r.id j) (with_peer q r) r)
      ≡ cond (same (cond (same r.id i) (with_peer p r) r).id j) (with_peer q (cond (same r.id i) (with_peer p r) r)) (cond (same r.id i) (with_peer p r) r)
  mark_twice r = go (same r.id i) (same r.id j) refl refl
    where
      go : (t u : Bool) → same r.id i ≡ t → same r.id j ≡ u
          → cond (same (cond u (with_peer q r) r).id i) (with_peer p (cond u (with_peer q r) r)) (cond u (with_peer q r) r)
          ≡ cond (same (cond t (with_peer p r) r).id j) (with_peer q (cond t (with_peer p r) r)) (cond t (with_peer p r) r)
      go true true e f =
          let x : r.id ≡ i = same_eq r.id i e in
          absurd (false≢true (sym n ∙ ap (λ z. same z j) (sym x) ∙ f))
      go true false e f = rw (e, f)
      go false true e f = rw (e, f)
      go false false e f = rw (e, f)

  mark_swap : (rs : List Request) → mark_retried p i (mark_retried q j rs) ≡ mark_retried q j (mark_retried p i rs)
  mark_swap [] = refl
  mark_swap (r ∷ rs) = rw (mark_twice r, mark_swap rs)

marks_inserted : (below : Item → Item → Bool) (x : Item) (items : List Item) (rs : List Request) → is_among x.id (item_ids items) ≡ false
    → mark_all_retried (inserted below x items) rs ≡ mark_all_retried (x ∷ items) rs
unfolding is_among
marks_inserted below x [] rs m = refl
marks_inserted below x (i ∷ items) rs m =
    let p = neither (same x.id i.id) (is_among x.id (item_ids items)) m in
    go (below i x) (same_sym i.id x.id ∙ p.0) (marks_inserted below x items (mark_retried i.peer i.id rs) p.1)
  where
    go : (t : Bool) → same i.id x.id ≡ false → mark_all_retried (inserted below x items) (mark_retried i.peer i.id rs) ≡ mark_all_retried (x ∷ items) (mark_retried i.peer i.id rs)
        → mark_all_retried (cond t (i ∷ inserted below x items) (x ∷ (i ∷ items))) rs ≡ mark_all_retried (x ∷ (i ∷ items)) rs
    go true n e = e ∙ ap (mark_all_retried items) (sym (mark_swap i.peer x.peer i.id x.id n rs))
    go false n e = refl

pub marks_sorted : (below : Item → Item → Bool) (items : List Item) (rs : List Request) → Distinct (item_ids items) → mark_all_retried (sorted below items) rs ≡ mark_all_retried items rs
marks_sorted below [] rs d = refl
marks_sorted below (x ∷ items) rs d =
    marks_inserted below x (sorted below items) rs (among_sorted (λ (i : Item). i.id) below x.id items ∙ d.0)
    ∙ marks_sorted below items (mark_retried x.peer x.id rs) d.1

-- ---- the book while a step's requests are entered: `gone` stays have ended

pub record Sound (settings : Settings) (gone : ℕ) (b : Entering) : Type 0 where
  pub distinct : Distinct (open_ids b.open')
  pub good : All (Good settings) b.open'
  pub met_open : (id : Id) → is_among id b.met ≡ true → is_among id (open_ids b.open') ≡ true
  pub count : b.entries ≡ length b.open' + gone

-- The core's pending requests are the book's open stays.
pub record Agrees (settings : Settings) (gone : ℕ) (pending : List Request) (b : Entering) : Type 0 where
  pub requests : pending ≡ open_requests b.open'
  pub sound : Sound settings gone b

pub agrees_as : (settings : Settings) (gone : ℕ) (pending pending' : List Request) (b b' : Entering) → pending ≡ pending' → b ≡ b' → Agrees settings gone pending' b' → Agrees settings gone pending b
agrees_as settings gone pending pending' b b' p q h = rw (p, q) h

-- ---- taking a peer

-- What the core makes of a request that it asks again for is what the book makes of its stay.
asked_again_lem : (peer : ℕ) (s : Stay) → with_peer peer s.request ≡ (requested_again peer s).request
asked_again_lem peer s = refl

takes_request : (i : Item) (s : Stay) → cond (same s.request.id i.id) (with_peer i.peer s.request) s.request ≡ (takes_peer (requested_item i) s).request
takes_request i s = go (same s.request.id i.id)
  where
    go : (t : Bool) → cond t (with_peer i.peer s.request) s.request ≡ (cond t (requested_again i.peer s) s).request
    go true = asked_again_lem i.peer s
    go false = refl

takes_requests : (i : Item) (stays : List Stay) → mark_retried i.peer i.id (open_requests stays) ≡ open_requests (map (takes_peer (requested_item i)) stays)
takes_requests i [] = refl
takes_requests i (s ∷ stays) = rw (takes_request i s, takes_requests i stays)

takes_id : (q : Requested) (s : Stay) → (takes_peer q s).request.id ≡ s.request.id
takes_id q s = go (same s.request.id q.id)
  where
    go : (t : Bool) → (cond t (requested_again q.peer s) s).request.id ≡ s.request.id
    go true = refl
    go false = refl

takes_ids : (q : Requested) (stays : List Stay) → open_ids (map (takes_peer q) stays) ≡ open_ids stays
takes_ids q [] = refl
takes_ids q (s ∷ stays) = rw (takes_id q s, takes_ids q stays)

takes_good : (settings : Settings) (q : Requested) (ids : List Id) (stays : List Stay) → All (Room (q.id ∷ ids)) stays → All (Good settings) stays → All (Good settings) (map (takes_peer q) stays)
unfolding is_among
takes_good settings q ids [] k g = tt
takes_good settings q ids (s ∷ stays) k g = (go (same s.request.id q.id) refl, takes_good settings q ids stays k.1 g.1)
  where
    go : (t : Bool) → same s.request.id q.id ≡ t
        → Good settings (cond t (requested_again q.peer s) s)
    go true e =
        let room = k.0 (or_left (same s.request.id q.id) (is_among s.request.id ids) e) in
        record { few = g.0.few; requested = omega arith; last = g.0.last; stamped = g.0.stamped; in_patience = g.0.in_patience }
    go false e = g.0

takes_room : (q : Requested) (ids : List Id) (stays : List Stay) → is_among q.id ids ≡ false → All (Room (q.id ∷ ids)) stays → All (Room ids) (map (takes_peer q) stays)
unfolding is_among
takes_room q ids [] n k = tt
takes_room q ids (s ∷ stays) n k = (go (same s.request.id q.id) refl, takes_room q ids stays n k.1)
  where
    go : (t : Bool) → same s.request.id q.id ≡ t
        → Room ids (cond t (requested_again q.peer s) s)
    go true e = λ h. let p : s.request.id ≡ q.id = same_eq s.request.id q.id e in absurd (false≢true (sym n ∙ ap (λ z. is_among z ids) (sym p) ∙ h))
    go false e = λ h. k.0 (rw e h)

taken : Requested → Entering → Entering
taken q b = record { met = q.id ∷ b.met; open' = map (takes_peer q) b.open'; entries = b.entries }

enter_taken : (clock : ℕ) (q : Requested) (b : Entering) → is_among q.id b.met ≡ false → is_among q.id (open_ids b.open') ≡ true → enter clock q b ≡ taken q b
unfolding taken
enter_taken clock q b m o = rw (m, o)

taken_sound : (settings : Settings) (gone : ℕ) (q : Requested) (ids : List Id) (b : Entering) → is_among q.id (open_ids b.open') ≡ true → All (Room (q.id ∷ ids)) b.open'
    → Sound settings gone b → Sound settings gone (taken q b)
unfolding taken is_among
taken_sound settings gone q ids b m k h =
    record {
      distinct = rw (takes_ids q b.open') h.distinct;
      good = takes_good settings q ids b.open' k h.good;
      met_open = λ id e. rw (takes_ids q b.open') (go id (same id q.id) refl e);
      count = rw (length-map b.open' (takes_peer q)) h.count;
    }
  where
    go : (id : Id) (t : Bool) → same id q.id ≡ t → same id q.id || is_among id b.met ≡ true → is_among id (open_ids b.open') ≡ true
    go id true e f = rw (same_eq id q.id e) m
    go id false e f = h.met_open id (rw e at f)

-- The book reads a list of retries as the core marks it.
pub retries_agree : (settings : Settings) (gone clock : ℕ) (items : List Item) (b : Entering) → Distinct (item_ids items) → EachAmong (item_ids items) (open_ids b.open')
    → NoneAmong (item_ids items) b.met → All (Room (item_ids items)) b.open' → Sound settings gone b
    → Agrees settings gone (mark_all_retried items (open_requests b.open')) (enter_all clock (map requested_item items) b)
unfolding taken
retries_agree settings gone clock [] b d o m k h = record { requests = refl; sound = h }
retries_agree settings gone clock (i ∷ items) b d o m k h =
    agrees_as settings gone (mark_all_retried items (mark_retried i.peer i.id (open_requests b.open'))) (mark_all_retried items (open_requests (taken (requested_item i) b).open'))
    (enter_all clock (map requested_item items) (enter clock (requested_item i) b)) (enter_all clock (map requested_item items) (taken (requested_item i) b))
    (ap (mark_all_retried items) (takes_requests i b.open')) (ap (enter_all clock (map requested_item items)) (enter_taken clock (requested_item i) b m.0 o.0))
    (retries_agree settings gone clock items (taken (requested_item i) b) d.1 (rw (takes_ids (requested_item i) b.open') o.1)
    (none_among_cons i.id (item_ids items) b.met d.0 m.1) (takes_room (requested_item i) (item_ids items) b.open' d.0 k)
    (taken_sound settings gone (requested_item i) (item_ids items) b o.0 k h))

-- ---- entering

good_enters : (settings : Settings) (clock : ℕ) (q : Requested) → Good settings (enters clock q)
good_enters settings clock q =
    record { few = most_positive settings q.type_id; requested = omega arith; last = omega arith; stamped = λ gap gaps. omega arith; in_patience = λ gap. tt }

entered : ℕ → Requested → Entering → Entering
entered clock q b = record { met = q.id ∷ b.met; open' = inserted stay_before (enters clock q) b.open'; entries = suc b.entries }

enter_entered : (clock : ℕ) (q : Requested) (b : Entering) → is_among q.id b.met ≡ false → is_among q.id (open_ids b.open') ≡ false → enter clock q b ≡ entered clock q b
unfolding entered
enter_entered clock q b m o = rw (m, o)

enter_met : (clock : ℕ) (q : Requested) (b : Entering) → is_among q.id b.met ≡ true → enter clock q b ≡ b
enter_met clock q b m = rw m

all_units : (stays : List Stay) → All (λ (s : Stay). Unit {0}) stays
all_units [] = tt
all_units (s ∷ stays) = (tt, all_units stays)

enters_requests : (clock : ℕ) (q : Requested) (stays : List Stay) → open_requests (inserted stay_before (enters clock q) stays) ≡ inserted id_before (enters clock q).request (open_requests stays)
enters_requests clock q stays = map_inserted stay_before id_before (λ (s : Stay). s.request) (λ (s : Stay). Unit {0}) (λ x y u v. refl) (enters clock q) stays tt (all_units stays)

entered_sound : (settings : Settings) (gone clock : ℕ) (q : Requested) (b : Entering) → is_among q.id (open_ids b.open') ≡ false → Sound settings gone b → Sound settings gone (entered clock q b)
unfolding entered is_among
entered_sound settings gone clock q b m h =
    record {
      distinct = distinct_inserted (λ (s : Stay). s.request.id) stay_before (enters clock q) b.open' m h.distinct;
      good = all_inserted stay_before (Good settings) (enters clock q) b.open' (good_enters settings clock q) h.good;
      met_open = λ id e. rw (among_inserted (λ (s : Stay). s.request.id) stay_before id (enters clock q) b.open') (go id (same id q.id) e);
      count = rw (length_inserted stay_before (enters clock q) b.open', h.count) (omega arith);
    }
  where
    go : (id : Id) (t : Bool) → t || is_among id b.met ≡ true → t || is_among id (open_ids b.open') ≡ true
    go id true e = refl
    go id false e = h.met_open id e

-- An id that is open was met in this list.
abbrev pub MetIfOpen : Entering → Id → Type 0
MetIfOpen b id = is_among id (open_ids b.open') ≡ true → is_among id b.met ≡ true

entered_met : (clock : ℕ) (q : Requested) (b : Entering) (ids : List Id) → All (MetIfOpen b) ids → All (MetIfOpen (entered clock q b)) ids
unfolding entered is_among
entered_met clock q b [] h = tt
entered_met clock q b (id ∷ ids) h =
    (λ e. go (same id q.id) (rw (among_inserted (λ (s : Stay). s.request.id) stay_before id (enters clock q) b.open') at e), entered_met clock q b ids h.1)
  where
    go : (t : Bool) → t || is_among id (open_ids b.open') ≡ true → t || is_among id b.met ≡ true
    go true e = refl
    go false e = h.0 e

-- The book reads a list of new ids as the core marks it.
enters_agree : (settings : Settings) (gone clock type_id peer : ℕ) (ids : List Id) (b : Entering) → All (MetIfOpen b) ids → Sound settings gone b
    → Agrees settings gone (mark_requested clock type_id peer ids (open_requests b.open')) (enter_all clock (map (requested type_id peer) ids) b)
unfolding entered is_pending
enters_agree settings gone clock type_id peer [] b n h = record { requests = refl; sound = h }
enters_agree settings gone clock type_id peer (id ∷ ids) b n h =
    rw (open_ids_lem b.open')
    (go (is_among id b.met) (is_among id (open_ids b.open')) refl refl (λ k p q. enters_agree settings gone clock type_id peer ids k p q))
  where
    go : (t u : Bool) → is_among id b.met ≡ t → is_among id (open_ids b.open') ≡ u
        → ((k : Entering) → All (MetIfOpen k) ids → Sound settings gone k → Agrees settings gone (mark_requested clock type_id peer ids (open_requests k.open')) (enter_all clock (map (requested type_id peer) ids) k))
        → Agrees settings gone
        (mark_requested clock type_id peer ids (cond (is_among id (open_ids b.open')) (open_requests b.open') (inserted id_before (enters clock (requested type_id peer id)).request (open_requests b.open'))))
        (enter_all clock (map (requested type_id peer) ids) (enter clock (requested type_id peer id) b))
    go true u m o rest = rw (enter_met clock (requested type_id peer id) b m, h.met_open id m) (rest b n.1 h)
    go false true m o rest = absurd (false≢true (sym m ∙ n.0 o))
    go false false m o rest =
        rw (enter_entered clock (requested type_id peer id) b m o, o, ← enters_requests clock (requested type_id peer id) b.open')
        (rest (entered clock (requested type_id peer id) b) (entered_met clock (requested type_id peer id) b ids n.1) (entered_sound settings gone clock (requested type_id peer id) b o h))

-- Rule 3 keeps only ids that are not pending.
wanted_new : (b : Entering) (type_id : ℕ) (pairs : List Pair) (ids : List Id) → All (MetIfOpen b) (wanted (open_requests b.open') type_id pairs ids)
unfolding wanted is_pending
wanted_new b type_id pairs ids =
    rw (open_ids_lem b.open')
    (all_kept (MetIfOpen b) (λ (id : Id). not (is_stored pairs type_id id)) (kept (λ (id : Id). not (is_among id (open_ids b.open'))) ids)
    (all_weaker (λ (id : Id). not (is_among id (open_ids b.open')) ≡ true) (MetIfOpen b) (λ id e o. absurd (false≢true (sym (not-true (is_among id (open_ids b.open')) e) ∙ o)))
    (kept (λ (id : Id). not (is_among id (open_ids b.open'))) ids) (all_pass (λ (id : Id). not (is_among id (open_ids b.open'))) ids)))

pub requested_list : (type_id peer : ℕ) (ids : List Id) → requested_by_sendings (request_of type_id peer ids) ≡ map (requested type_id peer) ids
requested_list type_id peer [] = refl
requested_list type_id peer (id ∷ ids) = append-nil (map (requested type_id peer) (id ∷ ids))

pub enter_append : (clock : ℕ) (xs ys : List Requested) (b : Entering) → enter_all clock (xs ++ ys) b ≡ enter_all clock ys (enter_all clock xs b)
enter_append clock [] ys b = refl
enter_append clock (x ∷ xs) ys b = enter_append clock xs ys (enter clock x b)

module _ (settings : Settings) (gone : ℕ) (gate : Bool) (clock : ℕ) where
  act_agrees : (g : Bool) (act : Act) (b : Entering) → WellAct act → Sound settings gone b
      → Agrees settings gone (perform g clock act (open_requests b.open')).pending (enter_all clock (requested_by_sendings (perform g clock act (open_requests b.open')).sendings) b)
  act_agrees true (ask type_id peer pairs ids) b i h =
      rw (requested_list type_id peer (wanted (open_requests b.open') type_id pairs ids))
      (enters_agree settings gone clock type_id peer (wanted (open_requests b.open') type_id pairs ids) b (wanted_new b type_id pairs ids) h)
  act_agrees false (ask type_id peer pairs ids) b i h = record { requests = refl; sound = h }
  act_agrees g (send (Requests.request type_id peer ids)) b i h = absurd i
  act_agrees g (send (Requests.announcement peer ids)) b i h = record { requests = refl; sound = h }
  act_agrees g (send (Requests.sync_info peer)) b i h = record { requests = refl; sound = h }

  pub acts_agree : (acts : List Act) (pending : List Request) (b : Entering) → All WellAct acts → Agrees settings gone pending b
      → Agrees settings gone (perform_all gate clock acts pending).pending (enter_all clock (requested_by_sendings (perform_all gate clock acts pending).sendings) b)
  acts_agree [] pending b i h = h
  acts_agree (act ∷ acts) pending b i h =
      let one : Done = perform gate clock act pending in
      let k : Agrees settings gone one.pending (enter_all clock (requested_by_sendings one.sendings) b) = rw h.requests (act_agrees gate act b i.0 h.sound) in
      rw (
        requested_append one.sendings (perform_all gate clock acts one.pending).sendings,
        enter_append clock (requested_by_sendings one.sendings) (requested_by_sendings (perform_all gate clock acts one.pending).sendings) b,
      )
      (acts_agree acts one.pending (enter_all clock (requested_by_sendings one.sendings) b) i.1 k)
