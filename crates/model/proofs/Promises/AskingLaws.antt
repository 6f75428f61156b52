-- The acts of a step over the pending requests: what is there stays as it is, what comes was asked for, what is asked for is there.
use Prim.Native.Nat.{ℕ}
use mathlib.Core.Path.{◌≡◌, refl, sym, ap, ◌∙◌, subst}
use mathlib.Core.Bool.{Bool, true, false, not, cond}
use mathlib.Core.Logic.{◌⊎◌, inl, inr, ⊎_elim}
use mathlib.Core.List.{List, [], ◌∷◌, ◌++◌, map}
use Rattle.fields.specs.Facts.{All}
use Rattle.fields.specs.Filter.{kept}
use Rattle.fields.specs.Sort.{inserted}
use Rattle.fields.proofs.AllLaws.{all_kept, all_pass, all_weaker}
use Rattle.fields.proofs.OrderLaws.{not_both}
use Rattle.model.specs.Protocol.{Id}
use Rattle.model.specs.Delivery.{Request, is_pending, id_before, mark_requested}
use Rattle.model.specs.Requests.{Pair, is_stored, Act, ask, send, wanted, Done, perform, perform_all}
use Rattle.model.specs.Requests
use Rattle.model.specs.Book.{Requested}
use Rattle.model.specs.Promises.Words.{Among}
use Rattle.model.specs.Promises.Pending.{as_requested}
use Rattle.model.proofs.Widths.{WellAct}
use Rattle.model.proofs.RequestedLaws.{requested, requested_by_sendings, requested_append}
use Rattle.model.proofs.EnteringLaws.{requested_list}
use Rattle.model.proofs.Promises.ListLaws.{among_front, among_back, among_either, among_inserted, inserted_among}
use Rattle.model.proofs.Promises.WordLaws.{passes_pending, pending_passes, pending_tells, pending_request, request_pending}

-- ---- requests that are asked for

-- a request that came: as it was asked for, with this clock and no checks, and its id was not pending
pub record New (clock : ℕ) (before : List Request) (asked : List Requested) (r : Request) : Type 0 where
  pub requested : Among (as_requested r) asked
  pub stamp : r.stamp ≡ clock
  pub checks : r.checks ≡ 0
  pub not_before : (old : Request) → Among old before → old.id ≡ r.id → ⊥

pub record Grows (clock : ℕ) (before : List Request) (asked : List Requested) (now : List Request) : Type 0 where
  pub stays : (r : Request) → Among r before → Among r now
  pub comes : (r : Request) → Among r now → Among r before ⊎ New clock before asked r
  pub there : (q : Requested) → Among q asked → (r : Request) × Among r now × (as_requested r ≡ q)

module _ (clock : ℕ) where
  grows_not : (rs : List Request) → Grows clock rs [] rs
  grows_not rs = record { stays = λ r a. a; comes = λ r a. inl a; there = λ q a. absurd a }

  module _ {before between now : List Request} {first then : List Requested} (g : Grows clock before first between) (h : Grows clock between then now) where
    grows_then : Grows clock before (first ++ then) now
    grows_then =
        record {
          stays = λ r a. h.stays r (g.stays r a);
          comes = λ r a. ⊎_elim (λ b. ⊎_elim (λ c. inl c) (λ n. inr (early r n)) (g.comes r b)) (λ n. inr (late r n)) (h.comes r a);
          there = λ q a. ⊎_elim (λ b. let p = g.there q b in (p.0, h.stays p.0 p.1, p.2)) (h.there q) (among_either q first then a);
        }
      where
        early : (r : Request) → New clock before first r → New clock before (first ++ then) r
        early r n = record { requested = among_front (as_requested r) first then n.requested; stamp = n.stamp; checks = n.checks; not_before = n.not_before }

        late : (r : Request) → New clock between then r → New clock before (first ++ then) r
        late r n =
            record {
              requested = among_back (as_requested r) first then n.requested;
              stamp = n.stamp;
              checks = n.checks;
              not_before = λ old a e. n.not_before old (g.stays old a) e;
            }

  module _ (type_id peer : ℕ) where
    abbrev entering : Id → Request
    entering id = record { id = id; type_id = type_id; peer = peer; stamp = clock; checks = 0 }

    -- whoever has this id was asked for just so
    abbrev AskedSo : List Request → Id → Type 0
    AskedSo rs id = (r : Request) → Among r rs → r.id ≡ id → as_requested r ≡ requested type_id peer id

    one_grows : (id : Id) (rs : List Request) → AskedSo rs id
        → Grows clock rs (requested type_id peer id ∷ []) (cond (is_pending id rs) rs (inserted id_before (entering id) rs))
    one_grows id rs so = go (is_pending id rs) refl
      where
        asked : List Requested
        asked = requested type_id peer id ∷ []

        is_asked : (q : Requested) → Among q asked → requested type_id peer id ≡ q
        is_asked q (inr x') = elim x' [ ]
        is_asked q (inl e) = sym e

        go : (t : Bool) → is_pending id rs ≡ t → Grows clock rs asked (cond t rs (inserted id_before (entering id) rs))
        go true e =
            let p = pending_request id rs (passes_pending id rs e) in
            record { stays = λ r a. a; comes = λ r a. inl a; there = λ q a. (p.0, p.1, so p.0 p.1 p.2 ∙ is_asked q a) }
        go false e =
            record {
              stays = λ r a. inserted_among id_before r (entering id) rs (inr a);
              comes = λ r a. ⊎_elim (λ f. inr (subst (New clock rs asked) (sym f) new)) (λ b. inl b) (among_inserted id_before r (entering id) rs a);
              there = λ q a. (entering id, inserted_among id_before (entering id) (entering id) rs (inl refl), is_asked q a);
            }
          where
            new : New clock rs asked (entering id)
            new =
                record {
                  requested = inl refl;
                  stamp = refl;
                  checks = refl;
                  not_before = λ old a f. not_both (is_pending id rs) (pending_passes id rs (request_pending id rs old a f)) e;
                }

    -- a request that came for one id is what is asked for, under any other name of it
    so_after : (id : Id) {rs now : List Request} → Grows clock rs (requested type_id peer id ∷ []) now → (x : Id) → AskedSo rs x → AskedSo now x
    so_after id g x so r a e = ⊎_elim (λ b. so r b e) (λ n. one n.requested) (g.comes r a)
      where
        one : Among (as_requested r) (requested type_id peer id ∷ []) → as_requested r ≡ requested type_id peer x
        one (inr x'') = elim x'' [ ]
        one (inl f) = f ∙ ap (requested type_id peer) (sym (ap (λ (q : Requested). q.id) f) ∙ e)

    marks_grow : (ids : List Id) (rs : List Request) → All (AskedSo rs) ids
        → Grows clock rs (map (requested type_id peer) ids) (mark_requested clock type_id peer ids rs)
    marks_grow [] rs so = grows_not rs
    marks_grow (id ∷ ids) rs so =
        let one : List Request = cond (is_pending id rs) rs (inserted id_before (entering id) rs) in
        let g = one_grows id rs so.0 in
        grows_then g (marks_grow ids one (all_weaker (AskedSo rs) (AskedSo one) (so_after id g) ids so.1))

    -- nobody has an id that rule 3 wants
    unpending_so : (rs : List Request) (id : Id) → not (is_pending id rs) ≡ true → AskedSo rs id
    unpending_so rs id e r a f = absurd ((pending_tells id rs).passed e (request_pending id rs r a f))

    wanted_so : (pairs : List Pair) (ids : List Id) (rs : List Request) → All (AskedSo rs) (wanted rs type_id pairs ids)
    unfolding wanted
    wanted_so pairs ids rs =
        let is_free : Id → Bool = λ (id : Id). not (is_pending id rs) in
        all_kept (AskedSo rs) (λ (id : Id). not (is_stored pairs type_id id)) (kept is_free ids)
        (all_weaker (λ (id : Id). is_free id ≡ true) (AskedSo rs) (unpending_so rs) (kept is_free ids) (all_pass is_free ids))

  act_grows : (gate : Bool) (act : Act) (rs : List Request) → WellAct act
      → Grows clock rs (requested_by_sendings (perform gate clock act rs).sendings) (perform gate clock act rs).pending
  act_grows true (ask type_id peer pairs ids) rs w =
      rw (requested_list type_id peer (wanted rs type_id pairs ids)) (marks_grow type_id peer (wanted rs type_id pairs ids) rs (wanted_so type_id peer pairs ids rs))
  act_grows false (ask type_id peer pairs ids) rs w = grows_not rs
  act_grows gate (send (Requests.request type_id peer ids)) rs w = absurd w
  act_grows gate (send (Requests.announcement peer ids)) rs w = grows_not rs
  act_grows gate (send (Requests.sync_info peer)) rs w = grows_not rs

  -- what one act sends and leaves, then what the others do
  one_then_others : (one others : Done) {rs : List Request} → Grows clock rs (requested_by_sendings one.sendings) one.pending
      → Grows clock one.pending (requested_by_sendings others.sendings) others.pending
      → Grows clock rs (requested_by_sendings (one.sendings ++ others.sendings)) others.pending
  one_then_others one others g h = rw (requested_append one.sendings others.sendings) (grows_then g h)

  pub acts_grow : (gate : Bool) (acts : List Act) (rs : List Request) → All WellAct acts
      → Grows clock rs (requested_by_sendings (perform_all gate clock acts rs).sendings) (perform_all gate clock acts rs).pending
  acts_grow gate [] rs w = grows_not rs
  acts_grow gate (act ∷ acts) rs w =
      let one : Done = perform gate clock act rs in
      one_then_others one (perform_all gate clock acts one.pending) (act_grows gate act rs w.0) (acts_grow gate acts one.pending w.1)
