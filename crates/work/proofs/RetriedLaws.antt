-- A check as the delivery check does it: what stays is in width, and the noted places are those of the retried requests.
use Prim.Native.Nat.{ℕ, suc, ◌+◌, ◌^◌, ◌≤◌, ◌<◌}
use mathlib.Core.Path.{◌≡◌, refl, sym, ap, ◌∙◌}
use mathlib.Core.Bool.{Bool, true, false, cond}
use mathlib.Core.List.{List, [], ◌∷◌, ◌++◌, map}
use native.Mathlib.Omega.{arith}
use lib.ListN.{length, get_or, length-append, length-map, get_or-map}
use lib.Seq.{append_snoc, get_or_at}
use lib.Dec.{eqb}
use Rattle.fields.specs.Facts.{All, Bytes}
use Rattle.fields.specs.Filter.{cons_if}
use Rattle.fields.specs.Entries.{entries, entry}
use Rattle.fields.proofs.AllLaws.{all_weaker, all_at, all_map, all_kept, all_both, either}
use Rattle.fields.proofs.FilterLaws.{length_kept}
use Rattle.fields.proofs.OrderLaws.{and_left, and_right}
use Rattle.fields.proofs.EntriesLaws.{Wide, entries_at, entries_wide, entries_bytes}
use Rattle.model.specs.Settings.{Settings}
use Rattle.model.specs.Delivery.{Request, Verdict, waiting, retried, abandoned, forgotten, verdict, verdict_number, judged, restarted, check_timeouts, ids_of}
use Rattle.model.specs.Sections.{Item}
use Rattle.model.specs.Check.{retry_of, retries}
use Rattle.model.specs.Image.{request_of}
use Rattle.model.proofs.Well.{RisingIds}
use Rattle.model.proofs.Widths.{WellPeer, WellItem}
use Rattle.model.proofs.RecordLaws.{Recorded}
use Rattle.model.proofs.PendingLaws.{WellTarget, rising_checked, rising_retried}
use Rattle.image.specs.declared.head.Head.{Head}
use Rattle.commands.specs.Pending.{requests_in}
use Rattle.work.specs.Worked.{Tracked}
use Rattle.retries.specs.Items.{item_of}
use Rattle.check_timeouts.specs.Checked.{pending_after_check, placed_after, retried_places}
use Rattle.check_timeouts.specs.Turn.{restarted_to}
use Rattle.check_timeouts.proofs.RetryLaws.{stays_to, checked_to, length_checked, pending_after}
use Rattle.model.specs.Layout.{record_size}

-- what the requests at some places of a table stand for
abbrev pub items_at : List ℕ → List ℕ → List Item
items_at table places = map (λ (place : ℕ). item_of (request_of (entry record_size place table))) places

module _ (settings : Settings) (clock : ℕ) (target : ℕ → ℕ) where
  checked_all : (P Q : Request → Type 0) → ((r : Request) → P r → Q r) → ((r : Request) → P r → Q (restarted_to clock target r))
      → (rs : List Request) → All P rs
      → All Q (checked_to settings clock target rs)
  checked_all P Q f g [] p = tt
  checked_all P Q f g (r ∷ rs) p = go (verdict settings clock r) (checked_all P Q f g rs p.1)
    where
      go : (v : Verdict) → All Q (checked_to settings clock target rs) → All Q (stays_to clock target v r (checked_to settings clock target rs))
      go waiting q = (f r p.0, q)
      go retried q = (g r p.0, q)
      go abandoned q = q
      go forgotten q = q

  checked_few : (rs : List Request) → length (checked_to settings clock target rs) ≤ length rs
  checked_few [] = omega arith
  checked_few (r ∷ rs) = go (verdict settings clock r) (checked_few rs)
    where
      go : (v : Verdict) → length (checked_to settings clock target rs) ≤ length rs
          → length (stays_to clock target v r (checked_to settings clock target rs)) ≤ length (r ∷ rs)
      go waiting q = omega arith
      go retried q = omega arith
      go abandoned q = omega arith
      go forgotten q = omega arith

  places_below : (rs : List Request) (n : ℕ)
      → All (λ (place : ℕ). place < n + length (checked_to settings clock target rs)) (retried_places settings clock rs n)
  places_below [] n = tt
  places_below (r ∷ rs) n = go (verdict settings clock r) (places_below rs)
    where
      later : ((m : ℕ) → All (λ (place : ℕ). place < m + length (checked_to settings clock target rs)) (retried_places settings clock rs m))
          → All (λ (place : ℕ). place < n + suc (length (checked_to settings clock target rs))) (retried_places settings clock rs (suc n))
      later q =
          all_weaker (λ (place : ℕ). place < suc n + length (checked_to settings clock target rs))
          (λ (place : ℕ). place < n + suc (length (checked_to settings clock target rs)))
          (λ place h. omega arith) (retried_places settings clock rs (suc n)) (q (suc n))

      go : (v : Verdict) → ((m : ℕ) → All (λ (place : ℕ). place < m + length (checked_to settings clock target rs)) (retried_places settings clock rs m))
          → All (λ (place : ℕ). place < n + length (stays_to clock target v r (checked_to settings clock target rs)))
          (placed_after v n (retried_places settings clock rs))
      go waiting q = later q
      go retried q = (omega arith, later q)
      go abandoned q = q n
      go forgotten q = q n

  -- what stands at the places, behind some requests that stay
  retried_at : (d : Request) (all rs front : List Request) (n : ℕ) → length front ≡ n → all ≡ front ++ checked_to settings clock target rs
      → map (λ (place : ℕ). get_or all place d) (retried_places settings clock rs n) ≡ map (restarted_to clock target) (judged settings clock retried rs)
  unfolding judged
  retried_at d all [] front n l e = refl
  retried_at d all (r ∷ rs) front n l h = go (verdict settings clock r) (retried_at d all rs) h
    where
      later : (x : Request) → all ≡ front ++ (x ∷ checked_to settings clock target rs)
          → ((more : List Request) (m : ℕ) → length more ≡ m → all ≡ more ++ checked_to settings clock target rs
          → map (λ (place : ℕ). get_or all place d) (retried_places settings clock rs m)
          ≡ map (restarted_to clock target) (judged settings clock retried rs))
          → map (λ (place : ℕ). get_or all place d) (retried_places settings clock rs (suc n))
          ≡ map (restarted_to clock target) (judged settings clock retried rs)
      later x e q =
          q (front ++ (x ∷ [])) (suc n) (rw (length-append front (x ∷ [])) (omega arith))
          (e ∙ sym (append_snoc front x (checked_to settings clock target rs)))

      go : (v : Verdict)
          → ((more : List Request) (m : ℕ) → length more ≡ m → all ≡ more ++ checked_to settings clock target rs
          → map (λ (place : ℕ). get_or all place d) (retried_places settings clock rs m)
          ≡ map (restarted_to clock target) (judged settings clock retried rs))
          → all ≡ front ++ stays_to clock target v r (checked_to settings clock target rs)
          → map (λ (place : ℕ). get_or all place d) (placed_after v n (retried_places settings clock rs))
          ≡ map (restarted_to clock target) (cons_if (eqb (verdict_number v) (verdict_number retried)) r (judged settings clock retried rs))
      go waiting q e = later r e q
      go retried q e =
          let x : get_or all n d ≡ restarted_to clock target r =
          ap (λ (y : List Request). get_or y n d) e ∙ get_or_at front (restarted_to clock target r) (checked_to settings clock target rs) d n l in
          rw (x, later (restarted_to clock target r) e q)
      go abandoned q e = q front n l e
      go forgotten q e = q front n l e

-- ---- by the gate

module _ (gate : Bool) (settings : Settings) (clock : ℕ) (target : ℕ → ℕ) (rs : List Request) (rise : RisingIds (ids_of rs)) where
  abbrev aim : ℕ → ℕ
  aim failed = cond gate (target failed) failed

  after_is : pending_after_check gate settings clock target rs ≡ checked_to settings clock aim rs
  after_is = pending_after settings clock gate target aim (λ failed. refl) rs rise

  pub after_rising : RisingIds (ids_of (pending_after_check gate settings clock target rs))
  unfolding pending_after_check
  after_rising = rising_retried (retries gate settings clock target rs) (check_timeouts settings clock rs) (rising_checked settings clock rs rise)

  pub after_length : length (pending_after_check gate settings clock target rs) ≡ length (check_timeouts settings clock rs)
  after_length = ap length after_is ∙ length_checked settings clock aim rs

  pub after_few : length (pending_after_check gate settings clock target rs) ≤ length rs
  after_few = rw after_is (checked_few settings clock aim rs)

  pub after_recorded : clock < 2 ^ 64 → WellTarget target → All Recorded rs → All (λ (r : Request). r.checks + 1 < 2 ^ 32) rs
      → All Recorded (pending_after_check gate settings clock target rs)
  unfolding restarted_to restarted
  after_recorded k w a b =
      rw after_is
      (checked_all settings clock aim (λ (r : Request). Recorded r × (r.checks + 1 < 2 ^ 32)) Recorded (λ r p. p.0)
      (λ r p. let m : r.checks + 1 < 2 ^ 32 = p.1 in
      let peer = either WellPeer gate (target r.peer) r.peer (w r.peer p.0.cells.0) p.0.cells.0 in
      record { id = p.0.id; cells = (peer, (p.0.cells.1.0, (k, (omega arith, tt)))) })
      rs (all_both Recorded (λ (r : Request). r.checks + 1 < 2 ^ 32) rs a b))

  -- the places in a table that holds what stays
  module _ (table : List ℕ)
      (held : requests_in (length (pending_after_check gate settings clock target rs)) table ≡ pending_after_check gate settings clock target rs) where
    abbrev count : ℕ
    count = length (pending_after_check gate settings clock target rs)

    pub below : All (λ (place : ℕ). place < count) (retried_places settings clock rs 0)
    below =
        all_weaker (λ (place : ℕ). place < 0 + length (checked_to settings clock aim rs)) (λ (place : ℕ). place < count)
        (λ place h. rw after_is (omega arith))
        (retried_places settings clock rs 0) (places_below settings clock aim rs 0)

    at_place : (place : ℕ) → place < count
        → request_of (entry record_size place table) ≡ get_or (pending_after_check gate settings clock target rs) place (request_of [])
    at_place place h =
        ap request_of (sym (entries_at record_size count place table h)) ∙ sym (get_or-map request_of (entries record_size count table) place [])
        ∙ ap (λ (x : List Request). get_or x place (request_of [])) held

    items_plain : (places : List ℕ) → All (λ (place : ℕ). place < count) places
        → items_at table places ≡ map item_of (map (λ (place : ℕ). get_or (pending_after_check gate settings clock target rs) place (request_of [])) places)
    items_plain [] w = refl
    items_plain (place ∷ places) w = rw (at_place place w.0, items_plain places w.1)

    pub items_at_lem : items_at table (retried_places settings clock rs 0) ≡ map item_of (map (restarted_to clock aim) (judged settings clock retried rs))
    items_at_lem =
        items_plain (retried_places settings clock rs 0) below
        ∙ ap (map item_of) (retried_at settings clock aim (request_of []) (pending_after_check gate settings clock target rs) rs [] 0 refl after_is)

pub retry_items : (settings : Settings) (clock : ℕ) (target : ℕ → ℕ) (rs : List Request)
    → map item_of (map (restarted_to clock target) rs) ≡ map (retry_of target) rs
unfolding item_of restarted_to restarted retry_of
retry_items settings clock target [] = refl
retry_items settings clock target (r ∷ rs) = ap (λ (is : List Item). retry_of target r ∷ is) (retry_items settings clock target rs)

-- what is sent again of the places, with the gate open, and with it shut
pub retried_items : (gate : Bool) (settings : Settings) (clock : ℕ) (target : ℕ → ℕ) (rs : List Request) → RisingIds (ids_of rs)
    → (table places : List ℕ)
    → requests_in (length (pending_after_check gate settings clock target rs)) table ≡ pending_after_check gate settings clock target rs
    → places ≡ retried_places settings clock rs 0
    → cond gate (items_at table places) [] ≡ retries gate settings clock target rs
unfolding retries
retried_items true settings clock target rs rise table places held e =
    rw e (items_at_lem true settings clock target rs rise table held ∙ retry_items settings clock target (judged settings clock retried rs))
retried_items false settings clock target rs rise table places held e = refl

-- ---- what is sent again is in width

module _ (gate : Bool) (settings : Settings) (clock : ℕ) (target : ℕ → ℕ) (rs : List Request) where
  pub retries_few : length (retries gate settings clock target rs) ≤ length rs
  unfolding retries judged
  retries_few =
      let due : List Request = judged settings clock retried rs in
      let a = length-map due (retry_of target) in
      let b = length_kept (λ (r : Request). eqb (verdict_number (verdict settings clock r)) (verdict_number retried)) rs in
      either (λ (is : List Item). length is ≤ length rs) gate (map (retry_of target) due) [] (omega arith) (omega arith)

  pub retries_in_width : WellTarget target → All Recorded rs → All WellItem (retries gate settings clock target rs)
  unfolding retries retry_of judged
  retries_in_width w a =
      let due : List Request = judged settings clock retried rs in
      either (All WellItem) gate (map (retry_of target) due) []
      (all_map Recorded WellItem (retry_of target) (λ r q. record { id = q.id; type_id = q.cells.1.0; peer = w r.peer q.cells.0 }) due
      (all_kept Recorded (λ (r : Request). eqb (verdict_number (verdict settings clock r)) (verdict_number retried)) rs a))
      tt
