-- What each kind of line does, by what its parts answer.
use Prim.Native.Nat.{ℕ, ◌+◌, ◌≤◌, ◌<◌, ◌^◌}
use mathlib.Core.Path.{◌≡◌, refl, sym, ap, ◌∙◌}
use mathlib.Core.Bool.{true, false, ◌&&◌, false≢true}
use mathlib.Core.List.{List, [], ◌∷◌}
use lib.Dec.{leb}
use lib.ListN.{length}
use native.Mathlib.Omega.{arith}
use native.Mathlib.Nat.{add-zero}
use borrow.Author.Tests.{leb-true, le-leb}
use Rattle.fields.specs.Facts.{All, Bytes}
use Rattle.fields.specs.Overwrite.{overwritten}
use Rattle.fields.proofs.OverwriteLaws.{overwritten_nil}
use Rattle.fields.proofs.AllLaws.{either}
use Rattle.fields.proofs.OrderLaws.{and_left, and_right}
use Rattle.keeper_lines.specs.declared.lines.Line.TheVariants as line
use Rattle.model.specs.Delivery.{Request}
use Rattle.model.specs.Requests as model
use Rattle.model.specs.Requests.{ask, perform, wanted}
use Rattle.model.specs.Check.{retries}
use Rattle.model.specs.Lists.{ids_in, pairs_in}
use Rattle.model.proofs.PendingLaws.{rising_checked, rising_requested}
use Rattle.settings.specs.Values.{settings_of}
use Rattle.commands.specs.Pending.{requests_in, holding}
use Rattle.commands.specs.Sent.{first_place}
use Rattle.mark_requested.specs.Marking.{held_within}
use Rattle.request_announced.specs.Requested.{requested_as}
use Rattle.std.proofs.Common.{Option, None, Some, Result, Ok, Err}
use Rattle.commands.specs.declared.tracker.TrackerError.{TrackerError}
use Rattle.commands.specs.declared.tracker.TrackerError.TheVariants.{Full}
use Rattle.request_announced.specs.declared.request.Written.{Written}
use Rattle.commands.proofs.HoldingLaws.{holding_same}
use Rattle.mark_requested.proofs.AnswerLaws.{few_held}
use Rattle.request_announced.proofs.PerformLaws.{requested_full, requested_done}
use Rattle.check_timeouts.specs.Checked.{pending_after_check, checked_as}
use Rattle.check_timeouts.specs.declared.check.Checked.{Checked}
use Rattle.keeper_lines.specs.Row.{row}
use Rattle.keeper_text.specs.Keeping.{Keeping, Step, ended, goes, timed, in_order, begun_with, id_of, pending_after_request, after_request, after_check, judged_count, check_row, answered}
use Rattle.keeper_text.specs.Kept.{keeping_in, Fits, Kept, values_of, keeper_of, answer_as, bytes_of, table_after, Holds}
use Rattle.keeper_text.specs.declared.keeping.Keeper.{Keeper}
use Rattle.keeper_text.proofs.FitLaws.{id_one, fits_later, fits_checked, fits_wanted}
use Rattle.keeper_text.proofs.KeptLaws.{Good, kept_rise, next_few, holds_next}
use Rattle.model.specs.Protocol.{tracked_limit}

-- The answer and the table are what a step says.
abbrev pub Says : Step → ℕ → ℕ → List ℕ → Option (Keeper × ℕ) → List ℕ → Type 0
Says step at count table answer table' = (answer ≡ answer_as at step) × ((table' ≡ table_after count step table) × Holds step table')

-- With the area that it writes to.
abbrev pub Told : Step → ℕ → ℕ → List ℕ → List ℕ → Option (Keeper × ℕ) → List ℕ → List ℕ → Type 0
Told step at count table out answer table' out' =
    (answer ≡ answer_as at step) × ((table' ≡ table_after count step table) × ((out' ≡ overwritten at (bytes_of step) out) × Holds step table'))

pub says_ended : (step : Step) (at count : ℕ) (table : List ℕ) → step ≡ ended → Says step at count table None table
says_ended step at count table e = rw e (refl, (refl, tt))

pub says_goes : (step : Step) (next : Keeping) (bytes : List ℕ) (at count : ℕ) (table : List ℕ) (keeper : Keeper) (end : ℕ) (table' : List ℕ)
    → step ≡ goes next bytes → keeper ≡ keeper_of next → end ≡ at + length bytes → table' ≡ holding count next.pending table
    → Kept (keeper_of next) table' × (keeping_in (keeper_of next) table' ≡ next)
    → Says step at count table (Some (keeper, end)) table'
says_goes step next bytes at count table keeper end table' e a b c h = rw (e, a, b) (refl, (c, h))

-- ---- lines that print nothing

module _ (k : Keeping) (at : ℕ) (out : List ℕ) where
  abbrev Silent : Step → Type 0
  Silent step = bytes_of step ≡ []

  silent : (step : Step) → bytes_of step ≡ [] → out ≡ overwritten at (bytes_of step) out
  silent step e = rw e (sym (overwritten_nil at out))

  pub settings_silent : (timeout limit : ℕ) → out ≡ overwritten at (bytes_of (answered k (Some (line.Settings timeout limit)))) out
  unfolding answered
  settings_silent timeout limit =
      silent (answered k (Some (line.Settings timeout limit)))
      (either Silent k.begun ended (goes (begun_with k timeout limit) []) refl refl)

  pub request_silent : (clock peer type_id byte : ℕ) → out ≡ overwritten at (bytes_of (answered k (Some (line.Request clock peer type_id byte)))) out
  unfolding answered
  request_silent clock peer type_id byte =
      silent (answered k (Some (line.Request clock peer type_id byte)))
      (either Silent (in_order k clock) (goes (after_request k clock peer type_id byte) []) ended refl refl)

-- any other line
pub other_ends : (k : Keeping) → answered k None ≡ ended
unfolding answered
other_ends k = refl

-- ---- `t`

module _ (k : Keeping) (timeout limit : ℕ) where
  second_settings : k.begun ≡ true → answered k (Some (line.Settings timeout limit)) ≡ ended
  unfolding answered
  second_settings e = rw e

  first_settings : k.begun ≡ false → answered k (Some (line.Settings timeout limit)) ≡ goes (begun_with k timeout limit) []
  unfolding answered
  first_settings e = rw e

module _ {keeper : Keeper} {table : List ℕ} (k : Kept keeper table) (timeout limit at : ℕ) where
  pub begins_twice : keeper.begun ≡ true
      → Says (answered (keeping_in keeper table) (Some (line.Settings timeout limit))) at keeper.count table None table
  unfolding keeping_in
  begins_twice e = says_ended _ at keeper.count table (second_settings (keeping_in keeper table) timeout limit e)

  pub begins : keeper.begun ≡ false → Bytes table → limit < 2 ^ 32 → keeper.clock < 2 ^ 64
      → Says (answered (keeping_in keeper table) (Some (line.Settings timeout limit))) at keeper.count table
      (Some ((record { begun = true; settings = values_of (timed timeout limit); clock = keeper.clock; count = keeper.count }), at)) table
  unfolding keeping_in begun_with timed
  begins e f m c =
      let n : keeper.count ≡ 0 = k.none e in
      let none : requests_in keeper.count table ≡ [] = rw n in
      let next : Keeping = begun_with (keeping_in keeper table) timeout limit in
      let p : next.pending ≡ [] = none in
      let same : table ≡ holding keeper.count next.pending table = sym (holding_same keeper.count table (omega (arith, k.room)) f) in
      let good : Good next = record { fit = rw p tt; rise = kept_rise k; begun = refl; limit = m; clock = c } in
      let l : keeper.count ≡ length next.pending = n ∙ sym (ap length p) in
      says_goes _ next [] at keeper.count table _ at table (first_settings (keeping_in keeper table) timeout limit e)
      (ap (λ (count : ℕ). record { begun = true; settings = values_of (timed timeout limit); clock = keeper.clock; count = count }) l)
      (sym (add-zero at)) same (holds_next k good same)

-- ---- lines with a clock

module _ (k : Keeping) (clock : ℕ) where
  request_ends : (peer type_id byte : ℕ) → in_order k clock ≡ false → answered k (Some (line.Request clock peer type_id byte)) ≡ ended
  unfolding answered
  request_ends peer type_id byte e = rw e

  request_goes : (peer type_id byte : ℕ) → in_order k clock ≡ true
      → answered k (Some (line.Request clock peer type_id byte)) ≡ goes (after_request k clock peer type_id byte) []
  unfolding answered
  request_goes peer type_id byte e = rw e

  check_ends : in_order k clock ≡ false → answered k (Some (line.Check clock)) ≡ ended
  unfolding answered
  check_ends e = rw e

  check_goes : in_order k clock ≡ true → answered k (Some (line.Check clock)) ≡ goes (after_check k clock) (check_row k clock)
  unfolding answered
  check_goes e = rw e

module _ (keeper : Keeper) (table : List ℕ) (clock at : ℕ) (late : keeper.begun && leb keeper.clock clock ≡ false) where
  out_of_order : in_order (keeping_in keeper table) clock ≡ false
  unfolding in_order keeping_in
  out_of_order = late

  pub refuses_request : (peer type_id byte : ℕ)
      → Says (answered (keeping_in keeper table) (Some (line.Request clock peer type_id byte))) at keeper.count table None table
  refuses_request peer type_id byte =
      says_ended _ at keeper.count table (request_ends (keeping_in keeper table) clock peer type_id byte out_of_order)

  pub refuses_check : (out : List ℕ) → Told (answered (keeping_in keeper table) (Some (line.Check clock))) at keeper.count table out None table out
  refuses_check out = rw (check_ends (keeping_in keeper table) clock out_of_order) (refl, (refl, (sym (overwritten_nil at out), tt)))

-- A line with a clock comes in order, and its values are within their types.
pub record InTime (keeper : Keeper) (table : List ℕ) (clock : ℕ) : Type 0 where
  pub kept : Kept keeper table
  pub ok : keeper.begun && leb keeper.clock clock ≡ true
  pub clock_fits : clock < 2 ^ 64
  pub checks_fit : keeper.settings.checks < 2 ^ 32

module _ {keeper : Keeper} {table : List ℕ} {clock : ℕ} (t : InTime keeper table clock) where
  begun : keeper.begun ≡ true
  begun = and_left keeper.begun (leb keeper.clock clock) t.ok

  in_order_lem : in_order (keeping_in keeper table) clock ≡ true
  unfolding in_order keeping_in
  in_order_lem = t.ok

  pub fit_now : All (Fits (settings_of keeper.settings) clock) (requests_in keeper.count table)
  fit_now =
      let later : keeper.clock ≤ clock = leb-true keeper.clock clock (and_right keeper.begun (leb keeper.clock clock) t.ok) in
      fits_later (settings_of keeper.settings) clock keeper.clock later (requests_in keeper.count table) t.kept.requests

-- ---- `q`

-- A request in order, its values within their types.
pub record Asked (keeper : Keeper) (table : List ℕ) (clock peer type_id byte : ℕ) : Type 0 where
  pub in_time : InTime keeper table clock
  pub peer_fits : peer < 2 ^ 64
  pub type_fits : type_id < 2 ^ 16
  pub byte_fits : byte < 256

module _ {keeper : Keeper} {table : List ℕ} {clock peer type_id byte : ℕ} (q : Asked keeper table clock peer type_id byte) where
  next : Keeping
  next = after_request (keeping_in keeper table) clock peer type_id byte

  done : model.Done
  done = perform true clock (ask type_id peer [] (id_of byte ∷ [])) (requests_in keeper.count table)

  next_good : Good next
  unfolding next after_request pending_after_request keeping_in settings_of
  next_good =
      let rs : List Request = requests_in keeper.count table in
      record {
        fit =
            fits_wanted (settings_of keeper.settings) clock type_id peer q.type_fits q.peer_fits [] (id_of byte ∷ []) rs
            (id_one byte q.byte_fits, tt) (fit_now q.in_time);
        rise = rising_requested clock type_id peer (wanted rs type_id [] (id_of byte ∷ [])) rs (kept_rise q.in_time.kept);
        begun = begun q.in_time;
        limit = q.in_time.checks_fit;
        clock = q.in_time.clock_fits;
      }

  done_few : leb (length done.pending) tracked_limit ≡ true
  unfolding done next after_request pending_after_request keeping_in
  done_few = le-leb (length done.pending) tracked_limit (omega (arith, next_few q.in_time.kept next_good))

  -- rule 3 on the lists lent: nothing stored, the id alone
  module _ (stored ids : List ℕ) (hs : stored ≡ []) (hi : ids ≡ id_of byte) where
    abbrev performed : model.Done
    performed = perform true clock (ask type_id peer (pairs_in stored) (ids_in ids)) (requests_in keeper.count table)

    as_done : performed ≡ done
    unfolding done pairs_in ids_in id_of
    as_done = rw (hs, hi)

    pub never_full : {got : Result Written TrackerError} (e : TrackerError) → got ≡ Err e
        → got ≡ requested_as tracked_limit first_place performed → ⊥
    never_full Full g h =
        let over = requested_full tracked_limit first_place done (sym g ∙ h ∙ ap (requested_as tracked_limit first_place) as_done) in
        false≢true (sym over ∙ done_few)

    pub requests : (at : ℕ) {got : Result Written TrackerError} {w : Written} {table' : List ℕ} → got ≡ Ok w
        → got ≡ requested_as tracked_limit first_place performed
        → table' ≡ held_within tracked_limit keeper.count performed.pending table
        → Says (answered (keeping_in keeper table) (Some (line.Request clock peer type_id byte))) at keeper.count table
        (Some ((record { begun = keeper.begun; settings = keeper.settings; clock = clock; count = w.count }), at)) table'
    unfolding next after_request pending_after_request keeping_in settings_of done
    requests at {w = w} {table' = table'} g h e =
        let d = requested_done tracked_limit first_place done w (sym g ∙ h ∙ ap (requested_as tracked_limit first_place) as_done) in
        let held : table' ≡ holding keeper.count next.pending table =
        e ∙ ap (λ (x : model.Done). held_within tracked_limit keeper.count x.pending table) as_done
        ∙ few_held tracked_limit keeper.count done.pending table done_few in
        says_goes _ next [] at keeper.count table _ at table' (request_goes (keeping_in keeper table) clock peer type_id byte (in_order_lem q.in_time))
        (ap (λ (n : ℕ). record { begun = keeper.begun; settings = keeper.settings; clock = clock; count = n }) d.1.0)
        (sym (add-zero at)) held
        (holds_next q.in_time.kept next_good held)

-- ---- `c`

-- the row of a check's counts
abbrev pub row_of : ℕ → Checked → List ℕ
row_of clock made = row (clock ∷ made.retried ∷ 0 ∷ made.abandoned ∷ made.forgotten ∷ made.pending ∷ [])

module _ {keeper : Keeper} {table : List ℕ} {clock : ℕ} (t : InTime keeper table clock) where
  checked : Keeping
  checked = after_check (keeping_in keeper table) clock

  checked_good : Good checked
  unfolding checked after_check keeping_in settings_of
  checked_good =
      let rs : List Request = requests_in keeper.count table in
      record {
        fit = fits_checked (settings_of keeper.settings) clock rs (fit_now t);
        rise = rising_checked (settings_of keeper.settings) clock rs (kept_rise t.kept);
        begun = begun t;
        limit = t.checks_fit;
        clock = t.clock_fits;
      }

  module _ {made : Checked} (em : made ≡ checked_as (settings_of keeper.settings) clock (requests_in keeper.count table)) where
    row_is : row_of clock made ≡ check_row (keeping_in keeper table) clock
    unfolding check_row judged_count keeping_in checked_as
    row_is = rw em

    checked_says : (target : ℕ → ℕ) (at end : ℕ) (table' : List ℕ)
        → table' ≡ holding keeper.count (pending_after_check false (settings_of keeper.settings) clock target (requests_in keeper.count table)) table
        → end ≡ at + length (row_of clock made)
        → Says (answered (keeping_in keeper table) (Some (line.Check clock))) at keeper.count table
        (Some ((record { begun = keeper.begun; settings = keeper.settings; clock = clock; count = made.pending }), end)) table'
    unfolding checked after_check keeping_in settings_of pending_after_check retries checked_as
    checked_says target at end table' et ee =
        let held : table' ≡ holding keeper.count checked.pending table = et in
        says_goes _ checked (check_row (keeping_in keeper table) clock) at keeper.count table _ end table'
        (check_goes (keeping_in keeper table) clock (in_order_lem t))
        (ap (λ (n : ℕ). record { begun = keeper.begun; settings = keeper.settings; clock = clock; count = n }) (ap (λ (c : Checked). c.pending) em))
        (ee ∙ ap (λ (x : List ℕ). at + length x) row_is) held
        (holds_next t.kept checked_good held)

    -- the table checked, and the row put
    pub checks : (target : ℕ → ℕ) (at end : ℕ) (table' out out' : List ℕ)
        → table' ≡ holding keeper.count (pending_after_check false (settings_of keeper.settings) clock target (requests_in keeper.count table)) table
        → (out' ≡ overwritten at (row_of clock made) out) × (end ≡ at + length (row_of clock made))
        → Told (answered (keeping_in keeper table) (Some (line.Check clock))) at keeper.count table out
        (Some ((record { begun = keeper.begun; settings = keeper.settings; clock = clock; count = made.pending }), end)) table' out'
    checks target at end table' out out' et put =
        let says = checked_says target at end table' et put.1 in
        let bytes = put.0 ∙ ap (λ (x : List ℕ). overwritten at x out) row_is in
        let goes_on_lem = check_goes (keeping_in keeper table) clock (in_order_lem t) in
        (says.0, (says.1.0, (bytes ∙ ap (λ (x : Step). overwritten at (bytes_of x) out) (sym goes_on_lem), says.1.1)))
