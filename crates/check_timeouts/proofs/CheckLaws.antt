-- The check, request by request.
use Prim.Native.Nat.{ℕ, suc, ◌+◌, ◌-◌, ◌*◌, ◌≤◌, ◌<◌}
use mathlib.Core.Path.{◌≡◌, refl, sym, ap, ◌∙◌}
use mathlib.Core.Bool.{Bool, true, cond}
use mathlib.Core.List.{List, [], ◌∷◌, ◌++◌, map, append-nil}
use native.Mathlib.Omega.{arith}
use native.Mathlib.Nat.{mul-le-mul_right}
use native.Mathlib.Numerals.{add-one}
use lib.ListN.{length, take, drop, get_or, length-set, drop_of_length-le, length-map}
use lib.Seq.{drop-cons, drop-drop, append_snoc, take-suc-set}
use Rattle.fields.specs.Facts.{All, Bytes}
use Rattle.fields.specs.Zero.{zeros}
use Rattle.fields.specs.Entries.{entries, entry, rising}
use Rattle.fields.specs.Overwrite.{overwritten}
use Rattle.fields.proofs.OverwriteLaws.{length_overwritten, drop_after}
use Rattle.fields.proofs.EntriesLaws.{length_entries, length_entry, entries_at, entries_then}
use Rattle.fields.proofs.RisingLaws.{rising_ascending}
use Rattle.table.proofs.EditLaws.{cut_down}
use Rattle.model.specs.Settings.{Settings}
use Rattle.model.specs.Delivery.{Request, Verdict, waiting, retried, abandoned, forgotten, verdict, judged, check_timeouts}
use Rattle.model.specs.Image.{request_of, request_bytes}
use Rattle.model.proofs.RecordLaws.{bytes_of_request, ids_rise_lem}
use Rattle.commands.specs.Pending.{requests_in, holding}
use Rattle.check_timeouts.specs.Checked.{pending_after_check, checked_as, retried_places}
use Rattle.check_timeouts.specs.Turn.{request_at, Countable, restarted_to, table_after, places_after, counts_after}
use Rattle.check_timeouts.specs.declared.check.Checked.{Checked}
use Rattle.check_timeouts.proofs.RetryLaws.{checked_to, length_checked, pending_after}
use Rattle.commands.proofs.RecordedLaws.{entry_bytes}
use Rattle.check_timeouts.proofs.RecordLaws.{restarted_long}
use Rattle.model.specs.Layout.{id_size, record_size}

-- the requests of the table from the i-th on
abbrev requests_from : ℕ → ℕ → List ℕ → List Request
requests_from i count d = map request_of (drop i (entries record_size count d))

-- so many were counted, and the rest gives the others
abbrev pub Counted : Settings → ℕ → Verdict → ℕ → List Request → List Request → Type 0
Counted settings clock v n rest whole = n + length (judged settings clock v rest) ≡ length (judged settings clock v whole)

-- The check at request i of the table d: t and places as they are, with what is counted.
pub record Checking (settings : Settings) (clock : ℕ) (target : ℕ → ℕ) (count : ℕ) (d noted t places : List ℕ) (s : Checked)
    (i : ℕ) : Type 0 where
  pub i_le : i ≤ count
  pub pending_le : s.pending ≤ i
  pub retried_le : s.retried ≤ i
  pub abandoned_le : s.abandoned ≤ i
  pub forgotten_le : s.forgotten ≤ i
  pub long : length t ≡ length d
  pub places_long : length places ≡ length noted
  pub kept : entries record_size s.pending t ++ map request_bytes (checked_to settings clock target (requests_from i count d))
      ≡ map request_bytes (checked_to settings clock target (requests_in count d))
  pub listed : take s.retried places ++ retried_places settings clock (requests_from i count d) s.pending
      ≡ retried_places settings clock (requests_in count d) 0
  pub retried_counted : Counted settings clock retried s.retried (requests_from i count d) (requests_in count d)
  pub abandoned_counted : Counted settings clock abandoned s.abandoned (requests_from i count d) (requests_in count d)
  pub forgotten_counted : Counted settings clock forgotten s.forgotten (requests_from i count d) (requests_in count d)
  pub rest : drop (i * record_size) t ≡ drop (i * record_size) d
  pub countable : All Countable (requests_from i count d)

none_counted : (settings : Settings) (clock : ℕ) (v : Verdict) (n : ℕ) (whole : List Request) → Counted settings clock v n [] whole
    → n ≡ length (judged settings clock v whole)
unfolding judged
none_counted settings clock v n whole e = omega arith

module _ {settings : Settings} {clock : ℕ} {target : ℕ → ℕ} {count : ℕ} {d noted t places : List ℕ} {s : Checked} {i : ℕ}
    (c : Checking settings clock target count d noted t places s i) (h : i < count) (l : count * record_size ≤ length d) where
  in-d : i * record_size + record_size ≤ length d
  in-d = omega (arith, mul-le-mul_right record_size h)

  in_table : i * record_size + record_size ≤ length t
  in_table = omega (arith, in-d, c.long)

  here : drop i (entries record_size count d) ≡ entry record_size i t ∷ drop (i + 1) (entries record_size count d)
  unfolding entry
  here =
      let e : get_or (entries record_size count d) i [] ≡ entry record_size i t = entries_at record_size count i d h ∙ ap (take record_size) (sym c.rest) in
      drop-cons (entries record_size count d) i [] (rw length_entries h) ∙ rw (e, add-one)

  -- what `turn` asks of the request
  pub judged_here : Countable (request_at t i)
  judged_here = (rw here at c.countable).0

  rest_next : drop ((i + 1) * record_size) t ≡ drop ((i + 1) * record_size) d
  rest_next =
      let e : (i + 1) * record_size ≡ i * record_size + record_size = omega arith in
      rw (e, ← drop-drop record_size (i * record_size) t, ← drop-drop record_size (i * record_size) d, c.rest)

  in_place : s.pending * record_size + record_size ≤ length t
  in_place = omega (arith, mul-le-mul_right record_size c.pending_le, in_table)

  -- a record x behind those that stay
  kept_next : (x : List ℕ) (more : List (List ℕ)) → length x ≡ record_size
      → entries record_size s.pending t ++ (x ∷ more) ≡ map request_bytes (checked_to settings clock target (requests_in count d))
      → entries record_size (s.pending + 1) (overwritten (s.pending * record_size) x t) ++ more
      ≡ map request_bytes (checked_to settings clock target (requests_in count d))
  kept_next x more lx e = rw (entries_then record_size s.pending x t lx in_place) (append_snoc (entries record_size s.pending t) x more ∙ e)

  rest_kept : (x : List ℕ) → length x ≡ record_size
      → drop ((i + 1) * record_size) (overwritten (s.pending * record_size) x t) ≡ drop ((i + 1) * record_size) d
  rest_kept x lx =
      drop_after (s.pending * record_size) x t (omega (arith, in_place)) ((i + 1) * record_size) (omega (arith, mul-le-mul_right record_size c.pending_le))
      ∙ rest_next

  counted_more : (n : ℕ) (v : Verdict)
      → n + suc (length (judged settings clock v (requests_from (i + 1) count d)))
      ≡ length (judged settings clock v (requests_in count d))
      → Counted settings clock v (n + 1) (requests_from (i + 1) count d) (requests_in count d)
  counted_more n v e = omega arith

  abbrev r : Request
  r = request_of (entry record_size i t)

  module _ (lp : count ≤ length noted) (f : Bytes d) where
    e_bytes : request_bytes r ≡ entry record_size i t
    unfolding entry
    e_bytes = bytes_of_request (entry record_size i t) (length_entry record_size i t in_table) (rw (← c.rest) at (entry_bytes record_size i d f))

    pub turned : (v : Verdict) → verdict settings clock r ≡ v
        → Checking settings clock target count d noted (table_after clock target v i s.pending t)
        (places_after v s.retried s.pending places) (counts_after v s) (i + 1)
    unfolding judged
    turned waiting e =
        let x : List ℕ = entry record_size i t in
        let lx : length x ≡ record_size = length_entry record_size i t in_table in
        record {
          i_le = omega arith;
          pending_le = omega (arith, c.pending_le);
          retried_le = omega (arith, c.retried_le);
          abandoned_le = omega (arith, c.abandoned_le);
          forgotten_le = omega (arith, c.forgotten_le);
          long = length_overwritten (s.pending * record_size) x t (omega (arith, in_place)) ∙ c.long;
          places_long = c.places_long;
          kept = kept_next x (map request_bytes (checked_to settings clock target (requests_from (i + 1) count d))) lx (rw (here, e, e_bytes) at c.kept);
          listed = rw (add-one s.pending) (rw (here, e) at c.listed);
          retried_counted = rw (here, e) at c.retried_counted;
          abandoned_counted = rw (here, e) at c.abandoned_counted;
          forgotten_counted = rw (here, e) at c.forgotten_counted;
          rest = rest_kept x lx;
          countable = (rw here at c.countable).1;
        }
    turned retried e =
        let x : List ℕ = request_bytes (restarted_to clock target r) in
        let lx : length x ≡ record_size = restarted_long clock target (entry record_size i t) (length_entry record_size i t in_table) in
        let m : s.retried < length places = omega (arith, c.retried_le, c.places_long) in
        let n : take s.retried places ++ (s.pending ∷ retried_places settings clock (requests_from (i + 1) count d) (suc s.pending))
        ≡ retried_places settings clock (requests_in count d) 0 = rw (here, e) at c.listed in
        record {
          i_le = omega arith;
          pending_le = omega (arith, c.pending_le);
          retried_le = omega (arith, c.retried_le);
          abandoned_le = omega (arith, c.abandoned_le);
          forgotten_le = omega (arith, c.forgotten_le);
          long = length_overwritten (s.pending * record_size) x t (omega (arith, in_place)) ∙ c.long;
          places_long = length-set places s.retried s.pending ∙ c.places_long;
          kept = kept_next x (map request_bytes (checked_to settings clock target (requests_from (i + 1) count d))) lx (rw (here, e) at c.kept);
          listed = rw (add-one s.retried, add-one s.pending, take-suc-set places s.retried s.pending m)
              (append_snoc (take s.retried places) s.pending (retried_places settings clock (requests_from (i + 1) count d) (suc s.pending)) ∙ n);
          retried_counted = counted_more s.retried retried (rw (here, e) at c.retried_counted);
          abandoned_counted = rw (here, e) at c.abandoned_counted;
          forgotten_counted = rw (here, e) at c.forgotten_counted;
          rest = rest_kept x lx;
          countable = (rw here at c.countable).1;
        }
    turned abandoned e = record {
      i_le = omega arith;
      pending_le = omega (arith, c.pending_le);
      retried_le = omega (arith, c.retried_le);
      abandoned_le = omega (arith, c.abandoned_le);
      forgotten_le = omega (arith, c.forgotten_le);
      long = c.long;
      places_long = c.places_long;
      kept = rw (here, e) at c.kept;
      listed = rw (here, e) at c.listed;
      retried_counted = rw (here, e) at c.retried_counted;
      abandoned_counted = counted_more s.abandoned abandoned (rw (here, e) at c.abandoned_counted);
      forgotten_counted = rw (here, e) at c.forgotten_counted;
      rest = rest_next;
      countable = (rw here at c.countable).1;
    }
    turned forgotten e = record {
      i_le = omega arith;
      pending_le = omega (arith, c.pending_le);
      retried_le = omega (arith, c.retried_le);
      abandoned_le = omega (arith, c.abandoned_le);
      forgotten_le = omega (arith, c.forgotten_le);
      long = c.long;
      places_long = c.places_long;
      kept = rw (here, e) at c.kept;
      listed = rw (here, e) at c.listed;
      retried_counted = rw (here, e) at c.retried_counted;
      abandoned_counted = rw (here, e) at c.abandoned_counted;
      forgotten_counted = counted_more s.forgotten forgotten (rw (here, e) at c.forgotten_counted);
      rest = rest_next;
      countable = (rw here at c.countable).1;
    }

    -- by what the code has in its hands after the turn
    pub turned_as : {made : Checked} {t' places' : List ℕ}
        → (made ≡ counts_after (verdict settings clock r) s)
        × ((t' ≡ table_after clock target (verdict settings clock r) i s.pending t)
        × (places' ≡ places_after (verdict settings clock r) s.retried s.pending places))
        → Checking settings clock target count d noted t' places' made (i + 1)
    turned_as e = rw (e.0, e.1.0, e.1.1) (turned (verdict settings clock r) refl)

pub ends : {settings : Settings} {clock : ℕ} {target : ℕ → ℕ} {count : ℕ} {d noted t y places : List ℕ} {s : Checked} {i : ℕ}
    → Checking settings clock target count d noted t places s i → count ≤ i → count * record_size ≤ length d
    → rising id_size (entries record_size count d) ≡ true
    → (gate : Bool) (to : ℕ → ℕ) → ((failed : ℕ) → target failed ≡ cond gate (to failed) failed)
    → y ≡ overwritten (s.pending * record_size) (zeros ((count - s.pending) * record_size)) t
    → (s ≡ checked_as settings clock (requests_in count d))
    × ((y ≡ holding count (pending_after_check gate settings clock to (requests_in count d)) d)
    × (take s.retried places ≡ retried_places settings clock (requests_in count d) 0))
unfolding checked_as holding
ends {settings} {clock} {target} {count} {d} {noted} {t} {y} {places} {s} {i} c h l rise gate to aims q =
    let rs : List Request = requests_in count d in
    let e : i ≡ count = omega (arith, c.i_le) in
    let z : drop i (entries record_size count d) ≡ [] = drop_of_length-le (entries record_size count d) {i = i} (rw length_entries h) in
    let after : pending_after_check gate settings clock to rs ≡ checked_to settings clock target rs =
    pending_after settings clock gate to target aims rs (ids_rise_lem (entries record_size count d) (rising_ascending 32 (entries record_size count d) rise)) in
    let k : entries record_size s.pending t ≡ map request_bytes (checked_to settings clock target rs) = rw (z, append-nil) at c.kept in
    let cut =
    cut_down record_size count s.pending (map request_bytes (checked_to settings clock target rs)) d t y (omega (arith, c.pending_le))
    (omega (arith, c.long)) k (rw e at c.rest) q in
    let p : s.pending ≡ length (check_timeouts settings clock rs) =
    cut.0 ∙ length-map (checked_to settings clock target rs) request_bytes ∙ length_checked settings clock target rs in
    let a : s.retried ≡ length (judged settings clock retried rs) = none_left retried s.retried z c.retried_counted in
    let b : s.abandoned ≡ length (judged settings clock abandoned rs) = none_left abandoned s.abandoned z c.abandoned_counted in
    let f : s.forgotten ≡ length (judged settings clock forgotten rs) = none_left forgotten s.forgotten z c.forgotten_counted in
    (rw (← p, ← a, ← b, ← f), (rw after cut.1, rw (z, append-nil) at c.listed))
  where
    none_left : (v : Verdict) (n : ℕ) → drop i (entries record_size count d) ≡ []
        → Counted settings clock v n (requests_from i count d) (requests_in count d)
        → n ≡ length (judged settings clock v (requests_in count d))
    none_left v n z g = none_counted settings clock v n (requests_in count d) (rw z at g)
