-- The test of an image, line by line.
use Prim.Native.Nat.{ℕ, ◌+◌, ◌-◌, ◌*◌, ◌≤◌}
use mathlib.Core.Path.{◌≡◌, refl, sym, ◌∙◌}
use mathlib.Core.Bool.{Bool, true, false, ◌&&◌, ◌||◌, false≢true}
use mathlib.Core.List.{List, [], ◌∷◌}
use lib.Dec.{eqb, leb}
use lib.ListN.{take, drop, get_or}
use borrow.Author.Tests.{eqb-true, eq-eqb, leb-true, le-leb}
use Rattle.fields.specs.Facts.{All}
use Rattle.fields.specs.Zero.{all_zero}
use Rattle.fields.specs.Order.{same}
use Rattle.fields.specs.Entries.{entries, rising}
use Rattle.fields.proofs.OrderLaws.{and_left, and_right, same_eq, eq_same}
use Rattle.model.specs.Protocol.{tracked_limit, stalled_limit}
use Rattle.model.specs.State.{Mode, syncing, is_mode, has_sync_peer}
use Rattle.model.specs.Image.{mode_of, bit, field, mode_byte, last_clock_of, stalled_count, pending_count, evicted_count, settings_of, stalled_of, pending_of}
use Rattle.model.specs.Image.{none_twice, all_fit, version_fits, types_fit, marks_fit, counts_fit, clocks_fit, unused_zero, well_formed}
use Rattle.model.proofs.HeaderLaws.{mark}
use Rattle.model.specs.Layout.{area_size, id_size, peer_size, record_size, region_at, stalled_at}

-- all of the tests hold
abbrev pub all_true : List Bool → Bool
all_true [] = true
all_true (b ∷ []) = b
all_true (b ∷ (c ∷ bs)) = b && all_true (c ∷ bs)

pub each_true : (bs : List Bool) → all_true bs ≡ true → All (λ (b : Bool). b ≡ true) bs
each_true [] h = tt
each_true (b ∷ []) h = (h, tt)
each_true (b ∷ (c ∷ bs)) h = (and_left b (all_true (c ∷ bs)) h, each_true (c ∷ bs) (and_right b (all_true (c ∷ bs)) h))

pub true_each : (bs : List Bool) → All (λ (b : Bool). b ≡ true) bs → all_true bs ≡ true
true_each [] h = refl
true_each (b ∷ []) h = h.0
true_each (b ∷ (c ∷ bs)) h = rw h.0 (true_each (c ∷ bs) h.1)

-- ---- marks and the sync peer

or_right : (a b : Bool) → a || b ≡ true → a ≡ false → b ≡ true
or_right true b h e = absurd (false≢true (sym e))
or_right false b h e = h

right_or : (a b : Bool) → (a ≡ false → b ≡ true) → a || b ≡ true
right_or true b h = refl
right_or false b h = h refl

module _ (area : List ℕ) where
  abbrev pub mode_in : Mode
  mode_in = mode_of (mode_byte area)

  abbrev pub records_in : List (List ℕ)
  records_in = entries record_size (pending_count area) (drop region_at area)

  abbrev pub stalled_free_in : ℕ
  stalled_free_in = (stalled_limit - stalled_count area) * peer_size

  abbrev pub region_free_in : ℕ
  region_free_in = area_size - region_at - pending_count area * record_size - evicted_count area * id_size

-- The image keeps every line of the layout's tables.
pub record Formed (area : List ℕ) : Type 0 where
  pub start : take 3 area ≡ mark
  pub version : version_fits area ≡ true
  pub mode : mode_byte area ≤ 4
  pub progress_used : get_or area 6 0 ≤ bit (is_mode (mode_in area) syncing)
  pub entry_sent : get_or area 7 0 ≤ bit (is_mode (mode_in area) syncing)
  pub stalled_few : stalled_count area ≤ stalled_limit
  pub tracked : pending_count area + evicted_count area ≤ tracked_limit
  pub ids_rise : rising id_size (records_in area) ≡ true
  pub stalled_once : none_twice (stalled_of area) ≡ true
  pub last_progress : field 32 8 area ≤ last_clock_of area
  pub last_send : field 40 8 area ≤ last_clock_of area
  pub requests_fit : all_fit (settings_of area) (last_clock_of area) (pending_of area) ≡ true
  pub no_peer : has_sync_peer (mode_in area) ≡ false → field 48 8 area ≡ 0
  pub header_rest : all_zero (take (stalled_at - 74) (drop 74 area)) ≡ true
  pub stalled_rest : all_zero (take (stalled_free_in area) (drop (stalled_at + stalled_count area * peer_size) area)) ≡ true
  pub types : types_fit area ≡ true
  pub between : all_zero (take (region_free_in area) (drop (region_at + pending_count area * record_size) area)) ≡ true

module _ (area : List ℕ) where
  abbrev marks : List Bool
  marks = leb (get_or area 6 0) (bit (is_mode (mode_in area) syncing)) ∷ leb (get_or area 7 0) (bit (is_mode (mode_in area) syncing)) ∷ []

  abbrev counts : List Bool
  counts = leb (stalled_count area) stalled_limit ∷ leb (pending_count area + evicted_count area) tracked_limit ∷ []

  abbrev clocks : List Bool
  clocks = leb (field 32 8 area) (last_clock_of area) ∷ leb (field 40 8 area) (last_clock_of area) ∷ []

  abbrev unused : List Bool
  unused =
      (has_sync_peer (mode_in area) || eqb (field 48 8 area) 0)
      ∷ all_zero (take (stalled_at - 74) (drop 74 area))
      ∷ all_zero (take (stalled_free_in area) (drop (stalled_at + stalled_count area * peer_size) area))
      ∷ types_fit area
      ∷ all_zero (take (region_free_in area) (drop (region_at + pending_count area * record_size) area))
      ∷ []

  abbrev tests : List Bool
  tests =
      same (take 3 area) mark ∷ version_fits area ∷ leb (mode_byte area) 4 ∷ all_true marks ∷ all_true counts ∷ rising id_size (records_in area)
      ∷ none_twice (stalled_of area) ∷ all_true clocks ∷ all_fit (settings_of area) (last_clock_of area) (pending_of area) ∷ all_true unused ∷ []

  tests_are : well_formed area ≡ all_true tests
  unfolding well_formed marks_fit counts_fit clocks_fit unused_zero
  tests_are = refl

  pub formed : well_formed area ≡ true → Formed area
  formed h =
      let t : All (λ (b : Bool). b ≡ true) tests = each_true tests (sym tests_are ∙ h) in
      let t₃ = t.1.1.1 in
      let t₆ = t₃.1.1.1 in
      let m : All (λ (b : Bool). b ≡ true) marks = each_true marks t₃.0 in
      let n : All (λ (b : Bool). b ≡ true) counts = each_true counts t₃.1.0 in
      let c : All (λ (b : Bool). b ≡ true) clocks = each_true clocks t₆.1.0 in
      let u : All (λ (b : Bool). b ≡ true) unused = each_true unused t₆.1.1.1.0 in
      record {
        start = same_eq (take 3 area) mark t.0;
        version = t.1.0;
        mode = leb-true (mode_byte area) 4 t.1.1.0;
        progress_used = leb-true (get_or area 6 0) (bit (is_mode (mode_in area) syncing)) m.0;
        entry_sent = leb-true (get_or area 7 0) (bit (is_mode (mode_in area) syncing)) m.1.0;
        stalled_few = leb-true (stalled_count area) stalled_limit n.0;
        tracked = leb-true (pending_count area + evicted_count area) tracked_limit n.1.0;
        ids_rise = t₃.1.1.0;
        stalled_once = t₆.0;
        last_progress = leb-true (field 32 8 area) (last_clock_of area) c.0;
        last_send = leb-true (field 40 8 area) (last_clock_of area) c.1.0;
        requests_fit = t₆.1.1.0;
        no_peer = λ e. eqb-true (field 48 8 area) 0 (or_right (has_sync_peer (mode_in area)) (eqb (field 48 8 area) 0) u.0 e);
        header_rest = u.1.0;
        stalled_rest = u.1.1.0;
        types = u.1.1.1.0;
        between = u.1.1.1.1.0;
      }

  pub well_formed_lem : Formed area → well_formed area ≡ true
  well_formed_lem f =
      let m : All (λ (b : Bool). b ≡ true) marks =
      (le-leb (get_or area 6 0) (bit (is_mode (mode_in area) syncing)) f.progress_used, (le-leb (get_or area 7 0) (bit (is_mode (mode_in area) syncing)) f.entry_sent, tt))
      in
      let n : All (λ (b : Bool). b ≡ true) counts =
      (le-leb (stalled_count area) stalled_limit f.stalled_few, (le-leb (pending_count area + evicted_count area) tracked_limit f.tracked, tt))
      in
      let c : All (λ (b : Bool). b ≡ true) clocks = (le-leb (field 32 8 area) (last_clock_of area) f.last_progress, (le-leb (field 40 8 area) (last_clock_of area) f.last_send, tt)) in
      let u : All (λ (b : Bool). b ≡ true) unused =
      (right_or (has_sync_peer (mode_in area)) (eqb (field 48 8 area) 0) (λ e. eq-eqb (field 48 8 area) 0 (f.no_peer e)), (f.header_rest, (f.stalled_rest, (f.types, (f.between, tt)))))
      in
      let s : same (take 3 area) mark ≡ true = eq_same (take 3 area) mark f.start in
      let o : leb (mode_byte area) 4 ≡ true = le-leb (mode_byte area) 4 f.mode in
      let first : all_true marks ≡ true = true_each marks m in
      let second : all_true counts ≡ true = true_each counts n in
      let third : all_true clocks ≡ true = true_each clocks c in
      let last : all_true unused ≡ true = true_each unused u in
      tests_are ∙ true_each tests (s, (f.version, (o, (first, (second, (f.ids_rise, (f.stalled_once, (third, (f.requests_fit, (last, tt))))))))))
