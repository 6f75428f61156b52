-- The test of an image in parts: records entry by entry, and the parts together.
use Prim.Native.Nat.{ℕ, zero, suc, ◌+◌, ◌-◌, ◌*◌, ◌≤◌, ◌<◌}
use mathlib.Core.Path.{◌≡◌, refl, sym, ap, ◌∙◌}
use mathlib.Core.Bool.{Bool, true, false, ◌&&◌, ◌||◌}
use mathlib.Core.List.{List, [], ◌∷◌, map}
use native.Mathlib.Omega.{arith}
use lib.Dec.{eqb, leb, ltb}
use lib.ListN.{length, take, drop, get_or}
use lib.Seq.{drop-drop}
use Rattle.std.specs.List.{list_all, range_with_len}
use borrow.Author.Tests.{le-leb, lt-leb, ne_eqb}
use Rattle.fields.specs.Zero.{all_zero}
use Rattle.fields.specs.Order.{same}
use Rattle.fields.specs.Entries.{entries, entry, rising}
use Rattle.fields.proofs.EntriesLaws.{entry_byte, entry_field}
use Rattle.model.specs.Settings.{Settings, most_requests}
use Rattle.model.specs.State.{has_sync_peer}
use Rattle.model.specs.Image.{field, newest_version, version, mode_of, mode_byte, settings_of, last_clock_of, request_of, pending_of, stalled_of}
use Rattle.model.specs.Image.{pending_count, stalled_count, evicted_count, request_fits, all_fit, types_narrow, none_twice}
use Rattle.model.specs.Image.{version_fits, types_fit, marks_fit, counts_fit, clocks_fit, unused_zero, well_formed}
use Rattle.settings.specs.Values as values
use Rattle.settings.specs.declared.Settings as declared
use Rattle.image.specs.Heads.{head_in}
use Rattle.image_test.specs.Head.{head_fits}
use Rattle.model.specs.Layout.{area_size, id_size, record_size, region_at, region_size}
use Rattle.model.specs.Protocol.{tracked_limit}

-- ---- pending records

-- a test of each record from i on, one after another
pub each_entry : (test : List ℕ → Bool) (region : List ℕ) (n i : ℕ)
    → list_all (λ (k : ℕ). test (entry record_size k region)) (range_with_len i n) ≡ list_all test (entries record_size n (drop (i * record_size) region))
unfolding entry
each_entry test region zero i = refl
each_entry test region (suc n) i =
    let next : i * record_size + record_size ≡ (i + 1) * record_size = omega arith in
    let d : drop record_size (drop (i * record_size) region) ≡ drop ((i + 1) * record_size) region = drop-drop record_size (i * record_size) region ∙ rw next in
    rw (each_entry test region n (i + 1), ← d)

-- the high byte of a record's type is zero
abbrev pub is_narrow : List ℕ → Bool
is_narrow e = eqb (get_or e 40 0) 0

pub all_narrow : (es : List (List ℕ)) → list_all is_narrow es ≡ types_narrow es
all_narrow [] = refl
all_narrow (e ∷ es) = rw (all_narrow es)

pub record_narrow : (i : ℕ) (region : List ℕ) → i * record_size + record_size ≤ length region
    → eqb (get_or region (i * record_size + 40) 0) 0 ≡ is_narrow (entry record_size i region)
record_narrow i region h = rw (entry_byte record_size i 40 region (omega arith))

module _ (settings : Settings) (clock : ℕ) where
  abbrev pub record_fits : List ℕ → Bool
  record_fits e = request_fits settings clock (request_of e)

  pub all_records : (es : List (List ℕ)) → list_all record_fits es ≡ all_fit settings clock (map request_of es)
  all_records [] = refl
  all_records (e ∷ es) = rw (all_records es)

-- a record's numbers read where they stand
module _ (settings : Settings) (clock i : ℕ) (region : List ℕ) (h : i * record_size + record_size ≤ length region) where
  record_parts : record_fits settings clock (entry record_size i region)
      ≡ leb (field (i * record_size + 42) 8 region) clock
      && ltb (field (i * record_size + 50) 4 region) (most_requests settings (field (i * record_size + 40) 2 region))
  unfolding request_fits request_of
  record_parts =
      rw (
        entry_field record_size i 40 2 region (omega arith),
        entry_field record_size i 42 8 region (omega arith),
        entry_field record_size i 50 4 region (omega arith),
      )

  pub record_late : clock < field (i * record_size + 42) 8 region → record_fits settings clock (entry record_size i region) ≡ false
  record_late l = record_parts ∙ rw (lt-leb (field (i * record_size + 42) 8 region) clock l)

  pub record_checks : field (i * record_size + 42) 8 region ≤ clock
      → ltb (field (i * record_size + 50) 4 region) (most_requests settings (field (i * record_size + 40) 2 region))
      ≡ record_fits settings clock (entry record_size i region)
  record_checks s = sym (record_parts ∙ rw (le-leb (field (i * record_size + 42) 8 region) clock s))

-- the records with the header's settings and clock
pub pending_read : (area : List ℕ) {region : List ℕ} {settings : declared.Settings} {clock n : ℕ}
    → settings ≡ (head_in area).settings → clock ≡ last_clock_of area → n ≡ pending_count area → region ≡ drop region_at area
    → {answer : Bool} → answer ≡ all_fit (values.settings_of settings) clock (map request_of (entries record_size n region))
    → answer ≡ all_fit (settings_of area) (last_clock_of area) (pending_of area)
unfolding head_in pending_of settings_of values.settings_of
pending_read area s c k r a = a ∙ rw (s, c, k, r)

-- ---- types, by the version

pub newest_fits : (area : List ℕ) {v : ℕ} → v ≡ version area → v ≡ newest_version → eqb v 2 ≡ types_fit area
unfolding types_fit
newest_fits area e h = rw (← e, h)

pub types_read : (area : List ℕ) {v n : ℕ} {region : List ℕ} → v ≡ version area → (v ≡ newest_version → ⊥) → n ≡ pending_count area
    → region ≡ drop region_at area → {answer : Bool} → answer ≡ types_narrow (entries record_size n region) → answer ≡ types_fit area
unfolding types_fit
types_read area {v} e h k r a =
    let other : eqb (version area) newest_version ≡ false = sym (ap (λ (x : ℕ). eqb x newest_version) e) ∙ ne_eqb v newest_version h in
    a ∙ rw (other, k, r)

-- ---- room

pub room : (area : List ℕ) {n p e : ℕ} {header places between : Bool} → n ≡ stalled_count area → p ≡ pending_count area → e ≡ evicted_count area
    → n ≤ 256 → p + e ≤ tracked_limit → header ≡ all_zero (take 438 (drop 74 area))
    → places ≡ all_zero (take (region_at - (512 + n * 8)) (drop (512 + n * 8) area))
    → between ≡ all_zero (take (area_size - e * id_size - (region_at + p * record_size)) (drop (region_at + p * record_size) area))
    → header && (places && between)
    ≡ all_zero (take 438 (drop 74 area))
    && (all_zero (take ((256 - stalled_count area) * 8) (drop (512 + stalled_count area * 8) area))
    && all_zero (take (region_size - pending_count area * record_size - evicted_count area * id_size) (drop (region_at + pending_count area * record_size) area)))
room area {n} {p} {e} i j k few tracked a b c =
    let free : region_at - (512 + n * 8) ≡ (256 - n) * 8 = omega arith in
    let gap : area_size - e * id_size - (region_at + p * record_size) ≡ region_size - p * record_size - e * id_size = omega arith in
    rw (a, b, c, free, gap, i, j, k)

-- ---- all of it

and_false : (a : Bool) → a && false ≡ false
and_false true = refl
and_false false = refl

types_first : (header places types between : Bool) → header && (places && (types && between)) ≡ types && (header && (places && between))
types_first header places true between = refl
types_first true true false between = refl
types_first true false false between = refl
types_first false places false between = refl

tables_last : (rise once clocks fit peer : Bool) {left right : Bool} → left ≡ right
    → rise && (once && (clocks && (fit && (peer && left)))) ≡ (clocks && peer) && (rise && (once && (fit && right)))
tables_last false once clocks fit peer e = sym (and_false (clocks && peer))
tables_last true false clocks fit peer e = sym (and_false (clocks && peer))
tables_last true true false fit peer e = refl
tables_last true true true false peer e = sym (and_false peer)
tables_last true true true true false e = refl
tables_last true true true true true e = e

-- the header first, then what the tables say
together : (mark version mode marks counts rise once clocks fit peer header places types between : Bool)
    → mark && (version && (mode && (marks && (counts && (rise && (once && (clocks && (fit && (peer && (header && (places && (types && between))))))))))))
    ≡ (mark && (version && (mode && (marks && (counts && (clocks && peer)))))) && (rise && (once && (fit && (types && (header && (places && between))))))
together false version mode marks counts rise once clocks fit peer header places types between = refl
together true false mode marks counts rise once clocks fit peer header places types between = refl
together true true false marks counts rise once clocks fit peer header places types between = refl
together true true true false counts rise once clocks fit peer header places types between = refl
together true true true true false rise once clocks fit peer header places types between = refl
together true true true true true rise once clocks fit peer header places types between =
    tables_last rise once clocks fit peer (types_first header places types between)

and_first : (a b c d e : Bool) → a && (b && (c && (d && e))) ≡ (((a && b) && c) && d) && e
and_first false b c d e = refl
and_first true false c d e = refl
and_first true true c d e = and_first_two c d e
  where
    and_first_two : (c d e : Bool) → c && (d && e) ≡ (c && d) && e
    and_first_two false d e = refl
    and_first_two true d e = refl

module _ (area : List ℕ) where
  -- the parts behind the header, in the order of the tests
  abbrev pub ids_rise : Bool
  ids_rise = rising id_size (entries record_size (pending_count area) (drop region_at area))

  abbrev pub pending_fits : Bool
  pending_fits = all_fit (settings_of area) (last_clock_of area) (pending_of area)

  abbrev room_zero : Bool
  room_zero =
      all_zero (take 438 (drop 74 area))
      && (all_zero (take ((256 - stalled_count area) * 8) (drop (512 + stalled_count area * 8) area))
      && all_zero (take (region_size - pending_count area * record_size - evicted_count area * id_size) (drop (region_at + pending_count area * record_size) area)))

  formed_parts : well_formed area ≡ head_fits area && (ids_rise && (none_twice (stalled_of area) && (pending_fits && (types_fit area && room_zero))))
  unfolding well_formed unused_zero head_fits
  formed_parts =
      together (same (take 3 area) (69 ∷ 68 ∷ 84 ∷ [])) (version_fits area) (leb (mode_byte area) 4) (marks_fit area) (counts_fit area) ids_rise
      (none_twice (stalled_of area)) (clocks_fit area) (all_fit (settings_of area) (last_clock_of area) (pending_of area))
      (has_sync_peer (mode_of (mode_byte area)) || eqb (field 48 8 area) 0) (all_zero (take 438 (drop 74 area)))
      (all_zero (take ((256 - stalled_count area) * 8) (drop (512 + stalled_count area * 8) area)))
      (types_fit area)
      (all_zero (take (region_size - pending_count area * record_size - evicted_count area * id_size) (drop (region_at + pending_count area * record_size) area)))

  pub head_refused : head_fits area ≡ false → false ≡ well_formed area
  head_refused h = sym (formed_parts ∙ rw h)

  pub room_decides : head_fits area ≡ true → ids_rise ≡ true → none_twice (stalled_of area) ≡ true → pending_fits ≡ true → types_fit area ≡ true
      → room_zero ≡ well_formed area
  room_decides h i o p t = sym (formed_parts ∙ rw (h, i, o, p, t))

  rest_decides : head_fits area ≡ true → (((ids_rise && none_twice (stalled_of area)) && pending_fits) && types_fit area) && room_zero ≡ well_formed area
  rest_decides h = sym (formed_parts ∙ rw h (and_first ids_rise (none_twice (stalled_of area)) pending_fits (types_fit area) room_zero))

  pub rest_refuses : head_fits area ≡ true → ((ids_rise && none_twice (stalled_of area)) && pending_fits) && types_fit area ≡ false → well_formed area ≡ false
  rest_refuses h r = sym (rest_decides h) ∙ rw r
