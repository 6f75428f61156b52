-- Ids entered one after another.
use Prim.Native.Nat.{ℕ, ◌+◌, ◌*◌, ◌^◌, ◌≤◌, ◌<◌}
use mathlib.Core.Path.{◌≡◌, refl, sym, ap, ◌∙◌}
use mathlib.Core.Bool.{true}
use mathlib.Core.List.{List, [], ◌∷◌}
use native.Mathlib.Omega.{arith}
use native.Mathlib.Nat.{mul-le-mul_right}
use native.Mathlib.Numerals.{add-one}
use lib.ListN.{length, drop, get_or, drop_of_length-le}
use lib.Seq.{drop-cons}
use Rattle.fields.specs.Facts.{All, Bytes}
use Rattle.fields.specs.Entries.{entries, rising}
use Rattle.fields.proofs.AllLaws.{all_at}
use Rattle.fields.proofs.EntriesLaws.{Wide}
use Rattle.model.specs.Protocol.{Id}
use Rattle.model.specs.Delivery.{Request, mark_requested}
use Rattle.model.proofs.Well.{WellId}
use Rattle.model.proofs.PendingLaws.{rising_requested}
use Rattle.commands.specs.Pending.{requests_in, holding}
use Rattle.commands.proofs.HoldingLaws.{Grown, not_grown, grown_recorded, grown_rising, new_requests, grows, length_requests}
use Rattle.mark_requested.proofs.MarkedLaws.{marked_length, marked_recorded}
use Rattle.model.specs.Layout.{id_size, record_size}

-- What stays the same: a table with room for all ids.
pub record Each (clock type_id peer count : ℕ) (ids : List Id) (d : List ℕ) : Type 0 where
  pub room : (count + length ids) * record_size ≤ length d
  pub rises : rising id_size (entries record_size count d) ≡ true
  pub clock_fits : clock < 2 ^ 64
  pub type_fits : type_id < 2 ^ 16
  pub peer_fits : peer < 2 ^ 64
  pub wide : Wide id_size ids
  pub bytes_ids : All Bytes ids
  pub bytes_table : Bytes d

-- The table before the ids from i on: these bring it to what all ids bring the first one to.
pub record Entering (clock type_id peer count : ℕ) (ids : List Id) (d t : List ℕ) (held i : ℕ) : Type 0 where
  pub few : held ≤ count + i
  pub grown : Grown count d held t
  pub pending : mark_requested clock type_id peer (drop i ids) (requests_in held t) ≡ mark_requested clock type_id peer ids (requests_in count d)

module _ {clock type_id peer count : ℕ} {ids : List Id} {d : List ℕ} (each : Each clock type_id peer count ids d) where
  pub each_starts : Entering clock type_id peer count ids d d count 0
  each_starts =
      let fits : count * record_size ≤ length d = omega (arith, each.room) in
      record { few = omega arith; grown = not_grown count d fits each.bytes_table each.rises; pending = refl }

  module _ {t : List ℕ} {held i : ℕ} (s : Entering clock type_id peer count ids d t held i) where
    abbrev all : List Request
    all = mark_requested clock type_id peer ids (requests_in count d)

    pub each_ends : length ids ≤ i → (held ≡ length all) × (t ≡ holding count all d)
    each_ends h =
        let p : requests_in held t ≡ all = rw (drop_of_length-le ids {i = i} h) at s.pending in
        (sym (length_requests held t) ∙ ap length p, s.grown.table ∙ ap (λ (rs : List Request). holding count rs d) p)

    -- the next id
    module _ (more : i < length ids) where
      abbrev id : Id
      id = get_or ids i []

      abbrev old : List Request
      old = requests_in held t

      abbrev new : List Request
      new = mark_requested clock type_id peer (id ∷ []) old

      id_well : WellId id
      id_well = record { long = all_at (λ (x : Id). length x ≡ id_size) ids i [] more each.wide; bytes = all_at Bytes ids i [] more each.bytes_ids }

      pub each_turn : {held' : ℕ} {t' : List ℕ} → (held' ≡ length new) × (t' ≡ holding held new t) → Bytes t'
          → Entering clock type_id peer count ids d t' held' (i + 1)
      each_turn {held'} {t'} e f' =
          let n : drop i ids ≡ id ∷ drop (i + 1) ids = rw add-one (drop-cons ids i [] more) in
          let old-fit = grown_recorded count d held t s.grown in
          let w = marked_recorded clock type_id peer each.clock_fits each.type_fits each.peer_fits (id ∷ []) old (id_well, tt) old-fit in
          let up = rising_requested clock type_id peer (id ∷ []) old (grown_rising count d held t s.grown) in
          let l : (length old ≤ length new) × (length new ≤ length old + 1) = marked_length clock type_id peer (id ∷ []) old in
          let lo : length old ≡ held = length_requests held t in
          let lr : held ≤ length new = omega arith in
          let free : length new ≤ count + length ids = omega (arith, s.few) in
          let fits : length new * record_size ≤ length d = omega (arith, mul-le-mul_right record_size free, each.room) in
          record {
            few = omega (arith, s.few, e.0);
            grown = grows count d held t s.grown new w up lr fits held' t' e.0 e.1 f';
            pending = rw (new_requests count d held t s.grown new w up lr fits held' t' e.0 e.1) (rw n at s.pending);
          }
