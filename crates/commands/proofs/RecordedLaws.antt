-- Requests and ids that are read from bytes fit their records.
use Prim.Native.Nat.{ℕ, ◌+◌, ◌*◌, ◌/◌}
use mathlib.Core.Path.{◌≡◌, sym, ap}
use mathlib.Core.List.{List, [], ◌∷◌, map}
use native.Mathlib.Omega.{arith}
use lib.ListN.{length, take, drop}
use lib.Seq.{length-take-le}
use Rattle.fields.specs.Facts.{All, Bytes}
use Rattle.fields.specs.Number.{from_be}
use Rattle.fields.specs.Entries.{entries, entry}
use Rattle.fields.proofs.AllLaws.{all_weaker, entries_all}
use Rattle.fields.proofs.PartLaws.{part_below}
use Rattle.fields.proofs.NumberLaws.{bytes_take, bytes_drop}
use Rattle.fields.proofs.EntriesLaws.{Wide, entry_field}
use Rattle.model.specs.Image.{request_of}
use Rattle.model.specs.Lists.{ids_in}
use Rattle.model.proofs.Well.{WellId}
use Rattle.model.proofs.RecordLaws.{Recorded}
use Rattle.model.specs.Layout.{id_size, record_size}

pub entries_recorded : (es : List (List ℕ)) → Wide record_size es → All Bytes es → All Recorded (map request_of es)
unfolding request_of
entries_recorded [] w f = tt
entries_recorded (e ∷ es) w f =
    let l : length e ≡ record_size = w.0 in
    let b : Bytes e = f.0 in (
      record {
        id = record { long = length-take-le 32 e (omega arith); bytes = bytes_take id_size e b };
        cells = (
          part_below 32 8 e (omega arith) b,
          (part_below 40 2 e (omega arith) b, (part_below 42 8 e (omega arith) b, (part_below 50 4 e (omega arith) b, tt))),
        );
      },
      entries_recorded es w.1 f.1,
    )

pub well_ids : (ids : List ℕ) → Bytes ids → All WellId (ids_in ids)
unfolding ids_in
well_ids ids f =
    let es : List (List ℕ) = entries id_size (length ids / id_size) ids in
    let each = entries_all 32 (length ids / id_size) ids (omega arith) f in
    all_weaker (λ (e : List ℕ). (length e ≡ id_size) × Bytes e) WellId (λ e p. record { long = p.0; bytes = p.1 }) es each

-- ---- what is read of a record

pub entry_bytes : (width i : ℕ) (t : List ℕ) → Bytes t → Bytes (entry width i t)
unfolding entry
entry_bytes width i t f = bytes_take width (drop (i * width) t) (bytes_drop (i * width) t f)

module _ (i : ℕ) (t : List ℕ) where
  pub peer_read : from_be (take 8 (drop (i * record_size + id_size) t)) ≡ (request_of (entry record_size i t)).peer
  unfolding request_of
  peer_read = ap from_be (sym (entry_field record_size i 32 8 t (omega arith)))

  pub type_read : from_be (take 2 (drop (i * record_size + 40) t)) ≡ (request_of (entry record_size i t)).type_id
  unfolding request_of
  type_read = ap from_be (sym (entry_field record_size i 40 2 t (omega arith)))

  pub stamp_read : from_be (take 8 (drop (i * record_size + 42) t)) ≡ (request_of (entry record_size i t)).stamp
  unfolding request_of
  stamp_read = ap from_be (sym (entry_field record_size i 42 8 t (omega arith)))
