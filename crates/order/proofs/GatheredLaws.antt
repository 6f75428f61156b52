-- Ids gathered from the entries at some places: how long they are, and the loop that writes them.
use Prim.Native.Nat.{ℕ, ◌+◌, ◌-◌, ◌*◌, ◌≤◌, ◌<◌}
use mathlib.Core.Path.{◌≡◌, sym, ap, ◌∙◌}
use mathlib.Core.List.{List, [], ◌∷◌, ◌++◌}
use native.Mathlib.Omega.{arith}
use lib.ListN.{length, take, drop, get_or, length-drop, length-map, drop_of_length-le}
use lib.Seq.{take-add, drop-drop}
use Rattle.fields.specs.Facts.{All, Bytes}
use Rattle.fields.specs.Number.{from_be, to_be}
use Rattle.fields.specs.Entries.{entry, joined}
use Rattle.fields.specs.Overwrite.{overwritten}
use Rattle.fields.proofs.OverwriteLaws.{length_overwritten, overwritten_next, overwritten_nil, overwritten_all, front_read_back}
use Rattle.fields.proofs.EntriesLaws.{Wide, length_joined, entry_field}
use Rattle.fields.proofs.PartLaws.{length_part, to_be_part}
use Rattle.fields.proofs.AllLaws.{all_at, all_drop}
use Rattle.order.proofs.MappedLaws.{next_mapped}
use Rattle.order.specs.Gathered.{gathered}

-- ---- an id, copied by words

-- the four words of the id at `from`
pub record Read (table : List ℕ) (from a b c d : ℕ) : Type 0 where
  pub bytes : Bytes table
  pub within : from + 32 ≤ length table
  pub first : a ≡ from_be (take 8 (drop from table))
  pub second : b ≡ from_be (take 8 (drop (from + 8) table))
  pub third : c ≡ from_be (take 8 (drop (from + 16) table))
  pub fourth : d ≡ from_be (take 8 (drop (from + 24) table))

module _ {table : List ℕ} {from a b c d : ℕ} (r : Read table from a b c d) (ids : List ℕ) (to : ℕ) (room : to + 32 ≤ length ids) where
  -- the id's first m bytes stand at `to`
  abbrev Copied : ℕ → List ℕ → Type 0
  Copied m t = t ≡ overwritten to (take m (drop from table)) ids

  -- the next word
  word_next : (m word : ℕ) {t u : List ℕ} → m + 8 ≤ 32 → word ≡ from_be (take 8 (drop (from + m) table)) → Copied m t
      → u ≡ overwritten (to + m) (to_be 8 word) t → Copied (m + 8) u
  word_next m word h w e f =
      let within = r.within in
      let done : List ℕ = take m (drop from table) in
      let next : List ℕ = take 8 (drop (from + m) table) in
      let la : length done ≡ m = length_part from m table (omega arith) in
      let lb : length next ≡ 8 = length_part (from + m) 8 table (omega arith) in
      let n : overwritten (to + m) next (overwritten to done ids) ≡ overwritten to (done ++ next) ids =
      rw la at (overwritten_next to done next ids (omega arith)) in
      let p : done ++ next ≡ take (m + 8) (drop from table) = rw (take-add m 8 (drop from table), drop-drop) in
      f ∙ rw (e, w, to_be_part (from + m) 8 table (omega arith) r.bytes, ← p) n

  pub id_copied : {t₁ t₂ t₃ t₄ : List ℕ} → t₁ ≡ overwritten to (to_be 8 a) ids → t₂ ≡ overwritten (to + 8) (to_be 8 b) t₁
      → t₃ ≡ overwritten (to + 16) (to_be 8 c) t₂ → t₄ ≡ overwritten (to + 24) (to_be 8 d) t₃ → t₄ ≡ overwritten to (take 32 (drop from table)) ids
  id_copied {t₁} {t₂} {t₃} {t₄} e₁ e₂ e₃ e₄ =
      let one : Copied 8 t₁ = e₁ ∙ rw (r.first, to_be_part from 8 table (omega (arith, r.within)) r.bytes) in
      let two : Copied 16 t₂ = word_next 8 b (omega arith) r.second one e₂ in
      let three : Copied 24 t₃ = word_next 16 c (omega arith) r.third two e₃ in
      word_next 24 d (omega arith) r.fourth three e₄

-- ---- ids, one after another

module _ (width offset : ℕ) (table : List ℕ) where
  -- an entry stands at the place
  abbrev Within : ℕ → Type 0
  Within place = place * width + width ≤ length table

  module _ (fits : offset + 32 ≤ width) where
    id_long : (place : ℕ) → Within place → length (take 32 (drop offset (entry width place table))) ≡ 32
    id_long place h = ap length (entry_field width place offset 32 table fits) ∙ length_part (place * width + offset) 32 table (omega (arith, h, fits))

    pub gathered_wide : (places : List ℕ) → All Within places → Wide 32 (gathered width offset table places)
    gathered_wide [] w = tt
    gathered_wide (place ∷ places) w = (id_long place w.0, gathered_wide places w.1)

    pub length_gathered : (places : List ℕ) → All Within places → length (joined (gathered width offset table places)) ≡ length places * 32
    length_gathered places w =
        length_joined 32 (gathered width offset table places) (gathered_wide places w)
        ∙ rw (length-map places (λ (place : ℕ). take 32 (drop offset (entry width place table))))

  -- The ids from place i on are to come: what is written, then they, is the whole.
  pub record Gathering (places d ids : List ℕ) (i : ℕ) : Type 0 where
    pub i_le : i ≤ length places
    pub long : length ids ≡ length d
    pub rest : overwritten (i * 32) (joined (gathered width offset table (drop i places))) ids ≡ overwritten 0 (joined (gathered width offset table places)) d

  -- the ids are read back at the front; where the room is theirs alone, they are all of it
  module _ (fits : offset + 32 ≤ width) (places d ids : List ℕ) (w : All Within places)
      (e : ids ≡ overwritten 0 (joined (gathered width offset table places)) d) where
    pub gathered_front : take (length places * 32) ids ≡ joined (gathered width offset table places)
    gathered_front = rw (e, ← length_gathered fits places w) (front_read_back (joined (gathered width offset table places)) d)

    pub gathered_all : length d ≡ length places * 32 → ids ≡ joined (gathered width offset table places)
    gathered_all l = e ∙ overwritten_all (joined (gathered width offset table places)) d (length_gathered fits places w ∙ sym l)

-- a turn of the loop, and its end
module _ {width offset : ℕ} {table places d ids : List ℕ} {i : ℕ} (g : Gathering width offset table places d ids i) where
  abbrev Inside : ℕ → Type 0
  Inside = Within width offset table

  pub gather_turn : offset + 32 ≤ width → All Inside places → length places * 32 ≤ length d → i < length places → {p : ℕ} → p ≡ get_or places i 0
      → {o : List ℕ} → o ≡ overwritten (i * 32) (take 32 (drop (p * width + offset) table)) ids → Gathering width offset table places d o (i + 1)
  gather_turn fits w room h {p} ep {o} eo =
      let place : ℕ = get_or places i 0 in
      let id : List ℕ = take 32 (drop offset (entry width place table)) in
      let written : o ≡ overwritten (i * 32) id ids = eo ∙ rw (ep, ← entry_field width place offset 32 table fits) in
      let l : length id ≡ 32 = id_long width offset table fits place (all_at Inside places i 0 h w) in
      let left : List ℕ = drop (i + 1) places in
      let later : List ℕ = joined (gathered width offset table left) in
      let m : length later ≡ length left * 32 = length_gathered width offset table fits left (all_drop Inside (i + 1) places w) in
      let n : length left ≡ length places - (i + 1) = length-drop (i + 1) places in
      let e : (i + 1) * 32 ≡ i * 32 + length id = omega arith in
      let r : overwritten (i * 32) (id ++ later) ids ≡ overwritten 0 (joined (gathered width offset table places)) d =
      rw (next_mapped (λ (q : ℕ). take 32 (drop offset (entry width q table))) places i h) at g.rest in
      record {
        i_le = omega arith;
        long = rw written (length_overwritten (i * 32) id ids (omega (arith, g.long))) ∙ g.long;
        rest = rw (e, written) (overwritten_next (i * 32) id later ids (omega (arith, g.long)) ∙ r);
      }

  pub gather_ends : length places ≤ i → ids ≡ overwritten 0 (joined (gathered width offset table places)) d
  gather_ends h =
      let z : drop i places ≡ [] = drop_of_length-le places {i = i} h in
      let a : overwritten (i * 32) [] ids ≡ overwritten 0 (joined (gathered width offset table places)) d = rw z at g.rest in
      sym (overwritten_nil (i * 32) ids) ∙ a
