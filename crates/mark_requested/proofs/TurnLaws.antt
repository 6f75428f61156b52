-- What is written: a record that was there or a new one, then the records that are left.
use Prim.Native.Nat.{ℕ, ◌+◌, ◌-◌, ◌*◌, ◌/◌, ◌≤◌}
use mathlib.Core.Path.{◌≡◌, sym, ◌∙◌}
use mathlib.Core.List.{List, [], ◌++◌, map}
use native.Mathlib.Omega.{arith}
use native.Mathlib.Nat.{mul-le-mul_right}
use lib.ListN.{length, take, drop, get_or, length-drop}
use lib.Seq.{take_all}
use Rattle.std.specs.Simd.{first_chunks}
use Rattle.fields.specs.Entries.{entries, entry}
use Rattle.fields.specs.Overwrite.{overwritten}
use Rattle.model.specs.Protocol.{Id}
use Rattle.model.specs.Image.{request_of}
use Rattle.commands.proofs.WriteLaws.{written_next}
use Rattle.commands.proofs.RunLaws.{chunk_at}
use Rattle.mark_requested.specs.Choices.{ids_at, choice_at}
use Rattle.mark_requested.proofs.ChoiceLaws.{Next, place_listed, keep_inside}
use Rattle.mark_requested.specs.declared.choosing.Choice.{Choice}
use Rattle.mark_requested.specs.declared.choosing.Choice.TheVariants.{Keep, Enter}
use Rattle.mark_requested.specs.declared.merging.Front.{Front}
use Rattle.mark_requested.specs.Turns.{room_after}
use Rattle.model.specs.Layout.{id_size, record_size}

-- an id, then what follows it in another record
pub new_written : (p : ℕ) (id blank d : List ℕ) {o₁ o₂ : List ℕ} → length id ≡ id_size → length blank ≡ record_size → p + record_size ≤ length d
    → o₁ ≡ overwritten p id d → o₂ ≡ overwritten (p + id_size) (take 22 (drop id_size blank)) o₁ → o₂ ≡ overwritten p (id ++ drop id_size blank) d
new_written p id blank d {o₁} {o₂} l lb h e₁ e₂ =
    let n : length (drop id_size blank) ≡ 22 = length-drop id_size blank ∙ omega arith in
    let t : take 22 (drop id_size blank) ≡ drop id_size blank = take_all 22 (drop id_size blank) (omega arith) in
    written_next p 32 id (drop id_size blank) d o₁ o₂ l (omega arith) e₁ (rw t at e₂)

-- ---- what a turn does

module _ (count : ℕ) (t ids places blank room : List ℕ) (front : Front) where
  abbrev told : Choice
  told = choice_at (ids_at ids (drop front.ids places)) (map request_of (drop front.records (entries record_size count t)))

  -- the room then, by the next record and that of the next id
  abbrev room_told : List ℕ
  room_told = room_after told (entry record_size front.records t) (entry id_size (get_or places front.ids 0) ids ++ drop id_size blank) front.held room

  module _ {choice : Choice} (e : choice ≡ told) where
    -- a record is kept only where one is left
    pub kept_inside : count * record_size ≤ length t → choice ≡ Keep → front.records * record_size + record_size ≤ length t
    kept_inside h k =
        let left = keep_inside count front.records t (ids_at ids (drop front.ids places)) choice e k in
        omega (arith, h, mul-le-mul_right record_size left)

    pub kept_turn : {room' : List ℕ} → choice ≡ Keep
        → let from = front.records * record_size in room' ≡ overwritten (front.held * record_size) (take (from + record_size - from) (drop from t)) room
        → room' ≡ room_told
    unfolding entry
    kept_turn k r =
        let d : front.records * record_size + record_size - front.records * record_size ≡ record_size = omega arith in
        let q : told ≡ Keep = sym e ∙ k in
        rw q (rw d at r)

    pub entered_turn : {p : ℕ} {each : List Id} {room' : List ℕ} → Next ids places front.ids
        → each ≡ first_chunks id_size (length ids / id_size) ids → p ≡ get_or places front.ids 0 → choice ≡ Enter
        → room' ≡ overwritten (front.held * record_size) (get_or each p [] ++ drop id_size blank) room → room' ≡ room_told
    entered_turn {p} {each} next ec ep k r =
        let here : get_or each p [] ≡ entry id_size p ids = rw ec (chunk_at ids p (place_listed next ep)) in
        let q : told ≡ Enter = sym e ∙ k in
        rw q (rw (here, ep) at r)
