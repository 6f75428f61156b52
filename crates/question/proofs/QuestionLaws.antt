-- The question by mode and by what is asked for, from the header.
use Prim.Native.Nat.{ℕ, ◌-◌, ◌*◌, ◌/◌, ◌≤◌}
use mathlib.Core.Path.{◌≡◌, refl, sym, ap, ◌∙◌}
use mathlib.Core.Bool.{Bool, true, false, not}
use mathlib.Core.List.{List, map}
use native.Mathlib.Omega.{arith}
use lib.ListN.{length, take, drop, length-map, length-drop}
use lib.Seq.{take_all}
use borrow.Author.Tests.{not-true, not-false}
use Rattle.fields.specs.Entries.{entries, joined}
use Rattle.fields.specs.Overwrite.{overwritten}
use Rattle.fields.proofs.AllLaws.{either}
use Rattle.fields.proofs.OverwriteLaws.{overwritten_nil}
use Rattle.fields.proofs.EntriesLaws.{Wide, length_entries, entries_wide}
use Rattle.model.specs.Protocol.{tracked_limit}
use Rattle.model.specs.Delivery.{Request, orphans_of}
use Rattle.model.specs.State.{State, has_sync_peer}
use Rattle.model.specs.Image.{bit, field, mode_of, pending_count, evicted_count, pending_of, evicted_of, decode, well_formed}
use Rattle.model.specs.Lists.{entries_of}
use Rattle.model.specs.Calls.{strictly_rising, question_pairs}
use Rattle.model.proofs.FormedLaws.{formed}
use Rattle.commands.specs.Pending.{requests_in}
use Rattle.image.specs.Heads.{head_in}
use Rattle.image.specs.declared.head.Head.{Head}
use Rattle.question.specs.Asked.{asked_pairs}
use Rattle.question.proofs.AnswerLaws.{header, headers_wide, pairs_back, pair_of, orphans_few, orphans_wide}
use Rattle.model.specs.Layout.{area_size, id_size, pair_size, record_size, region_at}

-- from an index to the end, as a slice lends it
abbrev pub behind : ℕ → List ℕ → List ℕ
behind at area = take (length area - at) (drop at area)

pub rest_all : (at : ℕ) (area : List ℕ) → behind at area ≡ drop at area
rest_all at area = take_all (length area - at) (drop at area) (rw (length-drop at area) (omega arith))

-- A well-formed area, and its header.
pub record Area (area : List ℕ) (h : Head) : Type 0 where
  pub long : length area ≡ area_size
  pub well : well_formed area ≡ true
  pub head : h ≡ head_in area

-- where the evicted ids start
abbrev pub evicted_at : ℕ → ℕ
evicted_at count = area_size - count * id_size

-- the pairs asked for stand at the front of `pairs`, where `d` stood
abbrev pub Gathered : List ℕ → Bool → List ℕ → List ℕ → ℕ → Type 0
Gathered area lost d pairs count =
    (pairs ≡ overwritten 0 (joined (asked_pairs (decode area) lost)) d) × (count ≡ length (asked_pairs (decode area) lost))

-- the question's pairs stand at the front of `o`, where `out` stood
abbrev pub Answers : List ℕ → Bool → List ℕ → List ℕ → ℕ → Type 0
Answers area lost out o size =
    (o ≡ overwritten 0 (joined (question_pairs (decode area) (bit lost))) out)
    × (size ≡ length (joined (question_pairs (decode area) (bit lost))))

-- what is asked for, of a state with a sync peer
asked_by : (st : State) → has_sync_peer st.mode ≡ true → (lost : Bool) → question_pairs st (bit lost) ≡ strictly_rising (asked_pairs st lost)
unfolding question_pairs asked_pairs
asked_by st peer true = rw peer
asked_by st peer false = rw peer

module _ {area : List ℕ} {h : Head} (a : Area area h) where
  -- ---- what a well-formed area says of its tables

  pub evicted_few : h.evicted ≤ tracked_limit
  unfolding head_in
  evicted_few = let f = (formed area a.well).tracked in rw a.head (omega arith)

  pub evicted_counted : length (behind (evicted_at h.evicted) area) / id_size ≡ h.evicted
  evicted_counted =
      rw (rest_all (evicted_at h.evicted) area, length-drop (evicted_at h.evicted) area) (omega (arith, evicted_few, a.long))

  pub pending_few : h.pending ≤ tracked_limit
  unfolding head_in
  pending_few = let f = (formed area a.well).tracked in rw a.head (omega arith)

  pub pending_long : h.pending * record_size ≤ length (behind region_at area)
  pending_long = rw (rest_all region_at area, length-drop region_at area) (omega (arith, pending_few, a.long))

  -- ---- what is asked for

  module _ (lost : Bool) (d : List ℕ) {pairs : List ℕ} where
    pub evicted_gathered : lost ≡ false
        → pairs ≡ overwritten 0 (joined (map header (entries_of id_size (behind (evicted_at h.evicted) area)))) d
        → Gathered area lost d pairs h.evicted
    unfolding asked_pairs decode head_in evicted_of
    evicted_gathered f p =
        let rest : List ℕ = drop (evicted_at h.evicted) area in
        let ids : List (List ℕ) = entries id_size h.evicted rest in
        let e : asked_pairs (decode area) lost ≡ map header ids = rw (f, a.head) in
        let n : length (map header ids) ≡ h.evicted = length-map ids header ∙ length_entries id_size h.evicted rest in
        (p ∙ rw (evicted_counted, rest_all (evicted_at h.evicted) area, e), sym (ap length e ∙ n))

    pub pending_gathered : {found : ℕ} → lost ≡ true
        → (found ≡ length (orphans_of h.peer (requests_in h.pending (behind region_at area))))
        × (pairs ≡ overwritten 0 (joined (map pair_of (orphans_of h.peer (requests_in h.pending (behind region_at area))))) d)
        → Gathered area lost d pairs found
    unfolding asked_pairs decode head_in pending_of
    pending_gathered f put =
        let orphans : List Request = orphans_of h.peer (requests_in h.pending (drop region_at area)) in
        let e : asked_pairs (decode area) lost ≡ map pair_of orphans = rw (f, a.head) in
        (put.1 ∙ rw (rest_all region_at area, e), put.0 ∙ rw (rest_all region_at area) (sym (ap length e ∙ length-map orphans pair_of)))

  -- ---- none, or those once and in order

  module _ (lost : Bool) {r : Bool} (m : r ≡ has_sync_peer (mode_of h.mode)) where
    pub no_pairs : (out : List ℕ) → not r ≡ true → Answers area lost out out 0
    unfolding question_pairs decode head_in
    no_pairs out t =
        let none : has_sync_peer (mode_of (head_in area).mode) ≡ false = rw a.head at (sym m ∙ not-true r t) in
        rw none (sym (overwritten_nil 0 out), refl)

    pub all_pairs : not r ≡ false → question_pairs (decode area) (bit lost) ≡ strictly_rising (asked_pairs (decode area) lost)
    unfolding decode head_in
    all_pairs t =
        let some : has_sync_peer (mode_of (head_in area).mode) ≡ true = rw a.head at (sym m ∙ not-false r t) in
        asked_by (decode area) some lost

-- ---- how many, and how long

module _ (area : List ℕ) (lost : Bool) (w : well_formed area ≡ true) where
  abbrev ids_behind : List ℕ
  ids_behind = drop (evicted_at (evicted_count area)) area

  abbrev evicted : List (List ℕ)
  evicted = entries id_size (evicted_count area) ids_behind

  abbrev orphans : List Request
  orphans = orphans_of (field 48 8 area) (requests_in (pending_count area) (drop region_at area))

  few : length (asked_pairs (decode area) lost) ≤ tracked_limit
  unfolding asked_pairs decode pending_of evicted_of
  few =
      let f = (formed area w).tracked in
      let m : length (map header evicted) ≡ evicted_count area = length-map evicted header ∙ length_entries id_size (evicted_count area) ids_behind in
      let n : length (map pair_of orphans) ≡ length orphans = length-map orphans pair_of in
      either (λ (es : List (List ℕ)). length es ≤ tracked_limit) lost (map pair_of orphans) (map header evicted)
      (omega (arith, orphans_few (field 48 8 area) (pending_count area) (drop region_at area))) (omega arith)

  pub asked_few : {count : ℕ} → count ≡ length (asked_pairs (decode area) lost) → count ≤ tracked_limit
  asked_few n = omega (arith, few)

  asked_wide : length area ≡ area_size → Wide pair_size (asked_pairs (decode area) lost)
  unfolding asked_pairs decode pending_of evicted_of
  asked_wide l =
      let f = (formed area w).tracked in
      let m : evicted_count area * id_size ≤ length ids_behind = rw (length-drop (evicted_at (evicted_count area)) area) (omega arith) in
      let n : pending_count area * record_size ≤ length (drop region_at area) = rw (length-drop region_at area) (omega arith) in
      either (Wide pair_size) lost (map pair_of orphans) (map header evicted)
      (orphans_wide (field 48 8 area) (pending_count area) (drop region_at area) n)
      (headers_wide evicted (entries_wide 32 (evicted_count area) ids_behind m))

-- the first pairs of a room, once and in order
abbrev pub rising_in : ℕ → List ℕ → List (List ℕ)
rising_in count pairs = strictly_rising (entries_of pair_size (take (count * pair_size) pairs))

-- the pairs gathered are read back
pub answered : {area : List ℕ} {h : Head} → Area area h → (lost : Bool) (d pairs out : List ℕ) {count size : ℕ} {o : List ℕ}
    → question_pairs (decode area) (bit lost) ≡ strictly_rising (asked_pairs (decode area) lost) → Gathered area lost d pairs count
    → (o ≡ overwritten 0 (joined (rising_in count pairs)) out) × (size ≡ length (joined (rising_in count pairs))) → Answers area lost out o size
answered {area = area} a lost d pairs out {count = count} q g put =
    let e : entries_of pair_size (take (count * pair_size) pairs) ≡ asked_pairs (decode area) lost =
    pairs_back (asked_pairs (decode area) lost) count d pairs (asked_wide area lost a.well a.long) g.1 g.0 in
    let b : rising_in count pairs ≡ question_pairs (decode area) (bit lost) = ap strictly_rising e ∙ sym q in
    (put.0 ∙ ap (λ (ps : List (List ℕ)). overwritten 0 (joined ps) out) b, put.1 ∙ ap (λ (ps : List (List ℕ)). length (joined ps)) b)
