-- The image of a finished step, from its parts.
use Prim.Native.Nat.{ℕ, ◌+◌}
use mathlib.Core.Path.{◌≡◌, sym, ap, ◌∙◌}
use mathlib.Core.List.{List, ◌++◌, map, append_assoc}
use native.Mathlib.Omega.{arith}
use lib.ListN.{length, take, drop, take-append-drop}
use lib.Seq.{take_at, drop-drop, drop-append-le, length-take-le}
use borrow.Rule.Slice.PartMut.{mid_of, put_mid, mid_len}
use Rattle.fields.specs.Number.{to_be}
use Rattle.fields.specs.Zero.{zeros}
use Rattle.fields.specs.Overwrite.{overwritten}
use Rattle.fields.specs.Entries.{joined}
use Rattle.fields.proofs.ZeroLaws.{length_zeros}
use Rattle.fields.proofs.OverwriteLaws.{drop_take}
use Rattle.model.specs.State.{State}
use Rattle.model.specs.Image.{encode}
use Rattle.model.proofs.ImageLaws.{Sized, header_free, from_stalled, take_header, drop_header}
use Rattle.image.specs.declared.head.Head.{Head}
use Rattle.image.specs.Heads.{head_bytes, head_of}
use Rattle.image.proofs.HeadLaws.{head_of_lem, length_head}
use Rattle.plan.specs.declared.Stalling.{Stalling}
use Rattle.work.specs.Worked.{region_of}
use Rattle.step.specs.Stalling.{places_of, stalled_then}
use Rattle.step.proofs.PlacesLaws.{Stalls}
use Rattle.step.specs.Finished.{completed}
use Rattle.model.specs.Layout.{area_size, peer_size, region_at}

-- ---- header and places written into the image

pub completed_by : (h : Head) (places image : List ℕ) → length image ≡ area_size → length places ≡ 2048
    → overwritten 0 (head_bytes h) (put_mid 512 2048 image places) ≡ completed h places image
unfolding overwritten completed
completed_by h places image l n =
    let a : 0 + length (head_bytes h) ≡ 74 = omega (arith, length_head h) in
    let front : List ℕ = take 512 image in
    let lf : length front ≡ 512 = length-take-le 512 image (omega arith) in
    let tail : List ℕ = places ++ drop 2048 (drop 512 image) in
    let d : drop 74 (front ++ tail) ≡ drop 74 front ++ tail = drop-append-le 74 front tail (omega arith) in
    let e : drop 74 front ≡ take 438 (drop 74 image) = drop_take 74 438 image in
    rw (a, d, e, drop-drop 2048 512 image)

pub completes : (stalling : Stalling) (h : Head) (image : List ℕ) {count : ℕ} {places image' : List ℕ}
    → length image ≡ area_size
    → length places ≡ length (mid_of 512 2048 image)
    → Stalls stalling count (mid_of 512 2048 image) places
    → image' ≡ overwritten 0 (head_bytes h) (put_mid 512 2048 image places)
    → (peers : List ℕ) → length peers ≡ count → take 2048 (drop 512 image) ≡ places_of peers
    → image' ≡ completed h (places_of (stalled_then stalling peers)) image
completes stalling h image {places = places} l n s w peers m e =
    let k : length places ≡ 2048 = n ∙ mid_len 512 region_at image (omega arith) in
    w ∙ completed_by h places image l k ∙ ap (λ (x : List ℕ). completed h x image) (s peers m e)

-- ---- the image of a state

pub completed_encode : (st st' : State) (z : Sized st) (z' : Sized st') (image : List ℕ)
    → take 438 (drop 74 image) ≡ take 438 (drop 74 (encode st))
    → drop region_at image ≡ region_of st'.pending st'.sync.evicted
    → completed (head_of st') (places_of st'.sync.stalled_peers) image ≡ encode st'
unfolding completed places_of region_of
completed_encode st st' z z' image e r =
    let free : take 438 (drop 74 image) ≡ zeros header_free =
    e ∙ ap (take 438) (drop_header st z) ∙ take_at (zeros header_free) (from_stalled st) 438 (length_zeros header_free) in
    let peers : List ℕ = joined (map (to_be peer_size) st'.sync.stalled_peers) in
    rw (free, r, head_of_lem st', ← take_header st' z', append_assoc peers)
    (ap (λ (x : List ℕ). take 74 (encode st') ++ x) (sym (drop_header st' z')) ∙ take-append-drop 74 (encode st'))
