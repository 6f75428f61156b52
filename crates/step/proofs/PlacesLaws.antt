-- The stalled set read from its places, and written to them.
use Prim.Native.Nat.{ℕ, ◌+◌, ◌-◌, ◌*◌, ◌≤◌, ◌<◌}
use mathlib.Core.Path.{◌≡◌, refl, sym, ap, ◌∙◌}
use mathlib.Core.List.{List, [], ◌∷◌, ◌++◌, map, map-append}
use native.Mathlib.Omega.{arith}
use lib.ListN.{length, length-append, length-map}
use Rattle.fields.specs.Number.{from_be, to_be}
use Rattle.fields.specs.Zero.{zeros}
use Rattle.fields.specs.Entries.{entries, joined}
use Rattle.fields.proofs.NumberLaws.{length_to_be, to_be_bytes, to_be_from_be}
use Rattle.fields.proofs.EntriesLaws.{entries_joined}
use Rattle.fields.proofs.PartLaws.{numbers_wide}
use Rattle.plan.specs.declared.Stalling.{Stalling}
use Rattle.plan.specs.declared.Stalling.TheVariants.{Stay, Empty, Join}
use Rattle.step.specs.Stalling.{places_of, stalled_then, stalled_count_then}

-- ---- read

number_again : (width n : ℕ) → to_be width (from_be (to_be width n)) ≡ to_be width n
number_again width n = ap (λ (w : ℕ). to_be w (from_be (to_be width n))) (sym (length_to_be width n)) ∙ to_be_from_be (to_be width n) (to_be_bytes width n)

-- a place holds 64 bits, whatever was written there
numbers_again : (width : ℕ) (ns : List ℕ) → map (to_be width) (map from_be (map (to_be width) ns)) ≡ map (to_be width) ns
numbers_again width [] = refl
numbers_again width (n ∷ ns) = rw (number_again width n, numbers_again width ns)

read_places : (peers : List ℕ) (count : ℕ) → length peers ≡ count → entries 8 count (places_of peers) ≡ map (to_be 8) peers
unfolding places_of
read_places peers count l =
    let n : count ≡ length (map (to_be 8) peers) = sym l ∙ sym (length-map peers (to_be 8)) in
    let rest : List ℕ = zeros ((256 - length peers) * 8) in
    ap (λ (k : ℕ). entries 8 k (joined (map (to_be 8) peers) ++ rest)) n ∙ entries_joined 8 (map (to_be 8) peers) rest (numbers_wide 8 peers)

-- ---- written

-- a set that has the same bytes as these peers
places_written : (held peers places : List ℕ) (count : ℕ)
    → places ≡ joined (map (to_be 8) held) ++ zeros (2048 - 8 * count)
    → map (to_be 8) held ≡ map (to_be 8) peers
    → count ≡ length peers
    → places ≡ places_of peers
unfolding places_of
places_written held peers places count w e n =
    let z : 2048 - 8 * count ≡ (256 - length peers) * 8 = omega arith in
    w ∙ rw (e, z)

-- these peers written to places, and zeros behind them
abbrev pub Writes : List ℕ → ℕ → List ℕ → Type 0
Writes held count places = places ≡ joined (map (to_be 8) held) ++ zeros (2048 - 8 * count)

module _ {held after places places' : List ℕ} {count n m : ℕ} (peer : ℕ)
    (read : held ≡ map from_be (entries 8 count places)) (as_many : n ≡ count)
    (joins : after ≡ held ++ (peer ∷ [])) (one_more : m ≡ n + 1)
    (written : Writes after m places') where
  -- the set read, with one peer more, and written
  pub joined_written : (peers : List ℕ) → length peers ≡ count → places ≡ places_of peers → places' ≡ places_of (peers ++ (peer ∷ []))
  joined_written peers l e =
      let old : map (to_be 8) held ≡ map (to_be 8) peers =
      ap (map (to_be 8)) read
      ∙ ap (λ (x : List ℕ). map (to_be 8) (map from_be (entries 8 count x))) e
      ∙ ap (λ (x : List (List ℕ)). map (to_be 8) (map from_be x)) (read_places peers count l)
      ∙ numbers_again 8 peers in
      let new : map (to_be 8) after ≡ map (to_be 8) (peers ++ (peer ∷ [])) =
      ap (map (to_be 8)) joins
      ∙ map-append (to_be 8) held (peer ∷ [])
      ∙ ap (λ (x : List (List ℕ)). x ++ (to_be 8 peer ∷ [])) old
      ∙ sym (map-append (to_be 8) peers (peer ∷ [])) in
      let k : length (peers ++ (peer ∷ [])) ≡ length peers + 1 = length-append peers (peer ∷ []) in
      places_written after (peers ++ (peer ∷ [])) places' m written new (omega arith)

-- ---- by what becomes of the set

abbrev pub Stalls : Stalling → ℕ → List ℕ → List ℕ → Type 0
Stalls stalling count places places' =
    (peers : List ℕ) → length peers ≡ count → places ≡ places_of peers → places' ≡ places_of (stalled_then stalling peers)

module _ {stalling : Stalling} {count : ℕ} {places : List ℕ} where
  pub stays : stalling ≡ Stay → Stalls stalling count places places
  stays e = λ peers l h. rw e h

  pub empties : {held places' : List ℕ} {n : ℕ}
      → stalling ≡ Empty → held ≡ [] → n ≡ 0 → Writes held n places' → Stalls stalling count places places'
  empties {held} {places'} {n} e none few w = λ peers l h. rw e (places_written held [] places' n w (ap (map (to_be 8)) none) few)

  pub joins : {places' : List ℕ} {peer : ℕ} → stalling ≡ Join peer
      → ((peers : List ℕ) → length peers ≡ count → places ≡ places_of peers → places' ≡ places_of (peers ++ (peer ∷ [])))
      → Stalls stalling count places places'
  joins e w = λ peers l h. rw e (w peers l h)

pub join_room : {stalling : Stalling} {peer : ℕ} (count : ℕ) → stalling ≡ Join peer → stalled_count_then stalling count ≤ 256 → count < 256
join_room count e few =
    let n : count + 1 ≤ 256 = rw e at few in
    omega arith
