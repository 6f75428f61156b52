-- Refusals: what each number from 4 to 11 says of a call, in words, and that it is given exactly then.
use Rattle.std.specs.Prelude.{ℕ, suc, ◌+◌, ◌*◌, ◌≤◌, ◌<◌, ◌^◌, ◌≡◌, false, ◌⊎◌, List, [], ◌∷◌, length, get_or, drop}
use Rattle.std.proofs.Math.Option.{none}
use Rattle.fields.specs.Order.{before}
use Rattle.fields.specs.Entries.{entry}
use Rattle.model.specs.Image.{field, well_formed}
use Rattle.model.specs.Steps.{after}
use Rattle.model.specs.Calls.{Call, args_of, step}
use Rattle.model.specs.Promises.Numbers
use Rattle.model.specs.Promises.Words.{Seen, seen, peers, view}
use Rattle.model.specs.Promises.Outcomes.{Taken}
use Rattle.model.specs.Promises.Heights.{Complete, LooksOn, StartsFrom}
use Rattle.model.specs.Promises.Asked.{Present, NextSections}

-- Of `seen` only the image before and the arguments are read here: a refused call has no more to show.

-- 4: "clock before the last finished step's or the opening's"
abbrev pub Early : Seen → Type 0
Early s = s.call.clock < s.before.last_clock

-- 5: "step unknown or not of this mode, a flag not 0 or 1, or a send failure after anything but an entry that sent"
pub data NotNow (s : Seen) : Type 0 where
  not_taken : (Taken s.before.mode s.call.kind → ⊥) → NotNow s
  gate : 1 < s.call.gate → NotNow s
  parsed : 1 < s.call.parsed → NotNow s
  has_tip : 1 < s.call.hastip → NotNow s
  not_entered : s.call.kind ≡ Numbers.send_failure → s.before.sync.entry_sent ≡ false → NotNow s

-- no whole entries, or too many
abbrev pub BadList : ℕ → ℕ → List ℕ → Type 0
BadList size most bytes = (count : ℕ) → count ≤ most → length bytes ≡ count * size → ⊥

-- 6: "id or stored list of bad length, order or size"
pub data BadIds (s : Seen) : Type 0 where
  ids : BadList 32 1024 s.call.ids → BadIds s
  -- a needed modifier is one id
  not_one : s.call.kind ≡ Numbers.needed_modifier → (length s.call.ids ≡ 32 → ⊥) → BadIds s
  continuation : BadList 32 400 s.call.continuation → BadIds s
  stored : BadList 34 1024 s.call.stored → BadIds s
  -- a pair that does not come before the next one
  order :
      (i : ℕ) → (i + 2) * 34 ≤ length s.call.stored → before (entry 34 i s.call.stored) (entry 34 (suc i) s.call.stored) ≡ false
      → BadIds s

-- 7: "peer list of bad length or size"
abbrev pub BadPeers : Seen → Type 0
BadPeers s = BadList 8 128 s.call.peers

-- the count byte of a row: how many places it has
pub data Places (row : List ℕ) : ℕ → Type 0 where
  absent : get_or row 0 0 ≡ 255 → Places row 0
  counted : (get_or row 0 0 ≡ 255 → ⊥) → Places row (get_or row 0 0)

-- "count 0 to 3 or 255 (header absent), then three places of type, id, stored 0 or 1; unused places zero"
pub data BadRow (row : List ℕ) : Type 0 where
  count : (n : ℕ) → Places row n → 3 < n → BadRow row
  flag : (n i : ℕ) → Places row n → i < n → 1 < get_or row (i * 35 + 35) 0 → BadRow row
  unused : (n i : ℕ) → Places row n → n * 35 < i → i < 106 → (get_or row i 0 ≡ 0 → ⊥) → BadRow row

-- 8: "malformed row or length"
pub data BadView (view : List ℕ) : Type 0 where
  size : ((rows : ℕ) → length view ≡ 4 + rows * 106 → ⊥) → BadView view
  past_end : (rows : ℕ) → length view ≡ 4 + rows * 106 → 2 ^ 32 < field 0 4 view + rows → BadView view
  row : (rows i : ℕ) → length view ≡ 4 + rows * 106 → i < rows → BadRow (entry 106 i (drop 4 view)) → BadView view

-- ---- 9, by the heights that a step reads

-- where the downloaded height would stand: as in the promises on heights
pub record Reached (s : Seen) (from height : ℕ) : Type 0 where
  pub rises : from ≤ height
  pub over_complete : (h : ℕ) → from < h → h ≤ height → Complete (view s h) × (h ≤ s.call.height)
  pub as_far : (s.call.height ≤ height) ⊎ (Complete (view s (height + 1)) → ⊥)

pub data AsksFrom (s : Seen) (height : ℕ) : Type 0 where
  -- a reorg and a section tick raise the height first
  raised : (from : ℕ) → LooksOn s → StartsFrom s from → Reached s from height → AsksFrom s height
  as_it_stands : (LooksOn s → ⊥) → height ≡ s.before.sync.downloaded → AsksFrom s height

-- A height that the step reads.
pub data Reads (s : Seen) (height : ℕ) : Type 0 where
  -- rule 5: up to our chain height, behind heights that are complete
  looking_on :
      (from : ℕ) → LooksOn s → StartsFrom s from → from < height → height ≤ s.call.height
      → ((h : ℕ) → from < h → h < height → Complete (view s h)) → Reads s height
  -- rule 4, with somebody listed: the window, behind headers that are there
  asking :
      (from : ℕ) → NextSections s → (peers s ≡ [] → ⊥) → AsksFrom s from → from < height → height ≤ from + 192 → height ≤ s.call.height
      → ((h : ℕ) → from < h → h < height → Present (view s h)) → Reads s height

-- 9: "a rule would read a height, up to chain height, outside it"
pub data Unseen (s : Seen) : Type 0 where
  outside : (height : ℕ) → Reads s height → view s height ≡ none → Unseen s

-- 10: "pending + evicted after the step would pass 1,024"; 11: "a 257th stalled peer"
abbrev pub Overfull : Seen → Type 0
Overfull s = 1024 < length (after s.before (args_of s.call)).pending + length (after s.before (args_of s.call)).sync.evicted

abbrev pub TooManyStalled : Seen → Type 0
TooManyStalled s = 256 < length (after s.before (args_of s.call)).sync.stalled_peers

-- ---- exactly

-- The first of these that holds gives its number, counted from `first` on; if none holds, the number is 0.
abbrev pub FirstWrong : ℕ → ℕ → List (Type 0) → Type 0
FirstWrong number first [] = number ≡ 0
FirstWrong number first (Wrong ∷ others) = (Wrong × (number ≡ first)) ⊎ ((Wrong → ⊥) × FirstWrong number (suc first) others)

-- What the numbers from 4 to 11 say.
abbrev pub wrongs : Seen → List (Type 0)
wrongs s = Early s ∷ NotNow s ∷ BadIds s ∷ BadPeers s ∷ BadView s.call.view ∷ Unseen s ∷ Overfull s ∷ TooManyStalled s ∷ []

-- What 1, 2 and 3 say of the areas, in front of them. What "malformed" means is `well_formed`, held by the round trips of images.
abbrev pub all_wrongs : List ℕ → List ℕ → Seen → List (Type 0)
all_wrongs state area s = (length state ≡ 65536 → ⊥) ∷ (well_formed state ≡ false) ∷ (length area < 65536) ∷ wrongs s

pub record Answered (state area : List ℕ) (call : Call) : Type 0 where
  -- "Checked in this order."
  pub first : FirstWrong (step state area call).answer.number 1 (all_wrongs state area (seen state area call))
  -- "Each gives its number, all else 0, both areas untouched."
  pub untouched :
      ((step state area call).answer.number ≡ 0 → ⊥)
      → step state area call
      ≡ record {
        answer =
            record {
              number = (step state area call).answer.number;
              outcome = 0;
              retried = 0;
              fresh = 0;
              abandoned = 0;
              forgotten = 0;
              pending = 0;
              evicted = 0;
              length = 0;
            };
        state = state;
        commands = area;
      }

-- Of any call on any areas.
abbrev pub Refusals : Type 0
Refusals = (state area : List ℕ) (call : Call) → Answered state area call
