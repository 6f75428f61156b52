-- The peers that a call lists: the first, those behind it, and the searches for one that passes a test.
use Rattle.std.proofs.Common.{ℕ, suc, ◌+◌, ◌*◌, ◌/◌, ◌≤◌, ◌<◌, ◌≡◌, ap, ◌∙◌, Bool, true, false, List, [], ◌∷◌, map, length, take}
use Rattle.std.proofs.Common.{drop, length-drop, arith}
use Rattle.std.proofs.Math.Option.{none, some}
use Rattle.std.proofs.Math.Seq.{drop-drop}
use Rattle.fields.specs.Number.{from_be}
use Rattle.fields.specs.Entries.{entries}
use Rattle.fields.specs.Filter.{kept}
use Rattle.model.specs.Peers.{first_of}
use Rattle.model.specs.Lists.{peers_in}

pub peers_none : (bytes : List ℕ) → length bytes < 8 → peers_in bytes ≡ []
unfolding peers_in
peers_none bytes h =
    let e : length bytes / 8 ≡ 0 = omega arith in
    rw e

pub peers_first : (bytes : List ℕ) → 8 ≤ length bytes → peers_in bytes ≡ from_be (take 8 bytes) ∷ peers_in (drop 8 bytes)
unfolding peers_in
peers_first bytes h =
    let e : length bytes / 8 ≡ suc (length (drop 8 bytes) / 8) = rw length-drop (omega arith) in
    ap (λ (n : ℕ). map from_be (entries 8 n bytes)) e

-- those from index i on
pub peers_next : (bytes : List ℕ) (i : ℕ) → i < length bytes / 8
    → peers_in (drop (i * 8) bytes) ≡ from_be (take 8 (drop (i * 8) bytes)) ∷ peers_in (drop ((i + 1) * 8) bytes)
peers_next bytes i h =
    let e : i * 8 + 8 ≡ (i + 1) * 8 = omega arith in
    peers_first (drop (i * 8) bytes) (rw length-drop (omega arith)) ∙ rw (drop-drop 8 (i * 8) bytes, e)

pub peers_end : (bytes : List ℕ) (i : ℕ) → length bytes / 8 ≤ i → peers_in (drop (i * 8) bytes) ≡ []
peers_end bytes i h = peers_none (drop (i * 8) bytes) (rw length-drop (omega arith))

-- ---- the search, peer by peer

module _ (bytes : List ℕ) (i : ℕ) (test : ℕ → Bool) where
  module _ {peer : ℕ} (h : i < length bytes / 8) (e : peer ≡ from_be (take 8 (drop (i * 8) bytes))) where
    pub passes_here : true ≡ test peer → first_of (kept test (peers_in (drop (i * 8) bytes))) ≡ some peer
    passes_here t = rw (peers_next bytes i h, ← e, ← t)

    pub passes_later : false ≡ test peer → first_of (kept test (peers_in (drop (i * 8) bytes))) ≡ first_of (kept test (peers_in (drop ((i + 1) * 8) bytes)))
    passes_later t = rw (peers_next bytes i h, ← e, ← t)

  pub passes_end : length bytes / 8 ≤ i → first_of (kept test (peers_in (drop (i * 8) bytes))) ≡ none
  passes_end h = rw (peers_end bytes i h)
