-- F-8 against F-2: which retries go elsewhere than they went before.
use Rattle.std.specs.Prelude.{ℕ, ◌≡◌, ◌↔◌, cond, List}
use Rattle.model.specs.Peers.{first_of, peer_or, is_some, unstalled, first_unstalled}
use Rattle.model.specs.Check.{others, retry_target}
use Rattle.model.specs.Promises.Words.{Among, FirstLeft}

-- F-2: "Consider the listed peers not stalled, or all listed ones when every one is stalled."
abbrev pub considered : List ℕ → List ℕ → List ℕ
considered stalled_peers peers = cond (is_some (first_unstalled stalled_peers peers)) (unstalled stalled_peers peers) peers

-- F-2: "Take the first of these other than the failed peer; if there is none, the failed peer."
unfoldable pub former_target : List ℕ → List ℕ → ℕ → ℕ
former_target stalled_peers peers failed = peer_or failed (first_of (others failed (considered stalled_peers peers)))

abbrev pub StalledOther : List ℕ → ℕ → ℕ → Type 0
StalledOther stalled_peers failed p = Among p stalled_peers × (p ≡ failed → ⊥)

-- Where "the two rules for passing peers over can collide".
pub record Collide (stalled_peers peers : List ℕ) (failed : ℕ) : Type 0 where
  -- "at least one listed peer isn't stalled"
  pub unstalled : (p : ℕ) × Among p peers × (Among p stalled_peers → ⊥)
  -- "all such are the failed peer"
  pub all_failed : (p : ℕ) → Among p peers → (Among p stalled_peers → ⊥) → p ≡ failed
  -- "a stalled other peer is listed"
  pub stalled_other : (p : ℕ) × Among p peers × StalledOther stalled_peers failed p

-- "Old answers that change are exactly those where" they collide. "Show that no other choice differs."
pub record Compared (stalled_peers peers : List ℕ) (failed : ℕ) : Type 0 where
  pub change : (former_target stalled_peers peers failed ≡ retry_target stalled_peers peers failed → ⊥) ↔ Collide stalled_peers peers failed
  pub stay : (Collide stalled_peers peers failed → ⊥) → former_target stalled_peers peers failed ≡ retry_target stalled_peers peers failed
  -- "formerly the failed peer"
  pub formerly : Collide stalled_peers peers failed → former_target stalled_peers peers failed ≡ failed
  -- "now the first stalled other"
  pub now : Collide stalled_peers peers failed → StalledOther stalled_peers failed (retry_target stalled_peers peers failed)
  pub first :
      Collide stalled_peers peers failed
      → FirstLeft (λ (p : ℕ). StalledOther stalled_peers failed p → ⊥) peers (retry_target stalled_peers peers failed)

abbrev pub TargetsCompared : Type 0
TargetsCompared = (stalled_peers peers : List ℕ) (failed : ℕ) → Compared stalled_peers peers failed
