-- The first peer that a search finds, and that there is no other first one.
use Prim.Native.Nat.{ℕ}
use mathlib.Core.Path.{◌≡◌, refl, sym, ◌∙◌}
use mathlib.Core.Bool.{Bool, true, false, not, ◌&&◌}
use mathlib.Core.Logic.{◌⊎◌, inl, inr}
use mathlib.Core.List.{List, [], ◌∷◌}
use mathlib.Core.Option.{Option, none, some}
use lib.Dec.{eqb}
use Rattle.fields.specs.Facts.{All}
use Rattle.fields.specs.Filter.{cons_if, kept}
use Rattle.fields.proofs.MarkLaws.{kept_kept}
use Rattle.model.specs.Peers.{is_listed, first_of, first_unstalled}
use Rattle.model.specs.Check.{others}
use Rattle.model.specs.Promises.Words.{Among, FirstLeft}
use Rattle.model.specs.Promises.Pending.{FailedOrStalled}
use Rattle.model.proofs.Promises.TellsLaws.{Tells, is_tells, both_tell}
use Rattle.model.proofs.Promises.WordLaws.{listed_tells}

-- the first that is not out, or that all are
pub data Searched (Out : ℕ → Type 0) (peers : List ℕ) : Option ℕ → Type 0 where
  found : (peer : ℕ) → FirstLeft Out peers peer → Searched Out peers (some peer)
  nobody : All Out peers → Searched Out peers none

module _ (Out : ℕ → Type 0) where
  -- by a test that tells who is out
  pub searched :
      (test : ℕ → Bool) → ((p : ℕ) → Tells (test p) (Out p)) → (peers : List ℕ)
      → Searched Out peers (first_of (kept test peers))
  searched test tells [] = nobody tt
  searched test tells (p ∷ peers) = go (test p) (tells p) (searched test tells peers)
    where
      behind : (o : Option ℕ) → Out p → Searched Out peers o → Searched Out (p ∷ peers) o
      behind o h (found peer f) = found peer (inl (h, f))
      behind o h (nobody w) = nobody (h, w)

      go :
          (t : Bool) → Tells t (Out p) → Searched Out peers (first_of (kept test peers))
          → Searched Out (p ∷ peers) (first_of (cons_if t p (kept test peers)))
      go true e s = found p (inr (e.passed refl, refl))
      go false e s = behind (first_of (kept test peers)) (e.failed refl) s

  pub first_among : (peers : List ℕ) (peer : ℕ) → FirstLeft Out peers peer → Among peer peers × (Out peer → ⊥)
  first_among [] peer f = absurd f
  first_among (p ∷ peers) peer (inl f) = let k = first_among peers peer f.1 in (inr k.0, k.1)
  first_among (p ∷ peers) peer (inr f) = (inl f.1, rw f.1 f.0)

  pub first_only : (peers : List ℕ) (one other : ℕ) → FirstLeft Out peers one → FirstLeft Out peers other → one ≡ other
  first_only [] one other f g = absurd f
  first_only (p ∷ peers) one other (inl f) (inl g) = first_only peers one other f.1 g.1
  first_only (p ∷ peers) one other (inl f) (inr g) = absurd (g.0 f.0)
  first_only (p ∷ peers) one other (inr f) (inl g) = absurd (f.0 g.0)
  first_only (p ∷ peers) one other (inr f) (inr g) = f.1 ∙ sym g.1

  pub first_not_all : (peers : List ℕ) (peer : ℕ) → FirstLeft Out peers peer → All Out peers → ⊥
  first_not_all [] peer f all = f
  first_not_all (p ∷ peers) peer (inl f) all = first_not_all peers peer f.1 all.1
  first_not_all (p ∷ peers) peer (inr f) all = f.0 all.0

module _ (stalled_peers peers : List ℕ) where
  abbrev is_free : ℕ → Bool
  is_free p = not (is_listed p stalled_peers)

  pub search_unstalled : Searched (λ (p : ℕ). Among p stalled_peers) peers (first_unstalled stalled_peers peers)
  unfolding first_unstalled
  search_unstalled = searched (λ (p : ℕ). Among p stalled_peers) is_free (λ (p : ℕ). listed_tells p stalled_peers) peers

  module _ (failed : ℕ) where
    abbrev is_other : ℕ → Bool
    is_other p = not (eqb p failed)

    pub search_others : Searched (λ (p : ℕ). p ≡ failed) peers (first_of (others failed peers))
    search_others = searched (λ (p : ℕ). p ≡ failed) is_other (λ (p : ℕ). is_tells p failed) peers

    abbrev passes : ℕ → Bool
    passes p = is_other p && is_free p

    tells : (p : ℕ) → Tells (passes p) (FailedOrStalled stalled_peers failed p)
    tells p = both_tell (is_tells p failed) (λ e. listed_tells p stalled_peers)

    pub search_neither : Searched (FailedOrStalled stalled_peers failed) peers (first_unstalled stalled_peers (others failed peers))
    unfolding first_unstalled
    search_neither = rw (kept_kept is_free is_other peers) (searched (FailedOrStalled stalled_peers failed) passes tells peers)
