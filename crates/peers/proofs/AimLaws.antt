-- Two targets serve whatever failed: the selected peer is the target of all that failed elsewhere.
use Prim.Native.Nat.{ℕ}
use mathlib.Core.Path.{◌≡◌, refl, sym, ◌∙◌}
use mathlib.Core.Bool.{Bool, true, false, not, cond}
use mathlib.Core.List.{List, [], ◌∷◌}
use mathlib.Core.Option.{some, none, some-injective}
use lib.Dec.{eqb}
use borrow.Author.Tests.{eqb-true, eqb-false, ne_eqb}
use Rattle.fields.specs.Filter.{kept}
use Rattle.fields.proofs.MarkLaws.{kept_turned}
use Rattle.model.specs.Peers.{is_listed, first_of, or_else, peer_or, unstalled, first_unstalled, select_peer}
use Rattle.model.specs.Check.{others, retry_target}
use Rattle.peers.specs.Aims.{aimed_at}
use Rattle.peers.specs.declared.aim.Aim.TheVariants.{Same, Other}

-- the first of a list stays the first of what passes a test, if it passes itself
first_stays : (test : ℕ → Bool) (xs : List ℕ) {x : ℕ} → first_of xs ≡ some x → test x ≡ true → first_of (kept test xs) ≡ some x
first_stays test [] e t = cc
first_stays test (y ∷ ys) {x} e t = let s : y ≡ x = some-injective y x e in rw (s, t)

module _ (stalled peers : List ℕ) where
  abbrev is_free : ℕ → Bool
  is_free p = not (is_listed p stalled)

  abbrev is_other : ℕ → ℕ → Bool
  is_other failed p = not (eqb p failed)

  -- what failed elsewhere goes to the selected peer
  elsewhere : {first failed : ℕ} → some first ≡ select_peer stalled peers → (failed ≡ first → ⊥) → first ≡ retry_target stalled peers failed
  unfolding select_peer retry_target first_unstalled
  elsewhere {first} {failed} e apart = rw (kept_turned is_free (is_other failed) peers) (sym (go (unstalled stalled peers) peers (sym e)))
    where
      passes : is_other failed first ≡ true
      passes = rw (ne_eqb first failed (λ s. apart (sym s)))

      go : (free listed : List ℕ) → or_else (first_of free) (first_of listed) ≡ some first
          → peer_or failed (or_else (first_of (kept (is_other failed) free)) (first_of (kept (is_other failed) listed))) ≡ first
      go [] listed e = rw (first_stays (is_other failed) listed e passes)
      go (q ∷ free) listed e = rw (first_stays (is_other failed) (q ∷ free) e passes)

  aim_other : {first other : ℕ} → some first ≡ select_peer stalled peers → other ≡ retry_target stalled peers first
      → (failed : ℕ) → aimed_at (Other first other) failed ≡ retry_target stalled peers failed
  aim_other {first} {other} e o failed = go (eqb failed first) refl
    where
      go : (t : Bool) → eqb failed first ≡ t → cond t other first ≡ retry_target stalled peers failed
      go true s = let same : failed ≡ first = eqb-true failed first s in rw (o, same)
      go false n = elsewhere e (eqb-false failed first n)

  -- ---- a listed peer has not stalled: it is selected

  free_selected : {first : ℕ} → some first ≡ first_unstalled stalled peers → some first ≡ select_peer stalled peers
  unfolding select_peer
  free_selected e = rw (← e)

  pub aim_free : {first other : ℕ} → some first ≡ first_unstalled stalled peers → other ≡ retry_target stalled peers first
      → (failed : ℕ) → aimed_at (Other first other) failed ≡ retry_target stalled peers failed
  aim_free e o = aim_other (free_selected e) o

  -- ---- every listed peer has stalled: the first is selected, and where it failed the first other comes

  module _ (all : none ≡ first_unstalled stalled peers) where
    first_selected : {first : ℕ} → some first ≡ first_of peers → some first ≡ select_peer stalled peers
    unfolding select_peer
    first_selected e = rw (← all, ← e)

    only_others : (failed : ℕ) → peer_or failed (first_of (others failed peers)) ≡ retry_target stalled peers failed
    unfolding retry_target first_unstalled
    only_others failed = rw (kept_turned is_free (is_other failed) peers) (go (unstalled stalled peers) all)
      where
        go : (free : List ℕ) → none ≡ first_of free
            → peer_or failed (first_of (others failed peers))
            ≡ peer_or failed (or_else (first_of (kept (is_other failed) free)) (first_of (others failed peers)))
        go [] e = refl
        go (q ∷ free) e = cc

    pub aim_stalled : {first other : ℕ} → some first ≡ first_of peers → other ≡ peer_or first (first_of (others first peers))
        → (failed : ℕ) → aimed_at (Other first other) failed ≡ retry_target stalled peers failed
    aim_stalled {first} e o = aim_other (first_selected e) (o ∙ only_others first)

    pub aim_nobody : none ≡ first_of peers → (failed : ℕ) → aimed_at Same failed ≡ retry_target stalled peers failed
    aim_nobody e failed = go peers e ∙ only_others failed
      where
        go : (listed : List ℕ) → none ≡ first_of listed → failed ≡ peer_or failed (first_of (others failed listed))
        go [] e = refl
        go (q ∷ listed) e = cc
