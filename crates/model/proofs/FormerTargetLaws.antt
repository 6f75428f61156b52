-- F-8 against F-2: both choices by the same three searches, and where they part.
use Prim.Native.Nat.{ℕ}
use mathlib.Core.Path.{◌≡◌, refl, sym, ap, ◌∙◌}
use mathlib.Core.Bool.{Bool, true, false, not, cond}
use mathlib.Core.Logic.{◌⊎◌, inl, inr, ⊎_elim}
use mathlib.Core.List.{List, [], ◌∷◌}
use mathlib.Core.Option.{Option}
use lib.Dec.{eqb}
use Rattle.fields.specs.Facts.{All}
use Rattle.fields.proofs.MarkLaws.{kept_turned}
use Rattle.model.specs.Peers.{is_listed, first_of, or_else, peer_or, is_some, unstalled, first_unstalled}
use Rattle.model.specs.Check.{others, retry_target}
use Rattle.model.specs.FormerTarget.{former_target, StalledOther, Collide, Compared, TargetsCompared}
use Rattle.model.specs.Promises.Words.{Among, FirstLeft}
use Rattle.model.specs.Promises.Pending.{FailedOrStalled}
use Rattle.model.proofs.Promises.ListLaws.{all_among}
use Rattle.model.proofs.Promises.SearchLaws.{Searched, found, nobody, search_unstalled, search_others, search_neither, first_among}

module _ (stalled_peers peers : List ℕ) (failed : ℕ) where
  abbrev IsStalled : ℕ → Type 0
  IsStalled p = Among p stalled_peers

  abbrev IsFailed : ℕ → Type 0
  IsFailed p = p ≡ failed

  abbrev Passed : ℕ → Type 0
  Passed = FailedOrStalled stalled_peers failed

  abbrev IsStalledOther : ℕ → Type 0
  IsStalledOther p = StalledOther stalled_peers failed p

  abbrev IsNone : ℕ → Type 0
  IsNone p = IsStalledOther p → ⊥

  -- F-2's choice: among the unstalled ones where there is one
  former_searched :
      former_target stalled_peers peers failed
      ≡ peer_or failed
      (cond (is_some (first_unstalled stalled_peers peers)) (first_unstalled stalled_peers (others failed peers)) (first_of (others failed peers)))
  unfolding former_target first_unstalled
  former_searched = go (is_some (first_of (unstalled stalled_peers peers)))
    where
      go :
          (t : Bool)
          → peer_or failed (first_of (others failed (cond t (unstalled stalled_peers peers) peers)))
          ≡ peer_or failed (cond t (first_of (unstalled stalled_peers (others failed peers))) (first_of (others failed peers)))
      go true =
          let turned = kept_turned (λ (p : ℕ). not (eqb p failed)) (λ (p : ℕ). not (is_listed p stalled_peers)) peers in
          ap (λ (l : List ℕ). peer_or failed (first_of l)) turned
      go false = refl

  -- how a former answer and one of now can stand to each other
  data Stand (former now : ℕ) : Type 0 where
    alike : former ≡ now → (Collide stalled_peers peers failed → ⊥) → Stand former now
    apart : Collide stalled_peers peers failed → former ≡ failed → IsStalledOther now → FirstLeft IsNone peers now → Stand former now

  -- where all that come before the first other peer failed, none of them is a stalled other
  none_before : {other : ℕ} (listed : List ℕ) → IsStalledOther other → FirstLeft IsFailed listed other → FirstLeft IsNone listed other
  none_before [] s f = absurd f
  none_before (p ∷ listed) s (inl f) = inl (λ t. t.1 f.0, none_before listed s f.1)
  none_before (p ∷ listed) s (inr f) = inr (λ n. n (rw f.1 at s), f.1)

  -- the failed peer alone has not stalled, and a stalled other is listed
  parted : (free other : ℕ) → FirstLeft IsStalled peers free → All Passed peers → FirstLeft IsFailed peers other → Stand failed other
  parted free other f all g =
      let one = first_among IsStalled peers free f in
      let two = first_among IsFailed peers other g in
      let stalled : IsStalled other = ⊎_elim (λ e. absurd (two.1 e)) (λ s. s) (all_among Passed other peers all two.0) in
      apart
      (record {
        unstalled = (free, one.0, one.1);
        all_failed = λ p m n. ⊎_elim (λ e. e) (λ s. absurd (n s)) (all_among Passed p peers all m);
        stalled_other = (other, two.0, (stalled, two.1));
      })
      refl (stalled, two.1) (none_before peers (stalled, two.1) g)

  stand :
      (free neither other : Option ℕ) → Searched IsStalled peers free → Searched Passed peers neither → Searched IsFailed peers other
      → Stand (peer_or failed (cond (is_some free) neither other)) (peer_or failed (or_else neither other))
  stand free neither other (found z f) (found x g) o =
      let k = first_among Passed peers x g in
      alike refl (λ c. k.1 (inl (c.all_failed x k.0 (λ s. k.1 (inr s)))))
  stand free neither other (nobody w) (found x g) o =
      let k = first_among Passed peers x g in
      absurd (k.1 (inr (all_among IsStalled x peers w k.0)))
  stand free neither other (nobody w) (nobody v) o = alike refl (λ c. c.unstalled.2 (all_among IsStalled c.unstalled.0 peers w c.unstalled.1))
  stand free neither other (found z f) (nobody v) (nobody u) =
      alike refl (λ c. c.stalled_other.2.1 (all_among IsFailed c.stalled_other.0 peers u c.stalled_other.1))
  stand free neither other (found z f) (nobody v) (found y g) = parted z y f v g

  compared :
      {former now : ℕ} → former_target stalled_peers peers failed ≡ former → retry_target stalled_peers peers failed ≡ now
      → Stand former now → Compared stalled_peers peers failed
  compared f n (alike e not) =
      let same = f ∙ e ∙ sym n in
      record {
        change = (λ d. absurd (d same), λ c. absurd (not c));
        stay = λ c. same;
        formerly = λ c. absurd (not c);
        now = λ c. absurd (not c);
        first = λ c. absurd (not c);
      }
  compared f n (apart c e other first) =
      record {
        change = (λ d. c, λ c same. other.1 (sym n ∙ sym same ∙ f ∙ e));
        stay = λ not. absurd (not c);
        formerly = λ c. f ∙ e;
        now = λ c. rw n other;
        first = λ c. rw n first;
      }

pub targets_compared : TargetsCompared
unfolding retry_target
targets_compared stalled_peers peers failed =
    compared stalled_peers peers failed (former_searched stalled_peers peers failed) refl
    (stand stalled_peers peers failed
    (first_unstalled stalled_peers peers) (first_unstalled stalled_peers (others failed peers)) (first_of (others failed peers))
    (search_unstalled stalled_peers peers) (search_neither stalled_peers peers failed) (search_others stalled_peers peers failed))
