-- F-8: where a retry goes: the rule's words against those of a user.
use Prim.Native.Nat.{ℕ}
use mathlib.Core.Path.{◌≡◌, refl, sym, ◌∙◌}
use mathlib.Core.Logic.{◌⊎◌, inl}
use mathlib.Core.Option.{Option}
use Rattle.fields.specs.Facts.{All}
use Rattle.fields.proofs.AllLaws.{all_weaker}
use Rattle.model.specs.Peers.{first_of, or_else, peer_or, first_unstalled}
use Rattle.model.specs.Check.{others, retry_target}
use Rattle.model.specs.Promises.Words.{Seen, peers}
use Rattle.model.specs.Promises.Pending.{FailedOrStalled, Turns, unstalled, other, again}
use Rattle.model.proofs.Promises.SearchLaws.{Searched, found, nobody, search_others, search_neither, first_only, first_not_all}

abbrev pub target_in : Seen → ℕ → ℕ
target_in s = retry_target s.before.sync.stalled_peers (peers s)

module _ (s : Seen) where
  pub turns : (failed : ℕ) → Turns s failed (target_in s failed)
  unfolding retry_target
  turns failed =
      go (first_unstalled s.before.sync.stalled_peers (others failed (peers s))) (first_of (others failed (peers s)))
      (search_neither s.before.sync.stalled_peers (peers s) failed) (search_others s.before.sync.stalled_peers (peers s) failed)
    where
      go :
          (free first : Option ℕ) → Searched (FailedOrStalled s.before.sync.stalled_peers failed) (peers s) free
          → Searched (λ (p : ℕ). p ≡ failed) (peers s) first → Turns s failed (peer_or failed (or_else free first))
      go free first (found p f) o = unstalled f
      go free first (nobody w) (found p f) = other w f
      go free first (nobody w) (nobody v) = again v refl

  module _ (failed : ℕ) where
    abbrev IsFailed : ℕ → Type 0
    IsFailed p = p ≡ failed

    abbrev Passed : ℕ → Type 0
    Passed = FailedOrStalled s.before.sync.stalled_peers failed

    all_passed : All IsFailed (peers s) → All Passed (peers s)
    all_passed v = all_weaker IsFailed Passed (λ p e. inl e) (peers s) v

    one_target : {one two : ℕ} → Turns s failed one → Turns s failed two → one ≡ two
    one_target {one} {two} (unstalled f) (unstalled g) = first_only Passed (peers s) one two f g
    one_target {one} (unstalled f) (other w g) = absurd (first_not_all Passed (peers s) one f w)
    one_target {one} (unstalled f) (again v e) = absurd (first_not_all Passed (peers s) one f (all_passed v))
    one_target {one} {two} (other w f) (unstalled g) = absurd (first_not_all Passed (peers s) two g w)
    one_target {one} {two} (other w f) (other v g) = first_only IsFailed (peers s) one two f g
    one_target {one} (other w f) (again v e) = absurd (first_not_all IsFailed (peers s) one f v)
    one_target {one} {two} (again v e) (unstalled g) = absurd (first_not_all Passed (peers s) two g (all_passed v))
    one_target {one} {two} (again v e) (other w g) = absurd (first_not_all IsFailed (peers s) two g v)
    one_target (again v e) (again w d) = e ∙ sym d

  pub turns_only : {failed peer : ℕ} → Turns s failed peer → peer ≡ target_in s failed
  turns_only {failed} t = one_target failed t (turns failed)
