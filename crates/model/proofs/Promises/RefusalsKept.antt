-- Refusals, proved: a call gets the first number whose condition in words holds, and 0 if none does; a refusal touches nothing.
use Prim.Native.Nat.{ℕ, zero, suc, ◌+◌, ◌<◌}
use mathlib.Core.Path.{◌≡◌, refl, sym}
use mathlib.Core.Bool.{Bool, true, false}
use mathlib.Core.Logic.{inl, inr}
use mathlib.Core.List.{List, [], ◌∷◌}
use native.Mathlib.Omega.{arith}
use lib.ListN.{length}
use Rattle.model.specs.Layout.{area_size}
use Rattle.model.specs.Protocol.{tracked_limit, stalled_limit}
use Rattle.model.specs.Steps.{plan, after}
use Rattle.model.specs.Image.{well_formed}
use Rattle.model.specs.Calls.{Call, unless, args_of, call_fits, result_refusal, call_refusal, step_refusal, step}
use Rattle.model.specs.Promises.Words.{Seen, seen}
use Rattle.model.specs.Promises.Refusals
use Rattle.model.specs.Promises.Refusals.{Unseen, FirstWrong, wrongs, all_wrongs}
use Rattle.model.proofs.StepLaws.{of_mode_lem}
use Rattle.model.proofs.EntryLaws.{step_refused}
use Rattle.model.proofs.Promises.SeenLaws.{number_told}
use Rattle.model.proofs.Promises.TellsLaws.{Tells, tells_itself, le_tells, eq_tells}
use Rattle.model.proofs.Promises.WrongCallLaws.{call_tells, fits_kind}
use Rattle.model.proofs.Promises.WrongListLaws.{lists_tell, peers_tell}
use Rattle.model.proofs.Promises.WrongViewLaws.{view_tells}
use Rattle.model.proofs.Promises.ReadLaws.{unseen, all_seen}

-- What a chain of tests gives, from one of them on. A record, so that a number is not opened into its cases.
record Told (number first : ℕ) (Wrongs : List (Type 0)) : Type 0 where
  told : FirstWrong number first Wrongs

none_told : {first : ℕ} → Told 0 first []
none_told = record { told = refl }

-- one more test in front
then_told : {ok : Bool} {Wrong : Type 0} {others first : ℕ} {Wrongs : List (Type 0)} → Tells ok Wrong → (ok ≡ true → Told others (suc first) Wrongs)
    → Told (unless ok first others) first (Wrong ∷ Wrongs)
then_told {ok} {Wrong} {others} {first} {Wrongs} t rest = record { told = go ok t rest }
  where
    go : (ok : Bool) → Tells ok Wrong → (ok ≡ true → Told others (suc first) Wrongs) → FirstWrong (unless ok first others) first (Wrong ∷ Wrongs)
    go true t rest = inr (t.passed refl, (rest refl).told)
    go false t rest = inl (t.failed refl, refl)

-- 9: its laws need that 5 was passed
seen_tells : (s : Seen) → call_fits s.before s.call ≡ true → Tells (plan s.before (args_of s.call)).in_view (Unseen s)
seen_tells s fits =
    let kind = fits_kind s.before s.call fits in
    let mode = of_mode_lem s.before s.call fits in
    record { passed = all_seen s kind mode; failed = unseen s kind mode }

-- the tests in their order
call_told : (s : Seen) → Told (call_refusal s.before s.call) 4 (wrongs s)
unfolding call_refusal result_refusal
call_told s =
    let end = after s.before (args_of s.call) in
    then_told (le_tells s.before.last_clock s.call.clock)
    (λ e. then_told (call_tells s)
    (λ fits. then_told (lists_tell s)
    (λ e. then_told (peers_tell s)
    (λ e. then_told (view_tells s.call.view)
    (λ e. then_told (seen_tells s fits)
    (λ e. then_told (le_tells (length end.pending + length end.sync.evicted) tracked_limit)
    (λ e. then_told (le_tells (length end.sync.stalled_peers) stalled_limit) (λ e. none_told))))))))

positive : (n : ℕ) → (n ≡ 0 → ⊥) → 0 < n
positive zero n = absurd (n refl)
positive (suc m) n = omega arith

-- the areas before the call
areas_told : (state area : List ℕ) (call : Call) → Told (step_refusal state area call) 1 (all_wrongs state area (seen state area call))
unfolding step_refusal seen
areas_told state area call =
    then_told (eq_tells (length state) area_size)
    (λ e. then_told (tells_itself (well_formed state))
    (λ e. then_told (le_tells area_size (length area)) (λ e. call_told (seen state area call))))

pub refusals_kept : Refusals.Refusals
refusals_kept state area call =
    let n : (step state area call).answer.number ≡ step_refusal state area call = number_told state area call in
    record {
      first = rw n (areas_told state area call).told;
      untouched = λ refused.
          step_refused state area call (step state area call).answer.number (sym n) (positive (step state area call).answer.number refused);
    }
