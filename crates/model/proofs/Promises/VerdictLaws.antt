-- What a check makes of a request: the rules' words against those of a user.
use Prim.Native.Nat.{ℕ, suc, ◌+◌, ◌-◌, ◌≤◌, ◌<◌}
use mathlib.Core.Path.{◌≡◌, refl, sym, ap, ◌∙◌, subst}
use mathlib.Core.Bool.{Bool, true, false, cond}
use mathlib.Core.Logic.{◌⊎◌, inl, inr, ⊎_elim}
use native.Mathlib.Omega.{arith}
use lib.Dec.{eqb, leb}
use borrow.Author.Tests.{eqb-true, eqb-false, leb-true, leb-false}
use Rattle.fields.specs.Facts.{All}
use Rattle.fields.proofs.AllLaws.{all_weaker}
use Rattle.model.specs.Protocol.{is_transaction, transaction_type}
use Rattle.model.specs.Settings.{expired, given_up, patience}
use Rattle.model.specs.Delivery.{Request, Verdict, waiting, retried, abandoned, forgotten, verdict, verdict_number}
use Rattle.model.specs.State.{State}
use Rattle.model.specs.Calls.{Call}
use Rattle.model.specs.Promises.Numbers as numbers
use Rattle.model.specs.Promises.Words.{Seen}
use Rattle.model.specs.Promises.Pending.{Overdue, Forgotten, Abandoned, Retried, TakenOut}
use Rattle.model.specs.Promises.Pending as pending
use Rattle.model.proofs.Well.{WellRequest}
use Rattle.model.proofs.Promises.SeenLaws.{Finished}

verdict_at : ℕ → Verdict
verdict_at n = cond (eqb n 1) retried (cond (eqb n 2) abandoned (cond (eqb n 3) forgotten waiting))

numbered : (v : Verdict) → verdict_at (verdict_number v) ≡ v
unfolding verdict_at
numbered waiting = refl
numbered retried = refl
numbered abandoned = refl
numbered forgotten = refl

-- verdicts with one number are one
pub verdict_is : (v w : Verdict) → eqb (verdict_number v) (verdict_number w) ≡ true → v ≡ w
verdict_is v w e = sym (numbered v) ∙ ap verdict_at (eqb-true (verdict_number v) (verdict_number w) e) ∙ numbered w

abbrev pub judgement : Seen → Request → Verdict
judgement s r = verdict s.before.settings s.call.clock r

-- a verdict in a user's words
abbrev pub Made : Seen → Request → Verdict → Type 0
Made s r waiting = Overdue s r → ⊥
Made s r retried = Retried s r
Made s r abandoned = Abandoned s r
Made s r forgotten = Forgotten s r

module _ (s : Seen) (r : Request) where
  -- no two verdicts at once
  pub made_once : (v w : Verdict) → Made s r v → Made s r w → v ≡ w
  made_once waiting waiting m n = refl
  made_once waiting retried m n = absurd (m n.overdue)
  made_once waiting abandoned m n = absurd (m n.overdue)
  made_once waiting forgotten m n = absurd (m n.overdue)
  made_once retried waiting m n = absurd (n m.overdue)
  made_once retried retried m n = refl
  made_once retried abandoned m n = let x = m.another in let y = n.last in absurd (omega arith)
  made_once retried forgotten m n = absurd (m.no_transaction n.transaction)
  made_once abandoned waiting m n = absurd (n m.overdue)
  made_once abandoned retried m n = let x = m.last in let y = n.another in absurd (omega arith)
  made_once abandoned abandoned m n = refl
  made_once abandoned forgotten m n = absurd (m.no_transaction n.transaction)
  made_once forgotten waiting m n = absurd (n m.overdue)
  made_once forgotten retried m n = absurd (n.no_transaction m.transaction)
  made_once forgotten abandoned m n = absurd (n.no_transaction m.transaction)
  made_once forgotten forgotten m n = refl

-- the time since a stamp that is not after the clock
pub late : (timeout clock stamp : ℕ) → stamp ≤ clock → leb timeout (clock - stamp) ≡ true → stamp + timeout ≤ clock
late timeout clock stamp h e = let l : timeout ≤ clock - stamp = leb-true timeout (clock - stamp) e in omega arith

pub in_time : (timeout clock stamp : ℕ) → leb timeout (clock - stamp) ≡ false → stamp + timeout ≤ clock → ⊥
in_time timeout clock stamp e h = let l : clock - stamp < timeout = leb-false timeout (clock - stamp) e in absurd (omega arith)

-- of a check, whose clock no stamp is after
module _ (s : Seen) (check : s.call.kind ≡ numbers.check) (r : Request) (stamp : r.stamp ≤ s.call.clock) where
  pub made : Made s r (judgement s r)
  unfolding verdict expired patience given_up is_transaction
  made = go (leb timeout (s.call.clock - r.stamp)) (eqb r.type_id transaction_type) (leb limit (suc r.checks)) refl refl refl
    where
      timeout : ℕ
      timeout = s.before.settings.timeout

      limit : ℕ
      limit = s.before.settings.max_checks

      go :
          (t u v : Bool) → leb timeout (s.call.clock - r.stamp) ≡ t → eqb r.type_id transaction_type ≡ u → leb limit (suc r.checks) ≡ v
          → Made s r (cond t (cond u forgotten (cond v abandoned retried)) waiting)
      go true true v d e f =
          record { kind = check; overdue = late timeout s.call.clock r.stamp stamp d; transaction = eqb-true r.type_id transaction_type e }
      go true false true d e f =
          let n : limit ≤ suc r.checks = leb-true limit (suc r.checks) f in
          record {
            kind = check;
            overdue = late timeout s.call.clock r.stamp stamp d;
            no_transaction = eqb-false r.type_id transaction_type e;
            last = omega arith;
          }
      go true false false d e f =
          let n : suc r.checks < limit = leb-false limit (suc r.checks) f in
          record {
            kind = check;
            overdue = late timeout s.call.clock r.stamp stamp d;
            no_transaction = eqb-false r.type_id transaction_type e;
            another = omega arith;
          }
      go false u v d e f = in_time timeout s.call.clock r.stamp d

  -- each verdict exactly when the user's words for it hold
  pub verdict_made : (v : Verdict) → Made s r v → judgement s r ≡ v
  verdict_made v m = made_once s r (judgement s r) v made m

  pub made_verdict : (v : Verdict) → judgement s r ≡ v → Made s r v
  made_verdict v e = subst (Made s r) e made

-- A check takes out what it abandons or forgets, and nothing else.
taken_by_check : (s : Seen) (r : Request) → s.call.kind ≡ numbers.check → TakenOut s r → Abandoned s r ⊎ Forgotten s r
taken_by_check s r check (pending.received e among) = absurd (omega (arith, e, check))
taken_by_check s r check (pending.evicted e among) = absurd (omega (arith, e, check))
taken_by_check s r check (pending.purged e) = absurd (omega (arith, e, check))
taken_by_check s r check (pending.orphaned e mode lost peer) = absurd (omega (arith, e, check))
taken_by_check s r check (pending.forgotten f) = inr f
taken_by_check s r check (pending.abandoned a) = inl a

pub waiting_stays : (s : Seen) (r : Request) → s.call.kind ≡ numbers.check → (Overdue s r → ⊥) → TakenOut s r → ⊥
waiting_stays s r check m out = ⊎_elim (λ a. m a.overdue) (λ f. m f.overdue) (taken_by_check s r check out)

pub retried_stays : (s : Seen) (r : Request) → s.call.kind ≡ numbers.check → Retried s r → TakenOut s r → ⊥
retried_stays s r check m out =
    ⊎_elim (λ a. let x = m.another in let y = a.last in absurd (omega arith)) (λ f. m.no_transaction f.transaction) (taken_by_check s r check out)

-- No request is stamped after the clock of a finished call.
pub stamps_past : (st : State) (call : Call) → Finished st call → All (λ (r : Request). r.stamp ≤ call.clock) st.pending
stamps_past st call f =
    all_weaker (WellRequest st.settings st.last_clock) (λ (r : Request). r.stamp ≤ call.clock)
    (λ r w. let stamp = w.stamp in let clock = f.passed.clock in omega arith) st.pending f.well.requests
