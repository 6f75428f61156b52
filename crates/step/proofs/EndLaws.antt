-- A step that none of 1 to 8 refuses ends in one of four ways; and what the work's answer says.
use Prim.Native.Nat.{ℕ, ◌+◌}
use mathlib.Core.Path.{◌≡◌, refl, sym, ◌∙◌}
use mathlib.Core.Bool.{Bool, true, false, cond}
use mathlib.Core.List.{List}
use native.Mathlib.Nat.{lt_irrefl}
use native.Mathlib.Omega.{arith}
use lib.ListN.{length}
use lib.Dec.{leb}
use Rattle.fields.specs.Overwrite.{overwritten}
use Rattle.model.specs.Protocol.{tracked_limit, stalled_limit}
use Rattle.model.specs.State.{State}
use Rattle.model.specs.Steps.{plan, after}
use Rattle.model.specs.Image.{decode, encode}
use Rattle.model.specs.Calls as calls
use Rattle.model.specs.Calls.{args_of, step_bytes, step_answer, result_refusal, call_refusal, step_refusal, step}
use Rattle.model.proofs.FinishedLaws.{passed_areas}
use Rattle.model.proofs.EntryLaws.{step_refused, step_finished}
use Rattle.commands.specs.Sent.{behind}
use Rattle.commands.specs.declared.place.Place.{Place}
use Rattle.work.specs.declared.Counts.{Counts}
use Rattle.std.proofs.Common.{Ok, Err}
use Rattle.commands.specs.declared.tracker.TrackerError.TheVariants.{Full}
use Rattle.work.specs.Worked.{Worked, fits, performed_as}
use Rattle.refusals.specs.Refusals.{given_refusal}
use Rattle.refusals.proofs.RefusalLaws.{refusal_split}

-- ---- the four ends of a step

module _ (area commands : List ℕ) (call : calls.Call) (g : given_refusal area (length commands) call ≡ 0) where
  abbrev st : State
  st = decode area

  abbrev pub untouched : ℕ → calls.Result
  untouched n = record { answer = calls.refused n; state = area; commands = commands }

  refusal_is : step_refusal area commands call ≡ result_refusal st (args_of call)
  refusal_is = refusal_split area commands call ∙ rw g

  pub ends_9 : (plan st (args_of call)).in_view ≡ false → untouched 9 ≡ step area commands call
  unfolding result_refusal
  ends_9 e = sym (step_refused area commands call 9 (refusal_is ∙ rw e) (omega arith))

  module _ (seen : (plan st (args_of call)).in_view ≡ true) where
    abbrev pub few : Bool
    few = leb (length (after st (args_of call)).pending + length (after st (args_of call)).sync.evicted) tracked_limit

    pub ends_10 : few ≡ false → untouched 10 ≡ step area commands call
    unfolding result_refusal
    ends_10 e = sym (step_refused area commands call 10 (refusal_is ∙ rw (seen, e)) (omega arith))

    module _ (tracked : few ≡ true) where
      pub ends_11 : leb (length (after st (args_of call)).sync.stalled_peers) stalled_limit ≡ false → untouched 11 ≡ step area commands call
      unfolding result_refusal
      ends_11 e = sym (step_refused area commands call 11 (refusal_is ∙ rw (seen, tracked, e)) (omega arith))

      module _ (stalled_few : leb (length (after st (args_of call)).sync.stalled_peers) stalled_limit ≡ true) where
        not_refused : step_refusal area commands call ≡ 0
        unfolding result_refusal
        not_refused = refusal_is ∙ rw (seen, tracked, stalled_few)

        pub passes : call_refusal st call ≡ 0
        passes = (passed_areas area commands call not_refused).finished

        pub ends_finished : step area commands call
            ≡ record { answer = step_answer st (args_of call); state = encode (after st (args_of call)); commands = overwritten 0 (step_bytes st (args_of call)) commands }
        ends_finished = step_finished area commands call not_refused

-- ---- what the work answered

-- the counts of a work whose sendings begin at this place
abbrev pub counts_of : Place → Worked → Counts
counts_of place w =
    record {
      pending = length w.pending;
      evicted = length w.evicted;
      retried = w.retried;
      fresh = w.fresh;
      abandoned = w.abandoned;
      forgotten = w.forgotten;
      place = behind place w.sendings;
    }

module _ (place : Place) (w : Worked) where
  pub full_fails : (Err Full) ≡ performed_as place w → fits w ≡ false
  unfolding performed_as
  full_fails = go (fits w) refl
    where
      go : (b : Bool) → fits w ≡ b
          → (Err Full) ≡ cond b (Ok (counts_of place w)) (Err Full)
          → fits w ≡ false
      go true e h = let z : ◌≡◌ {A = ℕ} 0 1 = cc in absurd (lt_irrefl 0 (omega arith))
      go false e h = e

  pub done_fits : (counts : Counts) → Ok counts ≡ performed_as place w
      → (fits w ≡ true)
      × (counts ≡ counts_of place w)
  unfolding performed_as
  done_fits counts = go (fits w) refl
    where
      go : (b : Bool) → fits w ≡ b
          → Ok counts ≡ cond b (Ok (counts_of place w)) (Err Full)
          → (fits w ≡ true)
          × (counts ≡ counts_of place w)
      go true e h = (e, cc)
      go false e h = let z : ◌≡◌ {A = ℕ} 0 1 = cc in absurd (lt_irrefl 0 (omega arith))
