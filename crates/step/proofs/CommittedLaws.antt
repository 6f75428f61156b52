-- A step worked out on a copy of the state and on room for commands, then copied back.
use Prim.Native.Nat.{ℕ, ◌≤◌, ◌<◌}
use mathlib.Core.Path.{◌≡◌, sym, ap, ◌∙◌}
use mathlib.Core.List.{List, ◌++◌}
use native.Mathlib.Nat.{zero-add}
use lib.ListN.{length, take, drop}
use borrow.Author.Tests.{le-leb}
use Rattle.fields.specs.Overwrite.{overwritten}
use Rattle.fields.proofs.OverwriteLaws.{front_read_back}
use Rattle.model.specs.Image.{decode, encode}
use Rattle.model.specs.Steps.{after}
use Rattle.model.specs.Calls as calls
use Rattle.model.specs.Calls.{args_of, step_bytes, step_answer, step_refusal, step}
use Rattle.model.specs.Layout.{area_size}
use Rattle.model.proofs.EntryLaws.{step_refused, step_finished}
use Rattle.model.proofs.Promises.SeenLaws.{number_told}

-- a result by its parts
abbrev results : calls.Answer → List ℕ → List ℕ → calls.Result
results answer state commands = record { answer = answer; state = state; commands = commands }

written_in_front : (new s : List ℕ) → overwritten 0 new s ≡ new ++ drop (length new) s
unfolding overwritten
written_in_front new s = rw zero-add

module _ (area room commands : List ℕ) (c : calls.Call) (enough : area_size ≤ length room) (more : area_size ≤ length commands) where
  -- enough command bytes are enough
  same_refusal : step_refusal area room c ≡ step_refusal area commands c
  unfolding step_refusal
  same_refusal = rw (le-leb area_size (length room) enough, le-leb area_size (length commands) more)

  pub refusal_is : {answer : calls.Answer} → answer ≡ (step area room c).answer → step_refusal area room c ≡ answer.number
  refusal_is e = sym (number_told area room c) ∙ ap (λ (x : calls.Answer). x.number) (sym e)

  pub refused_stays : {answer : calls.Answer} → answer ≡ (step area room c).answer → 0 < answer.number
      → results answer area commands ≡ step area commands c
  refused_stays {answer} e h =
      let n : step_refusal area room c ≡ answer.number = refusal_is e in
      let same : answer ≡ calls.refused answer.number = e ∙ ap (λ (x : calls.Result). x.answer) (step_refused area room c answer.number n h) in
      ap (λ (x : calls.Answer). results x area commands) same
      ∙ sym (step_refused area commands c answer.number (sym same_refusal ∙ n) h)

  module _ {answer : calls.Answer} {image out : List ℕ} (s : results answer image out ≡ step area room c) (z : answer.number ≡ 0) where
    none : step_refusal area room c ≡ 0
    none = refusal_is (ap (λ (x : calls.Result). x.answer) s) ∙ z

    finished : results answer image out
        ≡ results (step_answer (decode area) (args_of c)) (encode (after (decode area) (args_of c))) (overwritten 0 (step_bytes (decode area) (args_of c)) room)
    finished = s ∙ step_finished area room c none

    told : answer.length ≡ length (step_bytes (decode area) (args_of c))
    unfolding step_answer
    told = ap (λ (x : calls.Result). x.answer.length) finished

    pub committed : {state' commands' : List ℕ} → state' ≡ image → commands' ≡ take answer.length out ++ drop answer.length commands
        → results answer state' commands' ≡ step area commands c
    committed {state'} {commands'} i o =
        let bytes : List ℕ = step_bytes (decode area) (args_of c) in
        let front : take answer.length out ≡ bytes =
        rw (told, ap (λ (x : calls.Result). x.commands) finished) (front_read_back bytes room) in
        let written : commands' ≡ overwritten 0 bytes commands = o ∙ rw (front, told) (sym (written_in_front bytes commands)) in
        let all : results answer state' commands'
        ≡ results (step_answer (decode area) (args_of c)) (encode (after (decode area) (args_of c))) (overwritten 0 bytes commands) =
        rw (written, i) (ap (λ (x : calls.Result). results x.answer x.state (overwritten 0 bytes commands)) finished) in
        all ∙ sym (step_finished area commands c (sym same_refusal ∙ none))
