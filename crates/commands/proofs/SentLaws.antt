-- Commands of sendings, one behind another.
use Prim.Native.Nat.{ℕ, suc, ◌+◌, ◌≤◌}
use mathlib.Core.Path.{◌≡◌, refl, ap}
use mathlib.Core.List.{List, [], ◌∷◌, ◌++◌, append_assoc, append-nil}
use native.Mathlib.Nat.{add-zero}
use native.Mathlib.Omega.{arith}
use lib.ListN.{length, length-append}
use Rattle.fields.proofs.OverwriteLaws.{overwritten_nil, overwritten_next}
use Rattle.model.specs.Requests.{Command, Sending, commands_of, commands_from}
use Rattle.model.specs.Commands.{command_bytes, all_command_bytes}
use Rattle.commands.specs.Sent.{sent_bytes, sent_at, behind}
use Rattle.commands.specs.declared.place.Place.{Place}

pub commands_append : (cs ds : List Command) → all_command_bytes (cs ++ ds) ≡ all_command_bytes cs ++ all_command_bytes ds
commands_append [] ds = refl
commands_append (c ∷ cs) ds = rw (append_assoc (command_bytes c) (all_command_bytes cs) (all_command_bytes ds), commands_append cs ds)

pub sent_append : (batch : ℕ) (one others : List Sending) → sent_bytes batch (one ++ others) ≡ sent_bytes batch one ++ sent_bytes (batch + length one) others
unfolding sent_bytes
sent_append batch [] others = rw add-zero
sent_append batch (s ∷ one) others =
    let n : batch + suc (length one) ≡ suc batch + length one = omega arith in
    let first : List Command = commands_of batch s in
    let rest : List Command = commands_from (suc batch) one in
    let last : List Command = commands_from (suc batch + length one) others in
    let all = commands_append first (commands_from (suc batch) (one ++ others)) in
    let as_one = append_assoc (all_command_bytes first) (all_command_bytes rest) (all_command_bytes last) in
    rw (n, all, commands_append first rest, as_one) (ap (λ (x : List ℕ). all_command_bytes first ++ x) (sent_append (suc batch) one others))

-- ---- at a place

-- nothing sent
pub sent_none : (p : Place) (out : List ℕ) → sent_at p [] out ≡ out
unfolding sent_bytes
sent_none p out = overwritten_nil p.at out

pub behind_none : (p : Place) → behind p [] ≡ p
unfolding sent_bytes
behind_none p = rw (add-zero p.at, add-zero p.batch)

-- a single sending
pub sent_one : (batch : ℕ) (s : Sending) → sent_bytes batch (s ∷ []) ≡ all_command_bytes (commands_of batch s)
unfolding sent_bytes
sent_one batch s = rw (append-nil (commands_of batch s))

-- others behind what is sent are all of them, from its place on
module _ (p : Place) (one others : List Sending) where
  pub behind_again : behind (behind p one) others ≡ behind p (one ++ others)
  behind_again =
      let first : List ℕ = sent_bytes p.batch one in
      let last : List ℕ = sent_bytes (p.batch + length one) others in
      let at : p.at + length first + length last ≡ p.at + length (sent_bytes p.batch (one ++ others)) =
      rw (sent_append p.batch one others, length-append first last) (omega arith) in
      let batch : p.batch + length one + length others ≡ p.batch + length (one ++ others) = rw (length-append one others) (omega arith) in
      rw (at, batch)

  pub sent_again : (out : List ℕ) → (behind (behind p one) others).at ≤ length out
      → sent_at (behind p one) others (sent_at p one out) ≡ sent_at p (one ++ others) out
  sent_again out room =
      rw (sent_append p.batch one others)
      (overwritten_next p.at (sent_bytes p.batch one) (sent_bytes (p.batch + length one) others) out room)
