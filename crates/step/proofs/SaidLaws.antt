-- A sync info as bytes, and the place behind it.
use Prim.Native.Nat.{ℕ, ◌+◌, ◌≤◌, ◌<◌}
use mathlib.Core.Path.{◌≡◌, refl, sym}
use mathlib.Core.List.{List, [], ◌∷◌}
use mathlib.Core.Option.{Option, none, some}
use native.Mathlib.Nat.{add-zero, lt_irrefl}
use native.Mathlib.Omega.{arith}
use lib.ListN.{length}
use Rattle.fields.specs.Overwrite.{overwritten}
use Rattle.fields.proofs.OverwriteLaws.{overwritten_nil}
use Rattle.model.specs.Lists.{ids_in}
use Rattle.model.specs.Commands.{command_bytes}
use Rattle.peers.specs.Peers.{listed_peer}
use Rattle.std.proofs.Common.{Some, None}
use Rattle.std.proofs.Common as program
use Rattle.commands.specs.Sent.{sent_bytes, sent_at, behind}
use Rattle.commands.specs.declared.place.Place.{Place}
use Rattle.step.specs.Finished.{said}
use Rattle.model.specs.Layout.{command_header}

no_ids : (bytes : List ℕ) → length bytes < 1 → ids_in bytes ≡ []
unfolding ids_in
no_ids [] h = refl
no_ids (b ∷ bytes) h = absurd (lt_irrefl 0 (omega arith))

-- What was said, and the place behind it.
module _ (says : program.Option ℕ) (place : Place) (out : List ℕ) where
  abbrev pub Said : List ℕ → ℕ → Type 0
  Said out' end =
      (out' ≡ sent_at place (said (listed_peer says)) out) × (end ≡ (behind place (said (listed_peer says))).at)

  pub unsaid : says ≡ None → Said out place.at
  unfolding sent_bytes
  unsaid e = rw e (sym (overwritten_nil place.at out), sym (add-zero place.at))

  pub said_to_lem : (ids : List ℕ) {out' : List ℕ} {peer end : ℕ} → says ≡ Some peer → length ids ≡ 0
      → out' ≡ overwritten place.at (command_bytes (record { kind = 3; type_id = 0; batch = place.batch; peer = peer; ids = ids_in ids })) out
      → end ≡ place.at + command_header + length ids
      → Said out' end
  unfolding sent_bytes command_bytes
  said_to_lem ids e h w n =
      let i : ids_in ids ≡ [] = no_ids ids (omega arith) in
      rw e (rw i at w, omega arith)

pub said_short : (batch : ℕ) (peer : Option ℕ) → length (sent_bytes batch (said peer)) ≤ command_header
unfolding sent_bytes command_bytes
said_short batch none = omega arith
said_short batch (some peer) = omega arith

pub said_end : (place : Place) (end : ℕ) (peer : Option ℕ) → end ≡ (behind place (said peer)).at → end ≤ place.at + command_header
said_end place end peer e = omega (arith, said_short place.batch peer)
