-- Retries sent, or none: the gate is shut, or no place is noted.
use Prim.Native.Nat.{ℕ}
use mathlib.Core.Path.{◌≡◌, refl, sym}
use mathlib.Core.Bool.{Bool, true, false, cond}
use mathlib.Core.List.{List, []}
use Rattle.model.specs.Sections.{Item, batches_of}
use Rattle.model.specs.Requests.{Sending}
use Rattle.model.specs.Check.{retry_sendings}
use Rattle.commands.specs.Sent.{sent_at, behind}
use Rattle.commands.specs.declared.place.Place.{Place}
use Rattle.commands.proofs.SentLaws.{sent_none, behind_none}
use Rattle.retries.specs.Items.{item_at, items_at}
use Rattle.retries.specs.Retried.{sent_of}

-- what is written and answered where nothing is sent
pub nothing_sent : (place : Place) (out : List ℕ) {sendings : List Sending} → sendings ≡ []
    → (out ≡ sent_at place sendings out) × (place ≡ behind place sendings)
nothing_sent place out e = rw e (sym (sent_none place out), sym (behind_none place))

no_retries : retry_sendings [] ≡ []
unfolding retry_sendings batches_of
no_retries = refl

module _ (gate : Bool) (t places : List ℕ) where
  pub unsent : gate ≡ false → sent_of gate t places ≡ []
  unsent e = rw e no_retries

  pub sent : gate ≡ true → retry_sendings (items_at t places) ≡ sent_of gate t places
  unfolding item_at
  sent e = rw e

  -- no place is noted
  pub none_sent : places ≡ [] → sent_of gate t places ≡ []
  none_sent e = rw (e, either_way gate) no_retries
    where
      either_way : (b : Bool) → cond {A = List Item} b [] [] ≡ []
      either_way true = refl
      either_way false = refl
