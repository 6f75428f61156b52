-- What the tests of a mode say of it.
use mathlib.Core.Path.{◌≡◌, refl, sym, ap, ◌∙◌}
use mathlib.Core.Bool.{Bool, true, false, ◌||◌}
use mathlib.Core.Logic.{◌⊎◌, ⊎_elim}
use borrow.Author.Tests.{eqb-true, eq-eqb, ne_eqb}
use Rattle.fields.proofs.OrderLaws.{not_both}
use Rattle.model.specs.State.{Mode, syncing, synced, mode_number, is_mode, has_sync_peer}
use Rattle.model.specs.Image.{mode_of}
use Rattle.model.proofs.HeaderLaws.{mode_of_number}

module _ (mode other : Mode) where
  number_is : mode_number mode ≡ mode_number other → mode ≡ other
  number_is e = sym (mode_of_number mode) ∙ ap mode_of e ∙ mode_of_number other

  pub mode_is : is_mode mode other ≡ true → mode ≡ other
  mode_is e = number_is (eqb-true (mode_number mode) (mode_number other) e)

  is_mode_lem : mode ≡ other → is_mode mode other ≡ true
  is_mode_lem e = eq-eqb (mode_number mode) (mode_number other) (ap mode_number e)

  pub mode_is_not : is_mode mode other ≡ false → mode ≡ other → ⊥
  mode_is_not f e = not_both (is_mode mode other) (is_mode_lem e) f

  pub is_not_mode : (mode ≡ other → ⊥) → is_mode mode other ≡ false
  is_not_mode n = ne_eqb (mode_number mode) (mode_number other) (λ e. n (number_is e))

-- of the modes with a sync peer, the one that is not syncing
pub is_synced : (mode : Mode) → has_sync_peer mode ≡ true → is_mode mode syncing ≡ false → mode ≡ synced
is_synced mode h e = mode_is mode synced (go (is_mode mode syncing) e h)
  where
    go : (t : Bool) → t ≡ false → t || is_mode mode synced ≡ true → is_mode mode synced ≡ true
    go true e h = absurd (not_both true refl e)
    go false e h = h

pub no_peer_lem : (mode : Mode) → has_sync_peer mode ≡ false → (mode ≡ syncing) ⊎ (mode ≡ synced) → ⊥
no_peer_lem mode e h = not_both (has_sync_peer mode) (⊎_elim (ap has_sync_peer) (ap has_sync_peer) h) e

pub peerless : (mode : Mode) → (mode ≡ syncing → ⊥) → (mode ≡ synced → ⊥) → has_sync_peer mode ≡ false
peerless mode m n = rw (is_not_mode mode syncing m, is_not_mode mode synced n)
