-- What an answer says: how many requests are pending, or that they are too many.
use Prim.Native.Nat.{ℕ, ◌≤◌, ◌<◌}
use mathlib.Core.Path.{◌≡◌, refl}
use mathlib.Core.Bool.{Bool, true, false, cond}
use mathlib.Core.List.{List}
use lib.Dec.{leb}
use lib.ListN.{length}
use borrow.Author.Tests.{le-leb, lt-leb}
use Rattle.model.specs.Delivery.{Request}
use Rattle.commands.specs.Pending.{holding}
use Rattle.mark_requested.specs.Marking.{marked_as, held_within}
use Rattle.std.proofs.Common.{Ok, Err}
use Rattle.commands.specs.declared.tracker.TrackerError.{TrackerError}
use Rattle.commands.specs.declared.tracker.TrackerError.TheVariants.{Full}

pub marked_pending : (most x : ℕ) (rs : List Request) → Ok x ≡ marked_as most rs → (leb (length rs) most ≡ true) × (x ≡ length rs)
unfolding marked_as
marked_pending most x rs = go (leb (length rs) most) refl
  where
    go : (b : Bool) → leb (length rs) most ≡ b → Ok x ≡ cond b (Ok (length rs)) (Err Full) → (leb (length rs) most ≡ true) × (x ≡ length rs)
    go true e h = (e, cc)
    go false e h = cc

pub marked_full : (most : ℕ) (rs : List Request) {e : TrackerError} → Err e ≡ marked_as most rs → leb (length rs) most ≡ false
unfolding marked_as
marked_full most rs {e} = go (leb (length rs) most) refl
  where
    go : (b : Bool) → leb (length rs) most ≡ b → Err e ≡ cond b (Ok (length rs)) (Err Full) → leb (length rs) most ≡ false
    go true l h = cc
    go false l h = l

pub few_marked : (most : ℕ) (rs : List Request) → length rs ≤ most → Ok (length rs) ≡ marked_as most rs
unfolding marked_as
few_marked most rs h = rw (le-leb (length rs) most h)

pub many_marked : (most : ℕ) (rs : List Request) → most < length rs → Err Full ≡ marked_as most rs
unfolding marked_as
many_marked most rs h = rw (lt-leb (length rs) most h)

pub few_held : (most count : ℕ) (rs : List Request) (t : List ℕ) → leb (length rs) most ≡ true → held_within most count rs t ≡ holding count rs t
unfolding held_within
few_held most count rs t h = rw h

pub many_held : (most count : ℕ) (rs : List Request) (t : List ℕ) → leb (length rs) most ≡ false → held_within most count rs t ≡ t
unfolding held_within
many_held most count rs t h = rw h
