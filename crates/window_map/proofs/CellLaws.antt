-- The tests of a height's byte.
use Prim.Native.Nat.{ℕ, zero, suc, ◌*◌, ◌/◌, ◌%◌, ◌^◌, ◌≤◌, ◌<◌}
use mathlib.Core.Path.{◌≡◌, refl, sym}
use native.Mathlib.Nat.{lt_irrefl}
use native.Mathlib.Omega.{arith}
use lib.Dec.{eqb, ltb}
use borrow.Author.Tests.{ne_eqb, lt-ltb, le-ltb}
use Rattle.fields.proofs.OrderLaws.{or_false}
use Rattle.model.specs.MapBytes.{byte_formed}

-- a power of two below 128, as the language shifts
power_small : (places : ℕ) → places < 4 → 1 * 2 ^ places % 256 ≡ 2 ^ places
power_small zero h = refl
power_small (suc zero) h = refl
power_small (suc (suc zero)) h = refl
power_small (suc (suc (suc zero))) h = refl
power_small (suc (suc (suc (suc n)))) h = absurd (lt_irrefl 0 (omega arith))

pub formed_low : (byte : ℕ) → byte < 64 → ltb (byte % 16) (1 * 2 ^ (byte / 16) % 256) ≡ byte_formed byte
unfolding byte_formed
formed_low byte h =
    rw (power_small (byte / 16) (omega arith), ne_eqb byte 128 (λ e. lt_irrefl 0 (omega arith)), lt-ltb byte 64 h)

pub formed_high : (byte : ℕ) → 64 ≤ byte → eqb byte 128 ≡ byte_formed byte
unfolding byte_formed
formed_high byte h = rw (le-ltb byte 64 h) (sym (or_false (eqb byte 128)))
