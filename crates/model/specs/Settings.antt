-- "Settings are 32-bit values held with their rules."
use Rattle.std.specs.Prelude.{ℕ, suc, ◌-◌, max, Bool, true, false, cond, eqb, leb, ltb}
use Rattle.model.specs.Protocol.{is_transaction}

pub record Settings : Type 0 where
  pub timeout : ℕ
  pub max_checks : ℕ
  pub min_send_interval : ℕ
  pub stall_timeout : ℕ

-- How long a request of a type waits at its next try, its checks so far counted from 0. In the base one timeout serves all.
unfoldable pub patience : Settings → ℕ → ℕ → ℕ
patience settings type_id tries = settings.timeout

-- "Expired: clock − stamp >= timeout."
unfoldable pub expired : Settings → ℕ → ℕ → ℕ → ℕ → Bool
expired settings clock type_id checks stamp = leb (patience settings type_id checks) (clock - stamp)

-- "at checks >= max_checks the id is abandoned"
unfoldable pub given_up : Settings → ℕ → Bool
given_up settings checks = leb settings.max_checks checks

-- "below min_sync_send_interval since the last send"
unfoldable pub throttled : Settings → ℕ → ℕ → Bool
throttled settings clock last_send = ltb (clock - last_send) settings.min_send_interval

-- "clock − last progress is strictly above stall_timeout"
unfoldable pub stalled : Settings → ℕ → ℕ → Bool
stalled settings clock last_progress = ltb settings.stall_timeout (clock - last_progress)

-- Demand 3's M: "the greater of 1 and the check limit, and 1 for a transaction".
unfoldable pub most_requests : Settings → ℕ → ℕ
most_requests settings type_id = cond (is_transaction type_id) 1 (max 1 settings.max_checks)
