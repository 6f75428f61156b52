-- What the structs of this crate stand for in the model.
use Rattle.model.specs.Settings as model
use Rattle.model.specs.State as state
use Rattle.settings.specs.declared.Settings.{Settings}
use Rattle.settings.specs.declared.SendClock.{SendClock}

unfoldable pub settings_of : Settings → model.Settings
settings_of s = record { timeout = s.timeout; max_checks = s.checks; min_send_interval = s.interval; stall_timeout = s.stall }

unfoldable pub send_clock_of : SendClock → state.SendClock
send_clock_of c = record { last_send = c.last; sends = c.sends }
