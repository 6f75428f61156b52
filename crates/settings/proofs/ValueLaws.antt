-- The machine values of the structs of rule 2, and what is known of an answer by its parts.
use Rattle.std.proofs.Common.{◌≡◌, ℕ, Bool, not, List, [], ◌∷◌, refl, w32, w64}
use mir.Val.{Val, vbool, vint, vstruct, vnil, vcons}
use denote.Laws.{Is}
use denote.Struct.Laws as LL
use Rattle.model.specs.Settings.{throttled}
use Rattle.model.specs.Peers.{send_sync_info}
use Rattle.settings.specs.Values.{settings_of, send_clock_of}
use Rattle.settings.specs.declared.Settings.{Settings}
use Rattle.settings.specs.declared.SendClock.{SendClock}
use Rattle.settings.specs.declared.Sent.{Sent}
use Rattle.settings.specs.contracts.SendClock as T
use Rattle.settings.specs.contracts.Sent as S
use Rattle.settings.proofs.Sent.TheLaws as S'

abbrev pub mach : SendClock → Val
mach c = vstruct (vcons (vint w64 c.last) (vcons (vint w32 c.sends) vnil))

abbrev pub mach_settings : Settings → Val
mach_settings s = vstruct (vcons (vint w32 s.timeout) (vcons (vint w32 s.checks) (vcons (vint w32 s.interval) (vcons (vint w32 s.stall) vnil))))

abbrev pub mach_sent : Sent → Val
mach_sent r = vstruct (vcons (mach r.clock) (vcons (vbool r.sent) vnil))

-- what whoever holds the answer knows of its clock
pub clock_is : (r : Sent) (vs : List Val) → Is S.the_row r vs → Is T.the_row r.clock (mach r.clock ∷ [])
clock_is r vs is = (LL.owed S.the_type S'.the_laws r vs is).0

-- what whoever has a clock and a bool owes of the answer made of them
pub sent_is : (c : SendClock) (g : Bool) → Is T.the_row c (mach c ∷ [])
    → Is S.the_row (record { clock = c; sent = g }) (mach_sent (record { clock = c; sent = g }) ∷ [])
sent_is c g is = LL.owes S.the_type S'.the_laws (record { clock = c; sent = g }) (is, (refl, tt))

-- rule 2 of the clock h: what the clock c is then, and whether a sync info goes out
module _ (s : Settings) (at : ℕ) (h : SendClock) where
  abbrev pub ClockAfter : SendClock → Type 0
  ClockAfter c = send_clock_of c ≡ send_sync_info (settings_of s) at (send_clock_of h)

  abbrev pub GoesOut : Bool → Type 0
  GoesOut g = g ≡ not (throttled (settings_of s) at h.last)
