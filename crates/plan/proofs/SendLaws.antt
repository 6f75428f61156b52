-- Rule 2 by value and in the model: the send clock after it, and whom a sync info goes to.
use Prim.Native.Nat.{ℕ}
use mathlib.Core.Path.{◌≡◌, refl, sym}
use mathlib.Core.Bool.{Bool, true, false, not, cond}
use mathlib.Core.List.{[], ◌∷◌}
use Rattle.std.specs.Prelude as program
use Rattle.std.specs.Bool.{then_some}
use Rattle.std.specs.Option.{is_some}
use Rattle.model.specs.Settings as model
use Rattle.model.specs.State as state
use Rattle.model.specs.State.{State}
use Rattle.model.specs.Peers.{send_sync_info}
use Rattle.model.specs.Requests as acts
use Rattle.model.specs.Requests.{sync_info, sync_info_to}
use Rattle.peers.specs.Peers.{listed_peer}
use Rattle.settings.specs.Values.{settings_of, send_clock_of}
use Rattle.settings.specs.declared.SendClock.{SendClock}
use Rattle.image.specs.declared.head.Head.{Head}
use Rattle.image.specs.Heads.{head_of}
use Rattle.plan.specs.Plans.{say_to}

-- a send clock from the model's
unfoldable pub clock_from : state.SendClock → SendClock
clock_from sends = record { last = sends.last_send; sends = sends.sends }

pub clock_from_lem : (r : SendClock) (sends : state.SendClock) → send_clock_of r ≡ sends → r ≡ clock_from sends
unfolding send_clock_of clock_from
clock_from_lem r sends e = rw (sym e)

-- A header with these settings and this send clock.
pub record Headed (its : model.Settings) (clock : state.SendClock) (head : Head) : Type 0 where
  pub settings : settings_of head.settings ≡ its
  pub sends : send_clock_of head.send ≡ clock

pub headed : (st : State) (head : Head) → head_of st ≡ head → Headed st.settings st.sync.send_clock head
unfolding head_of settings_of send_clock_of
headed st head h = record { settings = rw (sym h); sends = rw (sym h) }

-- Rule 2 by value towards a peer, a send clock and whom the sync info goes to, is what it says in the model.
pub record Answered (settings : model.Settings) (now : ℕ) (sends : state.SendClock) (peer : ℕ) (send : SendClock) (says : program.Option ℕ) : Type 0 where
  pub clock : send ≡ clock_from (send_sync_info settings now sends)
  pub to : says ≡ then_some (not (model.throttled settings now sends.last_send)) peer

pub answered : (settings : model.Settings) (sends : state.SendClock) (head : Head) (clock now peer : ℕ) (send : SendClock) (says : program.Option ℕ)
    → Headed settings sends head
    → clock ≡ now
    → send_clock_of send ≡ send_sync_info (settings_of head.settings) now (send_clock_of head.send)
    → says ≡ then_some (not (model.throttled (settings_of head.settings) now head.send.last)) peer
    → Answered settings clock sends peer send says
unfolding send_clock_of clock_from
answered settings sends head clock now peer send says h e a b =
    let after : send_clock_of send ≡ send_sync_info settings clock sends = rw (a, h.settings, h.sends, e) in
    record { clock = rw (sym after); to = rw (b, h.settings, sym h.sends, e) }

pub answered_in : (st : State) (head : Head) (clock now peer : ℕ) (send : SendClock) (says : program.Option ℕ)
    → head_of st ≡ head
    → clock ≡ now
    → send_clock_of send ≡ send_sync_info (settings_of head.settings) now (send_clock_of head.send)
    → says ≡ then_some (not (model.throttled (settings_of head.settings) now head.send.last)) peer
    → Answered st.settings clock st.sync.send_clock peer send says
answered_in st head clock now peer send says h e =
    answered st.settings st.sync.send_clock head clock now peer send says (headed st head h) e

module _ {settings : model.Settings} {clock : ℕ} {sends : state.SendClock} (peer : ℕ) {send : SendClock} (says : program.Option ℕ)
    (a : Answered settings clock sends peer send says) where
  -- whether one is sent
  pub marked : is_some says ≡ not (model.throttled settings clock sends.last_send)
  marked = rw a.to (go (not (model.throttled settings clock sends.last_send)))
    where
      go : (sent : Bool) → is_some (then_some sent peer) ≡ sent
      go true = refl
      go false = refl

  pub said : say_to (listed_peer says) ≡ sync_info_to settings clock sends peer
  unfolding sync_info_to
  said = rw a.to (go (model.throttled settings clock sends.last_send))
    where
      go : (quiet : Bool) → say_to (listed_peer (then_some (not quiet) peer)) ≡ cond quiet [] (acts.send (sync_info peer) ∷ [])
      go true = refl
      go false = refl
