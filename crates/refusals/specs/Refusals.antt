-- The refusals that are known before a step is worked out: 1 to 8 of document 01's table, in its order.
use Rattle.std.specs.Prelude.{ℕ, List, leb}
use Rattle.model.specs.State.{State}
use Rattle.model.specs.Image.{decode}
use Rattle.model.specs.Lists.{peers_fit, view_fits}
use Rattle.model.specs.Calls.{Call, unless, image_refusal, call_fits, lists_fit}
use Rattle.model.specs.Layout.{area_size}

-- 4 to 8
unfoldable pub lent_refusal : State → Call → ℕ
lent_refusal st call =
    unless (leb st.last_clock call.clock) 4
    (unless (call_fits st call) 5
    (unless (lists_fit call) 6
    (unless (peers_fit call.peers) 7
    (unless (view_fits call.view) 8 0))))

-- 1 to 3, then the number of what comes behind them; `room` is the command area's length
abbrev pub areas_refusal : List ℕ → ℕ → ℕ → ℕ
areas_refusal state room behind = image_refusal state (unless (leb area_size room) 3 behind)

-- 1 to 8; `room` is the command area's length
unfoldable pub given_refusal : List ℕ → ℕ → Call → ℕ
given_refusal state room call = areas_refusal state room (lent_refusal (decode state) call)
