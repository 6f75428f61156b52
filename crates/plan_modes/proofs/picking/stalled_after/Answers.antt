-- The count is the set's length; who joins makes it one more.
use mathlib.Core.Path.{◌≡◌, sym, ap, ◌∙◌}
use lib.ListN.{length, length-append}
use Rattle.peers.proofs.StalledLaws.{length_stalled}
use Rattle.plan_modes.proofs.picking.stalled_after.Goals as goal

pub returns-in-Stay : goal.returns-in-Stay
returns-in-Stay c st call es = rw c.in-Stay.is (sym (ap length es ∙ length_stalled c.args.stalled))

pub returns-in-Join : goal.returns-in-Join
returns-in-Join c st call es =
    let before : length st.sync.stalled_peers ≡ c.args.stalled.count = ap length es ∙ length_stalled c.args.stalled in
    rw (c.in-Join.is, length-append, before)
