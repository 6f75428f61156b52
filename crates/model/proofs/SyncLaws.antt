-- The state but for pending requests, part by part: what is put in keeps the invariant if it is within its own width.
use Prim.Native.Nat.{ℕ, ◌≤◌}
use mathlib.Core.Path.{◌≡◌, refl, sym}
use mathlib.Core.Bool.{Bool, true, false, false≢true}
use mathlib.Core.List.{List}
use native.Mathlib.Omega.{arith}
use Rattle.fields.specs.Facts.{All}
use Rattle.fields.proofs.OrderLaws.{neither}
use Rattle.model.specs.Protocol.{Id}
use Rattle.model.specs.State.{Mode, new, seeking, syncing, synced, ended, is_mode, has_sync_peer, SendClock, Sync}
use Rattle.model.specs.State.{with_downloaded, with_last_progress, with_send_clock, with_known_tip, with_stalled_peers, with_evicted, with_sync_peer}
use Rattle.model.proofs.Well.{WellId, WellSync}
use Rattle.model.proofs.Widths.{WellPeer, WellHeight}
use Rattle.model.proofs.PeerLaws.{WellSendClock, WellStalled}

-- The sync peer and its marks, as the mode has them.
record Peering (mode : Mode) (peer : ℕ) (used sent : Bool) : Type 0 where
  wide : WellPeer peer
  alone : has_sync_peer mode ≡ false → peer ≡ 0
  unused : is_mode mode syncing ≡ false → used ≡ false
  unsent : is_mode mode syncing ≡ false → sent ≡ false

-- The invariant from its parts.
put_together : {mode : Mode} {clock : ℕ} {s : Sync}
    → Peering mode s.sync_peer s.progress_used s.entry_sent
    → WellHeight s.downloaded
    → s.last_progress ≤ clock
    → WellSendClock clock s.send_clock
    → WellHeight s.known_tip
    → WellStalled s.stalled_peers
    → All WellId s.evicted
    → WellSync mode clock s
put_together peering downloaded progress sends tip stalled evicted =
    record {
      sync_peer = peering.wide;
      no_peer = peering.alone;
      downloaded = downloaded;
      last_progress = progress;
      last_send = sends.last_send;
      sends = sends.sends;
      known_tip = tip;
      stalled_peers = stalled.all;
      stalled_once = stalled.once;
      stalled_few = stalled.few;
      evicted = evicted;
      progress_used = peering.unused;
      entry_sent = peering.unsent;
    }

module _ {mode : Mode} {clock : ℕ} {s : Sync} (w : WellSync mode clock s) where
  pub send_clock_of_lem : WellSendClock clock s.send_clock
  send_clock_of_lem = record { last_send = w.last_send; sends = w.sends }

  pub stalled_of_lem : WellStalled s.stalled_peers
  stalled_of_lem = record { all = w.stalled_peers; once = w.stalled_once; few = w.stalled_few }

  peering_of : Peering mode s.sync_peer s.progress_used s.entry_sent
  peering_of = record { wide = w.sync_peer; alone = w.no_peer; unused = w.progress_used; unsent = w.entry_sent }

  pub with_downloaded_lem : (height : ℕ) → WellHeight height → WellSync mode clock (with_downloaded s height)
  with_downloaded_lem height h = put_together peering_of h w.last_progress send_clock_of_lem w.known_tip stalled_of_lem w.evicted

  pub with_last_progress_lem : (progress : ℕ) → progress ≤ clock → WellSync mode clock (with_last_progress s progress)
  with_last_progress_lem progress h = put_together peering_of w.downloaded h send_clock_of_lem w.known_tip stalled_of_lem w.evicted

  pub with_send_clock_lem : (c : SendClock) → WellSendClock clock c → WellSync mode clock (with_send_clock s c)
  with_send_clock_lem c h = put_together peering_of w.downloaded w.last_progress h w.known_tip stalled_of_lem w.evicted

  pub with_known_tip_lem : (tip : ℕ) → WellHeight tip → WellSync mode clock (with_known_tip s tip)
  with_known_tip_lem tip h = put_together peering_of w.downloaded w.last_progress send_clock_of_lem h stalled_of_lem w.evicted

  pub with_stalled_peers_lem : (peers : List ℕ) → WellStalled peers → WellSync mode clock (with_stalled_peers s peers)
  with_stalled_peers_lem peers h = put_together peering_of w.downloaded w.last_progress send_clock_of_lem w.known_tip h w.evicted

  pub with_evicted_lem : (ids : List Id) → All WellId ids → WellSync mode clock (with_evicted s ids)
  with_evicted_lem ids h = put_together peering_of w.downloaded w.last_progress send_clock_of_lem w.known_tip stalled_of_lem h

  -- The mode changes with the sync peer and its marks alone.
  with_sync_peer_lem : (other : Mode) (peer : ℕ) (used sent : Bool)
      → WellPeer peer
      → (has_sync_peer other ≡ false → peer ≡ 0)
      → (is_mode other syncing ≡ false → used ≡ false)
      → (is_mode other syncing ≡ false → sent ≡ false)
      → WellSync other clock (with_sync_peer s peer used sent)
  with_sync_peer_lem other peer used sent p alone u n =
      put_together (record { wide = p; alone = alone; unused = u; unsent = n }) w.downloaded w.last_progress send_clock_of_lem w.known_tip stalled_of_lem w.evicted

  pub as_syncing : (peer : ℕ) (used sent : Bool) → WellPeer peer → WellSync syncing clock (with_sync_peer s peer used sent)
  as_syncing peer used sent p =
      with_sync_peer_lem syncing peer used sent p (λ e. absurd (false≢true (sym e))) (λ e. absurd (false≢true (sym e))) (λ e. absurd (false≢true (sym e)))

  pub as_synced : WellSync synced clock (with_sync_peer s s.sync_peer false false)
  as_synced = with_sync_peer_lem synced s.sync_peer false false w.sync_peer (λ e. absurd (false≢true (sym e))) (λ e. refl) (λ e. refl)

  pub without_sync_peer : (other : Mode) → WellSync other clock (with_sync_peer s 0 false false)
  without_sync_peer other = with_sync_peer_lem other 0 false false (omega arith) (λ e. refl) (λ e. refl) (λ e. refl)

  pub without_entry : WellSync mode clock (with_sync_peer s s.sync_peer s.progress_used false)
  without_entry = with_sync_peer_lem mode s.sync_peer s.progress_used false w.sync_peer w.no_peer w.progress_used (λ e. refl)

  -- where there is no sync peer, any mode will do
  pub without_entry_alone : (other : Mode) → has_sync_peer mode ≡ false → WellSync other clock (with_sync_peer s s.sync_peer s.progress_used false)
  without_entry_alone other e =
      let n = neither (is_mode mode syncing) (is_mode mode synced) e in
      with_sync_peer_lem other s.sync_peer s.progress_used false w.sync_peer (λ f. w.no_peer e) (λ f. w.progress_used n.0) (λ f. refl)

pub later_sync : (mode : Mode) (old clock : ℕ) (s : Sync) → old ≤ clock → WellSync mode old s → WellSync mode clock s
later_sync mode old clock s later w =
    let p = w.last_progress in
    let l = w.last_send in
    let sends : WellSendClock clock s.send_clock = record { last_send = omega arith; sends = w.sends } in
    put_together (peering_of w) w.downloaded (omega arith) sends w.known_tip (stalled_of_lem w) w.evicted

-- ---- modes without a sync peer

pub new_alone : (mode : Mode) → is_mode mode new ≡ true → has_sync_peer mode ≡ false
new_alone new e = refl
new_alone seeking e = refl
new_alone syncing e = absurd (false≢true e)
new_alone synced e = absurd (false≢true e)
new_alone ended e = refl

pub seeking_alone : (mode : Mode) → is_mode mode seeking ≡ true → has_sync_peer mode ≡ false
seeking_alone new e = refl
seeking_alone seeking e = refl
seeking_alone syncing e = absurd (false≢true e)
seeking_alone synced e = absurd (false≢true e)
seeking_alone ended e = refl
