-- The header's numbers, each where the layout has it.
use Prim.Native.Nat.{ℕ, zero, suc, ◌%◌, ◌^◌, ◌≤◌, ◌<◌}
use mathlib.Core.Path.{◌≡◌, refl}
use mathlib.Core.Bool.{Bool, true, false}
use mathlib.Core.List.{List, [], ◌∷◌, ◌++◌}
use native.Mathlib.Nat.{lt_irrefl}
use native.Mathlib.Omega.{arith}
use lib.Dec.{eqb}
use lib.ListN.{length, drop}
use Rattle.fields.proofs.PartLaws.{Cell, written, Fit, Holds}
use Rattle.model.specs.State.{Mode, new, seeking, syncing, synced, ended, mode_number, State}
use Rattle.model.specs.Image.{newest_version, mode_of, bit, field, version, header_bytes}
use Rattle.model.proofs.Well.{Well, WellSettings, WellSync}

abbrev pub mark : List ℕ
mark = 69 ∷ 68 ∷ 84 ∷ []

-- what follows the mark
abbrev pub header_cells : State → List Cell
header_cells st =
    record { width = 2; number = newest_version }
    ∷ record { width = 1; number = mode_number st.mode }
    ∷ record { width = 1; number = bit st.sync.progress_used }
    ∷ record { width = 1; number = bit st.sync.entry_sent }
    ∷ record { width = 8; number = st.last_clock }
    ∷ record { width = 4; number = st.settings.timeout }
    ∷ record { width = 4; number = st.settings.max_checks }
    ∷ record { width = 4; number = st.settings.min_send_interval }
    ∷ record { width = 4; number = st.settings.stall_timeout }
    ∷ record { width = 8; number = st.sync.last_progress }
    ∷ record { width = 8; number = st.sync.send_clock.last_send }
    ∷ record { width = 8; number = st.sync.sync_peer }
    ∷ record { width = 4; number = st.sync.send_clock.sends }
    ∷ record { width = 4; number = st.sync.downloaded }
    ∷ record { width = 4; number = st.sync.known_tip }
    ∷ record { width = 2; number = length st.sync.stalled_peers }
    ∷ record { width = 2; number = length st.pending }
    ∷ record { width = 2; number = length st.sync.evicted }
    ∷ []

-- The area says the state's numbers.
pub record Header (st : State) (area : List ℕ) : Type 0 where
  pub version : version area ≡ newest_version
  pub mode : field 5 1 area ≡ mode_number st.mode
  pub progress_used : field 6 1 area ≡ bit st.sync.progress_used
  pub entry_sent : field 7 1 area ≡ bit st.sync.entry_sent
  pub last_clock : field 8 8 area ≡ st.last_clock
  pub timeout : field 16 4 area ≡ st.settings.timeout
  pub max_checks : field 20 4 area ≡ st.settings.max_checks
  pub min_send_interval : field 24 4 area ≡ st.settings.min_send_interval
  pub stall_timeout : field 28 4 area ≡ st.settings.stall_timeout
  pub last_progress : field 32 8 area ≡ st.sync.last_progress
  pub last_send : field 40 8 area ≡ st.sync.send_clock.last_send
  pub sync_peer : field 48 8 area ≡ st.sync.sync_peer
  pub sends : field 56 4 area ≡ st.sync.send_clock.sends
  pub downloaded : field 60 4 area ≡ st.sync.downloaded
  pub known_tip : field 64 4 area ≡ st.sync.known_tip
  pub stalled_count : field 68 2 area ≡ length st.sync.stalled_peers
  pub pending_count : field 70 2 area ≡ length st.pending
  pub evicted_count : field 72 2 area ≡ length st.sync.evicted

module _ (st : State) (area : List ℕ) where
  pub header_holds : Header st area → Holds 3 (header_cells st) area
  header_holds h =
      let from48 : Holds 48 (drop 11 (header_cells st)) area =
      (h.sync_peer, (h.sends, (h.downloaded, (h.known_tip, (h.stalled_count, (h.pending_count, (h.evicted_count, tt)))))))
      in
      let from16 : Holds 16 (drop 5 (header_cells st)) area =
      (h.timeout, (h.max_checks, (h.min_send_interval, (h.stall_timeout, (h.last_progress, (h.last_send, from48))))))
      in
      (h.version, (h.mode, (h.progress_used, (h.entry_sent, (h.last_clock, from16)))))

  pub holds_header : Holds 3 (header_cells st) area → Header st area
  holds_header h =
      let h₅ = h.1.1.1.1.1 in
      let h₁₀ = h₅.1.1.1.1.1 in
      let h₁₅ = h₁₀.1.1.1.1.1 in
      record {
        version = h.0;
        mode = h.1.0;
        progress_used = h.1.1.0;
        entry_sent = h.1.1.1.0;
        last_clock = h.1.1.1.1.0;
        timeout = h₅.0;
        max_checks = h₅.1.0;
        min_send_interval = h₅.1.1.0;
        stall_timeout = h₅.1.1.1.0;
        last_progress = h₅.1.1.1.1.0;
        last_send = h₁₀.0;
        sync_peer = h₁₀.1.0;
        sends = h₁₀.1.1.0;
        downloaded = h₁₀.1.1.1.0;
        known_tip = h₁₀.1.1.1.1.0;
        stalled_count = h₁₅.0;
        pending_count = h₁₅.1.0;
        evicted_count = h₁₅.1.1.0;
      }

-- ---- modes and marks

pub mode_narrow : (m : Mode) → mode_number m ≤ 4
mode_narrow new = omega arith
mode_narrow seeking = omega arith
mode_narrow syncing = omega arith
mode_narrow synced = omega arith
mode_narrow ended = omega arith

pub mode_of_number : (m : Mode) → mode_of (mode_number m) ≡ m
unfolding mode_of
mode_of_number new = refl
mode_of_number seeking = refl
mode_of_number syncing = refl
mode_of_number synced = refl
mode_of_number ended = refl

pub number_of_mode : (n : ℕ) → n ≤ 4 → mode_number (mode_of n) ≡ n
unfolding mode_of
number_of_mode zero h = refl
number_of_mode (suc zero) h = refl
number_of_mode (suc (suc zero)) h = refl
number_of_mode (suc (suc (suc zero))) h = refl
number_of_mode (suc (suc (suc (suc zero)))) h = refl
number_of_mode (suc (suc (suc (suc (suc n))))) h = absurd (lt_irrefl 0 (omega arith))

pub bit_narrow : (b : Bool) → bit b ≤ 1
bit_narrow true = omega arith
bit_narrow false = omega arith

pub bit_of : (b : Bool) → eqb (bit b) 1 ≡ b
bit_of true = refl
bit_of false = refl

pub of_bit : (n : ℕ) → n ≤ 1 → bit (eqb n 1) ≡ n
of_bit zero h = refl
of_bit (suc zero) h = refl
of_bit (suc (suc n)) h = absurd (lt_irrefl 0 (omega arith))

-- ---- the header as bytes

pub header_written : (st : State) → header_bytes st ≡ mark ++ written (header_cells st)
unfolding header_bytes
header_written st =
    let m : mode_number st.mode % 256 ≡ mode_number st.mode = omega (arith, mode_narrow st.mode) in
    let p : bit st.sync.progress_used % 256 ≡ bit st.sync.progress_used = omega (arith, bit_narrow st.sync.progress_used) in
    let e : bit st.sync.entry_sent % 256 ≡ bit st.sync.entry_sent = omega (arith, bit_narrow st.sync.entry_sent) in
    rw (m, p, e)

pub header_fit : (st : State) → Well st → Fit (header_cells st)
header_fit st w =
    let c : st.last_clock < 2 ^ 64 = w.last_clock in
    let s : WellSettings st.settings = w.settings in
    let y : WellSync st.mode st.last_clock st.sync = w.sync in
    let p : st.sync.last_progress ≤ st.last_clock = y.last_progress in
    let l : st.sync.send_clock.last_send ≤ st.last_clock = y.last_send in
    omega (arith, mode_narrow st.mode, bit_narrow st.sync.progress_used, bit_narrow st.sync.entry_sent, s.timeout, s.max_checks, s.min_send_interval, s.stall_timeout, y.sync_peer, y.sends, y.downloaded, y.known_tip, y.stalled_few, w.tracked)
