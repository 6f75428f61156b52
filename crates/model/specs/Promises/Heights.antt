-- The downloaded height and the known tip: over which heights it rises, how far, and when it falls.
use Rattle.std.specs.Prelude.{ℕ, ◌+◌, ◌≤◌, ◌<◌, ◌≡◌, true, ◌⊎◌, []}
use Rattle.std.proofs.Math.Option.{Option, none, some}
use Rattle.fields.specs.Facts.{All}
use Rattle.model.specs.State.{syncing, synced}
use Rattle.model.specs.Sections.{Section, Header, absent, present}
use Rattle.model.specs.Promises.Numbers
use Rattle.model.specs.Promises.Words.{Seen, peers, view}
use Rattle.model.specs.Promises.Outcomes.{Heard}

-- What a view shows of a height: its header is there and every section is stored. A height without sections is complete.
abbrev pub Complete : Option Header → Type 0
Complete none = ⊥
Complete (some absent) = ⊥
Complete (some (present sections)) = All (λ (x : Section). x.is_stored ≡ true) sections

-- The steps that look how far the height can rise.
pub data LooksOn (s : Seen) : Type 0 where
  at_start : s.call.kind ≡ Numbers.start → LooksOn s
  in_reorg : s.call.kind ≡ Numbers.reorg → LooksOn s
  on_receipt : s.call.kind ≡ Numbers.received_ids → LooksOn s
  at_section_tick : s.call.kind ≡ Numbers.section_tick → LooksOn s
  -- "A check in syncing also runs rule 5, in synced not."
  in_check : s.call.kind ≡ Numbers.check → s.before.mode ≡ syncing → LooksOn s
  -- a scheduled tick in synced, with somebody listed
  at_tick : s.call.kind ≡ Numbers.scheduled_tick → s.before.mode ≡ synced → (peers s ≡ [] → ⊥) → LooksOn s

-- From where the height rises: "downloaded falls to the fork point if above it", in a reorg and nowhere else.
pub record StartsFrom (s : Seen) (height : ℕ) : Type 0 where
  pub in_reorg : s.call.kind ≡ Numbers.reorg → ((height ≡ s.call.fork) ⊎ (height ≡ s.before.sync.downloaded)) × (height ≤ s.call.fork)
  pub elsewhere : (s.call.kind ≡ Numbers.reorg → ⊥) → height ≡ s.before.sync.downloaded
  pub no_higher : height ≤ s.before.sync.downloaded

pub record Downloaded (s : Seen) : Type 0 where
  pub from : ℕ
  pub starts : StartsFrom s from
  pub rises : from ≤ s.after.sync.downloaded
  -- over heights that the lent view shows complete, up to our chain height
  pub over_complete : (height : ℕ) → from < height → height ≤ s.after.sync.downloaded → Complete (view s height) × (height ≤ s.call.height)
  -- as far as it can
  pub as_far : LooksOn s → (s.call.height ≤ s.after.sync.downloaded) ⊎ (Complete (view s (s.after.sync.downloaded + 1)) → ⊥)
  pub else_stays : (LooksOn s → ⊥) → s.after.sync.downloaded ≡ s.before.sync.downloaded

-- "the known tip rises to the peer's"
pub record KnownTip (s : Seen) : Type 0 where
  pub never_falls : s.before.sync.known_tip ≤ s.after.sync.known_tip
  pub reaches : (tip : ℕ) → Heard s tip → tip ≤ s.after.sync.known_tip
  pub no_further : (s.after.sync.known_tip ≡ s.before.sync.known_tip) ⊎ Heard s s.after.sync.known_tip
