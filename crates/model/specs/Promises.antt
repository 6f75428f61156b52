-- What a user may rely on: every rule said a second time, from outside, in arguments, commands read from bytes and images before
-- and after. Each file is a topic; docs/PROMISES.md says them in a user's words.

pub mod Numbers
pub mod Words
pub mod Outcomes
pub mod Marks
pub mod SyncInfos
pub mod Heights
pub mod Pending
pub mod Told
pub mod Asked
pub mod Batches
pub mod Refusals
pub mod Runs
pub mod Maps

-- All promises of a finished call.
pub record Promises (s : Words.Seen) : Type 0 where
  pub outcomes : Outcomes.Outcomes s
  pub passed_over : Outcomes.OthersHaveNone s → Outcomes.PassedOver s
  pub modes : Outcomes.Modes s
  pub sync_peer : Marks.SyncPeer s
  pub stalled_set : Marks.StalledSet s
  pub marks : Marks.Marks s
  pub sync_infos : SyncInfos.SyncInfos s
  pub announcements : SyncInfos.Announcements s
  pub downloaded : Heights.Downloaded s
  pub known_tip : Heights.KnownTip s
  pub asks : Asked.Asks s
  pub batches : Batches.Batches s
  pub pending : Pending.Pending s
  pub evicted : Pending.Evicted s
  pub told : Told.Told s

-- For any finished call on any areas. Refusals, runs and the map have statements of their own (Promises.Refusals,
-- Promises.Runs, Promises.Maps).
abbrev pub AnyFinished : Type 0
AnyFinished = Words.Promised Promises
