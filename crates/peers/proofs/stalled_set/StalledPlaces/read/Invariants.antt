-- The invariant: the first i places of the set are those of the bytes.
use Rattle.std.proofs.Common.{◌≡◌, map, length, take}
use Rattle.fields.specs.Number.{from_be}
use Rattle.fields.specs.Entries.{entries}
use Rattle.peers.proofs.stalled_set.StalledPlaces.read.Given as goal

abbrev pub invariant-loop-i : goal.invariant-loop-i
invariant-loop-i l =
    (l.stalled.1.0 ≡ l.self.count) × (length l.stalled.0 ≡ 256) × (take l.i l.stalled.0 ≡ map from_be (entries 8 l.i l.self.bytes.now))
