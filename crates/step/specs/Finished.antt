-- What a finished step writes: a sync info, the header with its counts, the image.
use Rattle.std.specs.Prelude.{ℕ, ◌-◌, List, [], ◌∷◌, ◌++◌, take, drop}
use Rattle.std.proofs.Math.Option.{Option, none, some}
use Rattle.model.specs.Requests.{Sending, sync_info}
use Rattle.image.specs.declared.head.Head.{Head}
use Rattle.image.specs.Heads.{head_bytes}
use Rattle.model.specs.Layout.{region_at, stalled_at}

-- the sync info that goes out last, if one does
abbrev pub said : Option ℕ → List Sending
said none = []
said (some peer) = sync_info peer ∷ []

-- a header with these counts of pending and evicted
unfoldable pub counted : Head → ℕ → ℕ → Head
counted h pending evicted =
    record {
      mode = h.mode;
      used = h.used;
      sent = h.sent;
      clock = h.clock;
      settings = h.settings;
      progress = h.progress;
      send = h.send;
      peer = h.peer;
      downloaded = h.downloaded;
      tip = h.tip;
      stalled = h.stalled;
      pending = pending;
      evicted = evicted;
    }

-- an image with another header and other stalled places
unfoldable pub completed : Head → List ℕ → List ℕ → List ℕ
completed h places image = head_bytes h ++ (take (stalled_at - 74) (drop 74 image) ++ (places ++ drop region_at image))
