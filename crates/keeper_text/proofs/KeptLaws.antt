-- A keeper and its table, and what an edit of the table makes of them.
use Prim.Native.Nat.{ℕ, ◌≤◌, ◌<◌, ◌^◌}
use mathlib.Core.Path.{◌≡◌, sym, ap, ◌∙◌}
use mathlib.Core.Bool.{true, false≢true}
use mathlib.Core.List.{List, map}
use native.Mathlib.Omega.{arith}
use lib.ListN.{length, length-map}
use Rattle.fields.specs.Facts.{All}
use Rattle.fields.specs.Entries.{entries}
use Rattle.fields.proofs.EntriesLaws.{Wide, entries_replaced, length_replaced}
use Rattle.fields.proofs.RisingLaws.{rising_ascending, ascending_rising}
use Rattle.model.specs.Delivery.{Request, ids_of}
use Rattle.model.specs.Image.{request_of, request_bytes}
use Rattle.model.proofs.Well.{RisingIds}
use Rattle.model.proofs.RecordLaws.{Recorded, records_wide, requests_of_records, records_rise, ids_rise_lem}
use Rattle.settings.specs.Values.{settings_of}
use Rattle.commands.specs.Pending.{requests_in, holding}
use Rattle.commands.proofs.HoldingLaws.{length_requests}
use Rattle.keeper_text.specs.Keeping.{Keeping}
use Rattle.keeper_text.specs.Kept.{keeping_in, Fits, Kept, keeper_of}
use Rattle.keeper_text.specs.declared.keeping.Keeper.{Keeper}
use Rattle.keeper_text.proofs.FitLaws.{fits_recorded, fits_few}
use Rattle.model.specs.Layout.{id_size, record_size}

-- What is kept behind a line: as many numbers and requests as a table holds.
pub record Good (next : Keeping) : Type 0 where
  pub fit : All (Fits next.settings next.clock) next.pending
  pub rise : RisingIds (ids_of next.pending)
  pub begun : next.begun ≡ true
  pub limit : next.settings.max_checks < 2 ^ 32
  pub clock : next.clock < 2 ^ 64

module _ {keeper : Keeper} {table : List ℕ} (k : Kept keeper table) where
  pub kept_rise : RisingIds (ids_of (requests_in keeper.count table))
  kept_rise = ids_rise_lem (entries record_size keeper.count table) (rising_ascending 32 (entries record_size keeper.count table) k.order)

  pub kept_few : keeper.count ≤ 256
  kept_few =
      let l : length (requests_in keeper.count table) ≡ keeper.count = length_requests keeper.count table in
      let n = fits_few (settings_of keeper.settings) keeper.clock (requests_in keeper.count table) k.requests kept_rise in
      omega arith

  -- other requests in place of those pending
  module _ {next : Keeping} (good : Good next) where
    pub next_few : length next.pending ≤ 256
    next_few = fits_few next.settings next.clock next.pending good.fit good.rise

    recorded : All Recorded next.pending
    recorded = fits_recorded next.settings next.clock good.limit good.clock next.pending good.fit

    wide : Wide record_size (map request_bytes next.pending)
    wide = records_wide next.pending recorded

    module _ {table' : List ℕ} (e : table' ≡ holding keeper.count next.pending table) where
      entries_are : entries record_size (length next.pending) table' ≡ map request_bytes next.pending
      unfolding holding
      entries_are =
          let lp : length (map request_bytes next.pending) ≡ length next.pending = length-map next.pending request_bytes in
          rw (e, ← lp) (entries_replaced record_size keeper.count (map request_bytes next.pending) table wide)

      requests_are : requests_in (length next.pending) table' ≡ next.pending
      requests_are = ap (map request_of) entries_are ∙ requests_of_records next.pending recorded

      as_long : length table' ≡ length table
      unfolding holding
      as_long =
          let lp : length (map request_bytes next.pending) ≡ length next.pending = length-map next.pending request_bytes in
          ap length e ∙ length_replaced record_size keeper.count (map request_bytes next.pending) table wide (omega (arith, kept_few, next_few, k.room))

      pub holds_next : Kept (keeper_of next) table' × (keeping_in (keeper_of next) table' ≡ next)
      unfolding keeping_in settings_of
      holds_next = (
        record {
          room = omega (arith, as_long, k.room);
          none = λ n. absurd (false≢true (sym n ∙ good.begun));
          order = rw entries_are (ascending_rising id_size (map request_bytes next.pending) (records_rise next.pending recorded good.rise));
          requests = rw requests_are good.fit;
        },
        ap (λ (rs : List Request). record { begun = next.begun; settings = next.settings; clock = next.clock; pending = rs }) requests_are,
      )
