use borrow.Author.Rules.{rules}
use mathlib.Core.Path.{◌≡◌, ◌∙◌}
use native.Mathlib.Omega.{arith}
use Rattle.fields.specs.Facts.{Bytes}
use Rattle.model.specs.Lists.{ids_in}
use Rattle.model.proofs.ListLaws.{ids_wide, ids_bytes}
use Rattle.commands.proofs.RunLaws.{chunks_are_ids}
use Rattle.mark_requested.proofs.EachLaws.{Each, each_starts, each_turn, each_ends}
use Rattle.mark_requested.proofs.entering.mark_each.Goals.{After-as_chunks}
use Rattle.mark_requested.proofs.entering.mark_each.Goals as goal

-- ---- the ids as arrays

module _ (c : After-as_chunks) where
  given : c.as_chunks.result.0.now ≡ ids_in c.args.ids.now
  given = c.as_chunks.ensures.front ∙ chunks_are_ids c.args.ids.now

  module _ (table_is : Bytes c.args.table.now) (ids_are : Bytes c.args.ids.now) where
    each : let a = c.args in Each a.asking.clock a.asking.typeid a.asking.peer a.count c.as_chunks.result.0.now a.table.now
    each =
        record {
          room = rw c.as_chunks.ensures.front_len c.requires.room;
          rises = c.requires.table_value;
          clock_fits = omega (arith, c.ranges);
          type_fits = omega (arith, c.ranges);
          peer_fits = omega (arith, c.ranges);
          wide = rw given (ids_wide c.args.ids.now);
          bytes_ids = rw given (ids_bytes c.args.ids.now ids_are);
          bytes_table = table_is;
        }

-- ---- the goals

pub loop-id-init : goal.loop-id-init
loop-id-init c =
    let cut = (goal.at.loop-id-init c).After-as_chunks in
    each_starts (each cut (λ i. search rules) (λ i. search rules))

pub loop-id-preserved : goal.loop-id-preserved
loop-id-preserved c =
    let cut = (goal.at.loop-id-preserved c).After-as_chunks in
    let marked = c.mark_one-pending.ensures in
    each_turn (each cut (λ i. search rules) (λ i. search rules)) c.loop-id.invariant c.loop-id-test.true
    (marked.value, marked.table_after) (λ i. omega (arith, c.type_inv.table i))

pub returns : goal.returns
returns c =
    let cut = (goal.at.returns c).After-as_chunks in
    let whole = each_ends (each cut (λ i. search rules) (λ i. search rules)) c.loop-id.invariant c.loop-id-test.false in
    record { value = rw (← given cut) whole.0; table_after = rw (← given cut) whole.1 }
