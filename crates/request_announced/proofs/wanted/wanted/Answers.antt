use native.Mathlib.Omega.{arith}
use Prim.Native.Nat.{◌*◌, ◌≤◌}
use mathlib.Core.Path.{◌≡◌, ◌∙◌}
use lib.ListN.{length}
use Rattle.fields.proofs.EntriesLaws.{Wide}
use Rattle.model.specs.Lists.{ids_in, pairs_in}
use Rattle.model.proofs.ListLaws.{ids_wide}
use Rattle.commands.specs.Pending.{requests_in}
use Rattle.commands.proofs.RunLaws.{chunks_are_ids}
use Rattle.model.specs.Layout.{id_size}
use Rattle.request_announced.proofs.WantedLaws.{want_take, want_skip, want_all}
use Rattle.request_announced.proofs.wanted.wanted.Goals.{After-as_chunks, then-is_wanted, else-is_wanted}
use Rattle.request_announced.proofs.wanted.wanted.Goals as goal

given : (c : After-as_chunks) → c.as_chunks.result.0.now ≡ ids_in c.args.ids.now
given c = c.as_chunks.ensures.front ∙ chunks_are_ids c.args.ids.now

pub loop-id-preserved : goal.loop-id-preserved
loop-id-preserved c =
    let cut = (goal.at.loop-id-preserved c).After-as_chunks in
    let ids = cut.as_chunks.result.0.now in
    let wide : Wide id_size ids = rw (given cut) (ids_wide c.args.ids.now) in
    let room : length ids * id_size ≤ length c.args.rest.now = omega (arith, cut.as_chunks.ensures.front_len, c.requires.ids_len_bound.0) in
    let inv = c.loop-id.invariant in
    elim c.if-is_wanted.branch [
      | then-is_wanted w ↦
          want_take inv c.loop-id-test.true c.is_wanted.ensures wide room w.if-is_wanted.true (w.rest-is ∙ w.overwrite.ensures) w.kept-is
      | else-is_wanted w ↦ want_skip inv c.loop-id-test.true c.is_wanted.ensures w.if-is_wanted.false w.rest-is w.kept-is
    ]

pub returns : goal.returns
returns c =
    let a = c.args in
    let cut = (goal.at.returns c).After-as_chunks in
    let whole = want_all (requests_in a.count a.table.now) a.typeid (pairs_in a.stored.bytes.now) c.loop-id.invariant c.loop-id-test.false in
    record { rest_after = rw (← given cut) whole.0; value = rw (← given cut) whole.1 }
