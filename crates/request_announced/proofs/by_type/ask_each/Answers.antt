use native.Mathlib.Omega.{arith}
use borrow.Author.Rules.{rules}
use mathlib.Core.Path.{ap, ◌∙◌}
use Rattle.fields.proofs.AllLaws.{all_at}
use Rattle.std.proofs.Common.{Err}
use Rattle.std.proofs.lemmas.Result.{err_from_is_err_and}
use Rattle.request_announced.specs.Pairs.{Within}
use Rattle.request_announced.specs.Run.{Run, run}
use Rattle.request_announced.proofs.RequestedLaws.{is_full}
use Rattle.request_announced.proofs.AskLaws.{Turn, within, ask_starts, ask_ends, ids_long, stays_within, places_few, request_asks, ask_full, ask_turn}
use Rattle.request_announced.proofs.by_type.ask_each.Goals.{After-type_end-next}
use Rattle.request_announced.proofs.by_type.ask_each.Goals as goal

-- what the loop runs on
abbrev runs : After-type_end-next → Run
runs c = let a = c.args in run a.asks a.table.now a.rest.now a.out.now a.start

-- the places of one type, from the loop's i on
turn : (c : After-type_end-next) → Turn (runs c) c.loop-i.i c.type_at-typeid.result c.type_end-next.result
turn c = record { here = c.loop-i-test.true; typed = c.type_at-typeid.ensures; ends = c.type_end-next.ensures }

-- ---- the goals

pub loop-i-init : goal.loop-i-init
loop-i-init c = ask_starts c.requires (λ i. search rules) c.args.asks.bytes (omega (arith, c.ranges))

pub type_at-typeid-requires : goal.type_at-typeid-requires
type_at-typeid-requires c =
    let asks = c.args.asks in all_at (Within asks.pairs.now) asks.places.now c.loop-i.i 0 c.loop-i-test.true (within c.requires)

pub type_end-next-requires : goal.type_end-next-requires
type_end-next-requires c = (within c.requires, c.loop-i-test.true)

pub offset_bounds-asks-i-in-loop-i : goal.offset_bounds-asks-i-in-loop-i
offset_bounds-asks-i-in-loop-i c =
    let here = (goal.at.offset_bounds-asks-i-in-loop-i c).After-type_end-next in
    omega (arith, here.loop-i-test.true, places_few here.requires here.loop-i.invariant (turn here))

pub overflow_mul-next : goal.overflow_mul-next
overflow_mul-next c =
    let here = (goal.at.overflow_mul-next c).After-type_end-next in
    let inv = here.loop-i.invariant in
    omega (arith, stays_within here.requires inv (turn here), places_few here.requires inv (turn here))

pub slice_bounds-request_announced-end : goal.slice_bounds-request_announced-end
slice_bounds-request_announced-end c =
    let here = (goal.at.slice_bounds-request_announced-end c).After-type_end-next in
    let inv = here.loop-i.invariant in
    omega (arith, stays_within here.requires inv (turn here), ids_long here.requires inv (turn here))

pub request_announced-requires : goal.request_announced-requires
request_announced-requires c =
    let here = (goal.at.request_announced-requires c).After-type_end-next in
    let whole = request_asks here.requires here.loop-i.invariant (turn here) in
    record { ids_len_bound = whole.0; table_value = whole.1.0; ids_in_bounds = whole.1.1 }

pub returns-in_err-done : goal.returns-in_err-done
returns-in_err-done c =
    let here = (goal.at.returns-in_err-done c).After-type_end-next in
    let asked = c.request_announced.ensures in
    let p = err_from_is_err_and c.from_residual.result c.from_residual.ensures.1 in
    rw (p.1, is_full p.0)
    (ask_full here.requires here.loop-i.invariant (turn here) (asked.value, (asked.table_after, asked.out_after)) (c.in_err-done.was ∙ ap Err (is_full _)))

pub loop-i-preserved : goal.loop-i-preserved
loop-i-preserved c =
    let here = (goal.at.loop-i-preserved c).After-type_end-next in
    let asked = c.request_announced.ensures in
    ask_turn here.requires here.loop-i.invariant (turn here) (asked.value, (asked.table_after, asked.out_after)) c.in_ok-done.done
    c.in_ok-done.was (search rules) (λ i. omega (arith, c.type_inv.table i)) c.request_announced.auto.rest

pub returns : goal.returns
returns c = ask_ends c.requires c.loop-i.invariant c.loop-i-test.false
