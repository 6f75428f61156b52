use Prim.Native.Nat.{ℕ, ◌+◌, ◌-◌, ◌/◌, ◌<◌}
use mathlib.Core.Bool.{Bool, false}
use mathlib.Core.Path.{◌≡◌, sym, subst}
use mathlib.Core.List.{List}
use native.Mathlib.Omega.{arith}
use Rattle.fields.specs.Entries.{entries}
use Rattle.fields.proofs.EntriesLaws.{length_entries}
use Rattle.keys.proofs.FindLaws.{Below, Here, below_falls, compared_before, compared_same, found_at, found_gap, found_end}
use Rattle.keys.proofs.find.halved.Goals.{After-comes_before, After-run_same, At-loop-lo, Start}
use Rattle.keys.proofs.find.halved.Goals as goal

module _ (s : Start) where
  abbrev key : List ℕ
  key = s.args.key.now

  abbrev es : List (List ℕ)
  es = entries s.args.table.width s.args.table.count s.args.table.bytes.now

-- ---- the key in the middle, compared

module _ (c : After-comes_before) where
  abbrev start : Start
  start = search

  abbrev mid : ℕ
  mid = c.loop-lo.lo + (c.loop-lo.hi - c.loop-lo.lo) / 2

  compared : {b : Bool} → mid < c.args.table.count → c.comes_before.result ≡ b → Below (key start) (es start) mid b
  compared h e =
      compared_before (key start) c.args.table.bytes.now c.args.table.width c.args.table.count mid h c.requires.key_len_bound.0 c.comes_before.ensures e

-- ---- the key where the bounds have met, compared

module _ (c : After-run_same) where
  abbrev entry : Start
  entry = search

  abbrev met : At-loop-lo
  met = record { before = search; type_inv = record { key = search } }

  abbrev at : ℕ
  at = c.loop-lo.lo

  inside : at < c.args.table.count
  inside = omega arith

  not_below : Below (key entry) (es entry) at false
  not_below =
      let e : c.loop-lo.hi ≡ at = omega arith in
      subst (λ (i : ℕ). Below (key entry) (es entry) i false) e (c.loop-lo.invariant.1.1.1 (omega arith))

  same_here : {b : Bool} → c.run_same.result ≡ b → Here (key entry) (es entry) at b
  same_here e =
      compared_same (key entry) c.args.table.bytes.now c.args.table.width c.args.table.count at inside c.requires.key_len_bound.0 c.run_same.ensures e

-- ---- the goals

pub loop-lo-preserved-then-comes_before : goal.loop-lo-preserved-then-comes_before
loop-lo-preserved-then-comes_before c =
    let asked = (goal.at.loop-lo-preserved-then-comes_before c).After-comes_before in
    let s = start asked in
    let h : mid asked < s.args.table.count = omega arith in
    let below = below_falls (key s) (es s) s.requires.table_value (mid asked) (rw length_entries h) (compared asked h c.if-comes_before.true) in
    (omega arith, (omega arith, (below, asked.loop-lo.invariant.1.1.1)))

pub loop-lo-preserved : goal.loop-lo-preserved
loop-lo-preserved c =
    let asked = (goal.at.loop-lo-preserved c).After-comes_before in
    (omega arith, (omega arith, (asked.loop-lo.invariant.1.1.0, (λ h. compared asked h c.if-comes_before.false))))

pub returns-then-run_same : goal.returns-then-run_same
returns-then-run_same c =
    let here = (goal.at.returns-then-run_same c).After-run_same in
    let s = entry here in
    sym (found_at (key s) (es s) (at here) (rw length_entries (inside here)) here.loop-lo.invariant.1.1.0 (not_below here) (same_here here c.if-run_same.true))

pub returns-else-run_same : goal.returns-else-run_same
returns-else-run_same c =
    let here = (goal.at.returns-else-run_same c).After-run_same in
    let s = entry here in
    sym (found_gap (key s) (es s) (at here) (rw length_entries (inside here)) here.loop-lo.invariant.1.1.0 (not_below here) (same_here here c.if-run_same.false))

pub returns-else-lo-table : goal.returns-else-lo-table
returns-else-lo-table c =
    let s = (goal.at.returns-else-lo-table c).Start in
    sym (found_end (key s) (es s) c.loop-lo.lo (rw length_entries (omega arith)) c.loop-lo.invariant.1.1.0)
