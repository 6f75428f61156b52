-- A law for each word that ends the run.
use mathlib.Core.List.{List}
use Prim.Native.Nat.{ℕ}
use Rattle.model.specs.Image.{field}
use Rattle.window_map.proofs.PassLaws.{run_first, run_second, run_third}
use Rattle.window_map.proofs.passing.passable.Goals as goal

pub returns-then-first-lt64 : goal.returns-then-first-lt64
returns-then-first-lt64 c =
    let area : List ℕ = c.args.map.now in
    run_first (field 16 8 area) (field 24 8 area) (field 32 8 area) c.ones_at-first.ensures.0 c.if-first-lt64.true

pub returns-then-second-lt64 : goal.returns-then-second-lt64
returns-then-second-lt64 c =
    let area : List ℕ = c.args.map.now in
    run_second (field 16 8 area) (field 24 8 area) (field 32 8 area) c.ones_at-first.ensures.0 c.if-first-lt64.false c.ones_at-second.ensures.0
    c.if-second-lt64.true

pub returns : goal.returns
returns c =
    let area : List ℕ = c.args.map.now in
    run_third (field 16 8 area) (field 24 8 area) (field 32 8 area) c.ones_at-first.ensures.0 c.if-first-lt64.false c.ones_at-second.ensures.0
    c.if-second-lt64.false c.ones_at.ensures.0
