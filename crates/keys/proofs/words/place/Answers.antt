-- What two probes say of all entries (`below_probe`, `above_probe`).
use native.Mathlib.Omega.{arith}
use Prim.Native.Nat.{ℕ, ◌+◌, ◌≤◌, ◌<◌}
use mathlib.Core.Path.{◌≡◌, refl}
use Rattle.keys.proofs.WithinLaws.{below_probe, above_probe, between, within_as}
use Rattle.keys.proofs.words.place.Goals as goal

pub among-requires-then-not-less : goal.among-requires-then-not-less
among-requires-then-not-less c =
    let less = c.less in
    let h : c.guess-start.result < c.args.table.count = omega arith in
    below_probe c.requires.within c.guess-start.result h less.ensures c.if-not-less.true

pub among-requires-then-less : goal.among-requires-then-less
among-requires-then-less c =
    let i : ℕ = c.guess-start.result + 64 in
    let h : i < c.args.table.count = omega arith in
    let e : i + 1 ≡ c.guess-start.result + 65 = omega arith in
    within_as e refl (above_probe c.requires.within i h c.less-2.ensures c.if-less.true)

pub among_63-requires : goal.among_63-requires
among_63-requires c =
    let less = c.less in
    let i : ℕ = c.guess-start.result in
    let h : i < c.args.table.count = omega arith in
    let k : i + 64 < c.args.table.count = omega arith in
    let o : i + 1 ≤ i + 64 = omega arith in
    let e : i + 64 ≡ i + 1 + 63 = omega arith in
    let above = above_probe c.requires.within i h less.ensures c.if-not-less.false in
    let below = below_probe c.requires.within (i + 64) k c.less-2.ensures c.if-less.false in
    within_as refl e (between o above below)
