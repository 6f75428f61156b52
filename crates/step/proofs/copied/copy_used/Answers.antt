-- Front and back on zeros are the area: `copied_whole`.
use native.Mathlib.Omega.{arith}
use Prim.Native.Nat.{ℕ, ◌+◌, ◌≤◌}
use mathlib.Core.Path.{◌≡◌, ap, ◌∙◌}
use mathlib.Core.List.{List}
use lib.ListN.{length}
use Rattle.fields.proofs.ZeroLaws.{length_zeros}
use Rattle.model.specs.Layout.{area_size}
use Rattle.model.specs.Protocol.{tracked_limit}
use Rattle.step.proofs.UsedLaws.{read_few, copied_whole}
use Rattle.step.proofs.copied.copy_used.Goals.{Start}
use Rattle.step.proofs.copied.copy_used.Goals as goal

-- ---- the entry

module _ (s : Start) where
  abbrev area : List ℕ
  area = s.args.state.now

  long : length area ≡ area_size
  long = s.requires.0

  few : s.args.head.pending + s.args.head.evicted ≤ tracked_limit
  few = read_few area s.requires.1.0 s.args.head s.requires.1.1.0

  image-long : length s.args.image.now ≡ area_size
  image-long = ap length s.requires.1.1.1 ∙ length_zeros area_size

-- ---- the goals

pub overflow_mul-records_end : goal.overflow_mul-records_end
overflow_mul-records_end c = let s = (goal.at.overflow_mul-records_end c).Start in omega (arith, few s)

pub overflow_add-records_end : goal.overflow_add-records_end
overflow_add-records_end c = let s = (goal.at.overflow_add-records_end c).Start in omega (arith, few s)

pub copy_prefix-requires : goal.copy_prefix-requires
copy_prefix-requires c = let s = (goal.at.copy_prefix-requires c).Start in (omega (arith, few s, long s), omega (arith, few s, image-long s))

pub overflow_mul-evicted_at : goal.overflow_mul-evicted_at
overflow_mul-evicted_at c = let s = (goal.at.overflow_mul-evicted_at c).Start in omega (arith, few s)

pub overflow_sub-evicted_at : goal.overflow_sub-evicted_at
overflow_sub-evicted_at c = let s = (goal.at.overflow_sub-evicted_at c).Start in omega (arith, few s)

pub slice_bounds-copy-count : goal.slice_bounds-copy-count
slice_bounds-copy-count c = let s = (goal.at.slice_bounds-copy-count c).Start in omega (arith, long s)

pub slice_bounds-copy-start : goal.slice_bounds-copy-start
slice_bounds-copy-start c = let s = (goal.at.slice_bounds-copy-start c).Start in omega (arith, long s)

pub slice_bounds-copy-count-2 : goal.slice_bounds-copy-count-2
slice_bounds-copy-count-2 c =
    let s = (goal.at.slice_bounds-copy-count-2 c).Start in
    omega (arith, c.copy_prefix.auto.dst, image-long s)

pub slice_bounds-copy-start-2 : goal.slice_bounds-copy-start-2
slice_bounds-copy-start-2 c =
    let s = (goal.at.slice_bounds-copy-start-2 c).Start in
    omega (arith, c.copy_prefix.auto.dst, image-long s)

pub copy-requires : goal.copy-requires
copy-requires c =
    let s = (goal.at.copy-requires c).Start in
    omega (arith, long s, c.copy_prefix.auto.dst, image-long s)

pub returns : goal.returns
returns c =
    let s = (goal.at.returns c).Start in
    copied_whole (area s) s.requires.1.0 s.args.head s.requires.1.1.0 s.args.image.now c.copy_prefix.new.dst c.copy.new.dst
    (long s) s.requires.1.1.1 c.copy_prefix.ensures (c.copy_prefix.auto.dst ∙ image-long s) c.copy.ensures
