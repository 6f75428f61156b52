-- The last part of a list, lent and given back.
use Prim.Native.Nat.{ℕ, ◌-◌, ◌≤◌}
use mathlib.Core.Path.{◌≡◌, ◌∙◌}
use mathlib.Core.List.{List, [], ◌++◌, append-nil}
use native.Mathlib.Omega.{arith}
use lib.ListN.{length, take, drop, length-drop, drop_of_length-le}
use lib.Seq.{take_all, drop_at, length-take-le}
use borrow.Rule.Slice.PartMut.{put_mid, take_put}

pub tail_all : (n : ℕ) (x : List ℕ) → take (length x - n) (drop n x) ≡ drop n x
tail_all n x = take_all (length x - n) (drop n x) (rw (length-drop n x) (omega arith))

module _ (n : ℕ) (x y : List ℕ) (h : n ≤ length x) where
  pub front_kept : take n (put_mid n (length x - n) x y) ≡ take n x
  front_kept = take_put n (length x - n) x y h

  pub tail_put : drop n (put_mid n (length x - n) x y) ≡ y
  tail_put =
      let e : drop (length x - n) (drop n x) ≡ [] = drop_of_length-le (drop n x) {i = length x - n} (rw (length-drop n x) (omega arith)) in
      drop_at (take n x) (y ++ drop (length x - n) (drop n x)) n (length-take-le n x h) ∙ rw (e, append-nil y)
