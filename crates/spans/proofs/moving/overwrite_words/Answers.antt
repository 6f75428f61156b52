use Prim.Native.Nat.{◌-◌}
use mathlib.Core.Path.{refl, sym}
use native.Mathlib.Omega.{arith}
use lib.ListN.{length}
use Rattle.fields.specs.Facts.{Bytes}
use Rattle.fields.proofs.OverwriteLaws.{overwritten_nil}
use Rattle.spans.proofs.WordLaws.{word_written, last_written}
use Rattle.spans.proofs.moving.overwrite_words.Goals as goal

pub loop-done-init : goal.loop-done-init
loop-done-init c = (omega arith, (refl, sym (overwritten_nil c.args.at c.args.s.now)))

pub loop-done-preserved : goal.loop-done-preserved
loop-done-preserved c = let bytes : Bytes c.args.new.now = λ i. omega (arith, c.type_inv.new i) in (
  omega arith,
  (
    omega arith,
    word_written c.args.at c.args.new.now c.args.s.now c.loop-done.s c.write_u64.new.s c.loop-done.done c.read_u64-word.result
        bytes (omega arith) c.loop-done.invariant.1.1 (omega arith) c.read_u64-word.ensures c.write_u64.ensures,
  ),
)

pub returns : goal.returns
returns c = let bytes : Bytes c.args.new.now = λ i. omega (arith, c.type_inv.new i) in
    last_written c.args.at c.args.new.now c.args.s.now c.loop-done.s c.write_u64-2.new.s c.loop-done.done c.read_u64-word-2.result
    bytes (omega arith) c.loop-done.invariant.1.1 (length c.args.new.now - 8) (omega arith) (omega arith) (omega arith) c.read_u64-word-2.ensures c.write_u64-2.ensures
