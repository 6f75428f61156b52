-- The type, then the id: `pair_written`.
use borrow.Author.Rules.{rules}
use Prim.Native.Nat.{ℕ}
use lib.ListN.{length-replicate}
use Rattle.model.specs.Layout.{pair_size}
use Rattle.request_announced.proofs.WantedLaws.{pair_written}
use Rattle.request_announced.proofs.wanted.pair_of.Goals as goal

pub returns : goal.returns
returns c =
    let a = c.args in
    pair_written a.typeid a.id.now _ (search rules) (length-replicate {A = ℕ} pair_size 0) c.write_u16.ensures c.overwrite.ensures
