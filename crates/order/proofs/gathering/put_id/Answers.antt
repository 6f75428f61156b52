-- Four words, all read before the first is written: `id_copied`.
use native.Mathlib.Omega.{arith}
use Rattle.order.proofs.GatheredLaws.{Read, id_copied}
use Rattle.order.proofs.gathering.put_id.Goals.{After-read_u64-d}
use Rattle.order.proofs.gathering.put_id.Goals as goal

-- ---- the words read

module _ (c : After-read_u64-d) where
  read : Read c.args.table.now c.args.from c.read_u64-a.result c.read_u64-b.result c.read_u64-c.result
      c.read_u64-d.result
  read =
      record {
        bytes = λ i. omega (arith, c.type_inv.table i);
        within = c.requires.0;
        first = c.read_u64-a.ensures;
        second = c.read_u64-b.ensures;
        third = c.read_u64-c.ensures;
        fourth = c.read_u64-d.ensures;
      }

pub returns : goal.returns
returns c =
    let words = (goal.at.returns c).After-read_u64-d in
    id_copied (read words) words.args.ids.now words.args.to words.requires.1
    c.write_u64.ensures c.write_u64-2.ensures c.write_u64-3.ensures c.write_u64-4.ensures
