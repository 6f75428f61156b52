-- Its parts one after another: `said_end` for the place behind the sync info, else what they ensure.
use Rattle.peers.specs.Peers.{listed_peer}
use Rattle.step.proofs.SaidLaws.{said_end}
use native.Mathlib.Omega.{arith}
use Rattle.step.proofs.finish.settle.Goals as goal

pub finished-requires : goal.finished-requires
finished-requires c =
    let end = said_end _ _ (listed_peer c.args.plan.says) c.say-end.ensures.value in
    let few = c.requires.pending_le_tracked_limit in
    record {
      pending_bound = (omega (arith, few), (omega (arith, few), omega (arith, end, c.requires.stalling_bound.1)));
      retried_bound = (omega (arith, few), (omega (arith, few), (omega (arith, few), omega (arith, few))));
    }

pub returns : goal.returns
returns c =
    record {
      by_index = (λ old l e. c.complete.ensures old l e);
      out_after = c.say-end.ensures.out_after;
      result_value = rw (← c.say-end.ensures.value) c.finished.ensures;
    }
