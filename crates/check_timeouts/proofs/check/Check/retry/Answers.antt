-- The record restarted, then marked: `retries_as`.
use Rattle.fields.specs.Facts.{Bytes}
use Rattle.peers.specs.Aims.{aimed_at}
use Rattle.check_timeouts.proofs.RecordLaws.{retries_as}
use borrow.Author.Rules.{rules}
use native.Mathlib.Omega.{arith}
use Rattle.check_timeouts.proofs.check.Check.retry.Goals as goal

pub returns : goal.returns
returns c =
    let a = c.args in
    let bytes : Bytes a.table.now = λ i. search rules in
    retries_as a.i a.self.clock (aimed_at a.self.aim) a.table.now c.requires.0 bytes (omega (arith, c.well_formed)) c.requires.1
    c.restart.ensures c.read_u64-failed.ensures c.target.ensures c.mark_retried.ensures.table_after
