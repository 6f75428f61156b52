-- Test by test: `not_expired`, `is_forgotten`, `is_abandoned`, `is_retried`.
use Rattle.settings.specs.Values.{settings_of}
use Rattle.check_timeouts.proofs.RecordLaws.{Seen, checks_read, not_expired, is_forgotten, is_abandoned, is_retried}
use native.Mathlib.Omega.{arith}
use mathlib.Core.Path.{◌∙◌}
use mathlib.Core.Path.{ap}
use mathlib.Core.Bool.{not}
use Rattle.check_timeouts.proofs.check.Check.verdict_at.Goals.{After-expired}
use Rattle.check_timeouts.proofs.check.Check.verdict_at.Goals as goal

-- ---- what was read of the record, and whether it is expired

module _ (c : After-expired) where
  seen :
      let a = c.args in
      Seen (settings_of a.self.settings) a.self.clock a.i a.table.now c.read_u64-stamp.result c.read_u16-typeid.result c.read_u32-checks.result
      c.expired.result
  seen = record {
    its_stamp = c.read_u64-stamp.ensures;
    its_type = c.read_u16-typeid.ensures;
    its_checks = c.read_u32-checks.ensures;
    is_late = c.expired.ensures;
  }

pub returns-then-not-expired : goal.returns-then-not-expired
returns-then-not-expired c = not_expired (seen (goal.at.returns-then-not-expired c).After-expired) (ap not c.if-not-expired.true)

pub returns-then-typeid-eq-TRANSACTION_TYPE_ID : goal.returns-then-typeid-eq-TRANSACTION_TYPE_ID
returns-then-typeid-eq-TRANSACTION_TYPE_ID c =
    let here = (goal.at.returns-then-typeid-eq-TRANSACTION_TYPE_ID c).After-expired in
    is_forgotten (seen here) (ap not c.if-not-expired.false) c.if-typeid-eq-TRANSACTION_TYPE_ID.true

pub overflow_add-checks : goal.overflow_add-checks
overflow_add-checks c =
    omega (arith, c.read_u32-checks.ensures ∙ checks_read c.args.i c.args.table.now, c.requires.1)

pub returns-then-given_up : goal.returns-then-given_up
returns-then-given_up c =
    let here = (goal.at.returns-then-given_up c).After-expired in
    is_abandoned (seen here) (ap not c.if-not-expired.false) c.if-typeid-eq-TRANSACTION_TYPE_ID.false c.given_up.ensures c.if-given_up.true

pub returns : goal.returns
returns c =
    let here = (goal.at.returns c).After-expired in
    is_retried (seen here) (ap not c.if-not-expired.false) c.if-typeid-eq-TRANSACTION_TYPE_ID.false c.given_up.ensures c.if-given_up.false
