-- A call from its numbers and the lists that it is lent.
use Rattle.model.specs.Calls as calls
use Rattle.plan.specs.declared.Call.{Call}
use Rattle.plan.specs.Plans.{call_of}
use Rattle.refusals.specs.declared.lent.Lists.{Lists}

abbrev pub call_with : Call → Lists → calls.Call
call_with call lists = call_of call lists.ids.now lists.continuation.now lists.stored.now lists.peers.now lists.view.now
