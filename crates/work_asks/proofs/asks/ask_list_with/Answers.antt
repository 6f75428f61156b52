-- One list is one act: `list_asked`; where there is no room for it, all stays: `list_full`.
use lib.Dec.{eqb}
use Rattle.model.specs.Requests.{Act, ask}
use Rattle.model.specs.Lists.{ids_in, pairs_in}
use Rattle.work_asks.proofs.AskedLaws.{list_asked, list_full}
use Rattle.work_asks.proofs.asks.ask_list_with.Goals as goal

pub returns : goal.returns
returns c =
    let a = c.args in
    let act : Act = ask a.typeid a.peer (pairs_in a.stored.bytes.now) (ids_in a.ids.now) in
    let gate = eqb a.call.gate 1 in
    let made = c.request_announced-asked.ensures in record {
      asks = list_asked gate a.call.clock act a.before a.region.now a.out.now made.value c.answer.ensures made.table_after made.out_after;
      region_unchanged = list_full gate a.call.clock act a.before a.region.now a.out.now made.value c.answer.ensures made.table_after made.out_after;
    }
