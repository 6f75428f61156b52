-- As schedule_rerequest answers: `evicts_too_many`, `evicts`; and where there is no room the region stays (`full_stays`).
use borrow.Author.Rules.{rules}
use mathlib.Core.Path.{◌≡◌, refl}
use Rattle.fields.specs.Facts.{Bytes}
use Rattle.std.proofs.Common.{Err}
use Rattle.commands.specs.declared.tracker.TrackerError.TheVariants.{Full}
use Rattle.work.proofs.RemovalLaws.{is_full, evicts_too_many, evicts, full_stays}
use Rattle.work.proofs.removals.evicted.Goals as goal

pub returns-in_err-stay : goal.returns-in_err-stay
returns-in_err-stay c =
    let said = c.schedule_rerequest in
    let full : said.result ≡ Err Full = is_full said.result (rw c.in_err-stay.was refl) in
    let region : Bytes c.args.region.now = λ i. search rules in record {
      performs = (λ st call stored view out numbers g downloaded.
          rw (is_full _ c.from_residual.ensures.0) (evicts_too_many g downloaded c.requires region c.args.ids.known said.ensures.value full));
      region_unchanged = (λ t. full_stays _ _ _ _ c.args.region.now said.new.region said.ensures.value full said.ensures.region_after);
    }

pub returns : goal.returns
returns c =
    let said = c.schedule_rerequest in
    let region : Bytes c.args.region.now = λ i. search rules in record {
      performs = (λ st call stored view out numbers g downloaded.
          rw c.unasked.ensures
          (evicts g downloaded c.requires region c.args.ids.known said.ensures.value c.in_ok-stay.was refl said.ensures.region_after));
      region_unchanged = (λ f. cc);
    }
