-- Each arm is the function of its work: `as_work`.
use mathlib.Core.Path.{refl}
use Rattle.work_asks.proofs.WorkLaws.{as_work, several}
use Rattle.work_asks.proofs.perform.perform.Goals as goal

pub returns-in-Nothing : goal.returns-in-Nothing
returns-in-Nothing c =
    let a = c.args in record {
      performs = (λ st call g. as_work st call a.downloaded c.in-Nothing.is
          (c.nothing.ensures st call a.region.now a.ids.bytes.now a.stored.bytes.now a.view.bytes.now a.out.now a.call
          c.requires.tracked g a.downloaded));
      untouched = several c.in-Nothing.is refl;
    }

pub returns-in-Ids : goal.returns-in-Ids
returns-in-Ids c =
    let a = c.args in record {
      performs = (λ st call g. as_work st call a.downloaded c.in-Ids.is
          (c.ids.ensures.performs st call a.view.bytes.now g a.downloaded));
      untouched = (λ one full. c.ids.ensures.region_unchanged full);
    }

pub returns-in-Sections : goal.returns-in-Sections
returns-in-Sections c =
    let a = c.args in record {
      performs = (λ st call g. as_work st call a.downloaded c.in-Sections.is
          (c.sections.ensures st call a.ids.bytes.now a.stored.bytes.now g));
      untouched = several c.in-Sections.is refl;
    }

pub returns-in-Received : goal.returns-in-Received
returns-in-Received c =
    let a = c.args in record {
      performs = (λ st call g. as_work st call a.downloaded c.in-Received.is
          (c.received.ensures st call a.stored.bytes.now a.view.bytes.now a.out.now a.call g a.downloaded));
      untouched = several c.in-Received.is refl;
    }

pub returns-in-Evicted : goal.returns-in-Evicted
returns-in-Evicted c =
    let a = c.args in record {
      performs = (λ st call g. as_work st call a.downloaded c.in-Evicted.is
          (c.evicted.ensures.performs st call a.stored.bytes.now a.view.bytes.now a.out.now a.call g a.downloaded));
      untouched = (λ one full. (c.evicted.ensures.region_unchanged full, refl));
    }

pub returns-in-Purge : goal.returns-in-Purge
returns-in-Purge c =
    let a = c.args in record {
      performs = (λ st call g. as_work st call a.downloaded c.in-Purge.is
          (c.purge.ensures st call a.ids.bytes.now a.stored.bytes.now a.view.bytes.now a.out.now a.call g a.downloaded));
      untouched = several c.in-Purge.is refl;
    }

pub returns-in-PurgeSections : goal.returns-in-PurgeSections
returns-in-PurgeSections c =
    let a = c.args in record {
      performs = (λ st call g. as_work st call a.downloaded c.in-PurgeSections.is
          (c.purge_sections.ensures st call a.ids.bytes.now a.stored.bytes.now g));
      untouched = several c.in-PurgeSections.is refl;
    }

pub returns-in-Lose : goal.returns-in-Lose
returns-in-Lose c =
    let a = c.args in record {
      performs = (λ st call g. as_work st call a.downloaded c.in-Lose.is
          (c.lose.ensures st call a.ids.bytes.now a.stored.bytes.now a.view.bytes.now a.out.now a.call g a.downloaded));
      untouched = several c.in-Lose.is refl;
    }

pub returns-in-LoseAsk : goal.returns-in-LoseAsk
returns-in-LoseAsk c =
    let a = c.args in record {
      performs = (λ st call g. as_work st call a.downloaded c.in-LoseAsk.is
          (c.lose_ask.ensures st call a.ids.bytes.now a.view.bytes.now g a.downloaded));
      untouched = several c.in-LoseAsk.is refl;
    }

pub returns-in-Check : goal.returns-in-Check
returns-in-Check c =
    let a = c.args in record {
      performs = (λ st call g. as_work st call a.downloaded c.in-Check.is
          (c.check.ensures st call a.ids.bytes.now a.stored.bytes.now a.view.bytes.now g a.downloaded));
      untouched = several c.in-Check.is refl;
    }

pub returns-in-CheckFresh : goal.returns-in-CheckFresh
returns-in-CheckFresh c =
    let a = c.args in record {
      performs = (λ st call g. as_work st call a.downloaded c.in-CheckFresh.is
          (c.check_fresh.ensures st call a.ids.bytes.now a.view.bytes.now g a.downloaded));
      untouched = several c.in-CheckFresh.is refl;
    }
