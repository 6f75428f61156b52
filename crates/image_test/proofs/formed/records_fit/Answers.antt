-- A record fits where the model's does, and the answer is that of all: `each_entry`.
use Rattle.std.proofs.Common.{ℕ, ◌≡◌, ◌-◌, refl, ◌∙◌, arith, rules, tests}
use Rattle.std.proofs.lemmas.Iterator.{YieldsList-from_range}
use Rattle.std.proofs.lemmas.Iterator.Search.{all_from_yields_List}
use Rattle.fields.specs.Entries.{entry, entries}
use Rattle.model.specs.Layout.{record_size}
use Rattle.settings.specs.Values.{settings_of}
use Rattle.image_test.proofs.TestLaws.{record_fits, each_entry, all_records}
use Rattle.image_test.proofs.formed.records_fit.Goals as goal

pub returns : goal.returns
returns c =
    let a = c.args in
    let settings = settings_of a.settings in
    let n : a.count - 0 ≡ a.count = omega arith in
    all_from_yields_List (λ (i : ℕ). record_fits settings a.clock (entry record_size i a.region.now)) _ _ _ c.all.ensures.ran
    (YieldsList-from_range 0 a.count a.count refl n) (λ x b q k. search (rules, tests))
    ∙ each_entry (record_fits settings a.clock) a.region.now a.count 0 ∙ all_records settings a.clock (entries record_size a.count a.region.now)
