-- A type is narrow where the model's is, and the answer is that of all: `each_entry`.
use Rattle.std.proofs.Common.{ℕ, ◌≡◌, ◌-◌, refl, ◌∙◌, arith, rules, tests}
use Rattle.std.proofs.lemmas.Iterator.{YieldsList-from_range}
use Rattle.std.proofs.lemmas.Iterator.Search.{all_from_yields_List}
use Rattle.fields.specs.Entries.{entry, entries}
use Rattle.model.specs.Layout.{record_size}
use Rattle.image_test.proofs.TestLaws.{is_narrow, each_entry, all_narrow}
use Rattle.image_test.proofs.formed.types_narrow.Goals as goal

pub returns : goal.returns
returns c =
    let a = c.args in
    let n : a.count - 0 ≡ a.count = omega arith in
    all_from_yields_List (λ (i : ℕ). is_narrow (entry record_size i a.region.now)) _ _ _ c.all.ensures.ran
    (YieldsList-from_range 0 a.count a.count refl n) (λ x b q k. search (rules, tests))
    ∙ each_entry is_narrow a.region.now a.count 0 ∙ all_narrow (entries record_size a.count a.region.now)
