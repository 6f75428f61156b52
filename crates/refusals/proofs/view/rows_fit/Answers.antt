-- A row fits where the model's does, and the answer is that of all: `fits_all`.
use Rattle.std.proofs.Common.{ℕ, ◌≡◌, ◌-◌, refl, ◌∙◌, arith, rules, tests}
use Rattle.std.proofs.lemmas.Iterator.{YieldsList-from_range}
use Rattle.std.proofs.lemmas.Iterator.Search.{all_from_yields_List}
use Rattle.fields.specs.Entries.{entry}
use Rattle.model.specs.Lists.{row_fits}
use Rattle.model.specs.Layout.{row_size}
use Rattle.refusals.proofs.RowLaws.{fits_all}
use Rattle.refusals.proofs.view.rows_fit.Goals as goal

pub returns : goal.returns
returns c =
    let a = c.args in
    let n : a.count - 0 ≡ a.count = omega arith in
    all_from_yields_List (λ (i : ℕ). row_fits (entry row_size i a.rows.now)) _ _ _ c.all.ensures.ran
    (YieldsList-from_range 0 a.count a.count refl n) (λ x b q k. search (rules, tests))
    ∙ fits_all a.rows.now a.count 0
