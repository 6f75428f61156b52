-- Each kind of line by its own function: what `parse` answered is the line.
use Rattle.std.proofs.Common.{Some, refl, sym, ap, ◌∙◌}
use Rattle.fields.proofs.OverwriteLaws.{overwritten_nil}
use Rattle.keeper_text.specs.Keeping.{Keeping}
use Rattle.keeper_text.specs.Kept.{keeping_in}
use Rattle.keeper_text.proofs.LineLaws.{settings_silent, request_silent, other_ends}
use Rattle.keeper_text.proofs.keeping.answer_line.Goals.{Start}
use Rattle.keeper_text.proofs.keeping.answer_line.Goals as goal

-- what is kept before the line
abbrev keeping : Start → Keeping
keeping s = keeping_in s.args.keeper s.args.table.now

pub returns-in-Settings : goal.returns-in-Settings
returns-in-Settings c =
    let s = (goal.at.returns-in-Settings c).Start in
    let says = c.begin.ensures in
    let silent = settings_silent (keeping s) s.args.at s.args.out.now c.in-Settings.timeout c.in-Settings.limit in
    rw (sym c.parse.ensures ∙ c.in_ok-line.was ∙ ap Some c.in-Settings.is)
    (record { value = says.value; table_after = says.table_value; out_after = silent; holds = says.holds })

pub returns-in-Request : goal.returns-in-Request
returns-in-Request c =
    let s = (goal.at.returns-in-Request c).Start in
    let says = c.request.ensures in
    let silent = request_silent (keeping s) s.args.at s.args.out.now c.in-Request.clock c.in-Request.peer c.in-Request.typeid c.in-Request.byte in
    rw (sym c.parse.ensures ∙ c.in_ok-line.was ∙ ap Some c.in-Request.is)
    (record { value = says.value; table_after = says.table_after; out_after = silent; holds = says.holds })

pub returns-in_err-line : goal.returns-in_err-line
returns-in_err-line c =
    let s = (goal.at.returns-in_err-line c).Start in
    rw (c.from_residual.ensures, sym c.parse.ensures ∙ c.in_err-line.was, other_ends (keeping s))
    (record { value = refl; table_after = refl; out_after = sym (overwritten_nil s.args.at s.args.out.now); holds = tt })
