-- The targets of an aim that a function was given are in width.
use mathlib.Core.List.{List}
use native.Mathlib.Omega.{arith}
use lib.Dec.{eqb}
use mir.Val.{Val}
use denote.Laws.{Is}
use denote.Enum.Declared.{row}
use denote.Enum.Laws.{owed}
use Rattle.fields.proofs.AllLaws.{either}
use Rattle.model.proofs.Widths.{WellPeer}
use Rattle.peers.specs.Aims.{aimed_at}
use Rattle.peers.specs.declared.aim.Aim.{Aim}
use Rattle.peers.specs.declared.aim.Aim.TheVariants.{Same, Other}
use Rattle.peers.specs.contracts.aim.Aim.{the_type}
use Rattle.peers.proofs.aim.Aim.TheLaws.{the_laws}
use Rattle.model.proofs.PendingLaws.{WellTarget}

-- what a function is told of an aim that it is given
pub aim_fits : (aim : Aim) {vs : List Val} → Is (row the_type) aim vs → WellTarget (aimed_at aim)
aim_fits Same told failed h = h
aim_fits (Other first other) {vs} told failed h =
    let peers = owed the_type the_laws (Other first other) vs told in
    either WellPeer (eqb failed first) other first (omega (arith, peers)) (omega (arith, peers))
