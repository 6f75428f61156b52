-- What an aim stands for.
use Rattle.std.specs.Prelude.{ℕ, cond, eqb}
use Rattle.peers.specs.declared.aim.Aim.{Aim}
use Rattle.peers.specs.declared.aim.Aim.TheVariants.{Same, Other}

-- There are at most two targets: the selected peer, and for what failed there another.
abbrev pub aimed_at : Aim → ℕ → ℕ
aimed_at Same failed = failed
aimed_at (Other first other) failed = cond (eqb failed first) other first
