-- The word that is read is entry i's: `word_at`.
use mathlib.Core.Path.{ap}
use lib.Dec.{ltb}
use Prim.Native.Nat.{ℕ}
use Rattle.keys.specs.Within.{word_at}
use Rattle.keys.proofs.words.Search.less.Goals as goal

pub returns : goal.returns
unfolding word_at
returns c = ap (λ (n : ℕ). ltb n c.args.self.word) c.read_u64.ensures
