-- One pass that keeps the marked entries of a table.
use Rattle.std.specs.Prelude.{ℕ, ◌*◌, ◌≤◌, ◌≡◌, List, ◌++◌, length, drop}
use Rattle.fields.specs.Entries.{entries}
use Rattle.fields.specs.Filter.{marked}

-- The pass at entry i of the table d: t is the table as it is, of which the first `left` entries are kept.
pub record Keeping (width count : ℕ) (marks d t : List ℕ) (left i : ℕ) : Type 0 where
  pub left_le : left ≤ i
  pub i_le : i ≤ count
  pub fits : count * width ≤ length d
  pub long : length t ≡ length d
  pub kept : entries width left t ++ marked (drop i marks) (drop i (entries width count d)) ≡ marked marks (entries width count d)
  pub rest : drop (i * width) t ≡ drop (i * width) d

-- A pass over t that stood at `from`, with `kept` entries kept, stands at `end` with `left` of them over u: whatever table it began with.
abbrev pub Passed : ℕ → List ℕ → List ℕ → ℕ → ℕ → List ℕ → ℕ → ℕ → Type 0
Passed width marks t kept from u left end =
    (count : ℕ) (d : List ℕ) → end ≤ count → Keeping width count marks d t kept from → Keeping width count marks d u left end
