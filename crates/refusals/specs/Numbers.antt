-- The numbers of refusals: docs/LAYOUT.md, "Refusals".
use Rattle.std.specs.Prelude.{ℕ, Result, Ok, Err}
use Rattle.refusals.specs.declared.refusal.Refusal.{Refusal}
use Rattle.refusals.specs.declared.refusal.Refusal.TheVariants.{StateArea, Image, CommandArea, Clock, Call, Lists, Peers, View, Unseen, Full, Stalled, Map}

abbrev pub number_of : Refusal → ℕ
number_of StateArea = 1
number_of Image = 2
number_of CommandArea = 3
number_of Clock = 4
number_of Call = 5
number_of Lists = 6
number_of Peers = 7
number_of View = 8
number_of Unseen = 9
number_of Full = 10
number_of Stalled = 11
number_of Map = 12

-- what an entry answers: 0 where nothing refuses
abbrev pub number_in : {A : Type 0} → Result A Refusal → ℕ
number_in (Ok answer) = 0
number_in (Err refusal) = number_of refusal
