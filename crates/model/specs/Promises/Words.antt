-- The words in which promises are said. None of them is a word of the rules: promises share with these only how bytes are read.
use Rattle.std.specs.Prelude.{ℕ, suc, ◌≡◌, ◌⊎◌, List, [], ◌∷◌, take}
use Rattle.fields.specs.Facts.{All, Bytes}
use Rattle.model.specs.State.{State}
use Rattle.model.specs.Requests.{Command, Pair}
use Rattle.model.specs.Image.{decode}
use Rattle.model.specs.Commands.{commands_in}
use Rattle.model.specs.Lists.{ids_in, peers_in, pairs_in, view_of}
use Rattle.model.specs.Protocol.{Id}
use Rattle.model.specs.Sections.{View}
use Rattle.model.specs.Calls.{Call, Answer, Result, step}
use Rattle.model.specs.Demand3.{InWidth}
use Rattle.model.specs.Promises.Numbers as numbers

-- ---- a finished call, seen from outside

-- The state area before and after, read from its bytes; the arguments; the answer; the commands, read from the bytes written.
pub record Seen : Type 0 where
  pub before : State
  pub call : Call
  pub answer : Answer
  pub sent : List Command
  pub after : State

unfoldable pub seen : List ℕ → List ℕ → Call → Seen
seen state area call =
    let r : Result = step state area call in
    record {
      before = decode state;
      call = call;
      answer = r.answer;
      sent = commands_in (take r.answer.length r.commands);
      after = decode r.state;
    }

-- What is promised of any finished call, whatever the areas hold.
abbrev pub Promised : (Seen → Type 0) → Type 0
Promised P =
    (state area : List ℕ) (call : Call) → Bytes state → InWidth call → (step state area call).answer.number ≡ 0 → P (seen state area call)

-- ---- what a call lends, as its bytes are read

abbrev pub ids : Seen → List Id
ids s = ids_in s.call.ids

abbrev pub peers : Seen → List ℕ
peers s = peers_in s.call.peers

abbrev pub stored : Seen → List Pair
stored s = pairs_in s.call.stored

abbrev pub view : Seen → View
view s = view_of s.call.view

-- ---- lists

-- it stands in the list
abbrev pub Among : {A : Type 0} → A → List A → Type 0
Among x [] = ⊥
Among x (y ∷ ys) = (x ≡ y) ⊎ Among x ys

-- it stands first
abbrev pub First : {A : Type 0} → A → List A → Type 0
First x [] = ⊥
First x (y ∷ ys) = x ≡ y

-- What is left of a list when all that is `Out` is left out: the others stay, in their order.
abbrev pub LeftOf : {A : Type 0} → (A → Type 0) → List A → List A → Type 0
LeftOf Out [] left = left ≡ []
LeftOf {A} Out (x ∷ xs) left =
    (Out x × LeftOf Out xs left) ⊎ ((Out x → ⊥) × ((others : List A) × (left ≡ x ∷ others) × LeftOf Out xs others))

-- It is the first that is left of a list when all that is `Out` is left out.
abbrev pub FirstLeft : {A : Type 0} → (A → Type 0) → List A → A → Type 0
FirstLeft Out [] x = ⊥
FirstLeft Out (y ∷ ys) x = (Out y × FirstLeft Out ys x) ⊎ ((Out y → ⊥) × (x ≡ y))

-- How many of a list are such.
abbrev pub Counted : {A : Type 0} → (A → Type 0) → List A → ℕ → Type 0
Counted Such [] n = n ≡ 0
Counted Such (x ∷ xs) n = ((Such x → ⊥) × Counted Such xs n) ⊎ (Such x × ((m : ℕ) × (n ≡ suc m) × Counted Such xs m))

-- ---- commands

-- of every request among the commands
abbrev pub EachRequest : (Command → Type 0) → Seen → Type 0
EachRequest P s = All (λ (c : Command). c.kind ≡ numbers.a_request → P c) s.sent
