-- Batches and runs: how what is sent is cut and numbered.
use Rattle.std.specs.Prelude.{ℕ, suc, ◌≤◌, ◌<◌, ◌≡◌, ◌&&◌, ◌⊎◌, List, [], ◌∷◌, ◌++◌, length, eqb}
use Rattle.fields.specs.Facts.{All}
use Rattle.fields.specs.Filter.{kept}
use Rattle.model.specs.Requests.{Command}
use Rattle.model.specs.Promises.Numbers
use Rattle.model.specs.Book.{requested_in}
use Rattle.model.specs.Promises.Words.{Seen, peers, EachRequest}
use Rattle.model.specs.Promises.Asked.{AsksFresh}

-- two requests of one type to one peer
pub record Alike (c d : Command) : Type 0 where
  pub first : c.kind ≡ Numbers.a_request
  pub second : d.kind ≡ Numbers.a_request
  pub type_id : c.type_id ≡ d.type_id
  pub peer : c.peer ≡ d.peer

-- A batch goes on only behind a request of 400 ids, else the next number follows.
abbrev pub Follows : Command → Command → Type 0
Follows c d = (d.batch ≡ suc c.batch) ⊎ ((d.batch ≡ c.batch) × (Alike c d × (length c.ids ≡ 400)))

-- of neighbours
abbrev pub EachNext : (Command → Command → Type 0) → List Command → Type 0
EachNext P [] = Unit {0}
EachNext P (c ∷ []) = Unit {0}
EachNext P (c ∷ (d ∷ commands)) = P c d × EachNext P (d ∷ commands)

abbrev pub StartsAt : ℕ → List Command → Type 0
StartsAt batch [] = Unit {0}
StartsAt batch (c ∷ commands) = c.batch ≡ batch

-- F-4, of the requests for one list: "every request of a list but its last is proved to carry 400 ids", and the last 1 to 400.
abbrev pub Cut : List Command → Type 0
Cut [] = Unit {0}
Cut (c ∷ []) = (1 ≤ length c.ids) × (length c.ids ≤ 400)
Cut (c ∷ (d ∷ requests)) = (length c.ids ≡ 400) × Cut (d ∷ requests)

-- the requests with one number: a list through rule 3, or a batch of retries
unfoldable pub requests_of : ℕ → List Command → List Command
requests_of batch commands = kept (λ (c : Command). eqb c.batch batch && eqb c.kind Numbers.a_request) commands

-- a list is not cut into two batches
abbrev pub OneBatch : Command → Command → Type 0
OneBatch c d = Alike c d → d.batch ≡ c.batch

-- Retries stand before all that is asked for anew, and no list of either is cut into two batches.
pub record Uncut (s : Seen) : Type 0 where
  pub again : List Command
  pub anew : List Command
  pub parts : s.sent ≡ again ++ anew
  pub one_again : EachNext OneBatch again
  pub one_anew : EachNext OneBatch anew
  -- and no number stands for a list of each
  pub apart : All (λ (c : Command). All (λ (d : Command). c.batch < d.batch) anew) again
  -- only a check retries, and what it asks for anew are the fresh ids
  pub elsewhere : (s.call.kind ≡ Numbers.check → ⊥) → again ≡ []
  pub fresh : s.call.kind ≡ Numbers.check → s.call.gate ≡ 1 → AsksFresh s (peers s) (requested_in anew)

pub record Batches (s : Seen) : Type 0 where
  -- "a run of at most 400 consecutive ids", and no request for nothing
  pub sizes : EachRequest (λ (c : Command). (1 ≤ length c.ids) × (length c.ids ≤ 400)) s
  -- "Batches are numbered from 0 within a step", without a gap
  pub from : StartsAt 0 s.sent
  pub follows : EachNext Follows s.sent
  -- F-4, whatever the number
  pub cut : (batch : ℕ) → Cut (requests_of batch s.sent)
  pub uncut : Uncut s
