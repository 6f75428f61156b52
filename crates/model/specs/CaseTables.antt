-- Tables of cases: what the definitions give for a case, in lists of numbers, and what they should give.
use Rattle.std.specs.Prelude.{ℕ, ◌≡◌, Bool, true, ◌&&◌, List, [], ◌∷◌, replicate}
use Rattle.fields.specs.Facts.{All}
use Rattle.model.specs.Calls.{Call}
use Rattle.model.specs.Forecast.{Forecast}
use Rattle.model.specs.MeanAge.{MeanAge}
use Rattle.model.specs.Cases.{same_lists}

infix 4 ◌gives◌
-- A case and what it should give.
pub record Entry (Case : Type 0) : Type 0 where
  pub case : Case
  pub expected : List (List ℕ)

abbrev pub ◌gives◌ : {Case : Type 0} → Case → List (List ℕ) → Entry Case
case gives expected = record { case = case; expected = expected }

module _ {Case : Type 0} (found : Case → List (List ℕ)) where
  -- Each case gives what it should.
  abbrev pub Hold : List (Entry Case) → Type 0
  Hold table = All (λ (e : Entry Case). found e.case ≡ e.expected) table

  -- The same as a test over the whole table.
  abbrev pub all_as_expected : List (Entry Case) → Bool
  all_as_expected [] = true
  all_as_expected (e ∷ others) = same_lists (found e.case) e.expected && all_as_expected others

-- A call: kind, clock, gate, chain height, parsed, hastip; ids, continuation ids, stored pairs, peers, view. Peer, type, fork point
-- and tip are 9, 104, 33 and 44.
abbrev pub call_of : ℕ → ℕ → ℕ → ℕ → ℕ → ℕ → List ℕ → List ℕ → List ℕ → List ℕ → List ℕ → Call
call_of kind clock gate height parsed hastip ids continuation stored peers view =
    record {
      kind = kind;
      clock = clock;
      gate = gate;
      height = height;
      peer = 9;
      typeid = 104;
      fork = 33;
      parsed = parsed;
      hastip = hastip;
      tip = 44;
      ids = ids;
      continuation = continuation;
      stored = stored;
      peers = peers;
      view = view;
    }

-- lending lists: ids, continuation ids, stored pairs, peers, view
abbrev pub lends : ℕ → ℕ → ℕ → ℕ → List ℕ → List ℕ → List ℕ → List ℕ → List ℕ → Call
lends kind clock gate height ids continuation stored peers view = call_of kind clock gate height 1 1 ids continuation stored peers view

-- lending nothing: kind, clock, gate
abbrev pub plain : ℕ → ℕ → ℕ → Call
plain kind clock gate = lends kind clock gate 0 [] [] [] [] (replicate 4 0)

-- kind, parsed, hastip, at clock 1,000
abbrev pub flagged : ℕ → ℕ → ℕ → Call
flagged kind parsed hastip = call_of kind 1000 1 0 parsed hastip [] [] [] [] (replicate 4 0)

abbrev pub forecast_numbers : Forecast → List ℕ
forecast_numbers f = f.number ∷ f.outcome ∷ f.pending ∷ f.evicted ∷ f.commands ∷ f.length ∷ []

abbrev pub mean_numbers : MeanAge → List ℕ
mean_numbers m = m.number ∷ m.count ∷ m.quotient ∷ m.remainder ∷ []
