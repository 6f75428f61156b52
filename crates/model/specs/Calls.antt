-- The entries on raw calls: numbers and byte lists of any content and length. The exported functions cite these.
use Rattle.std.specs.Prelude.{ℕ, ◌+◌, Bool, true, false, not, cond, ◌&&◌, ◌||◌, List, [], ◌∷◌, ◌++◌, map, length, eqb, leb}
use Rattle.std.proofs.Math.Option.{Option, none, some}
use Rattle.fields.specs.Number.{to_be}
use Rattle.fields.specs.Overwrite.{overwritten}
use Rattle.fields.specs.Order.{before, same}
use Rattle.fields.specs.Entries.{joined}
use Rattle.model.specs.Protocol.{Id, header_type, tracked_limit, stalled_limit}
use Rattle.model.specs.Settings.{Settings}
use Rattle.model.specs.Delivery.{Request, orphans_of, retried, abandoned, forgotten}
use Rattle.model.specs.State.{State, opened, has_sync_peer}
use Rattle.model.specs.Events.{outcome_number}
use Rattle.model.specs.Steps
use Rattle.model.specs.Steps.{Step, Args, of_mode, plan, after, commands, count_of, fresh_count}
use Rattle.model.specs.Image.{encode, decode, well_formed}
use Rattle.model.specs.Lists.{ids_in, peers_in, pairs_in, view_of, ids_fit, continuation_fits, pairs_fit, peers_fit, view_fits}
use Rattle.model.specs.Commands.{all_command_bytes}
use Rattle.model.specs.Layout.{area_size, type_size}

-- A step's arguments but for the areas, as they are handed in.
pub record Call : Type 0 where
  pub kind : ℕ
  pub clock : ℕ
  pub gate : ℕ
  pub height : ℕ
  pub peer : ℕ
  pub typeid : ℕ
  pub fork : ℕ
  pub parsed : ℕ
  pub hastip : ℕ
  pub tip : ℕ
  pub ids : List ℕ
  pub continuation : List ℕ
  pub stored : List ℕ
  pub peers : List ℕ
  pub view : List ℕ

-- docs/LAYOUT.md, "Step kinds"; a kind outside 1 to 16 is refused before it is read.
unfoldable pub step_of : Call → Step
step_of call =
    cond (eqb call.kind 1) Steps.start
    (cond (eqb call.kind 2) Steps.pick
    (cond (eqb call.kind 3) (Steps.needed_modifier call.typeid (ids_in call.ids))
    (cond (eqb call.kind 4) (Steps.reorg call.fork)
    (cond (eqb call.kind 5) (Steps.announced call.peer call.typeid (ids_in call.ids))
    (cond (eqb call.kind 6)
    (Steps.sync_info call.peer (eqb call.parsed 1) (cond (eqb call.hastip 1) (some call.tip) none) (ids_in call.continuation))
    (cond (eqb call.kind 7) Steps.other_message
    (cond (eqb call.kind 8) (Steps.lost_peer call.peer)
    (cond (eqb call.kind 9) (Steps.received (ids_in call.ids))
    (cond (eqb call.kind 10) (Steps.evicted (ids_in call.ids))
    (cond (eqb call.kind 11) Steps.progress
    (cond (eqb call.kind 12) Steps.check
    (cond (eqb call.kind 13) Steps.scheduled_tick
    (cond (eqb call.kind 14) Steps.section_tick
    (cond (eqb call.kind 15) Steps.send_failure
    Steps.end_of_stream))))))))))))))

unfoldable pub args_of : Call → Args
args_of call =
    record {
      clock = call.clock;
      gate = eqb call.gate 1;
      chain_height = call.height;
      peers = peers_in call.peers;
      stored = pairs_in call.stored;
      view = view_of call.view;
      step = step_of call;
    }

-- A test that is passed, or the number that it gives; then the tests after it.
abbrev pub unless : Bool → ℕ → ℕ → ℕ
unless true number others = others
unless false number others = number

-- "a flag not 0 or 1"
abbrev pub is_flag : ℕ → Bool
is_flag n = leb n 1

-- "step unknown or not of this mode, a flag not 0 or 1, or a send failure after anything but an entry that sent"
unfoldable pub call_fits : State → Call → Bool
call_fits st call =
    (leb 1 call.kind && leb call.kind 16)
    && ((is_flag call.gate && (is_flag call.parsed && is_flag call.hastip))
    && of_mode st.mode st.sync.entry_sent (step_of call))

-- "id or stored list of bad length, order or size"; a needed modifier is one id
unfoldable pub lists_fit : Call → Bool
lists_fit call =
    (ids_fit call.ids && (not (eqb call.kind 3) || eqb (length call.ids) 32))
    && (continuation_fits call.continuation && pairs_fit call.stored)

-- Nine numbers, in the order of docs/LAYOUT.md.
pub record Answer : Type 0 where
  pub number : ℕ
  pub outcome : ℕ
  pub retried : ℕ
  pub fresh : ℕ
  pub abandoned : ℕ
  pub forgotten : ℕ
  pub pending : ℕ
  pub evicted : ℕ
  pub length : ℕ

-- An answer and both areas, every byte.
pub record Result : Type 0 where
  pub answer : Answer
  pub state : List ℕ
  pub commands : List ℕ

abbrev pub refused : ℕ → Answer
refused number =
    record { number = number; outcome = 0; retried = 0; fresh = 0; abandoned = 0; forgotten = 0; pending = 0; evicted = 0; length = 0 }

-- The step once nothing refuses it.
module _ (st : State) (a : Args) where
  unfoldable pub step_bytes : List ℕ
  step_bytes = all_command_bytes (commands st a)

  unfoldable pub step_answer : Answer
  step_answer =
      record {
        number = 0;
        outcome = outcome_number (plan st a).outcome;
        retried = count_of st a retried;
        fresh = fresh_count st a;
        abandoned = count_of st a abandoned;
        forgotten = count_of st a forgotten;
        pending = length (after st a).pending;
        evicted = length (after st a).sync.evicted;
        length = length step_bytes;
      }

  -- 9, 10 and 11: what a step finds when it is worked out
  unfoldable pub result_refusal : ℕ
  result_refusal =
      unless (plan st a).in_view 9
      (unless (leb (length (after st a).pending + length (after st a).sync.evicted) tracked_limit) 10
      (unless (leb (length (after st a).sync.stalled_peers) stalled_limit) 11 0))

-- 4 to 8: what the call is given
unfoldable pub call_refusal : State → Call → ℕ
call_refusal st call =
    unless (leb st.last_clock call.clock) 4
    (unless (call_fits st call) 5
    (unless (lists_fit call) 6
    (unless (peers_fit call.peers) 7
    (unless (view_fits call.view) 8 (result_refusal st (args_of call))))))

-- 1 and 2, of every entry that is lent a state, before its other numbers
abbrev pub image_refusal : List ℕ → ℕ → ℕ
image_refusal state others = unless (eqb (length state) area_size) 1 (unless (well_formed state) 2 others)

-- "Checked in this order."
unfoldable pub step_refusal : List ℕ → List ℕ → Call → ℕ
step_refusal state area call = image_refusal state (unless (leb area_size (length area)) 3 (call_refusal (decode state) call))

-- The step entry.
unfoldable pub step : List ℕ → List ℕ → Call → Result
step state area call =
    cond (eqb (step_refusal state area call) 0)
    (record {
      answer = step_answer (decode state) (args_of call);
      state = encode (after (decode state) (args_of call));
      commands = overwritten 0 (step_bytes (decode state) (args_of call)) area;
    })
    (record { answer = refused (step_refusal state area call); state = state; commands = area })

-- The opening's arguments but for the area.
pub record Opening : Type 0 where
  pub settings : Settings
  pub clock : ℕ
  pub height : ℕ

pub record Opened : Type 0 where
  pub number : ℕ
  pub state : List ℕ

-- The opening entry: "It has no command area and meets only 1."
unfoldable pub open' : List ℕ → Opening → Opened
open' state o =
    cond (eqb (length state) area_size)
    (record { number = 0; state = encode (opened o.settings o.clock o.height) })
    (record { number = 1; state = state })

-- A pair as bytes: their order is that of type, then id.
abbrev pub pair_bytes : ℕ → Id → List ℕ
pair_bytes type_id id = to_be type_size type_id ++ id

-- "strictly rising": each pair once, in order
abbrev pub inserted_once : List ℕ → List (List ℕ) → List (List ℕ)
inserted_once x [] = x ∷ []
inserted_once x (y ∷ ys) = cond (before y x) (y ∷ inserted_once x ys) (cond (same y x) (y ∷ ys) (x ∷ (y ∷ ys)))

abbrev pub strictly_rising : List (List ℕ) → List (List ℕ)
strictly_rising [] = []
strictly_rising (x ∷ xs) = inserted_once x (strictly_rising xs)

-- "each evicted id as a header, or each non-transaction id pending from the sync peer. A flag picks; .. no sync peer, no pairs."
unfoldable pub question_pairs : State → ℕ → List (List ℕ)
question_pairs st flag =
    cond (has_sync_peer st.mode)
    (strictly_rising
    (cond (eqb flag 0)
    (map (pair_bytes header_type) st.sync.evicted)
    (map (λ (r : Request). pair_bytes r.type_id r.id) (orphans_of st.sync.sync_peer st.pending))))
    []

unfoldable pub question_refusal : List ℕ → List ℕ → ℕ → ℕ
question_refusal state area flag = image_refusal state (unless (leb area_size (length area)) 3 (unless (is_flag flag) 5 0))

pub record Asked : Type 0 where
  pub number : ℕ
  pub length : ℕ
  pub commands : List ℕ

-- The question entry: the state is read only.
unfoldable pub question : List ℕ → List ℕ → ℕ → Asked
question state area flag =
    cond (eqb (question_refusal state area flag) 0)
    (record {
      number = 0;
      length = length (joined (question_pairs (decode state) flag));
      commands = overwritten 0 (joined (question_pairs (decode state) flag)) area;
    })
    (record { number = question_refusal state area flag; length = 0; commands = area })
