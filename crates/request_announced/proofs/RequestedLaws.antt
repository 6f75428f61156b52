-- One list through rule 3: what is answered and written in each of its ways out.
use Prim.Native.Nat.{ℕ, ◌+◌, ◌*◌, ◌/◌, ◌^◌, ◌≤◌, ◌<◌}
use Rattle.std.proofs.Common.{◌≢◌}
use mathlib.Core.Path.{◌≡◌, refl, sym, ap, subst, ◌∙◌}
use mathlib.Core.Bool.{Bool, true, false, not}
use mathlib.Core.List.{List, [], ◌∷◌, ◌++◌, append-nil}
use native.Mathlib.Omega.{arith}
use native.Mathlib.Nat.{mul-le-mul_right}
use lib.Dec.{leb}
use lib.ListN.{length, take}
use borrow.Author.Tests.{le-leb, not-true, not-false}
use Rattle.fields.specs.Facts.{Bytes}
use Rattle.fields.specs.Entries.{entries, joined, rising}
use Rattle.fields.specs.Filter.{kept}
use Rattle.fields.specs.Overwrite.{overwritten}
use Rattle.fields.proofs.OverwriteLaws.{front_read_back}
use Rattle.fields.proofs.FilterLaws.{length_kept}
use Rattle.fields.proofs.NumberLaws.{bytes_take}
use Rattle.fields.proofs.EntriesLaws.{Wide, entries_joined, length_joined}
use Rattle.model.specs.Protocol.{Id, tracked_limit}
use Rattle.model.specs.Delivery.{Request, is_pending, mark_requested}
use Rattle.model.specs.Requests.{Sending, is_stored, request, commands_of, request_of, wanted, request_announced, perform, ask}
use Rattle.model.specs.Requests as model
use Rattle.model.specs.Commands.{all_command_bytes}
use Rattle.model.specs.Lists.{ids_in, pairs_in}
use Rattle.model.proofs.Widths.{WellList}
use Rattle.model.proofs.PendingLaws.{wanted_well}
use Rattle.model.proofs.CommandLaws.{ids_wide}
use Rattle.model.proofs.SendingLaws.{sendings_bytes}
use Rattle.commands.specs.Pending.{requests_in}
use Rattle.commands.specs.Sent.{sent_at, behind}
use Rattle.commands.specs.declared.place.Place.{Place}
use Rattle.commands.proofs.SentLaws.{sent_none, behind_none, sent_one}
use Rattle.mark_requested.specs.Marking.{marked_as, held_within}
use Rattle.std.proofs.Common.{Result, Ok, Err}
use Rattle.commands.specs.declared.tracker.TrackerError.{TrackerError}
use Rattle.commands.specs.declared.tracker.TrackerError.TheVariants.{Full}
use Rattle.commands.proofs.WriteLaws.{length_ids, counted_ids}
use Rattle.mark_requested.proofs.AnswerLaws.{marked_pending, marked_full, few_held}
use Rattle.commands.proofs.RecordedLaws.{well_ids}
use Rattle.commands.proofs.HoldingLaws.{length_requests, holding_same}
use Rattle.request_announced.specs.Requested.{requested_as, sent_within}
use Rattle.request_announced.specs.declared.request.Written.{Written}
use Rattle.model.specs.Layout.{command_size, id_list_size, id_size, record_size}

-- ---- the answer, by how many would be pending

-- what is answered of acts for which there is room
abbrev pub written_to : Place → model.Done → Written
written_to place done = record { count = length done.pending; place = behind place done.sendings }

module _ (most : ℕ) (place : Place) (done : model.Done) where
  pub few_requested : leb (length done.pending) most ≡ true → requested_as most place done ≡ Ok (written_to place done)
  unfolding requested_as
  few_requested h = rw h

  pub many_requested : leb (length done.pending) most ≡ false → requested_as most place done ≡ Err Full
  unfolding requested_as
  many_requested h = rw h

  pub few_sent : (o : List ℕ) → leb (length done.pending) most ≡ true → sent_within most place done o ≡ sent_at place done.sendings o
  unfolding sent_within
  few_sent o h = rw h

  pub many_sent : (o : List ℕ) → leb (length done.pending) most ≡ false → sent_within most place done o ≡ o
  unfolding sent_within
  many_sent o h = rw h

-- the tracker has one error
pub is_full : (e : TrackerError) → e ≡ Full
is_full Full = refl

-- ---- what a list goes through rule 3 with

pub record Given : Type 0 where
  pub table : List ℕ
  pub count : ℕ
  pub most : ℕ
  pub clock : ℕ
  pub typeid : ℕ
  pub peer : ℕ
  pub ids : List ℕ
  pub out : List ℕ
  pub place : Place

abbrev pub given : List ℕ → ℕ → ℕ → ℕ → ℕ → ℕ → List ℕ → List ℕ → Place → Given
given table count most clock typeid peer ids out place =
    record { table = table; count = count; most = most; clock = clock; typeid = typeid; peer = peer; ids = ids; out = out; place = place }

-- what is required of it, and what its types say
pub record Entered (g : Given) : Type 0 where
  pub few : length g.ids ≤ id_list_size
  pub held : g.count ≤ g.most
  pub limit : g.most ≤ tracked_limit
  pub room : g.most * record_size ≤ length g.table
  pub rise : rising id_size (entries record_size g.count g.table) ≡ true
  pub table_bytes : Bytes g.table
  pub ids_bytes : Bytes g.ids
  pub type_fits : g.typeid < 2 ^ 16
  pub peer_fits : g.peer < 2 ^ 64

-- the answer, the table and the area are as this says
abbrev pub Answers : Given → model.Done → Result Written TrackerError → List ℕ → List ℕ → Type 0
Answers g done answer table out =
    (answer ≡ requested_as g.most g.place done)
    × ((table ≡ held_within g.most g.count done.pending g.table) × (out ≡ sent_within g.most g.place done g.out))

-- the ids that the rule leaves, and what it does
abbrev pub wanted_of : List ℕ → Given → List Id
wanted_of stored g = wanted (requests_in g.count g.table) g.typeid (pairs_in stored) (ids_in g.ids)

abbrev pub asked_of : Bool → List ℕ → Given → model.Done
asked_of gate stored g = perform gate g.clock (ask g.typeid g.peer (pairs_in stored) (ids_in g.ids)) (requests_in g.count g.table)

-- all ids marked, then sent
abbrev pub marked_of : Given → List Request
marked_of g = mark_requested g.clock g.typeid g.peer (ids_in g.ids) (requests_in g.count g.table)

abbrev pub announced_of : Given → model.Done
announced_of g = request_announced true g.clock g.typeid g.peer (ids_in g.ids) (requests_in g.count g.table)

-- the answer when so many are pending, and one batch is sent
abbrev pub sent_to : Given → ℕ → ℕ → Written
sent_to g held end = record { count = held; place = record { at = end; batch = g.place.batch + 1 } }

abbrev pub batch_of : Given → List ℕ
batch_of g = all_command_bytes (commands_of g.place.batch (request g.typeid g.peer (ids_in g.ids)))

-- the wanted ids, n of them, at the front of the room
pub record Left (stored : List ℕ) (g : Given) (d rest : List ℕ) (n : ℕ) : Type 0 where
  pub entered : Entered g
  pub rest_bytes : Bytes rest
  pub written : rest ≡ overwritten 0 (joined (wanted_of stored g)) d
  pub number : n ≡ length (wanted_of stored g)

-- ---- nothing done

none_left : (ids : List Id) → length ids ≡ 0 → ids ≡ []
none_left [] h = refl
none_left (id ∷ ids) h = absurd (omega arith)

module _ {g : Given} (e : Entered g) where
  untouched : (done : model.Done) → done ≡ record { pending = requests_in g.count g.table; sendings = [] }
      → Answers g done (Ok (record { count = g.count; place = g.place })) g.table g.out
  untouched done q =
      let rs : List Request = requests_in g.count g.table in
      let none : model.Done = record { pending = rs; sendings = [] } in
      let l : length rs ≡ g.count = length_requests g.count g.table in
      let b : leb (length rs) g.most ≡ true = le-leb (length rs) g.most (omega (arith, e.held)) in
      let fits : g.count * record_size ≤ length g.table = omega (arith, mul-le-mul_right record_size e.held, e.room) in
      rw q (
        sym (few_requested g.most g.place none b ∙ rw (l, behind_none g.place)),
        (
          sym (few_held g.most g.count rs g.table b ∙ holding_same g.count g.table fits e.table_bytes),
          sym (few_sent g.most g.place none g.out b ∙ sent_none g.place g.out),
        ),
      )

  module _ (gate : Bool) (stored : List ℕ) where
    -- "gate shut, nothing"
    pub gate_shut_lem : not gate ≡ true → Answers g (asked_of gate stored g) (Ok (record { count = g.count; place = g.place })) g.table g.out
    gate_shut_lem shut = untouched (asked_of gate stored g) (rw (not-true gate shut))

-- ---- marked, then sent

-- with some ids, one request
some_asked : (type_id peer : ℕ) (ids : List Id) → 0 < length ids → request_of type_id peer ids ≡ request type_id peer ids ∷ []
some_asked type_id peer [] h = absurd (omega arith)
some_asked type_id peer (id ∷ ids) h = refl

module _ {g : Given} (e : Entered g) where
  -- room for so many ids is room for their requests
  pub put_room : (number : ℕ) → length g.ids ≡ number * id_size → g.place.at + number * command_size ≤ length g.out
      → g.place.at + length (batch_of g) ≤ length g.out
  put_room number whole room =
      let one = request g.typeid g.peer (ids_in g.ids) in
      let well : WellList g.typeid g.peer (ids_in g.ids) =
      record { type_id = e.type_fits; peer = e.peer_fits; ids = well_ids g.ids e.ids_bytes } in
      let a = sendings_bytes g.place.batch (one ∷ []) (well, tt) in
      let q : all_command_bytes (commands_of g.place.batch one ++ []) ≡ batch_of g = rw append-nil in
      omega (arith, ap length q, counted_ids g.ids whole)

  module _ {answer : Result ℕ TrackerError} {table : List ℕ}
      (m : (answer ≡ marked_as g.most (marked_of g)) × (table ≡ held_within g.most g.count (marked_of g) g.table)) where
    pub marked_too_many : answer ≡ Err Full → Answers g (announced_of g) (Err Full) table g.out
    marked_too_many full =
        let many : leb (length (marked_of g)) g.most ≡ false = marked_full g.most (marked_of g) (rw full at m.0) in
        (sym (many_requested g.most g.place (announced_of g) many), (m.1, sym (many_sent g.most g.place (announced_of g) g.out many)))

    pub marked_then_sent : 0 < length (ids_in g.ids) → {held end : ℕ} {out : List ℕ} → answer ≡ Ok held
        → (out ≡ overwritten g.place.at (batch_of g) g.out) × (end ≡ g.place.at + length (batch_of g))
        → Answers g (announced_of g) (Ok (sent_to g held end)) table out
    marked_then_sent some {held} {end} {out} pending sent =
        let p = marked_pending g.most held (marked_of g) (rw pending at m.0) in
        let one : Sending = request g.typeid g.peer (ids_in g.ids) in
        let s = some_asked g.typeid g.peer (ids_in g.ids) some in
        let bytes = sent_one g.place.batch one in (
          sym (few_requested g.most g.place (announced_of g) p.0 ∙ rw (s, bytes, ← sent.1, ← p.1)),
          (m.1, sym (few_sent g.most g.place (announced_of g) g.out p.0 ∙ rw (s, bytes) (sym sent.0))),
        )

-- ---- some wanted

pub all_ids : (es : List Id) → Wide id_size es → ids_in (joined es) ≡ es
unfolding ids_in
all_ids es w =
    let l : length (joined es) ≡ length es * id_size = length_joined 32 es w in
    let n : length (joined es) / id_size ≡ length es = omega arith in
    rw n (rw (append-nil (joined es)) at (entries_joined 32 es [] w))

module _ {stored : List ℕ} {g : Given} {d rest : List ℕ} {n : ℕ} (w : Left stored g d rest n) where
  abbrev e : Entered g
  e = w.entered

  -- with none of them, nothing is done
  pub none_wanted : (gate : Bool) → not gate ≡ false → n ≡ 0
      → Answers g (asked_of gate stored g) (Ok (record { count = g.count; place = g.place })) g.table g.out
  none_wanted gate ajar h =
      untouched e (asked_of gate stored g) (rw (not-false gate ajar, none_left (wanted_of stored g) (omega (arith, w.number))))

  wide : Wide id_size (wanted_of stored g)
  wide =
      let list : WellList g.typeid g.peer (ids_in g.ids) =
      record { type_id = e.type_fits; peer = e.peer_fits; ids = well_ids g.ids e.ids_bytes } in
      ids_wide (wanted_of stored g) (wanted_well (requests_in g.count g.table) g.typeid g.peer (pairs_in stored) (ids_in g.ids) list).ids

  long : length (joined (wanted_of stored g)) ≡ n * id_size
  long = length_joined 32 (wanted_of stored g) wide ∙ rw (← w.number)

  front : take (n * id_size) rest ≡ joined (wanted_of stored g)
  front = rw (w.written, ← long) (front_read_back (joined (wanted_of stored g)) d)

  pub front_ids : ids_in (take (n * id_size) rest) ≡ wanted_of stored g
  front_ids = ap ids_in front ∙ all_ids (wanted_of stored g) wide

  pub front_long : length (take (n * id_size) rest) ≡ n * id_size
  front_long = ap length front ∙ long

  pub few_wanted : n ≤ length g.ids / id_size
  unfolding wanted
  few_wanted =
      let new : Id → Bool = λ (id : Id). not (is_pending id (requests_in g.count g.table)) in
      let a = length_kept new (ids_in g.ids) in
      let b = length_kept (λ (id : Id). not (is_stored (pairs_in stored) g.typeid id)) (kept new (ids_in g.ids)) in
      omega (arith, length_ids g.ids, w.number)

  -- the wanted ids in the list's place
  abbrev pub left : Given
  left = record g { ids = take (n * id_size) rest }

  pub left_entered : Entered left
  left_entered = record {
    few = omega (arith, front_long, few_wanted, e.few);
    held = e.held;
    limit = e.limit;
    room = e.room;
    rise = e.rise;
    table_bytes = e.table_bytes;
    ids_bytes = bytes_take (n * id_size) rest w.rest_bytes;
    type_fits = e.type_fits;
    peer_fits = e.peer_fits;
  }

  -- marked and sent, they are what rule 3 does
  left_asked : (gate : Bool) → not gate ≡ false → announced_of left ≡ asked_of gate stored g
  left_asked gate ajar = rw (not-false gate ajar, front_ids)

  module _ (gate : Bool) (ajar : not gate ≡ false) {answer : Result ℕ TrackerError} {table : List ℕ}
      (m : (answer ≡ marked_as g.most (marked_of left)) × (table ≡ held_within g.most g.count (marked_of left) g.table)) where
    pub wanted_too_many : answer ≡ Err Full → Answers g (asked_of gate stored g) (Err Full) table g.out
    wanted_too_many full =
        subst (λ (done : model.Done). Answers g done (Err Full) table g.out) (left_asked gate ajar) (marked_too_many left_entered m full)

    pub wanted_sent : n ≢ 0 → {held end : ℕ} {out : List ℕ} → answer ≡ Ok held
        → (out ≡ overwritten g.place.at (batch_of left) g.out) × (end ≡ g.place.at + length (batch_of left))
        → Answers g (asked_of gate stored g) (Ok (sent_to g held end)) table out
    wanted_sent some {held} {end} {out} ok sent =
        subst (λ (done : model.Done). Answers g done (Ok (sent_to g held end)) table out) (left_asked gate ajar)
        (marked_then_sent left_entered m (omega (arith, ap length front_ids, w.number)) ok sent)
