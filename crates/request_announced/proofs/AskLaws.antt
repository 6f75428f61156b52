-- The loop over the types: one run of places after another.
use Prim.Native.Nat.{ℕ, suc, ◌+◌, ◌-◌, ◌*◌, ◌/◌, ◌^◌, ◌≤◌, ◌<◌}
use mathlib.Core.Path.{◌≡◌, refl, sym, ◌∙◌}
use mathlib.Core.Bool.{true, false≢true}
use mathlib.Core.List.{List, [], ◌∷◌}
use native.Mathlib.Omega.{arith}
use lib.ListN.{length, take, drop, get_or, drop_of_length-le}
use Rattle.fields.specs.Facts.{Bytes, All}
use Rattle.fields.specs.Entries.{entries, rising}
use Rattle.model.specs.Requests.{Act, ask, perform, Done}
use Rattle.model.specs.Lists.{ids_in, pairs_in, entries_of}
use Rattle.commands.specs.Pending.{requests_in}
use Rattle.mark_requested.specs.Marking.{held_within}
use Rattle.commands.proofs.WriteLaws as write
use Rattle.request_announced.specs.Requested.{requested_as, sent_within}
use Rattle.std.proofs.Common.{Result, Ok, Err}
use Rattle.commands.specs.declared.tracker.TrackerError.{TrackerError}
use Rattle.commands.specs.declared.tracker.TrackerError.TheVariants.{Full}
use Rattle.request_announced.specs.declared.request.Written.{Written}
use Rattle.request_announced.specs.Pairs.{Within, pairs_at, type_at, of_type}
use Rattle.request_announced.specs.ByType.{asks_by_type, asks_of}
use Rattle.request_announced.specs.Run.{Run, Ready, asked_of, Asked}
use Rattle.request_announced.proofs.RequestedLaws.{many_requested}
use Rattle.request_announced.proofs.PerformLaws.{Performing, perform_starts, perform_ends, act_room, act_number, perform_full, perform_turn}
use Rattle.request_announced.proofs.FrontLaws.{sorted_within, sorted_long}
use Rattle.request_announced.proofs.ByTypeLaws.{gathered_long, run_within_lem, run_long, run_asked, asks_of_places, asks_weight, asks_count, asks_well}
use Rattle.model.specs.Layout.{command_size, id_list_size, id_size, pair_size, record_size}
use Rattle.model.specs.Protocol.{tracked_limit}

-- all asks, those of the places from i on, and the one for the places from i to `next`
abbrev asks : Run → List Act
asks r = asks_by_type r.peer (pairs_in r.stored) (entries_of pair_size r.pairs)

abbrev asks_from : Run → ℕ → List Act
asks_from r i = asks_of r.peer (pairs_in r.stored) (pairs_at r.pairs (drop i r.places))

abbrev part : Run → ℕ → ℕ → List ℕ
part r i next = take (next * id_size - i * id_size) (drop (i * id_size) r.ids)

abbrev ask_of : Run → ℕ → ℕ → ℕ → Act
ask_of r i type_id next = ask type_id r.peer (pairs_in r.stored) (ids_in (part r i next))

-- The asks of the places from i on are left.
pub record Asking (r : Run) (table rest out : List ℕ) (done : Written) (i : ℕ) : Type 0 where
  pub i_le : i ≤ length r.places
  pub rest_as_long : length rest ≡ length r.rest
  pub acts : Performing r.gate r.clock r.most r.count r.place (asks r) r.table r.out (asks_from r i) table out done

-- The places from i to `next` are those of one type.
pub record Turn (r : Run) (i type_id next : ℕ) : Type 0 where
  pub here : i < length r.places
  pub typed : type_id ≡ type_at r.pairs (get_or r.places i 0)
  pub ends : next ≡ i + suc (of_type (type_at r.pairs (get_or r.places i 0)) (pairs_at r.pairs (drop (i + 1) r.places)))

-- what `request_announced` asks, and what it ensures
abbrev RequestAsks : Run → List ℕ → List ℕ → List ℕ → List ℕ → Written → Type 0
RequestAsks r ids table rest out done =
    ((length ids ≤ id_list_size) × ((done.count ≤ r.most) × ((r.most ≤ tracked_limit) × (r.most * record_size ≤ length table))))
    × ((rising id_size (entries record_size done.count table) ≡ true)
    × ((length ids ≤ length rest) × ((done.place.at + length ids / id_size * command_size ≤ length out) × (done.place.batch + 1 < 65536))))

abbrev RequestSays : Run → Done → Written → List ℕ → List ℕ → Result Written TrackerError → List ℕ → List ℕ → Type 0
RequestSays r did done table out answer table' out' =
    (answer ≡ requested_as r.most done.place did)
    × ((table' ≡ held_within r.most done.count did.pending table) × (out' ≡ sent_within r.most done.place did out))

module _ {r : Run} (ready : Ready r) where
  pub within : All (Within r.pairs) r.places
  within = sorted_within r.pairs r.places ready.sorted.by_type

  pub ask_starts : Bytes r.table → Bytes r.pairs → r.peer < 2 ^ 64
      → Asking r r.table r.rest r.out (record { count = r.count; place = r.place }) 0
  ask_starts f fp hp =
      let w = asks_weight r.peer (pairs_in r.stored) r.pairs in
      let c = asks_count r.peer (pairs_in r.stored) r.pairs in
      let q : asks_of r.peer (pairs_in r.stored) (pairs_at r.pairs r.places) ≡ asks r = rw ready.sorted.by_type (asks_of_places r.peer r.pairs fp (pairs_in r.stored)) in
      let well = asks_well r.peer (pairs_in r.stored) r.pairs hp fp in
      record {
        i_le = omega arith;
        rest_as_long = refl;
        acts =
            rw q
            (perform_starts r.gate r.clock r.most r.count r.place (asks r) r.table r.out ready.sorted.held ready.sorted.fits f ready.sorted.rise well (omega arith)
            (omega arith));
      }

  module _ {table rest out : List ℕ} {done : Written} {i : ℕ} (s : Asking r table rest out done i) where
    pub ask_ends : length r.places ≤ i → Asked r (Ok done) table out
    unfolding asks_of
    ask_ends h =
        let e = perform_ends s.acts (none (drop_of_length-le r.places {i = i} h)) in
        record { answered = e.0; left = e.1.0; written = e.1.1 }
      where
        none : drop i r.places ≡ [] → asks_from r i ≡ []
        none z = rw z

    module _ {type_id next : ℕ} (turn : Turn r i type_id next) where
      asked_here : asks_from r i ≡ ask_of r i type_id next ∷ asks_from r next
      asked_here = run_asked r.peer (pairs_in r.stored) r.pairs r.places r.ids within ready.gathered i next type_id turn.here turn.typed turn.ends

      pub ids_long : length r.ids ≡ length r.places * id_size
      ids_long = gathered_long r.peer (pairs_in r.stored) r.pairs r.places r.ids within ready.gathered

      pub stays_within : next ≤ length r.places
      stays_within =
          (run_within_lem r.peer (pairs_in r.stored) r.pairs r.places r.ids within ready.gathered i next type_id turn.here turn.typed turn.ends).1

      pub places_few : length r.places ≤ tracked_limit
      places_few = omega (arith, sorted_long r.pairs r.places ready.sorted.by_type, ready.sorted.few)

      part_long : length (part r i next) ≡ next * id_size - i * id_size
      part_long = run_long r.peer (pairs_in r.stored) r.pairs r.places r.ids within ready.gathered i next type_id turn.here turn.typed turn.ends

      part_room : done.place.at + length (part r i next) / id_size * command_size ≤ length out
      part_room =
          let a = act_room s.acts asked_here ready.sorted.fits in
          let l = write.length_ids (part r i next) in
          omega arith

      part_number : done.place.batch + 1 < 65536
      part_number = act_number s.acts asked_here ready.sorted.fits

      pub request_asks : RequestAsks r (part r i next) table rest out done
      request_asks =
          let q = s.acts in (
            (rw part_long (omega (arith, stays_within, places_few)), (q.few, (ready.sorted.limit, omega (arith, q.grown.long, ready.sorted.fits)))),
            (
              q.grown.rise,
              (rw part_long (omega (arith, stays_within, ids_long, s.rest_as_long, ready.rest_long)), (part_room, part_number)),
            ),
          )

      -- what this ask does
      abbrev did : Done
      did = perform r.gate r.clock (ask_of r i type_id next) (requests_in done.count table)

      module _ {answer : Result Written TrackerError} {table' out' : List ℕ} (says : RequestSays r did done table out answer table' out') where
        pub ask_full : {table'' out'' : List ℕ} → answer ≡ Err Full → Asked r (Err Full) table'' out''
        ask_full full =
            let q : Err Full ≡ requested_as r.most done.place did = rw full at says.0 in
            let m = perform_full s.acts asked_here ready.sorted.fits q in
            record {
              answered = sym (many_requested r.most r.place (asked_of r) m);
              left = λ y. absurd (false≢true (sym m ∙ y));
              written = λ y. absurd (false≢true (sym m ∙ y));
            }

        pub ask_turn : {rest' : List ℕ} (w : Written) → answer ≡ Ok w → r.clock < 2 ^ 64 → Bytes table' → length rest' ≡ length rest
            → Asking r table' rest' out' w next
        ask_turn w is hc f' lr =
            let er : Ok w ≡ requested_as r.most done.place did = rw is at says.0 in
            record {
              i_le = stays_within;
              rest_as_long = lr ∙ s.rest_as_long;
              acts = perform_turn s.acts asked_here ready.sorted.fits hc w er says.1.0 says.1.1 f';
            }
