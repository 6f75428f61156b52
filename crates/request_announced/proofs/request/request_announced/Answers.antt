-- Shut or nothing wanted: `gate_shut_lem`, `none_wanted`; else the wanted ids at the front of the room are marked and sent
-- (`wanted_sent`), or would be too many (`wanted_too_many`).
use native.Mathlib.Omega.{arith}
use Prim.Native.Nat.{ℕ}
use mathlib.Core.Path.{◌≡◌, sym, ap, ◌∙◌}
use mathlib.Core.Bool.{not}
use mathlib.Core.List.{List}
use lib.ListN.{length}
use Rattle.std.proofs.Common.{Err}
use Rattle.std.proofs.lemmas.Result.{err_from_is_err_and}
use borrow.Author.Rules.{rules}
use Rattle.fields.specs.Facts.{Bytes}
use Rattle.fields.specs.Entries.{joined}
use Rattle.fields.specs.Overwrite.{overwritten}
use Rattle.request_announced.proofs.RequestedLaws.{Given, given, Entered, Left, is_full, wanted_of, gate_shut_lem, none_wanted, few_wanted, front_long, left_entered, put_room, wanted_too_many, wanted_sent}
use Rattle.request_announced.proofs.request.request_announced.Goals.{Start, After-wanted-number}
use Rattle.request_announced.proofs.request.request_announced.Goals as goal

-- ---- the entry

module _ (c : Start) where
  abbrev entry : Given
  entry =
      let a = c.args in
      given a.table.now a.count a.most a.clock a.typeid a.peer a.ids.now a.out.now a.place

  entered : Bytes c.args.table.now → Bytes c.args.ids.now → Entered entry
  entered table_bytes ids_bytes =
      let p = c.requires.ids_len_bound in
      record {
        few = p.0;
        held = p.1.0;
        limit = p.1.1.0;
        room = p.1.1.1;
        rise = c.requires.table_value;
        table_bytes = table_bytes;
        ids_bytes = ids_bytes;
        type_fits = omega (arith, c.ranges);
        peer_fits = omega (arith, c.ranges);
      }

-- ---- the wanted ids, at the front of the room

abbrev Chosen : List ℕ → Given → List ℕ → List ℕ → ℕ → Type 0
Chosen stored g d rest n = (rest ≡ overwritten 0 (joined (wanted_of stored g)) d) × (n ≡ length (wanted_of stored g))

-- by what `wanted` ensures
module _ (c : After-wanted-number) where
  abbrev list : Given
  list =
      let a = c.args in
      given a.table.now a.count a.most a.clock a.typeid a.peer a.ids.now a.out.now a.place

  chosen : Chosen c.args.stored.bytes.now list c.args.rest.now c.wanted-number.new.rest c.wanted-number.result
  chosen = (c.wanted-number.ensures.rest_after, c.wanted-number.ensures.value)

  left : Entered list → Bytes c.wanted-number.new.rest
      → Left c.args.stored.bytes.now list c.args.rest.now c.wanted-number.new.rest c.wanted-number.result
  left e bytes = record { entered = e; rest_bytes = bytes; written = chosen.0; number = chosen.1 }

-- ---- the goals

pub returns-then-not-gate : goal.returns-then-not-gate
returns-then-not-gate c =
    let s = (goal.at.returns-then-not-gate c).Start in
    let e = entered s (λ i. search rules) (λ i. search rules) in
    let whole = gate_shut_lem e c.args.gate c.args.stored.bytes.now (ap not c.if-not-gate.true) in
    record { value = whole.0; table_after = whole.1.0; out_after = whole.1.1 }

pub returns-then-none : goal.returns-then-none
returns-then-none c =
    let e = entered (goal.at.returns-then-none c).Start (λ i. search rules) (λ i. search rules) in
    let w = left (goal.at.returns-then-none c).After-wanted-number e (λ i. search rules) in
    let whole = none_wanted w c.args.gate (ap not c.if-not-gate.false) c.if-none.true in
    record { value = whole.0; table_after = whole.1.0; out_after = whole.1.1 }

pub overflow_mul-left : goal.overflow_mul-left
overflow_mul-left c =
    let e = entered (goal.at.overflow_mul-left c).Start (λ i. search rules) (λ i. search rules) in
    let w = left (goal.at.overflow_mul-left c).After-wanted-number e (λ i. search rules) in
    omega (arith, few_wanted w, e.few)

pub slice_bounds-left-end : goal.slice_bounds-left-end
slice_bounds-left-end c =
    let e = entered (goal.at.slice_bounds-left-end c).Start (λ i. search rules) (λ i. search rules) in
    let w = left (goal.at.slice_bounds-left-end c).After-wanted-number e (λ i. search rules) in
    omega (arith, few_wanted w, c.requires.ids_in_bounds.0)

pub slice_bounds-left-end-2 : goal.slice_bounds-left-end-2
slice_bounds-left-end-2 c =
    let e = entered (goal.at.slice_bounds-left-end-2 c).Start (λ i. search rules) (λ i. search rules) in
    let w = left (goal.at.slice_bounds-left-end-2 c).After-wanted-number e (λ i. search rules) in
    sym (front_long w)

pub mark_requested-requires-clause-id_size_len : goal.mark_requested-requires-clause-id_size_len
mark_requested-requires-clause-id_size_len c =
    let e = entered (goal.at.mark_requested-requires-clause-id_size_len c).Start (λ i. search rules) (λ i. search rules) in
    let w = left (goal.at.mark_requested-requires-clause-id_size_len c).After-wanted-number e (λ i. search rules) in
    let l = left_entered w in (rw (front_long w) (omega arith), (l.few, (l.held, (l.limit, l.room))))

pub returns-in_err-held : goal.returns-in_err-held
returns-in_err-held c =
    let e = entered (goal.at.returns-in_err-held c).Start (λ i. search rules) (λ i. search rules) in
    let w = left (goal.at.returns-in_err-held c).After-wanted-number e (λ i. search rules) in
    let m = c.mark_requested.ensures in
    let p = err_from_is_err_and c.from_residual.result c.from_residual.ensures.1 in
    let whole = wanted_too_many w c.args.gate (ap not c.if-not-gate.false) (m.value, m.table_after) (c.in_err-held.was ∙ ap Err (is_full _)) in
    record { value = p.1 ∙ ap Err (is_full p.0) ∙ whole.0; table_after = whole.1.0; out_after = whole.1.1 }

pub put_requests-end-requires : goal.put_requests-end-requires
put_requests-end-requires c =
    let e = entered (goal.at.put_requests-end-requires c).Start (λ i. search rules) (λ i. search rules) in
    let w = left (goal.at.put_requests-end-requires c).After-wanted-number e (λ i. search rules) in
    let few = few_wanted w in
    (front_long w, (omega (arith, few, e.few), put_room (left_entered w) _ (front_long w) (omega (arith, few, c.requires.ids_in_bounds.1.0))))

pub returns : goal.returns
returns c =
    let e = entered (goal.at.returns c).Start (λ i. search rules) (λ i. search rules) in
    let w = left (goal.at.returns c).After-wanted-number e (λ i. search rules) in
    let m = c.mark_requested.ensures in
    let put = c.put_requests-end.ensures in
    let whole = wanted_sent w c.args.gate (ap not c.if-not-gate.false) (m.value, m.table_after) c.if-none.false c.in_ok-held.was
    (put.out_after, put.value) in
    record { value = whole.0; table_after = whole.1.0; out_after = whole.1.1 }
