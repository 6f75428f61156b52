-- The place of the key's first word (`place`), and what the key there says.
use Prim.Native.Nat.{suc, ◌*◌, ◌≤◌}
use native.Mathlib.Nat.{mul-le-mul_right}
use native.Mathlib.Omega.{arith}
use lib.ListN.{length, take, drop}
use Rattle.fields.specs.Facts.{Bytes}
use Rattle.keys.specs.Decide.{Decides}
use Rattle.keys.proofs.PlaceLaws.{Searched, whole, place_end, place_at, place_gap, place_passed}
use Rattle.keys.proofs.find.find.Goals.{After-read_u64, After-key_unlike-words}
use Rattle.keys.proofs.find.find.Goals as goal

module _ (c : After-read_u64) where
  searched : Searched c.args.key.now c.args.table.bytes.now c.args.table.width c.args.table.count c.read_u64.result
  searched =
      let bytes : Bytes c.bytes_of-bytes.result.now = λ i. omega (arith, c.type_inv.bytes i) in
      record {
        bytes = rw c.bytes_of-bytes.ensures at bytes;
        key_bytes = λ i. omega (arith, c.type_inv.key i);
        narrow = c.requires.key_len_bound.0;
        room = c.args.table.fits;
        word_long = c.requires.key_len_bound.1;
        rise = c.requires.table_value;
        first = c.read_u64.ensures;
      }

module _ (c : After-key_unlike-words) where
  decided : Decides c.key_unlike-words.result.left c.key_unlike-words.result.right
      (take (length c.args.key.now) (drop (c.place-place.result * c.args.table.width) c.args.table.bytes.now))
      (take (length c.args.key.now) c.args.key.now)
  decided = rw c.bytes_of-bytes.ensures at c.key_unlike-words.ensures

pub place-place-requires : goal.place-place-requires
place-place-requires c = let word = c in record { le_width = omega arith; within = whole (searched word) }

pub returns-then-table-place : goal.returns-then-table-place
returns-then-table-place c = let word = (goal.at.returns-then-table-place c).After-read_u64 in
    place_end (searched word) c.place-place.ensures c.if-table-place.true

pub key_unlike-words-requires : goal.key_unlike-words-requires
key_unlike-words-requires c = let inside : suc c.place-place.result ≤ c.args.table.count = omega arith in
    rw c.bytes_of-bytes.ensures (omega (arith, mul-le-mul_right c.args.table.width inside))

pub returns-then-words : goal.returns-then-words
returns-then-words c =
    let word = (goal.at.returns-then-words c).After-read_u64 in
    let asked = (goal.at.returns-then-words c).After-key_unlike-words in
    place_at (searched word) c.place-place.ensures c.if-table-place.false (decided asked) c.if-words.true

pub returns-then-words-2 : goal.returns-then-words-2
returns-then-words-2 c =
    let word = (goal.at.returns-then-words-2 c).After-read_u64 in
    let asked = (goal.at.returns-then-words-2 c).After-key_unlike-words in
    place_gap (searched word) c.place-place.ensures c.if-table-place.false (decided asked) c.if-words-2.true

pub halved-requires-clause-passed : goal.halved-requires-clause-passed
halved-requires-clause-passed c =
    let word = (goal.at.halved-requires-clause-passed c).After-read_u64 in
    let asked = (goal.at.halved-requires-clause-passed c).After-key_unlike-words in
    place_passed (searched word) c.place-place.ensures c.if-table-place.false (decided asked) (omega arith)
