-- No sync peer, no pairs: `no_pairs`; else the gathered pairs once and in order: `answered`.
use native.Mathlib.Omega.{arith}
use Prim.Native.Nat.{ℕ, ◌≤◌}
use mathlib.Core.Path.{◌≡◌, ap, sym, ◌∙◌}
use lib.ListN.{length, replicate, length-replicate}
use Rattle.model.specs.Layout.{pair_list_size}
use Rattle.model.specs.Protocol.{tracked_limit}
use Rattle.question.proofs.QuestionLaws.{Area, no_pairs, all_pairs, asked_few, answered}
use Rattle.question.proofs.AnswerLaws.{front_long}
use mathlib.Core.Bool.{not}
use Rattle.question.proofs.question_pairs.Goals.{After-gather-count, Start}
use Rattle.question.proofs.question_pairs.Goals as goal

-- the area lent
its-area : (s : Start) → Area s.args.area.now s.args.head
its-area s = record { long = s.requires.area_len.0; well = s.requires.area_len.1; head = s.requires.head_value }

-- the pairs gathered
module _ (c : After-gather-count) where
  few : c.gather-count.result ≤ tracked_limit
  few = asked_few c.args.area.now c.args.lost c.requires.area_len.1 c.gather-count.ensures.value

  long : length c.gather-count.new.pairs ≡ pair_list_size
  long = c.gather-count.auto.pairs ∙ length-replicate {A = ℕ} pair_list_size 0

pub returns-then-not-has_sync_peer : goal.returns-then-not-has_sync_peer
returns-then-not-has_sync_peer c =
    let s = (goal.at.returns-then-not-has_sync_peer c).Start in
    let whole = no_pairs (its-area s) s.args.lost c.has_sync_peer.ensures s.args.out.now (ap not c.if-not-has_sync_peer.true) in
    record { out_after = whole.0; value = whole.1 }

pub overflow_mul-size : goal.overflow_mul-size
overflow_mul-size c = let gathered = (goal.at.overflow_mul-size c).After-gather-count in omega (arith, few gathered)

pub slice_bounds-pairs-end : goal.slice_bounds-pairs-end
slice_bounds-pairs-end c = let gathered = (goal.at.slice_bounds-pairs-end c).After-gather-count in omega (arith, few gathered)

pub slice_bounds-put_rising-end : goal.slice_bounds-put_rising-end
slice_bounds-put_rising-end c = let gathered = (goal.at.slice_bounds-put_rising-end c).After-gather-count in sym (front_long _ (few gathered) (long gathered))

pub returns : goal.returns
returns c =
    let s = (goal.at.returns c).Start in
    let gathered = c.gather-count.ensures in
    let put = c.put_rising.ensures in
    let rising = all_pairs (its-area s) s.args.lost c.has_sync_peer.ensures (ap not c.if-not-has_sync_peer.false) in
    let whole = answered (its-area s) s.args.lost (replicate pair_list_size 0) c.gather-count.new.pairs s.args.out.now rising
    (gathered.pairs_after, gathered.value) (put.out_after, put.value) in record { out_after = whole.0; value = whole.1 }
