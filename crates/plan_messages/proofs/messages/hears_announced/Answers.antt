-- By whether ids are listed, the type, and for an empty list the sender: `heard_served`, `heard_unserved`, `heard_no_headers`, `heard_nothing`.
use mathlib.Core.Path.{sym, ap, ◌∙◌}
use Rattle.plan.specs.Plans.{sketch_of}
use Rattle.plan_messages.proofs.MessageLaws.{heard_served, heard_unserved, heard_no_headers, heard_nothing, quiet_tip}
use Rattle.model.specs.Peers.{first_of}
use Rattle.model.specs.Lists.{peers_in}
use lib.Dec.{eqb}
use Rattle.image.specs.Heads.{head_of}
use Rattle.plan.proofs.CallLaws.{numbers}
use Rattle.plan_messages.proofs.messages.hears_announced.Goals as goal

pub returns-then-is_announceable : goal.returns-then-is_announceable
returns-then-is_announceable c =
    let r = c.continues in record {
      work_value = rw r.ensures.work_value;
      result_value = (λ st d h n ei shows.
          let m = numbers d c.args.call n in
          let yes = sym c.is_announceable.ensures ∙ c.if-is_announceable.true in
          r.ensures.result_value st d h m.clock
          ∙ ap (λ p. sketch_of st d p) (heard_served st d ei m.typeid c.if-ids-ge-ID_SIZE.true m.peer yes));
    }

pub returns-then-ids-ge-ID_SIZE : goal.returns-then-ids-ge-ID_SIZE
returns-then-ids-ge-ID_SIZE c =
    let r = c.continues-then-ids-ge-ID_SIZE in record {
      work_value = rw r.ensures.work_value;
      result_value = (λ st d h n ei shows.
          let m = numbers d c.args.call n in
          let no = sym c.is_announceable.ensures ∙ c.if-is_announceable.false in
          r.ensures.result_value st d h m.clock
          ∙ ap (λ p. sketch_of st d p) (heard_unserved st d ei m.typeid c.if-ids-ge-ID_SIZE.true no));
    }

pub returns-then-tells_tip : goal.returns-then-tells_tip
unfolding head_of
returns-then-tells_tip c =
    let a = c.args in
    let r = c.is_at_tip in record {
      work_value = rw r.ensures.work_value (quiet_tip (eqb a.head.mode 2) (first_of (peers_in a.shown.peers.now)));
      result_value = (λ st d h n ei shows.
          let m = numbers d a.call n in
          let tip = sym (ap (λ x. x.tip) h) in
          let mine = ap (λ x. x.peer) h in
          r.ensures.result_value st d h m.clock shows
          ∙ ap (λ p. sketch_of st d p)
          (heard_no_headers st d ei m.typeid c.if-ids-ge-ID_SIZE.false m.peer mine tip c.if-tells_tip.true));
    }

pub returns : goal.returns
unfolding head_of
returns c =
    let r = c.continues-2 in record {
      work_value = rw r.ensures.work_value;
      result_value = (λ st d h n ei shows.
          let m = numbers d c.args.call n in
          let mine = ap (λ x. x.peer) h in
          r.ensures.result_value st d h m.clock
          ∙ ap (λ p. sketch_of st d p)
          (heard_nothing st d ei m.typeid c.if-ids-ge-ID_SIZE.false m.peer mine c.if-tells_tip.false));
    }
