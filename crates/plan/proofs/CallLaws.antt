-- The numbers of a call, one by one.
use mathlib.Core.Path.{◌≡◌, ap}
use Rattle.model.specs.Calls as calls
use Rattle.plan.specs.declared.Call.{Call}
use Rattle.plan.specs.Plans.{numbers_of}

pub record Numbers (c : calls.Call) (call : Call) : Type 0 where
  pub kind : c.kind ≡ call.kind
  pub clock : c.clock ≡ call.clock
  pub height : c.height ≡ call.height
  pub peer : c.peer ≡ call.peer
  pub typeid : c.typeid ≡ call.typeid
  pub fork : c.fork ≡ call.fork
  pub parsed : c.parsed ≡ call.parsed
  pub hastip : c.hastip ≡ call.hastip
  pub tip : c.tip ≡ call.tip

pub numbers : (c : calls.Call) (call : Call) → numbers_of c ≡ call → Numbers c call
unfolding numbers_of
numbers c call n =
    record {
      kind = ap (λ (x : Call). x.kind) n;
      clock = ap (λ (x : Call). x.clock) n;
      height = ap (λ (x : Call). x.height) n;
      peer = ap (λ (x : Call). x.peer) n;
      typeid = ap (λ (x : Call). x.typeid) n;
      fork = ap (λ (x : Call). x.fork) n;
      parsed = ap (λ (x : Call). x.parsed) n;
      hastip = ap (λ (x : Call). x.hastip) n;
      tip = ap (λ (x : Call). x.tip) n;
    }
