-- An id is pending where a record starts with it.
use Prim.Native.Nat.{ℕ}
use mathlib.Core.Path.{◌≡◌, refl}
use mathlib.Core.List.{List, [], ◌∷◌, map}
use lib.ListN.{length, take}
use Rattle.fields.proofs.OrderLaws.{same_sym}
use Rattle.model.specs.Protocol.{is_among}
use Rattle.model.specs.Delivery.{is_pending}
use Rattle.model.specs.Image.{request_of}
use Rattle.keys.specs.Keys.{has_key}
use Rattle.model.specs.Layout.{id_size}

pub pending_key : (id : List ℕ) (es : List (List ℕ)) → length id ≡ id_size → is_pending id (map request_of es) ≡ has_key id es
unfolding is_pending is_among request_of
pending_key id [] l = refl
pending_key id (e ∷ es) l = rw (l, same_sym id (take id_size e), pending_key id es l)
