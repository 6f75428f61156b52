-- Numbers of the Ergo protocol, and the limits of document 01.
use Rattle.std.specs.Prelude.{ℕ, ◌+◌, ◌*◌, Bool, true, false, ◌||◌, List, [], ◌∷◌, eqb}
use Rattle.fields.specs.Order.{same}

-- An id is its 32 bytes.
abbrev pub Id : Type 0
Id = List ℕ

unfoldable pub is_among : Id → List Id → Bool
is_among id [] = false
is_among id (other ∷ others) = same id other || is_among id others

-- "transaction 2, header 101, block transactions 102, AD proofs 104, extension 108"
abbrev pub transaction_type : ℕ
transaction_type = 2

abbrev pub header_type : ℕ
header_type = 101

unfoldable pub is_transaction : ℕ → Bool
is_transaction type_id = eqb type_id transaction_type

-- "Announced headers, sections and transactions use rule 3": the types that an announcement is served for.
unfoldable pub is_announceable : ℕ → Bool
is_announceable type_id =
    eqb type_id transaction_type || (eqb type_id header_type || (eqb type_id 102 || (eqb type_id 104 || eqb type_id 108)))

-- "a run of at most 400 consecutive ids"
abbrev pub request_size : ℕ
request_size = 400

-- "downloaded + 1 to min(downloaded + 192, chain height)"
abbrev pub window_size : ℕ
window_size = 192

-- "pending + evicted after the step would pass 1,024"
abbrev pub tracked_limit : ℕ
tracked_limit = 1024

-- "a stalled set of up to 256 peers"
abbrev pub stalled_limit : ℕ
stalled_limit = 256

-- "ids, 32 each, at most 1,024 (continuation 400)", stored pairs "at most 1,024"
abbrev pub list_limit : ℕ
list_limit = 1024

abbrev pub continuation_limit : ℕ
continuation_limit = 400

-- "peers, 8 bytes each, at most 128"
abbrev pub peer_limit : ℕ
peer_limit = 128
