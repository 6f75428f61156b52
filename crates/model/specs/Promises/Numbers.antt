-- The numbers of docs/LAYOUT.md in which a call, its answer and a command speak.
use Rattle.std.specs.Prelude.{ℕ}

-- ---- step kinds

abbrev pub start : ℕ
start = 1

abbrev pub pick : ℕ
pick = 2

abbrev pub needed_modifier : ℕ
needed_modifier = 3

abbrev pub reorg : ℕ
reorg = 4

abbrev pub announced_ids : ℕ
announced_ids = 5

abbrev pub sync_info : ℕ
sync_info = 6

abbrev pub other_message : ℕ
other_message = 7

abbrev pub lost_peer : ℕ
lost_peer = 8

abbrev pub received_ids : ℕ
received_ids = 9

abbrev pub evicted_ids : ℕ
evicted_ids = 10

abbrev pub progress : ℕ
progress = 11

abbrev pub check : ℕ
check = 12

abbrev pub scheduled_tick : ℕ
scheduled_tick = 13

abbrev pub section_tick : ℕ
section_tick = 14

abbrev pub send_failure : ℕ
send_failure = 15

abbrev pub end_of_stream : ℕ
end_of_stream = 16

-- ---- outcomes

abbrev pub says_continue : ℕ
says_continue = 0

abbrev pub says_synced : ℕ
says_synced = 1

abbrev pub says_behind_peer : ℕ
says_behind_peer = 2

abbrev pub says_peer_gone : ℕ
says_peer_gone = 3

abbrev pub says_stalled : ℕ
says_stalled = 4

abbrev pub says_end_of_stream : ℕ
says_end_of_stream = 5

-- ---- commands

abbrev pub a_request : ℕ
a_request = 1

abbrev pub an_announcement : ℕ
an_announcement = 2

abbrev pub a_sync_info : ℕ
a_sync_info = 3

-- ---- modifier types

abbrev pub a_transaction : ℕ
a_transaction = 2

abbrev pub a_header : ℕ
a_header = 101

abbrev pub block_transactions : ℕ
block_transactions = 102

abbrev pub ad_proofs : ℕ
ad_proofs = 104

abbrev pub an_extension : ℕ
an_extension = 108
