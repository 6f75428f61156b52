-- The cases at the edges hold: a test computed over each table, and so an equation for each case.
use Prim.Native.Nat.{ℕ}
use mathlib.Core.Path.{◌≡◌, refl}
use mathlib.Core.Bool.{true}
use Rattle.fields.specs.Order.{before, same}
use Rattle.fields.specs.Entries.{entry, rising}
use Rattle.model.specs.Protocol as protocol
use Rattle.model.specs.Settings as settings
use Rattle.model.specs.Delivery as delivery
use Rattle.model.specs.State as state
use Rattle.model.specs.Peers as peers
use Rattle.model.specs.Requests as requests
use Rattle.model.specs.Sections as sections
use Rattle.model.specs.Check as check
use Rattle.model.specs.FormerTarget as former
use Rattle.model.specs.Events as events
use Rattle.model.specs.Steps as steps
use Rattle.model.specs.Lists as lists
use Rattle.model.specs.MeanAge as means_of
use Rattle.model.specs.Commands as commands
use Rattle.model.specs.Calls as calls
use Rattle.model.specs.Cases as starred
use Rattle.model.specs.CaseTables.{Hold, all_as_expected}
use Rattle.model.specs.EdgeCases.{found, refusals, calls_read, picks_and_sends, announced_ids, windows, view_readers, advances}
use Rattle.model.specs.EdgeCases.{delivery_checks, retry_targets, messages, mode_steps, forecasts, means}
use Rattle.model.proofs.CaseTables.{each}

-- Every definition that a case computes with, opened by one name.
rules : ℕ
unfolding found starred.found before same entry rising protocol.is_transaction protocol.is_among protocol.is_announceable settings.patience
    settings.expired settings.given_up settings.throttled settings.stalled delivery.is_pending delivery.mark_received delivery.pending_after_eviction
    delivery.evicted_after_eviction delivery.purge_peer delivery.orphans_of delivery.purge_all delivery.verdict delivery.restarted delivery.judged
    state.opened peers.first_unstalled peers.select_peer peers.stalled_after_select peers.join_stalled peers.send_sync_info peers.reset_sends requests.is_stored
    requests.runs requests.sync_info_to requests.wanted sections.advance_downloaded_height sections.item_below sections.batches_of
    sections.request_sections_from sections.request_next_sections check.retry_target former.former_target check.retry_of check.retries
    check.retry_sendings events.tip_outcome events.raised_tip events.continuation steps.of_mode steps.unmarked steps.without_peer steps.sent
    steps.say_to steps.advance_from steps.sections_from steps.continues steps.leaves steps.advances steps.advances_and_requests steps.enters_syncing
    steps.picks steps.is_at_tip steps.answers steps.hears_sync_info steps.hears_announced steps.ask_orphans steps.loses steps.ticks_syncing
    steps.ticks_synced steps.progresses steps.checks steps.evicts steps.plan_of steps.plan steps.remaining steps.retried steps.performed steps.after
    steps.commands steps.count_of steps.fresh_count means_of.mean_of
    lists.list_fits lists.ids_in lists.peers_in lists.pair_of lists.pairs_in lists.ids_fit lists.continuation_fits lists.pairs_fit lists.peers_fit
    lists.section_of lists.header_of lists.used_places lists.row_fits lists.first_height lists.row_count lists.view_fits lists.view_of
    commands.command_bytes calls.step_of calls.args_of calls.call_fits calls.lists_fit calls.step_bytes calls.step_answer calls.result_refusal
    calls.call_refusal
rules = 0

refusal_test : all_as_expected found refusals ≡ true
unfolding rules
refusal_test = refl

pub refusal_cases : Hold found refusals
refusal_cases = each found refusals refusal_test

call_read_test : all_as_expected found calls_read ≡ true
unfolding rules
call_read_test = refl

pub call_read_cases : Hold found calls_read
call_read_cases = each found calls_read call_read_test

pick_and_send_test : all_as_expected found picks_and_sends ≡ true
unfolding rules
pick_and_send_test = refl

pub pick_and_send_cases : Hold found picks_and_sends
pick_and_send_cases = each found picks_and_sends pick_and_send_test

announced_id_test : all_as_expected found announced_ids ≡ true
unfolding rules
announced_id_test = refl

pub announced_id_cases : Hold found announced_ids
announced_id_cases = each found announced_ids announced_id_test

window_test : all_as_expected found windows ≡ true
unfolding rules
window_test = refl

pub window_cases : Hold found windows
window_cases = each found windows window_test

view_reader_test : all_as_expected found view_readers ≡ true
unfolding rules
view_reader_test = refl

pub view_reader_cases : Hold found view_readers
view_reader_cases = each found view_readers view_reader_test

advance_test : all_as_expected found advances ≡ true
unfolding rules
advance_test = refl

pub advance_cases : Hold found advances
advance_cases = each found advances advance_test

delivery_check_test : all_as_expected found delivery_checks ≡ true
unfolding rules
delivery_check_test = refl

pub delivery_check_cases : Hold found delivery_checks
delivery_check_cases = each found delivery_checks delivery_check_test

retry_target_test : all_as_expected found retry_targets ≡ true
unfolding rules
retry_target_test = refl

pub retry_target_cases : Hold found retry_targets
retry_target_cases = each found retry_targets retry_target_test

message_test : all_as_expected found messages ≡ true
unfolding rules
message_test = refl

pub message_cases : Hold found messages
message_cases = each found messages message_test

mode_step_test : all_as_expected found mode_steps ≡ true
unfolding rules
mode_step_test = refl

pub mode_step_cases : Hold found mode_steps
mode_step_cases = each found mode_steps mode_step_test

forecast_test : all_as_expected found forecasts ≡ true
unfolding rules
forecast_test = refl

pub forecast_cases : Hold found forecasts
forecast_cases = each found forecasts forecast_test

mean_test : all_as_expected found means ≡ true
unfolding rules
mean_test = refl

pub mean_cases : Hold found means
mean_cases = each found means mean_test
