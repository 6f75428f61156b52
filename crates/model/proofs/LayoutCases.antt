-- The byte cases hold: a test computed over each table, and so an equation for each case.
use mathlib.Core.Path.{◌≡◌, refl}
use mathlib.Core.Bool.{true}
use Rattle.fields.specs.Order.{before, same}
use Rattle.fields.specs.Entries.{entry, rising}
use Rattle.model.specs.Protocol as protocol
use Rattle.model.specs.Settings as settings
use Rattle.model.specs.Delivery as delivery
use Rattle.model.specs.State as state
use Rattle.model.specs.Image as image
use Rattle.model.specs.Lists as lists
use Rattle.model.specs.Commands as commands
use Rattle.model.specs.Calls as calls
use Rattle.model.specs.Forecast as forecasts
use Rattle.model.specs.MeanAge as ages
use Rattle.model.specs.CaseTables.{Hold, all_as_expected}
use Rattle.model.specs.LayoutCases.{found, layouts, list_tests, area_tests, whole_areas}
use Rattle.model.proofs.CaseTables.{each}

layouts_test : all_as_expected found layouts ≡ true
unfolding found before same entry protocol.is_transaction delivery.orphans_of state.opened image.header_bytes image.request_bytes image.request_of image.decode
    image.settings_of image.mode_of image.stalled_of image.pending_of image.evicted_of lists.ids_in lists.peers_in lists.pair_of lists.pairs_in lists.section_of
    lists.header_of lists.first_height lists.row_count lists.view_of commands.command_bytes commands.command_of commands.commands_in calls.question_pairs
layouts_test = refl

list_test : all_as_expected found list_tests ≡ true
unfolding found before same rising lists.list_fits lists.ids_fit lists.continuation_fits lists.peers_fit lists.pairs_fit lists.used_places lists.row_fits
    lists.first_height lists.row_count lists.view_fits
list_test = refl

area_test : all_as_expected found area_tests ≡ true
unfolding found before same rising protocol.is_transaction settings.most_requests image.request_of image.settings_of image.mode_of image.stalled_of
    image.pending_of image.none_twice image.request_fits image.marks_fit image.counts_fit image.clocks_fit image.version_fits image.types_fit image.unused_zero image.well_formed
area_test = refl

whole_area_test : all_as_expected found whole_areas ≡ true
unfolding found before same rising protocol.is_transaction settings.most_requests image.header_bytes image.request_bytes image.padded image.encode
    image.request_of image.settings_of image.mode_of image.stalled_of image.pending_of image.none_twice image.request_fits image.marks_fit image.counts_fit
    image.clocks_fit image.version_fits image.types_fit image.unused_zero image.well_formed calls.step_refusal image.decode calls.call_refusal forecasts.forecast_refusal
    forecasts.forecast ages.mean_of ages.mean_age_refusal ages.mean_age
whole_area_test = refl

pub layout_cases : Hold found layouts
layout_cases = each found layouts layouts_test

pub list_cases : Hold found list_tests
list_cases = each found list_tests list_test

pub area_cases : Hold found area_tests
area_cases = each found area_tests area_test

pub whole_area_cases : Hold found whole_areas
whole_area_cases = each found whole_areas whole_area_test
