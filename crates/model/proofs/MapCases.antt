-- F-1's cases hold: a test computed over each table, and so an equation for each case.
use Prim.Native.Nat.{ℕ}
use mathlib.Core.Path.{◌≡◌, refl}
use mathlib.Core.Bool.{true}
use lib.Count.{count_trailing_zeros}
use Rattle.fields.specs.Order.{same}
use Rattle.fields.specs.Entries.{entry}
use Rattle.model.specs.Lists as lists
use Rattle.model.specs.WindowMap as window
use Rattle.model.specs.MapBytes as bytes
use Rattle.model.specs.MapRuns as runs
use Rattle.model.specs.CaseTables.{Hold, all_as_expected}
use Rattle.model.specs.MapCases.{found, arrivals, edges, slides, windows, slid_windows, fills, written, malformed}
use Rattle.model.proofs.CaseTables.{each}

-- Every definition that a case computes with, opened by one name.
rules : ℕ
unfolding found count_trailing_zeros same entry lists.section_of lists.header_of lists.used_places lists.row_fits lists.first_height lists.row_count
    lists.view_fits lists.view_of window.cell_of window.marks window.encode_map window.decode_map window.map_formed window.cell_at window.filled
    window.cell_here window.in_window window.changed window.new_heights window.new_behind window.slid window.map_fits window.fill_refusal window.map_fill
    window.change_refusal window.map_change window.slide_refusal window.map_slide window.map_passable bytes.trailing_ones bytes.run_over_words
    runs.map_called
rules = 0

arrival_test : all_as_expected found arrivals ≡ true
unfolding rules
arrival_test = refl

pub arrival_cases : Hold found arrivals
arrival_cases = each found arrivals arrival_test

edge_test : all_as_expected found edges ≡ true
unfolding rules
edge_test = refl

pub edge_cases : Hold found edges
edge_cases = each found edges edge_test

slide_test : all_as_expected found slides ≡ true
unfolding rules
slide_test = refl

pub slide_cases : Hold found slides
slide_cases = each found slides slide_test

window_test : all_as_expected found windows ≡ true
unfolding rules
window_test = refl

pub window_cases : Hold found windows
window_cases = each found windows window_test

fill_test : all_as_expected found fills ≡ true
unfolding rules
fill_test = refl

pub fill_cases : Hold found fills
fill_cases = each found fills fill_test

slid_window_test : all_as_expected found slid_windows ≡ true
unfolding rules
slid_window_test = refl

pub slid_window_cases : Hold found slid_windows
slid_window_cases = each found slid_windows slid_window_test

written_test : all_as_expected found written ≡ true
unfolding rules
written_test = refl

pub written_cases : Hold found written
written_cases = each found written written_test

malformed_test : all_as_expected found malformed ≡ true
unfolding rules
malformed_test = refl

pub malformed_cases : Hold found malformed
malformed_cases = each found malformed malformed_test
