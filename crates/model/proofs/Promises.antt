-- The promises, proved: what specs/Promises says of any finished call, of any refused one, of any run. `Kept` has it all.

-- what all start from: a finished call as it is seen, words and lists, modes
pub mod SeenLaws
pub mod ListLaws
pub mod WordLaws
pub mod SearchLaws
pub mod ModeLaws
-- passes over the plans: what a step comes to, what it looks at, what it asks for
pub mod CourseLaws
pub mod LookLaws
pub mod ViewLaws
pub mod PartLaws
pub mod AskedLaws
pub mod SparedLaws
-- outcomes, marks, sync infos, heights
pub mod OutcomesKept
pub mod PassedOverKept
pub mod MarksKept
pub mod SyncInfosKept
pub mod HeightsKept
-- who is asked for what, and how it is cut
pub mod ItemLaws
pub mod ByTypeLaws
pub mod AsksKept
pub mod SectionsAsked
pub mod OrphansAsked
pub mod VerdictLaws
pub mod TurnsLaws
pub mod CheckAsked
pub mod BatchesKept
-- what is pending, and what is told
pub mod AskingLaws
pub mod CheckedLaws
pub mod LeftLaws
pub mod PendingKept
pub mod ToldKept
-- refusals
pub mod TellsLaws
pub mod WrongCallLaws
pub mod WrongListLaws
pub mod WrongViewLaws
pub mod ReadLaws
pub mod RefusalsKept
-- runs
pub mod CountLaws
pub mod RunsKept
-- the map of the window
pub mod MapFormed
pub mod MapAreas
pub mod MapRows
pub mod MapFilled
pub mod MapChanged
pub mod MapSlid
pub mod MapsKept
pub mod MapOnce
-- all of it
pub mod Kept
