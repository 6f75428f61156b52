-- What an answer stands for in the model.
use Rattle.model.specs.Sections as model
use Rattle.heights.specs.declared.downloaded.Advance.{Advance}

unfoldable pub advance_of : Advance → model.Advance
advance_of a = record { height = a.height; in_view = a.seen }
