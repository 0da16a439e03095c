-- How the events of a picture end: they are a run, complete or not, or else the last of them is not allowed.
use Rattle.std.specs.Prelude.{ℕ, ◌-◌, List, length, take}
use Rattle.history_model.specs.declared.event.Event.{Event}
use Rattle.draw_told.specs.declared.close.Close.{Close}
use Rattle.draw_told.specs.declared.close.Close.TheVariants.{Ended, NotEnded, Refused}

-- the events that are allowed
abbrev pub allowed_in : Close → List Event → List Event
allowed_in Ended events = events
allowed_in NotEnded events = events
allowed_in (Refused why sentence) events = take (length events - 1) events
