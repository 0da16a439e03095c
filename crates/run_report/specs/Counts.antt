-- What a report counts: the events of each kind on each bus.
use Rattle.std.specs.Prelude.{ℕ, Bool, List, [], ◌∷◌, count_by, ◌&&◌, ◌==◌}
use Rattle.board_model.specs.declared.board.Board.{Board}
use Rattle.history_model.specs.declared.event.Step.{Step}
use Rattle.history_model.specs.declared.event.Step.TheVariants as steps
use Rattle.history_model.specs.declared.event.Event.{Event}
use Rattle.history_model.specs.declared.event.Event.TheVariants.{Act, Arrive as Arrives}
use Rattle.history_model.specs.Local.{bus_of}
use Rattle.run_report.specs.declared.tallies.CountedKind.{CountedKind}
use Rattle.run_report.specs.declared.tallies.CountedKind.TheVariants.{Land, Read, Accept, Latch, Take, Stall, MasterAbort, TargetAbort, Arrive}

-- a part of a burst counts as a land
abbrev pub kind_of_step : Step → CountedKind
kind_of_step steps.Land = Land
kind_of_step (steps.Part phases) = Land
kind_of_step (steps.Read value) = Read
kind_of_step steps.Accept = Accept
kind_of_step steps.Latch = Latch
kind_of_step (steps.Take outcome) = Take
kind_of_step steps.Stall = Stall
kind_of_step steps.MasterAbort = MasterAbort
kind_of_step steps.TargetAbort = TargetAbort

-- an arrival counts on its own, with a mark or without
abbrev pub kind_of : Event → CountedKind
kind_of (Act on by o step place) = kind_of_step step
kind_of (Arrives lane mark) = Arrive

-- the place of the count in its line
abbrev pub column : CountedKind → ℕ
column Land = 0
column Read = 1
column Accept = 2
column Latch = 3
column Take = 4
column Stall = 5
column MasterAbort = 6
column TargetAbort = 7
column Arrive = 8

-- all kinds, in the order of a line
abbrev pub kinds : List CountedKind
kinds = Land ∷ Read ∷ Accept ∷ Latch ∷ Take ∷ Stall ∷ MasterAbort ∷ TargetAbort ∷ Arrive ∷ []

-- the event is of the kind and on the bus; an arrival is on the bus where its lane ends
abbrev pub is_counted : Board → ℕ → CountedKind → Event → Bool
is_counted board bus kind e = bus_of board e == bus && column (kind_of e) == column kind

-- how many events of the kind happened on the bus
abbrev pub count_of : Board → List Event → ℕ → CountedKind → ℕ
count_of board h bus kind = count_by (is_counted board bus kind) h
