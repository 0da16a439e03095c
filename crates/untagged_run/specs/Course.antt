-- What is kept of a run on bridges that keep no local master, and of what its reads got.
use Rattle.std.specs.Prelude.{◌≡◌, ℕ, ◌<◌, List, [], ◌∷◌, ◌++◌, length, Option, Some, None, slice_get, get_or, take, if◌then◌else◌}
use Rattle.board_model.specs.declared.board.Board.{Board}
use Rattle.history_model.specs.declared.event.Event.{Event}
use Rattle.history_model.specs.declared.rule.Rule.TheVariants.{Untagged}
use Rattle.history_model.specs.Runs.{RunBy, history_of}
use Rattle.judge_state.specs.State.{KeptState}
use Rattle.judge_state.specs.Stands.{StandsForBy}
use Rattle.judge_state.specs.Refused.{FirstRefusedBy}
use Rattle.law_untagged.specs.Origins.{ending_reading}
use Rattle.untagged_run.specs.declared.got.Got.{Got}
use Rattle.untagged_run.specs.declared.got.Followed.{Followed}
use Rattle.untagged_run.specs.declared.got.Followed.TheVariants.{NotRun, Run}
use Rattle.untagged_run.specs.declared.origins.Key.{Key}
use Rattle.untagged_run.specs.declared.made.EventMade.{EventMade}
use Rattle.untagged_run.specs.Flat.{flat}
use Rattle.untagged_run.specs.Table.{Table, SameGot, KeepsOrigins, origin_at, same_key}

-- what is kept of such a run
pub record CourseState : Type 0 where
  pub kept : KeptState
  pub origins : Table
  pub gots : List (Option Got)

-- it stands for a run of these events, the latest first
pub record IsCourse (board : Board) (h : List Event) (c : CourseState) : Type 0 where
  pub stands : StandsForBy Untagged board h c.kept
  pub origins : KeepsOrigins board h c.origins
  pub many : length c.gots ≡ length h

-- for some run
abbrev pub Courses : Board → CourseState → Type 0
Courses board c = (h : List Event) × IsCourse board h c

-- the origin of the slot is noted down, where there is one, and that of no other changes
abbrev pub NotedAt : Option Key → Option Got → Table → Table → Type 0
NotedAt None source old new = new ≡ old
NotedAt (Some slot) source old new = (q : Key) → origin_at new q ≡ (if same_key slot q then source else origin_at old q)

-- the same of what an event made
abbrev pub Noted : EventMade → Table → Table → Type 0
Noted made old new = NotedAt made.slot made.source old new

-- after one more event it stands for that one too, and one more is got
pub record GoesOn (board : Board) (h : List Event) (e : Event) (old new : CourseState) : Type 0 where
  pub course : IsCourse board (e ∷ h) new
  pub got : Option Got
  pub gots : new.gots ≡ old.gots ++ got ∷ []
  pub same : SameGot got (ending_reading board h e)

-- what the read got that each event ended at its master, if it ended one
pub record AreGots (board : Board) (events : List Event) (gots : List (Option Got)) : Type 0 where
  pub many : length gots ≡ length events
  pub each : (i : ℕ) (d : Event) → i < length events → SameGot (flat (slice_get gots i)) (ending_reading board (history_of (take i events)) (get_or events i d))

-- a run, and what its reads got, or the first event that is not allowed
abbrev pub Follows : Board → List Event → Followed → Type 0
Follows board events (NotRun number why) = FirstRefusedBy Untagged board events number why
Follows board events (Run gots) = RunBy Untagged board (history_of events) × AreGots board events gots.items
