-- What is found out of a run that a log tells, and of a text that was written.
use Rattle.std.specs.Prelude.{◌<◌, ◌^◌, ℕ, List, length, string_bytes}
use Rattle.law_early.specs.Early.{acts_of}
use Rattle.observe_log.specs.Told.{Tells}
use Rattle.observe_told.specs.Woven.{events_of}
use Rattle.observe_order.specs.Going.{EndsLanded}
use Rattle.observe_order.specs.Judging.{JudgesActs}
use Rattle.program_input.specs.declared.trace.TreeTrace.{TreeTrace}
use Rattle.observe_told.specs.declared.seen.Log.{Log}
use Rattle.program_status.specs.declared.status.Status.{Status}
use Rattle.program_status.specs.declared.status.Status.TheVariants as statuses
use Rattle.observe_order.specs.declared.judging.ActsVerdict.{ActsVerdict}
use Rattle.observe_order.specs.declared.judging.ActsVerdict.TheVariants.{IsRun, Refused}
use Rattle.command_observe.specs.declared.drafting.Untold.{Untold}
use Rattle.command_observe.specs.declared.drafting.Untold.TheVariants as untolds
use Rattle.command_observe.specs.declared.telling.RunOfLog.{RunOfLog}
use Rattle.command_observe.specs.Answers.{TellsActs}
use Rattle.trace_roundtrip.specs.Comments.{AreComments}

-- a run, at whose end nothing is in flight, that a log tells of; and what is said of it are comments
pub record IsRunOf (log : Log) (found : RunOfLog) : Type 0 where
  pub still : EndsLanded found.tree found.run
  pub few : length (events_of found.run) < 2 ^ 32
  pub told : Tells log found.tree (acts_of (events_of found.run))
  pub comments : AreComments (string_bytes found.said)

-- what was read are acts that a log tells of, and the verdict says whether some run has them
pub record IsJudged (log : Log) (read : TreeTrace) (verdict : ActsVerdict) : Type 0 where
  pub told : Tells log read.tree (acts_of read.events)
  pub judged : JudgesActs read.tree read.events verdict

-- the ending that tells a verdict, of an act of this line
abbrev pub ending_of : ℕ → ActsVerdict → Status
ending_of line IsRun = statuses.Done
ending_of line (Refused event why) = statuses.ToldTo line why

-- a text tells the acts of a log, with the ending that tells the verdict, whatever the line is
abbrev pub HoldsActs : Log → List ℕ → ActsVerdict → Type 0
HoldsActs log text verdict = (line : ℕ) → TellsActs log text (ending_of line verdict)

-- how it is told that no text was written
abbrev pub untold_status : Untold → Status
untold_status (untolds.NotTold line refusal) = statuses.NotTold line refusal
untold_status (untolds.TooMuch line excess) = statuses.TooMuch line excess
untold_status untolds.NoMemory = statuses.NoMemory

-- a status by which that is told
abbrev pub IsUntold : Status → Type 0
IsUntold (statuses.NotTold line refusal) = Unit {0}
IsUntold (statuses.TooMuch line excess) = Unit {0}
IsUntold statuses.NoMemory = Unit {0}
IsUntold status = ⊥
