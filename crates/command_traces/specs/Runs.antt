-- A trace text that is read as a run, complete or not, or refused.
use Rattle.std.specs.Prelude.{ℕ, List}
use Rattle.board_model.specs.Valid.{IsValid}
use Rattle.history_model.specs.Runs.{Run, history_of}
use Rattle.judge_state.specs.Refused.{FirstRefused}
use Rattle.program_status.specs.declared.status.Status.{Status}
use Rattle.program_status.specs.declared.status.Status.TheVariants.{NotRun}
use Rattle.program_input.specs.Traces.{ReadsTrace, RefusesTrace, IsRefused}
use Rattle.program_input.specs.declared.trace.TreeTrace.{TreeTrace}

-- what was read of the text of a run, complete or not
pub record ReadsRun (input : List ℕ) (read : TreeTrace) : Type 0 where
  pub reads : ReadsTrace input read.tree read.events
  pub valid : IsValid read.tree
  pub run : Run read.tree (history_of read.events)

-- it is no text of a run: refused as no run, or as no trace text
abbrev pub RefusesRun : List ℕ → Status → Type 0
RefusesRun input (NotRun event why) = IsRefused FirstRefused input event why
RefusesRun input status = RefusesTrace input status
