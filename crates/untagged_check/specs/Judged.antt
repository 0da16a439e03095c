-- What a list of events is on bridges that keep no local master, the first event first.
use Rattle.std.specs.Prelude.{◌≡◌, ◌↔◌, ℕ, true, Contains, List, [], ◌∷◌, map, Option, Some, None}
use Rattle.pci_command.specs.declared.op_id.OpId.{OpId}
use Rattle.board_model.specs.declared.board.Board.{Board}
use Rattle.history_model.specs.declared.event.Event.{Event}
use Rattle.history_model.specs.declared.why.Why.{Why}
use Rattle.history_model.specs.declared.rule.Rule.TheVariants.{Untagged}
use Rattle.history_model.specs.Runs.{RunBy, Run, history_of}
use Rattle.law_untagged.specs.Apart.{Apart}
use Rattle.law_untagged.specs.Origins.{UntaggedFresh}
use Rattle.law_untagged.specs.Stale.{StaleRead, Breaks, breaks, stale_of, reads_listed}
use Rattle.law_untagged.specs.Sound.{SoundRun}
use Rattle.judge_state.specs.Refused.{FirstRefusedBy}
use Rattle.untagged_check.specs.declared.verdict.Stale.{Stale}
use Rattle.untagged_check.specs.declared.verdict.Untagged.{Untagged as Judgement}
use Rattle.untagged_check.specs.declared.verdict.Untagged.TheVariants.{NotRun, Run as IsRun}

-- a read that breaks freshness, as it is listed
abbrev pub read_of : Stale → StaleRead
read_of stale = record { read = stale.read; write = stale.write; event = stale.event }

-- all that are listed
abbrev pub reads_of : List Stale → List StaleRead
reads_of stale = map read_of stale

-- a run, and the reads that break freshness, in the order in which their masters ended them: each with the first write for
-- which it does, and the number of the event that read
pub record UntaggedVerdict (board : Board) (events : List Event) (stale : List Stale) : Type 0 where
  pub run : RunBy Untagged board (history_of events)
  pub stale_are : reads_of stale ≡ stale_of board (history_of events)
  -- none is listed exactly of a fresh run
  pub fresh : UntaggedFresh board (history_of events) ↔ (stale ≡ [])
  -- a read breaks freshness for a write where it was told of it, and got a word of it from a reading before it had landed
  pub each : (w r : OpId) → (breaks board (history_of events) w r ≡ true) ↔ Breaks board (history_of events) w r
  -- the reads of the list are exactly those that do so for some write
  pub listed : (r : OpId) → Contains (reads_listed board (history_of events)) r ↔ ((w : OpId) × Breaks board (history_of events) w r)
  -- where masters are apart it is a run on bridges that keep the local master too, all that holds of those holds of it,
  -- and no read is listed
  pub apart : Apart board → SoundRun board (history_of events) × (stale ≡ [])

-- no run: this event is the first that is not allowed; where masters are apart it is none on bridges that keep the local
-- master either
pub record UntaggedRefused (board : Board) (events : List Event) (number : ℕ) (why : Why) : Type 0 where
  pub refused : FirstRefusedBy Untagged board events number why
  pub apart : Apart board → ¬ Run board (history_of events)

-- the verdict that is right
abbrev pub JudgesUntagged : Board → List Event → Judgement → Type 0
JudgesUntagged board events (NotRun number why) = UntaggedRefused board events number why
JudgesUntagged board events (IsRun stale) = UntaggedVerdict board events stale

-- one, or none
abbrev pub listed : Option Stale → List StaleRead
listed None = []
listed (Some stale) = read_of stale ∷ []
