-- A refusal of a log speaks of memory or of the input, and what is written of its acts ends well.
use Rattle.std.proofs.Common.{◌≡◌, ℕ, List, ◌⊎◌, inr, refl}
use Rattle.board_model.specs.declared.board.Board.{Board}
use Rattle.history_model.specs.declared.event.Event.{Event}
use Rattle.program_status.specs.declared.status.Status.{Status}
use Rattle.program_status.specs.declared.status.Status.TheVariants.{Done, NotTold, TooMuch, ToldTo}
use Rattle.program_status.specs.Subjects.{subject_of, IsSuccess}
use Rattle.program_status.specs.Subjects.Subject.{Memory, Input}
use Rattle.program_input.specs.Refusals.{IsRefusing}
use Rattle.program_input.proofs.RefusalLemmas.{refusal_subject}
use Rattle.command_observe.specs.Logs.{log_refusal}
use Rattle.command_observe.specs.Answers.{RefusesObserve, AnswersActs, EndsActs, IsToldSurely}

observe_subject : (input : List ℕ) (status : Status) → RefusesObserve input status → (subject_of status ≡ Memory) ⊎ (subject_of status ≡ Input)
observe_subject input (NotTold line refusal) refuses = inr refl
observe_subject input (TooMuch line excess) refuses = inr refl
observe_subject input status refuses = refusal_subject (log_refusal input) status refuses

pub observe_refusing : IsRefusing RefusesObserve IsToldSurely
observe_refusing = record { served = λ input status surely. absurd surely; subject = observe_subject }

ends_well : (board : Board) (events : List Event) (ending : Status) → EndsActs board events ending → IsSuccess ending
ends_well board events Done ends = refl
ends_well board events (ToldTo line why) ends = refl
ends_well board events _ ends = absurd ends

pub acts_succeed : (input text : List ℕ) (ending : Status) → AnswersActs input text ending → IsSuccess ending
acts_succeed input text ending answers = ends_well answers.writes.board answers.writes.events ending answers.writes.ends
