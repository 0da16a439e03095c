-- What a status says where a call stopped with it: that nothing was written, and its cause in the input.
use Rattle.std.proofs.Common.{◌≡◌, ◌≢◌, ◌↔◌, ◌⊎◌, ℕ, ◌<◌, ◌≤◌, List, ◌++◌, append-nil, length, Option, Some, None, IfSome, IsSome, inl, inr, refl, sym, subst, ap, ◌∙◌, arith}
use Rattle.std.specs.Io.KnownBytes.{Consumes, IsAtEnd}
use Rattle.io_ports.specs.Faults.{Rose}
use Rattle.program_status.specs.declared.status.Status.{Status}
use Rattle.program_status.specs.declared.status.Status.TheVariants.{ReadFault, WriteFault}
use Rattle.program_status.specs.Subjects.{Subject, subject_of, IsSuccess, IsUsage, IsRefusal, IsBeforeWriting, Serves}
use Rattle.program_status.specs.Subjects.Subject.{Success, Memory, Words, Reading, Writing, Length, Input}
use Rattle.program_input.specs.Refusals.{IsRefusing}
use Rattle.program_input.proofs.RefusalLemmas.{board_refusing, refused_by_memory}
use Rattle.command_traces.proofs.check.ServedLemmas.{check_refusing}
use Rattle.command_runs.proofs.finish.ServedLemmas.{finish_refusing}
use Rattle.command_traces.proofs.run.RunLemmas.{run_refusing}
use Rattle.command_runs.proofs.generate.ServedLemmas.{generate_refusing}
use Rattle.program_input.proofs.ProtocolLemmas.{protocol_refusing, devices_refusing}
use Rattle.command_traces.proofs.draw.ServedLemmas.{draw_refusing, draw_succeeds}
use Rattle.command_traces.specs.draw.Rows.{rows_asked}
use Rattle.command_traces.specs.draw.Operations.{operation_asked}
use Rattle.command_traces.proofs.fill.ServedLemmas.{fill_refusing}
use Rattle.command_traces.proofs.untagged.ServedLemmas.{untagged_refusing}
use Rattle.command_boards.specs.import.Answers.{machine_refusal, GivesUp}
use Rattle.command_boards.proofs.import.ServedLemmas.{import_refusing}
use Rattle.command_safe.proofs.safe.EndingLemmas.{safe_succeeds}
use Rattle.command_safe.proofs.adverse.ServedLemmas.{adverse_refusing}
use Rattle.command_observe.proofs.ServedLemmas.{observe_refusing, acts_succeed}
use Rattle.program_words.specs.declared.Form.{Form}
use Rattle.program_words.specs.declared.Form.TheVariants as forms
use Rattle.pcitree.specs.Words.{command_of, rows_in, operation_in, read_in, write_in}
use Rattle.pcitree.specs.Answers.{limit_of, AnswersTo, Refuses, IsServed, IsServedMachine, IsAnswered, CausesBy, Causes}
use Rattle.pcitree.specs.Given.{given, left}
use Rattle.pcitree.specs.Ends.{HoldsTooMuch, ReadsInput, AnswersInput, RefusesInput, Finishes, StopsInText}
use Rattle.pcitree.specs.Stops.{StopsBy, StopsAnswering, StopsRunning}

-- what was read to the end of a source is all that it held
all_of : (held left : Option (List ℕ)) (input taken : List ℕ) → held ≡ Some input → Consumes held left taken → IsAtEnd left → input ≡ taken
all_of None left input taken is read end = cc
all_of (Some bytes) None input taken is read end = absurd read
all_of (Some bytes) (Some rest) input taken is read end =
    let same : bytes ≡ input = cc in
    let last : taken ++ rest ≡ taken = ap (λ (l : List ℕ). taken ++ l) end ∙ append-nil taken in
    sym same ∙ read ∙ last

-- an answer ends well
pub succeeds : (form : Form) (words : List (List ℕ)) (input text : List ℕ) (ending : Status) → AnswersTo form words input text ending → IsSuccess ending
succeeds forms.Safe words input text ending answers = safe_succeeds input text ending answers
succeeds forms.Draw words input text ending answers = draw_succeeds (rows_asked (rows_in words)) input text ending answers
succeeds forms.DrawRows words input text ending answers = draw_succeeds (rows_asked (rows_in words)) input text ending answers
succeeds forms.DrawOperation words input text ending answers = draw_succeeds (operation_asked (operation_in words)) input text ending answers
succeeds forms.ObserveActs words input text ending answers = acts_succeed input text ending answers
succeeds form words input text ending answers = ap subject_of answers.1

pub succeeded : (known : Option Form) (words : List (List ℕ)) (held rest before after : Option (List ℕ)) (ending : Status) → IsSome known
    → IfSome known (λ f. Finishes f words (given f words held) (left f words rest) before after ending) → IsSuccess ending
succeeded None words held rest before after ending there done = cc
succeeded (Some form) words held rest before after ending there done = succeeds form words done.answers.input done.text ending done.answers.answers

-- an input that was answered
pub answered : (form : Form) (words : List (List ℕ)) (held left : Option (List ℕ)) (input text : List ℕ) (ending : Status) → held ≡ Some input → AnswersInput form words held left text ending → IsAnswered form words input ending
answered form words held left input text ending is answers =
    let same = all_of held left input answers.input is answers.reads.read answers.reads.at_end in
    record {
      within = subst (λ (l : List ℕ). length l ≤ limit_of form) (sym same) answers.reads.within;
      text = text;
      answers = subst (λ (l : List ℕ). AnswersTo form words l text ending) (sym same) answers.answers;
    }

-- an input whose answer the sink took
pub finished : (known : Option Form) (form : Form) (words : List (List ℕ)) (held rest before after : Option (List ℕ)) (input : List ℕ) (ending : Status) → known ≡ Some form → given form words held ≡ Some input
    → IfSome known (λ f. Finishes f words (given f words held) (left f words rest) before after ending) → Causes form words input ending
finished None form words held rest before after input ending there is done = cc
finished (Some other) form words held rest before after input ending there is done =
    let same : other ≡ form = cc in
    let told : given other words held ≡ Some input = subst (λ (f : Form). given f words held ≡ Some input) (sym same) is in
    let well = succeeds other words done.answers.input done.text ending done.answers.answers in
    subst (λ (f : Form). Causes f words input ending) same
    (subst (λ v. CausesBy v other words input ending) (sym well) (answered other words (given other words held) (left other words rest) input done.text ending told done.answers))

-- an input that was refused
refused : (form : Form) (words : List (List ℕ)) (held left : Option (List ℕ)) (input : List ℕ) (status : Status) → held ≡ Some input → RefusesInput form words held left status → (length input ≤ limit_of form) × Refuses form words input status
refused form words held left input status is refuses =
    let same = all_of held left input refuses.input is refuses.reads.read refuses.reads.at_end in
    (subst (λ (l : List ℕ). length l ≤ limit_of form) (sym same) refuses.reads.within, subst (λ (l : List ℕ). Refuses form words l status) (sym same) refuses.refuses)

too_much : (form : Form) (held : Option (List ℕ)) (input : List ℕ) → held ≡ Some input → HoldsTooMuch form held → limit_of form < length input
too_much form None input is holds = cc
too_much form (Some bytes) input is holds = let same : bytes ≡ input = cc in subst (λ (l : List ℕ). limit_of form < length l) same holds

-- what each form owes of its refusals
refusing : (form : Form) (words : List (List ℕ)) → IsRefusing (command_of form words).Refuses (command_of form words).IsFaultless
refusing forms.Safe words = protocol_refusing
refusing forms.Adverse words = adverse_refusing (read_in words) (write_in words)
refusing forms.Run words = board_refusing
refusing forms.RunSteady words = board_refusing
refusing forms.Headers words = board_refusing
refusing forms.Check words = check_refusing
refusing forms.Finish words = finish_refusing
refusing forms.Fill words = fill_refusing
refusing forms.Observe words = observe_refusing
refusing forms.ObserveActs words = observe_refusing
refusing forms.Audit words = run_refusing
refusing forms.Report words = run_refusing
refusing forms.Waves words = run_refusing
refusing forms.Draw words = draw_refusing (rows_asked (rows_in words))
refusing forms.DrawRows words = draw_refusing (rows_asked (rows_in words))
refusing forms.DrawOperation words = draw_refusing (operation_asked (operation_in words))
refusing forms.Untagged words = untagged_refusing
refusing forms.Combine words = board_refusing
refusing forms.Generate words = generate_refusing
refusing forms.Devices words = devices_refusing
refusing forms.Import words = import_refusing
refusing forms.Tree words = protocol_refusing

-- an input that was read, and is refused
pub refused_answer : (form : Form) (words : List (List ℕ)) (held left : Option (List ℕ)) (before now : ℕ) (input : List ℕ) (status : Status) → ReadsInput form held left input → Refuses form words input status → StopsAnswering form words held left before now status
refused_answer form words held left before now input status reads refuses =
    let P : Subject → Type 0 = λ subject. StopsBy subject form words held left before now status in
    elim ((refusing form words).subject input status refuses) [
      | inl memory ↦ subst P (sym memory) tt
      | inr of_input ↦ subst P (sym of_input) (record { input = input; reads = reads; refuses = refuses })
    ]

-- an input that is served is answered, but for want of memory and the faults of ports
served_as : (subject : Subject) (form : Form) (words : List (List ℕ)) (input : List ℕ) (status : Status) → subject_of status ≡ subject → IsServed form words input → CausesBy subject form words input status → (subject ≢ Words) × (subject ≢ Length) × (subject ≢ Input)
served_as Success form words input status is served cause = (λ e. cc, λ e. cc, λ e. cc)
served_as Memory form words input status is served cause = (λ e. cc, λ e. cc, λ e. cc)
served_as Words form words input status is served cause = absurd cause
served_as Reading form words input status is served cause = (λ e. cc, λ e. cc, λ e. cc)
served_as Writing form words input status is served cause = (λ e. cc, λ e. cc, λ e. cc)
served_as Length form words input status is served cause = absurd (omega (arith, served.0, cause))
served_as Input form words input status is served cause =
    let memory : subject_of status ≡ Memory = ap subject_of ((refusing form words).served input status served.1 cause.1) in
    absurd cc

pub served_by : (form : Form) (words : List (List ℕ)) (input : List ℕ) (status : Status) → IsServed form words input → Causes form words input status → Serves status
served_by form words input status served cause = served_as (subject_of status) form words input status refl served cause

import_served_as : (subject : Subject) (words : List (List ℕ)) (input : List ℕ) (status : Status) → subject_of status ≡ subject → IsServedMachine input → CausesBy subject forms.Import words input status
    → ((subject ≢ Words) × (subject ≢ Length) × (subject ≢ Input)) ⊎ GivesUp input status
import_served_as Success words input status is served cause = inl (λ e. cc, λ e. cc, λ e. cc)
import_served_as Memory words input status is served cause = inl (λ e. cc, λ e. cc, λ e. cc)
import_served_as Words words input status is served cause = absurd cause
import_served_as Reading words input status is served cause = inl (λ e. cc, λ e. cc, λ e. cc)
import_served_as Writing words input status is served cause = inl (λ e. cc, λ e. cc, λ e. cc)
import_served_as Length words input status is served cause = absurd (omega (arith, served.within, cause))
import_served_as Input words input status is served cause =
    elim cause.1 [
      | inl refuses ↦ (let memory : subject_of status ≡ Memory = ap subject_of (refused_by_memory (machine_refusal input) status served.faultless refuses) in absurd cc)
      | inr given_up ↦ inr given_up
    ]

-- what `lspci` wrote is answered, or given up
pub import_served_by : (words : List (List ℕ)) (input : List ℕ) (status : Status) → IsServedMachine input → Causes forms.Import words input status → Serves status ⊎ GivesUp input status
import_served_by words input status served cause = import_served_as (subject_of status) words input status refl served cause

-- an answer that ends well does not find the words nor the input wrong, and is none of a part that stopped
pub success_serves : (status : Status) → IsSuccess status → Serves status
success_serves status well = (λ e. cc, λ e. cc, λ e. cc)

pub success_usage : (known : Option Form) (status : Status) → IsSome known → IsSuccess status → IsUsage status ↔ (known ≡ None)
success_usage None status there well = cc
success_usage (Some form) status there well = (λ usage. cc, λ none. cc)

pub success_only : (P : Type 0) (status : Status) (subject : Subject) → IsSuccess status → subject ≢ Success → subject_of status ≡ subject → P
success_only P status subject well other is = absurd (other (sym is ∙ well))

-- the cause of an answer, where an input was not read or not answered
caused_as : (subject : Subject) (form : Form) (words : List (List ℕ)) (held left : Option (List ℕ)) (before now : ℕ) (status : Status) (input : List ℕ) → held ≡ Some input → StopsBy subject form words held left before now status → CausesBy subject form words input status
caused_as Success form words held left before now status input is stops = absurd stops
caused_as Memory form words held left before now status input is stops = tt
caused_as Words form words held left before now status input is stops = stops
caused_as Reading form words held left before now status input is stops = tt
caused_as Writing form words held left before now status input is stops = absurd stops
caused_as Length form words held left before now status input is stops = too_much form held input is stops
caused_as Input form words held left before now status input is stops = refused form words held left input status is stops

module _ (S K : Type 0) (held : S → Option (List ℕ)) (read_faults : S → ℕ) (taken : K → Option (List ℕ)) (write_faults : K → ℕ) where
  -- a call with words of this form, or of none, stopped with this status
  abbrev Stopped : Option Form → List (List ℕ) → S → S → K → K → Status → Type 0
  Stopped known words s t k l status = StopsRunning S K held read_faults taken write_faults known words s t k l status

  -- what holds of the part that stopped, by what the status speaks of
  stopped_as : (form : Form) (subject : Subject) (words : List (List ℕ)) (s t : S) (k l : K) (status : Status) → subject_of status ≡ subject → subject ≢ Writing → Stopped (Some form) words s t k l status → StopsBy subject form words (given form words (held s)) (left form words (held t)) (read_faults s) (read_faults t) status
  stopped_as form subject words s t k l status is other stops =
      elim stops [
        | inl early ↦ subst (λ v. StopsBy v form words (given form words (held s)) (left form words (held t)) (read_faults s) (read_faults t) status) is early.0
        | inr late ↦ absurd (other (sym is ∙ late.subject))
      ]

  pub unwritten : (known : Option Form) (words : List (List ℕ)) (s t : S) (k l : K) (status : Status) → Stopped known words s t k l status → IsBeforeWriting status → l ≡ k
  unwritten None words s t k l status stops before = stops.2
  unwritten (Some form) words s t k l status stops before = elim stops [ inl early ↦ early.1 | inr late ↦ absurd (before.1 late.subject) ]

  pub not_done : (known : Option Form) (words : List (List ℕ)) (s t : S) (k l : K) (status : Status) → Stopped known words s t k l status → IsSuccess status → ⊥
  not_done None words s t k l status stops well = let words = stops.0 in cc
  not_done (Some form) words s t k l status stops well = stopped_as form Success words s t k l status well (λ e. cc) stops

  no_usage : (form : Form) (words : List (List ℕ)) (s t : S) (k l : K) (status : Status) → Stopped (Some form) words s t k l status → IsUsage status → ⊥
  no_usage form words s t k l status stops usage = stopped_as form Words words s t k l status usage (λ e. cc) stops

  pub usage_exactly : (known : Option Form) (words : List (List ℕ)) (s t : S) (k l : K) (status : Status) → Stopped known words s t k l status → IsUsage status ↔ (known ≡ None)
  usage_exactly None words s t k l status stops = (λ _. refl, λ _. stops.0)
  usage_exactly (Some form) words s t k l status stops = (λ usage. absurd (no_usage form words s t k l status stops usage), λ none. cc)

  pub usage_unread : (known : Option Form) (words : List (List ℕ)) (s t : S) (k l : K) (status : Status) → Stopped known words s t k l status → IsUsage status → t ≡ s
  usage_unread None words s t k l status stops usage = stops.1
  usage_unread (Some form) words s t k l status stops usage = absurd (no_usage form words s t k l status stops usage)

  pub read_failed : (known : Option Form) (words : List (List ℕ)) (s t : S) (k l : K) (status : Status) → Stopped known words s t k l status → status ≡ ReadFault → Rose (read_faults s) (read_faults t)
  read_failed None words s t k l status stops is = let words = stops.0 in let reading : subject_of status ≡ Reading = ap subject_of is in absurd cc
  read_failed (Some form) words s t k l status stops is = stopped_as form Reading words s t k l status (ap subject_of is) (λ e. cc) stops

  pub write_failed : (known : Option Form) (words : List (List ℕ)) (s t : S) (k l : K) (status : Status) → Stopped known words s t k l status → status ≡ WriteFault
      → Rose (write_faults k) (write_faults l) × IfSome known (λ form. StopsInText form words (given form words (held s)) (left form words (held t)) (taken k) (taken l))
  write_failed None words s t k l status stops is = let words = stops.0 in let writing : subject_of status ≡ Writing = ap subject_of is in absurd cc
  write_failed (Some form) words s t k l status stops is =
      elim stops [
        | inl early ↦ absurd (subst (λ v. StopsBy v form words (given form words (held s)) (left form words (held t)) (read_faults s) (read_faults t) status) (ap subject_of is) early.0)
        | inr late ↦ (late.rose, late.text)
      ]

  caused : (form : Form) (words : List (List ℕ)) (s t : S) (k l : K) (status : Status) (input : List ℕ) → given form words (held s) ≡ Some input → Stopped (Some form) words s t k l status → Causes form words input status
  caused form words s t k l status input is stops =
      elim stops [
        | inl early ↦ caused_as (subject_of status) form words (given form words (held s)) (left form words (held t)) (read_faults s) (read_faults t) status input is early.0
        | inr late ↦ subst (λ v. CausesBy v form words input status) (sym late.subject) (late.text.ending, answered form words (given form words (held s)) (left form words (held t)) input late.text.text late.text.ending is late.text.answers)
      ]

  pub caused_by : (known : Option Form) (form : Form) (words : List (List ℕ)) (s t : S) (k l : K) (status : Status) (input : List ℕ) → known ≡ Some form → given form words (held s) ≡ Some input → Stopped known words s t k l status → Causes form words input status
  caused_by None form words s t k l status input there is stops = cc
  caused_by (Some other) form words s t k l status input there is stops =
      let same : other ≡ form = cc in
      let told : given other words (held s) ≡ Some input = subst (λ (f : Form). given f words (held s) ≡ Some input) (sym same) is in
      subst (λ (f : Form). Causes f words input status) same (caused other words s t k l status input told stops)

  pub refused_in : (known : Option Form) (words : List (List ℕ)) (s t : S) (k l : K) (status : Status) → Stopped known words s t k l status → IsRefusal status → IfSome known (λ form. RefusesInput form words (given form words (held s)) (left form words (held t)) status)
  refused_in None words s t k l status stops refusal = let words = stops.0 in absurd cc
  refused_in (Some form) words s t k l status stops refusal = stopped_as form Input words s t k l status refusal (λ e. cc) stops
