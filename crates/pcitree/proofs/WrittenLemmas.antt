-- What `run`, `finish`, `devices` and `adverse` wrote is what `check` wants.
use Rattle.std.proofs.Common.{◌≡◌, ℕ, true, List, Option, Some, IfSome, subst}
use Rattle.command_runs.specs.run.Answers.{AnswersRun}
use Rattle.program_input.specs.Traces.{IsCompleteTrace}
use Rattle.command_runs.specs.finish.Answers.{AnswersFinish}
use Rattle.command_runs.specs.devices.Answers.{AnswersDevices}
use Rattle.command_safe.proofs.adverse.WrittenLemmas.{adverse_is_complete}
use Rattle.program_status.specs.declared.status.Status.{Status}
use Rattle.program_words.specs.declared.Form.{Form}
use Rattle.program_words.specs.declared.Form.TheVariants as forms
use Rattle.pcitree.specs.Words.{read_in, write_in}
use Rattle.pcitree.specs.Answers.{AnswersTo}
use Rattle.pcitree.specs.Given.{given, left}
use Rattle.pcitree.specs.Ends.{Finishes, writes_run, WritesRun}

-- what is written for a board, a trace or devices is the text of a complete run
Completes : Type 0
Completes =
    ((input text : List ℕ) → AnswersRun input text → IsCompleteTrace text)
    × ((input text : List ℕ) → AnswersFinish input text → IsCompleteTrace text)
    × ((input text : List ℕ) → AnswersDevices input text → IsCompleteTrace text)

by_form : Completes → (form : Form) (words : List (List ℕ)) (input text : List ℕ) (ending : Status) → writes_run form ≡ true → AnswersTo form words input text ending → IsCompleteTrace text
unfolding Completes
by_form laws forms.Run words input text ending is answers = laws.0 input text answers.0
by_form laws forms.RunSteady words input text ending is answers = laws.0 input text answers.0
by_form laws forms.Finish words input text ending is answers = laws.1 input text answers.0
by_form laws forms.Devices words input text ending is answers = laws.2 input text answers.0
by_form laws forms.Adverse words input text ending is answers = adverse_is_complete (read_in words) (write_in words) input text answers.0
by_form laws _ words input text ending is answers = absurd cc

pub run_is_written : ((input text : List ℕ) → AnswersRun input text → IsCompleteTrace text) → ((input text : List ℕ) → AnswersFinish input text → IsCompleteTrace text) → ((input text : List ℕ) → AnswersDevices input text → IsCompleteTrace text) → (form : Form) (found : Option Form) (words : List (List ℕ)) (held rest before after : Option (List ℕ)) (ending : Status) → found ≡ Some form → writes_run form ≡ true → IfSome found (λ form. Finishes form words (given form words held) (left form words rest) before after ending) → WritesRun before after
unfolding Completes
run_is_written runs finished devices form found words held rest before after ending is writes done =
    let ended : Finishes form words (given form words held) (left form words rest) before after ending = subst (λ f. IfSome f (λ form. Finishes form words (given form words held) (left form words rest) before after ending)) is done in
    record {
      text = ended.text;
      complete = by_form (runs, finished, devices) form words ended.answers.input ended.text ending writes ended.answers.answers;
      written = ended.written;
    }
