use Rattle.std.proofs.Common.{ℕ, List, IfOk, sym, subst}
use Rattle.command_runs.specs.run.Answers.{AnswersRun}
use Rattle.command_runs.specs.finish.Answers.{AnswersFinish}
use Rattle.command_runs.specs.generate.Answers.{AnswersGenerate}
use Rattle.command_runs.specs.devices.Answers.{AnswersDevices}
use Rattle.command_traces.specs.check.Answers.{AnswersCheck}
use Rattle.command_traces.specs.fill.Answers.{AnswersFill}
use Rattle.command_traces.specs.audit.Answers.{AnswersAudit}
use Rattle.command_traces.specs.report.Answers.{AnswersReport}
use Rattle.command_traces.specs.waves.Answers.{AnswersWaves}
use Rattle.command_traces.specs.draw.Rows.{rows_asked}
use Rattle.command_traces.specs.draw.Operations.{operation_asked}
use Rattle.command_traces.specs.draw.Answers.{AnswersDraw}
use Rattle.command_traces.specs.untagged.Answers.{AnswersUntagged}
use Rattle.command_observe.specs.Answers.{AnswersObserve}
use Rattle.command_boards.specs.headers.Answers.{AnswersHeaders}
use Rattle.command_boards.specs.combine.Answers.{AnswersCombine}
use Rattle.command_boards.specs.import.Answers.{AnswersImport}
use Rattle.command_boards.specs.tree.Answers.{AnswersTree}
use Rattle.program_words.specs.declared.Form.{Form}
use Rattle.pcitree.specs.Answers.{AnswersTo}
use Rattle.pcitree.specs.Given.{IsGiven}
use Rattle.pcitree.proofs.DoneLemmas.{done_answers}
use Rattle.pcitree.proofs.answering.answer.Goals as goal

-- each word is answered by its crate
pub returns-in-Run-clause-ok : goal.returns-in-Run-clause-ok
returns-in-Run-clause-ok g c = subst (λ (form : Form). IfOk c.done-in-Run.result (λ answer. AnswersTo form c.args.words.now c.args.input.now answer.text.items answer.ending)) (sym c.in-Run.is)
    (done_answers (AnswersRun c.args.input.now) _ _ c.done-in-Run.ensures.ok c.answer_run.ensures.ok)

pub returns-in-RunSteady-clause-ok : goal.returns-in-RunSteady-clause-ok
returns-in-RunSteady-clause-ok g c = subst (λ (form : Form). IfOk c.done-in-RunSteady.result (λ answer. AnswersTo form c.args.words.now c.args.input.now answer.text.items answer.ending)) (sym c.in-RunSteady.is)
    (done_answers (AnswersRun c.args.input.now) _ _ c.done-in-RunSteady.ensures.ok c.answer_run_steady.ensures.ok)

pub returns-in-Headers-clause-ok : goal.returns-in-Headers-clause-ok
returns-in-Headers-clause-ok g c = subst (λ (form : Form). IfOk c.done-in-Headers.result (λ answer. AnswersTo form c.args.words.now c.args.input.now answer.text.items answer.ending)) (sym c.in-Headers.is)
    (done_answers (AnswersHeaders c.args.input.now) _ _ c.done-in-Headers.ensures.ok c.answer_headers.ensures.ok)

pub returns-in-Check-clause-ok : goal.returns-in-Check-clause-ok
returns-in-Check-clause-ok g c = subst (λ (form : Form). IfOk c.done-in-Check.result (λ answer. AnswersTo form c.args.words.now c.args.input.now answer.text.items answer.ending)) (sym c.in-Check.is)
    (done_answers (AnswersCheck c.args.input.now) _ _ c.done-in-Check.ensures.ok c.answer_check.ensures.ok)

pub returns-in-Finish-clause-ok : goal.returns-in-Finish-clause-ok
returns-in-Finish-clause-ok g c = subst (λ (form : Form). IfOk c.done-in-Finish.result (λ answer. AnswersTo form c.args.words.now c.args.input.now answer.text.items answer.ending)) (sym c.in-Finish.is)
    (done_answers (AnswersFinish c.args.input.now) _ _ c.done-in-Finish.ensures.ok c.answer_finish.ensures.ok)

pub returns-in-Fill-clause-ok : goal.returns-in-Fill-clause-ok
returns-in-Fill-clause-ok g c = subst (λ (form : Form). IfOk c.done-in-Fill.result (λ answer. AnswersTo form c.args.words.now c.args.input.now answer.text.items answer.ending)) (sym c.in-Fill.is)
    (done_answers (AnswersFill c.args.input.now) _ _ c.done-in-Fill.ensures.ok c.answer_fill.ensures.ok)

pub returns-in-Audit-clause-ok : goal.returns-in-Audit-clause-ok
returns-in-Audit-clause-ok g c = subst (λ (form : Form). IfOk c.done-in-Audit.result (λ answer. AnswersTo form c.args.words.now c.args.input.now answer.text.items answer.ending)) (sym c.in-Audit.is)
    (done_answers (AnswersAudit c.args.input.now) _ _ c.done-in-Audit.ensures.ok c.answer_audit.ensures.ok)

pub returns-in-Report-clause-ok : goal.returns-in-Report-clause-ok
returns-in-Report-clause-ok g c = subst (λ (form : Form). IfOk c.done-in-Report.result (λ answer. AnswersTo form c.args.words.now c.args.input.now answer.text.items answer.ending)) (sym c.in-Report.is)
    (done_answers (AnswersReport c.args.input.now) _ _ c.done-in-Report.ensures.ok c.answer_report.ensures.ok)

pub returns-in-Waves-clause-ok : goal.returns-in-Waves-clause-ok
returns-in-Waves-clause-ok g c = subst (λ (form : Form). IfOk c.done-in-Waves.result (λ answer. AnswersTo form c.args.words.now c.args.input.now answer.text.items answer.ending)) (sym c.in-Waves.is)
    (done_answers (AnswersWaves c.args.input.now) _ _ c.done-in-Waves.ensures.ok c.answer_waves.ensures.ok)

pub returns-in-Untagged-clause-ok : goal.returns-in-Untagged-clause-ok
returns-in-Untagged-clause-ok g c = subst (λ (form : Form). IfOk c.done-in-Untagged.result (λ answer. AnswersTo form c.args.words.now c.args.input.now answer.text.items answer.ending)) (sym c.in-Untagged.is)
    (done_answers (AnswersUntagged c.args.input.now) _ _ c.done-in-Untagged.ensures.ok c.answer_untagged.ensures.ok)

pub returns-in-Combine-clause-ok : goal.returns-in-Combine-clause-ok
returns-in-Combine-clause-ok g c = subst (λ (form : Form). IfOk c.done-in-Combine.result (λ answer. AnswersTo form c.args.words.now c.args.input.now answer.text.items answer.ending)) (sym c.in-Combine.is)
    (done_answers (AnswersCombine c.args.input.now) _ _ c.done-in-Combine.ensures.ok c.answer_combine.ensures.ok)

pub returns-in-Generate-clause-ok : goal.returns-in-Generate-clause-ok
returns-in-Generate-clause-ok g c = subst (λ (form : Form). IfOk c.done-in-Generate.result (λ answer. AnswersTo form c.args.words.now c.args.input.now answer.text.items answer.ending)) (sym c.in-Generate.is)
    (done_answers (AnswersGenerate c.args.input.now) _ _ c.done-in-Generate.ensures.ok c.answer_generate.ensures.ok)

pub returns-in-Devices-clause-ok : goal.returns-in-Devices-clause-ok
returns-in-Devices-clause-ok g c = subst (λ (form : Form). IfOk c.done-in-Devices.result (λ answer. AnswersTo form c.args.words.now c.args.input.now answer.text.items answer.ending)) (sym c.in-Devices.is)
    (done_answers (AnswersDevices c.args.input.now) _ _ c.done-in-Devices.ensures.ok c.answer_devices.ensures.ok)

pub returns-in-Import-clause-ok : goal.returns-in-Import-clause-ok
returns-in-Import-clause-ok g c = subst (λ (form : Form). IfOk c.done-in-Import.result (λ answer. AnswersTo form c.args.words.now c.args.input.now answer.text.items answer.ending)) (sym c.in-Import.is)
    (done_answers (AnswersImport c.args.input.now) _ _ c.done-in-Import.ensures.ok c.answer_import.ensures.ok)

pub returns-in-Tree-clause-ok : goal.returns-in-Tree-clause-ok
returns-in-Tree-clause-ok g c = subst (λ (form : Form). IfOk c.done-in-Tree.result (λ answer. AnswersTo form c.args.words.now c.args.input.now answer.text.items answer.ending)) (sym c.in-Tree.is)
    (done_answers (AnswersTree c.args.input.now) _ _ c.done-in-Tree.ensures.ok c.answer_tree.ensures.ok)

-- of `draw` with the status that its page has
pub returns-in-Draw-clause-ok : goal.returns-in-Draw-clause-ok
returns-in-Draw-clause-ok g c = subst (λ (form : Form). IfOk c.answer_draw.result (λ answer. AnswersTo form c.args.words.now c.args.input.now answer.text.items answer.ending)) (sym c.in-Draw.is)
    (subst (λ rows. IfOk c.answer_draw.result (λ answer. AnswersDraw c.args.input.now (rows_asked rows) answer.text.items answer.ending)) c.rows_in.ensures c.answer_draw.ensures.ok)

pub returns-in-DrawRows-clause-ok : goal.returns-in-DrawRows-clause-ok
returns-in-DrawRows-clause-ok g c = subst (λ (form : Form). IfOk c.answer_draw-in-DrawRows.result (λ answer. AnswersTo form c.args.words.now c.args.input.now answer.text.items answer.ending)) (sym c.in-DrawRows.is)
    (subst (λ rows. IfOk c.answer_draw-in-DrawRows.result (λ answer. AnswersDraw c.args.input.now (rows_asked rows) answer.text.items answer.ending)) c.rows_in-in-DrawRows.ensures c.answer_draw-in-DrawRows.ensures.ok)

pub returns-in-DrawOperation-clause-ok : goal.returns-in-DrawOperation-clause-ok
returns-in-DrawOperation-clause-ok g c = subst (λ (form : Form). IfOk c.answer_draw_operation.result (λ answer. AnswersTo form c.args.words.now c.args.input.now answer.text.items answer.ending)) (sym c.in-DrawOperation.is)
    (subst (λ (word : List ℕ). IfOk c.answer_draw_operation.result (λ answer. AnswersDraw c.args.input.now (operation_asked word) answer.text.items answer.ending)) c.operation_in.ensures c.answer_draw_operation.ensures.ok)

-- a number is answered only where it names rounds
pub answer_generate-requires : goal.answer_generate-requires
answer_generate-requires g c = subst (λ (form : Form). IsGiven form c.args.input.now) c.in-Generate.is c.requires.given

-- of `safe` with the status that its text has
pub returns-in-Safe-clause-ok : goal.returns-in-Safe-clause-ok
returns-in-Safe-clause-ok g c = subst (λ (form : Form). IfOk c.answer_safe.result (λ answer. AnswersTo form c.args.words.now c.args.input.now answer.text.items answer.ending)) (sym c.in-Safe.is) c.answer_safe.ensures.ok

pub returns-in-Observe-clause-ok : goal.returns-in-Observe-clause-ok
returns-in-Observe-clause-ok g c = subst (λ (form : Form). IfOk c.done-in-Observe.result (λ answer. AnswersTo form c.args.words.now c.args.input.now answer.text.items answer.ending)) (sym c.in-Observe.is)
    (done_answers (AnswersObserve c.args.input.now) _ _ c.done-in-Observe.ensures.ok c.answer_observe.ensures.ok)

-- of `observe --acts` with the status that its text has
pub returns-in-ObserveActs-clause-ok : goal.returns-in-ObserveActs-clause-ok
returns-in-ObserveActs-clause-ok g c = subst (λ (form : Form). IfOk c.answer_acts.result (λ answer. AnswersTo form c.args.words.now c.args.input.now answer.text.items answer.ending)) (sym c.in-ObserveActs.is) c.answer_acts.ensures.ok
