use Rattle.std.proofs.Common.{ap, inl}
use Rattle.program_status.specs.Subjects.{subject_of}
use Rattle.program_status.specs.Subjects.Subject.{Words, Reading, Writing, Input}
use Rattle.pcitree.proofs.StopLemmas.{finished, succeeded, success_usage, success_only, success_serves, unwritten, not_done, usage_exactly, usage_unread, read_failed, write_failed, refused_in, caused_by, served_by, import_served_by}
use Rattle.pcitree.proofs.WrittenLemmas.{run_is_written}
use Rattle.program_words.specs.declared.Form.TheVariants as forms
use Rattle.pcitree.proofs.program.pcitree.Goals as goal

pub returns-in-Ok-clause-usage : goal.returns-in-Ok-clause-usage
returns-in-Ok-clause-usage g c = success_usage _ _ c.in-Ok.ensures.form (succeeded _ _ _ _ _ _ _ c.in-Ok.ensures.form c.in-Ok.ensures.done)

pub returns-in-Ok-clause-misfit : goal.returns-in-Ok-clause-misfit
returns-in-Ok-clause-misfit g c = λ word is. success_only _ _ Words (succeeded _ _ _ _ _ _ _ c.in-Ok.ensures.form c.in-Ok.ensures.done) (λ e. cc) (ap subject_of is)

pub returns-in-Ok-clause-unread : goal.returns-in-Ok-clause-unread
returns-in-Ok-clause-unread g c = λ is. success_only _ _ Words (succeeded _ _ _ _ _ _ _ c.in-Ok.ensures.form c.in-Ok.ensures.done) (λ e. cc) is

pub returns-in-Ok-clause-read_fault : goal.returns-in-Ok-clause-read_fault
returns-in-Ok-clause-read_fault g c = λ is. success_only _ _ Reading (succeeded _ _ _ _ _ _ _ c.in-Ok.ensures.form c.in-Ok.ensures.done) (λ e. cc) (ap subject_of is)

pub returns-in-Ok-clause-write_fault : goal.returns-in-Ok-clause-write_fault
returns-in-Ok-clause-write_fault g c = λ is. success_only _ _ Writing (succeeded _ _ _ _ _ _ _ c.in-Ok.ensures.form c.in-Ok.ensures.done) (λ e. cc) (ap subject_of is)

pub returns-in-Ok-clause-clean : goal.returns-in-Ok-clause-clean
returns-in-Ok-clause-clean g c = λ _. c.in-Ok.ensures.clean

pub returns-in-Ok-clause-unwritten : goal.returns-in-Ok-clause-unwritten
returns-in-Ok-clause-unwritten g c = λ before. absurd (before.0 (succeeded _ _ _ _ _ _ _ c.in-Ok.ensures.form c.in-Ok.ensures.done))

pub returns-in-Ok-clause-front : goal.returns-in-Ok-clause-front
returns-in-Ok-clause-front g c = λ is. success_only _ _ Writing (succeeded _ _ _ _ _ _ _ c.in-Ok.ensures.form c.in-Ok.ensures.done) (λ e. cc) (ap subject_of is)

pub returns-in-Ok-clause-done : goal.returns-in-Ok-clause-done
returns-in-Ok-clause-done g c = λ _. c.in-Ok.ensures.done

pub returns-in-Ok-clause-checked : goal.returns-in-Ok-clause-checked
returns-in-Ok-clause-checked g c = λ form is found writes. run_is_written c.written_runs_are_complete.ensures c.finished_traces_are_complete.ensures c.written_devices_are_complete.ensures form _ _ _ _ _ _ _ found writes c.in-Ok.ensures.done

pub returns-in-Ok-clause-refused : goal.returns-in-Ok-clause-refused
returns-in-Ok-clause-refused g c = λ is. success_only _ _ Input (succeeded _ _ _ _ _ _ _ c.in-Ok.ensures.form c.in-Ok.ensures.done) (λ e. cc) is

pub returns-in-Ok-clause-cause : goal.returns-in-Ok-clause-cause
returns-in-Ok-clause-cause g c = λ form input there is. finished _ form _ _ _ _ _ input _ there is c.in-Ok.ensures.done

pub returns-in-Ok-clause-served : goal.returns-in-Ok-clause-served
returns-in-Ok-clause-served g c = λ form input there is served. success_serves _ (succeeded _ _ _ _ _ _ _ c.in-Ok.ensures.form c.in-Ok.ensures.done)

pub returns-in-Ok-clause-served_import : goal.returns-in-Ok-clause-served_import
returns-in-Ok-clause-served_import g c = λ input there is served. inl (success_serves _ (succeeded _ _ _ _ _ _ _ c.in-Ok.ensures.form c.in-Ok.ensures.done))

pub returns-in-Err-clause-usage : goal.returns-in-Err-clause-usage
returns-in-Err-clause-usage g c = usage_exactly _ _ _ _ _ _ _ _ _ _ _ _ _ c.in-Err.ensures.stopped

pub returns-in-Err-clause-unread : goal.returns-in-Err-clause-unread
returns-in-Err-clause-unread g c = λ usage. usage_unread _ _ _ _ _ _ _ _ _ _ _ _ _ c.in-Err.ensures.stopped usage

pub returns-in-Err-clause-read_fault : goal.returns-in-Err-clause-read_fault
returns-in-Err-clause-read_fault g c = λ is. read_failed _ _ _ _ _ _ _ _ _ _ _ _ _ c.in-Err.ensures.stopped is

pub returns-in-Err-clause-write_fault : goal.returns-in-Err-clause-write_fault
returns-in-Err-clause-write_fault g c = λ is. (write_failed _ _ _ _ _ _ _ _ _ _ _ _ _ c.in-Err.ensures.stopped is).0

pub returns-in-Err-clause-clean : goal.returns-in-Err-clause-clean
returns-in-Err-clause-clean g c = λ is. absurd (not_done _ _ _ _ _ _ _ _ _ _ _ _ _ c.in-Err.ensures.stopped is)

pub returns-in-Err-clause-unwritten : goal.returns-in-Err-clause-unwritten
returns-in-Err-clause-unwritten g c = λ before. unwritten _ _ _ _ _ _ _ _ _ _ _ _ _ c.in-Err.ensures.stopped before

pub returns-in-Err-clause-front : goal.returns-in-Err-clause-front
returns-in-Err-clause-front g c = λ is. (write_failed _ _ _ _ _ _ _ _ _ _ _ _ _ c.in-Err.ensures.stopped is).1

pub returns-in-Err-clause-done : goal.returns-in-Err-clause-done
returns-in-Err-clause-done g c = λ is. absurd (not_done _ _ _ _ _ _ _ _ _ _ _ _ _ c.in-Err.ensures.stopped is)

pub returns-in-Err-clause-checked : goal.returns-in-Err-clause-checked
returns-in-Err-clause-checked g c = λ form is. absurd (not_done _ _ _ _ _ _ _ _ _ _ _ _ _ c.in-Err.ensures.stopped (ap subject_of is))

pub returns-in-Err-clause-refused : goal.returns-in-Err-clause-refused
returns-in-Err-clause-refused g c = λ refusal. refused_in _ _ _ _ _ _ _ _ _ _ _ _ _ c.in-Err.ensures.stopped refusal

pub returns-in-Err-clause-cause : goal.returns-in-Err-clause-cause
returns-in-Err-clause-cause g c = λ form input there is. caused_by _ _ _ _ _ _ _ form _ _ _ _ _ _ input there is c.in-Err.ensures.stopped

pub returns-in-Err-clause-served : goal.returns-in-Err-clause-served
returns-in-Err-clause-served g c = λ form input there is served. served_by form _ input _ served (caused_by _ _ _ _ _ _ _ form _ _ _ _ _ _ input there is c.in-Err.ensures.stopped)

pub returns-in-Err-clause-served_import : goal.returns-in-Err-clause-served_import
returns-in-Err-clause-served_import g c = λ input there is served. import_served_by _ input _ served (caused_by _ _ _ _ _ _ _ forms.Import _ _ _ _ _ _ input there is c.in-Err.ensures.stopped)
