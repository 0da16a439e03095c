use Rattle.std.proofs.Common.{refl}
use Rattle.history_model.specs.declared.event.By.TheVariants.{Master}
use Rattle.worked_runs.proofs.premises.answers_need_what_was_sent.Goals as goal

pub returns-clause-not_local : goal.returns-clause-not_local
returns-clause-not_local c = λ local.
    let same = local 0 Master (record { master = 1; index = 0; attempt = 0 }) refl in
    cc
