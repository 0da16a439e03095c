-- How the causes are printed.
use Rattle.std.specs.Prelude.{ℕ, List, codes}
use Rattle.history_model.specs.declared.why.Why.{Why}
use Rattle.history_model.specs.declared.why.Why.TheVariants.{NotPresented, AnsweredOtherwise, GetsRetry, NothingInFlight, MarkedOtherwise}

-- the name of the cause in what is printed
abbrev pub why_text : Why → List ℕ
why_text NotPresented = codes "N1"
why_text AnsweredOtherwise = codes "N2"
why_text GetsRetry = codes "N3"
why_text NothingInFlight = codes "N4"
why_text MarkedOtherwise = codes "N5"
