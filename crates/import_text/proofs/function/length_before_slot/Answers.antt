use Rattle.std.proofs.Common.{◌∙◌, rules, tests}
use Rattle.std.proofs.lemmas.Iterator.{YieldsList-from_slice}
use Rattle.std.proofs.lemmas.Iterator.Search.{position_from_yields_List}
use Rattle.import_text.specs.Functions.{is_slot}
use Rattle.import_text.proofs.CutLemmas.{first_or_length}
use Rattle.import_text.proofs.function.length_before_slot.Goals as goal

pub returns-clause-value : goal.returns-clause-value
returns-clause-value c =
    c.unwrap_or.ensures ∙ first_or_length is_slot c.args.behind.now _ (position_from_yields_List _ _ _ _ c.position.ensures.ran (YieldsList-from_slice c.args.behind.now cc) (λ x b q k. search (rules, tests)))
