use Rattle.std.proofs.Common.{◌∙◌, rules, tests}
use Rattle.std.proofs.lemmas.Iterator.{YieldsList-from_slice}
use Rattle.std.proofs.lemmas.Iterator.Search.{position_from_yields_List}
use Rattle.board_text.proofs.CutLemmas.{first_or_length}
use Rattle.observe_log.specs.Plain.{is_no_plain}
use Rattle.observe_log.proofs.plain.length_of_few.Goals as goal

pub returns-clause-value : goal.returns-clause-value
returns-clause-value c =
    c.unwrap_or.ensures ∙ first_or_length is_no_plain c.args.text.now _ (position_from_yields_List is_no_plain _ _ _ c.position.ensures.ran (YieldsList-from_slice c.args.text.now cc) (λ x b q k. search (rules, tests)))
