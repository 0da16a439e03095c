use Rattle.std.proofs.Common.{ap, ◌∙◌, rules, tests}
use Rattle.std.proofs.lemmas.Iterator.{YieldsList-from_slice}
use Rattle.std.proofs.lemmas.Iterator.Search.{find_from_yields_List}
use Rattle.lane_items.proofs.completions.CompletionLemmas.{is_of}
use Rattle.lane_items.proofs.completions.done_table.DoneTable.done.Goals as goal

pub returns-clause-value : goal.returns-clause-value
returns-clause-value c =
    rw (← ap (λ t. t.dones) c.self.view_is) (c.copied.ensures ∙ find_from_yields_List (is_of c.args.slot) _ _ c.find.result c.find.ensures.ran (YieldsList-from_slice c.self.inside.standing.items cc) (λ x b q k. search (rules, tests)))
