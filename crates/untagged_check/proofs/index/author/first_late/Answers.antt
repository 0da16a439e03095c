use Rattle.std.proofs.Common.{◌≡◌, rules, of_calls, slice_get, ◌∙◌, arith}
use Rattle.std.specs.Option.{option_copied}
use Rattle.std.proofs.lemmas.Fn.{always_returns_same}
use Rattle.std.proofs.lemmas.Grind.{common_steps}
use Rattle.std.proofs.lemmas.Option.{gets}
use Rattle.untagged_check.proofs.index.SearchLemmas.{is_early, parted, first_at}
use Rattle.untagged_check.proofs.index.author.first_late.Goals as goal

pub returns : goal.returns
returns c =
    let point = c.partition_point-start.ensures.partitioned (is_early c.args.events) (always_returns_same _ _ _ (λ a r f k. search (rules, of_calls))) (parted c.args.events c.args.entries.now c.requires) in
    let is : option_copied c.get.result ≡ slice_get c.args.entries.now c.partition_point-start.result = grind (arith, common_steps, gets) in
    c.copied.ensures ∙ is ∙ first_at c.args.events c.args.entries.now c.partition_point-start.result point.0 point.1
