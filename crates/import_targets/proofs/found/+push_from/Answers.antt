use Rattle.std.proofs.Common.{◌≡◌, ◌<◌, ◌-◌, ◌++◌, true, List, nat_lt, sym, ap, ◌∙◌, append_assoc, arith}
use Rattle.std.proofs.lemmas.Bool.Decides.{nat_tests}
use Rattle.import_targets.specs.declared.found.FoundFunction.{FoundFunction}
use Rattle.import_targets.specs.Registers.{found_at, behind, found_from}
use Rattle.import_targets.proofs.FoundLemmas.{found_step}
use Rattle.import_targets.proofs.found.+push_from.Goals as goal

pub returns : goal.returns
returns t c =
    let some : 0 < c.args.steps = omega (arith, c.if-steps-eq0.false) in
    let less : nat_lt c.args.n c.args.many ≡ true = grind (arith, nat_tests) in
    let step = found_step c.args.function.now c.args.many c.args.n c.args.steps some less in
    let old : List FoundFunction = c.args.found.now.items in
    let here : List FoundFunction = found_at c.args.function.now c.args.many c.args.n in
    let rest : List FoundFunction = found_from (c.args.steps - 1) c.args.function.now c.args.many (behind c.args.function.now c.args.n) in
    let pushed : c.push_found.new.found.items ≡ old ++ here = c.push_found.ensures ∙ ap (λ xs. old ++ xs) c.found_at.ensures in
    c.push_from.ensures ∙ ap (λ k. c.push_found.new.found.items ++ found_from (c.args.steps - 1) c.args.function.now c.args.many k) c.behind.ensures.value
    ∙ ap (λ xs. xs ++ rest) pushed ∙ append_assoc old here rest ∙ ap (λ xs. old ++ xs) (sym step)
