use Rattle.std.proofs.Common.{◌∙◌, sym}
use Rattle.board_text.specs.Tokens.{words_in}
use Rattle.observe_log.proofs.FrontLemmas.{number_taken, rest_of_number}
use Rattle.observe_log.proofs.line.cut.LineWords.take_number.Goals as goal

pub invariant_of-self : goal.invariant_of-self
invariant_of-self c =
    let taken = number_taken c.args.radix c.args.most c.in_ok-number.number c.self.inside.rest.now c.in_ok-number.behind.now c.in_ok-self-inside.field-0.now c.requires.letters c.in_ok-number.ensures.number c.in_ok-self-inside.ensures in
    rest_of_number c.args.radix c.args.most c.in_ok-number.number (words_in c.self.inside.rest.now) (words_in c.in_ok-self-inside.field-0.now) taken c.self.invariant

pub returns-clause-taken : goal.returns-clause-taken
returns-clause-taken c =
    let taken = number_taken c.args.radix c.args.most c.in_ok-number.number c.self.inside.rest.now c.in_ok-number.behind.now c.in_ok-self-inside.field-0.now c.requires.letters c.in_ok-number.ensures.number c.in_ok-self-inside.ensures in
    (taken.0, sym c.self.view_is ∙ taken.1, taken.2, taken.3)
