use Rattle.std.proofs.Common.{◌∙◌, ◌≤◌, sym, arith}
use Rattle.board_text.specs.Tokens.{words_in}
use Rattle.observe_log.proofs.FrontLemmas.{time_taken, times_taken, rest_of_times}
use Rattle.observe_log.proofs.line.cut.LineWords.take_times.Goals as goal

pub invariant_of-self : goal.invariant_of-self
invariant_of-self c =
    let taken = time_taken c.in_ok-start.start c.self.inside.rest.now c.in_ok-start.behind.now c.in_ok-self-inside.field-0.now c.in_ok-start.ensures.number c.in_ok-self-inside.ensures in
    rest_of_times (c.in_ok-start.start, c.in_ok-start.start) (words_in c.self.inside.rest.now) (words_in c.in_ok-self-inside.field-0.now) taken c.self.invariant

pub returns-in_default : goal.returns-in_default
returns-in_default c =
    let taken = time_taken c.in_ok-start.start c.self.inside.rest.now c.in_ok-start.behind.now c.in_ok-self-inside.field-0.now c.in_ok-start.ensures.number c.in_ok-self-inside.ensures in
    (taken.0, sym c.self.view_is ∙ taken.1, taken.2)

pub invariant_of-self-2 : goal.invariant_of-self-2
invariant_of-self-2 c =
    let order : c.in_ok-start.start ≤ c.in_ok-end.end = omega arith in
    let taken = times_taken c.in_ok-start.start c.in_ok-end.end c.self.inside.rest.now c.in_ok-start.behind.now c.in-Some.later.now c.in_ok-end.behind.now c.in_ok-self-inside-2.field-0.now c.in_ok-start.ensures.number c.in-Some.ensures c.in_ok-end.ensures.number order c.in_ok-self-inside-2.ensures in
    rest_of_times (c.in_ok-start.start, c.in_ok-end.end) (words_in c.self.inside.rest.now) (words_in c.in_ok-self-inside-2.field-0.now) taken c.self.invariant

pub returns : goal.returns
returns c =
    let order : c.in_ok-start.start ≤ c.in_ok-end.end = omega arith in
    let taken = times_taken c.in_ok-start.start c.in_ok-end.end c.self.inside.rest.now c.in_ok-start.behind.now c.in-Some.later.now c.in_ok-end.behind.now c.in_ok-self-inside-2.field-0.now c.in_ok-start.ensures.number c.in-Some.ensures c.in_ok-end.ensures.number order c.in_ok-self-inside-2.ensures in
    (taken.0, sym c.self.view_is ∙ taken.1, taken.2)
