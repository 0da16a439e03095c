use Rattle.std.proofs.lemmas.List.Elements.{All-same}
use Rattle.board_text.specs.Tokens.{words_in}
use Rattle.observe_log.specs.Plain.{StandsAlone}
use Rattle.observe_log.proofs.PlainLemmas.{rest_stands}
use Rattle.observe_log.proofs.line.cut.LineWords.take.Goals as goal

pub invariant_of-self : goal.invariant_of-self
invariant_of-self c =
    let behind = rest_stands (words_in c.self.inside.rest.now) (words_in c.in_ok-word.behind.now) c.in_ok-word.word.now c.in_ok-word.ensures.words c.self.invariant in
    All-same StandsAlone (words_in c.without_space-self-inside.result.now) (words_in c.in_ok-word.behind.now) c.without_space-self-inside.ensures behind
