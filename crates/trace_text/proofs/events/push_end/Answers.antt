use Rattle.std.proofs.Common.{[], ◌∷◌, rules, append_assoc}
use Rattle.std.proofs.lemmas.Result.{IfOk-equal}
use Rattle.trace_text.specs.Words.{place_words}
use Rattle.trace_text.specs.Events.{result_words}
use Rattle.trace_text.proofs.SpacedLemmas.{spaced-parts}
use Rattle.trace_text.proofs.events.push_end.Goals as goal

pub returns : goal.returns
returns c =
    search (rules, IfOk-equal, append_assoc, spaced-parts (place_words c.args.board.now c.args.place) (result_words c.args.step) (10 ∷ []))
