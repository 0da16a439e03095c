use Rattle.std.proofs.Common.{◌≡◌, ℕ, length, ◌++◌, ◌∷◌, [], Some, sym, ap, subst, ◌∙◌, rules, if◌then◌else◌}
use Rattle.history_model.specs.Words.{opens_as}
use Rattle.judge_state.specs.Words.{place_at, same_word, dword, WordState, WordsKnown}
use Rattle.judge_state.proofs.KnownLemmas.{known_more}
use Rattle.judge_state.proofs.words.KeptWords.add.Goals as goal

pub returns-clause-known : goal.returns-clause-known
returns-clause-known c =
    let inside = c.self.inside in
    let k : WordState = record { places = inside.places; values = inside.values.items } in
    let known : WordsKnown c.args.board.now k = subst (WordsKnown c.args.board.now) (sym c.self.view_is) c.requires.known in
    let absent = ap (λ (s : WordState). place_at s.places c.args.word) c.self.view_is ∙ c.requires.absent in
    let place : c.len-place.result ≡ length inside.values.items = search rules in
    let pushed : c.push.new.self.items ≡ inside.values.items ++ opens_as c.args.board.now (dword c.args.word) ∷ [] =
    c.in_ok-push.ensures.items ∙ ap (λ (v : ℕ). inside.values.items ++ v ∷ []) c.opens_as-value.ensures in
    known_more c.args.board.now k c.args.word c.put.new.self c.push.new.self.items known absent
    (λ q. c.in_ok-put.ensures q ∙ ap (λ (n : ℕ). if same_word c.args.word q then Some n else place_at inside.places q) place) pushed
