use Rattle.std.proofs.Common.{◌≡◌, ℕ, Bool, List, IfOk, ap, subst, ◌∙◌, map}
use Rattle.board_model.specs.declared.board.Board.{Board}
use Rattle.law_untagged.specs.Apart.{Apart}
use Rattle.law_untagged.specs.ApartTest.{is_apart}
use Rattle.safe_said.specs.AllSaid.{line}
use Rattle.command_safe.specs.safe.Lines.{lines_of}
use Rattle.command_safe.proofs.safe.SaysLemmas.{same_test}
use Rattle.command_safe.proofs.safe.answer.text_of.Goals as goal

pub returns-in-Ok-clause-written : goal.returns-in-Ok-clause-written
returns-in-Ok-clause-written c =
    let board = c.args.tree.now in
    let said = map line c.args.said.now in
    let same : c.in-Ok.apart ≡ is_apart board = same_test _ (is_apart board) (Apart board) c.in-Ok.ensures (c.apart_is_tested.ensures board c.board.ensures.valid) in
    let one : lines_of c.board.result.now said c.in-Ok.apart ≡ lines_of board said (is_apart board) =
    ap (λ (b : Board). lines_of b said c.in-Ok.apart) c.board.ensures.value ∙ ap (λ (apart : Bool). lines_of board said apart) same in
    subst (λ (lines : List ℕ). IfOk c.text_with.result (λ answer. answer.text.items ≡ lines)) one c.text_with.ensures.written
