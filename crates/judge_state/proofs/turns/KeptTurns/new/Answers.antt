use Rattle.std.proofs.Common.{◌≡◌, ◌+◌, ◌<◌, ◌++◌, ◌∷◌, [], List, Option, length, get_or, sym, ap, subst, ◌∙◌, arith}
use Rattle.std.proofs.lemmas.List.{length-append}
use Rattle.board_model.proofs.FewLemmas.{master_more}
use Rattle.pci_command.specs.declared.op_id.OpId.{OpId}
use Rattle.board_model.specs.declared.agents.Master.{Master}
use Rattle.history_model.specs.Program.{turn_of}
use Rattle.judge_state.proofs.FirstLemmas.{TurnsBelow, turns_more, turns_first}
use Rattle.judge_state.proofs.turns.KeptTurns.new.Goals as goal

pub loop-index-preserved : goal.loop-index-preserved
loop-index-preserved c =
    let board = c.args.board.now in
    let i = c.loop-index.index in
    let before = c.loop-index.turns.items in
    let after = c.push.new.self.items in
    let within : i < length board.masters = rw c.as_slice-master-items.ensures at c.loop-index-test.true in
    let item = rw c.as_slice-master-items.ensures at c.master-item.is in
    let pushed : after ≡ before ++ turn_of board [] i ∷ [] = c.in_ok-push.ensures.items ∙ ap (λ (turn : Option OpId). before ++ turn ∷ []) c.first_turn.ensures in
    let longer : length after ≡ i + 1 = ap (λ (turns : List (Option OpId)). length turns) pushed ∙ (length-append before (turn_of board [] i ∷ []) ∙ ap (λ n. n + 1) c.loop-index.invariant.so_far) in
    let on_a_bus : (get_or board.masters i c.master-item.result).bus < 256 = rw (← item) (omega arith) in
    record {
      turns = turns_more board i before after c.loop-index.invariant.so_far c.loop-index.invariant.turns pushed;
      so_far = longer;
      buses = master_more board.masters i c.master-item.result within c.loop-index.invariant.buses on_a_bus;
    }

pub returns : goal.returns
returns c =
    let board = c.args.board.now in
    let turns = c.loop-index.turns.items in
    let all : length turns ≡ length board.masters = omega (arith, ap (λ (masters : List Master). length masters) c.as_slice-master-items.ensures, c.loop-index.invariant.so_far) in
    let below : TurnsBelow board (length turns) turns = subst (λ n. TurnsBelow board n turns) (sym c.loop-index.invariant.so_far) c.loop-index.invariant.turns in
    turns_first board turns all below
