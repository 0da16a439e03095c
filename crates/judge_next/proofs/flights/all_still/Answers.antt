use Rattle.std.proofs.Common.{◌≡◌, ◌+◌, ◌<◌, ◌++◌, ◌∷◌, [], ℕ, Bool, List, length, Some, slice_get, subst, sym, ◌∙◌, arith}
use Rattle.board_model.specs.declared.board.Board.{Board}
use Rattle.judge_state.specs.State.{KeptState}
use Rattle.judge_next.specs.Flights.{is_still}
use Rattle.judge_next.proofs.RowLemmas.{row_more}
use Rattle.judge_next.proofs.flights.all_still.Goals as goal

-- one bus more
pub loop-bus-preserved : goal.loop-bus-preserved
loop-bus-preserved c =
    let board : Board = c.args.board.now in
    let k : KeptState = c.args.kept.now in
    let still : List Bool = c.loop-bus.still.items in
    let bus : ℕ = c.loop-bus.bus in
    let pushed : c.push.new.self.items ≡ still ++ c.is_still.result ∷ [] = c.in_ok-push.ensures.items in
    let more = row_more (is_still board k) still c.is_still.result bus c.loop-bus.invariant.0 c.loop-bus.invariant.1 c.is_still.ensures in
    subst (λ (all : List Bool). (length all ≡ bus + 1) × ((n : ℕ) → n < bus + 1 → slice_get all n ≡ Some (is_still board k n))) (sym pushed) more

pub returns-clause-all : goal.returns-clause-all
returns-clause-all c = let all : c.loop-bus.bus ≡ 256 = omega arith in c.loop-bus.invariant.0 ∙ all

pub returns-clause-each : goal.returns-clause-each
returns-clause-each c = λ bus below. c.loop-bus.invariant.1 bus (omega (arith, below))
