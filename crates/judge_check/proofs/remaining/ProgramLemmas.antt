-- One more program is counted.
use Rattle.std.proofs.Common.{◌≡◌, ℕ, ◌+◌, ◌<◌, List, ◌∷◌, length, get_or, drop, add-one, arith}
use Rattle.std.proofs.Math.Seq.{drop-cons}
use Rattle.board_model.specs.declared.agents.Master.{Master}
use Rattle.board_model.specs.declared.board.Board.{Board}
use Rattle.judge_state.specs.State.{KeptState, turn_in}
use Rattle.judge_check.specs.remaining.Now.{program_now, programs_now}

pub programs_more : (board : Board) (k : KeptState) (masters : List Master) (i : ℕ) (x : Master) (so_far here all : ℕ) → i < length masters → x ≡ get_or masters i x
    → here ≡ program_now board k x (turn_in k.turns i) → so_far + programs_now board k i (drop i masters) ≡ all
    → (so_far + here) + programs_now board k (i + 1) (drop (i + 1) masters) ≡ all
programs_more board k masters i x so_far here all within item is before =
    let rest : drop i masters ≡ get_or masters i x ∷ drop (i + 1) masters = rw (add-one, drop-cons masters i x) in
    let split : drop i masters ≡ x ∷ drop (i + 1) masters = cc in
    let before2 = rw split at before in
    omega (arith, before2, is)
