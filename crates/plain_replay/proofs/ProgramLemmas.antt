-- One more program is counted.
use Rattle.std.proofs.Common.{◌≡◌, ℕ, ◌+◌, ◌<◌, List, ◌∷◌, length, get_or, drop, add-one, arith}
use Rattle.std.proofs.Math.Seq.{drop-cons}
use Rattle.board_model.specs.declared.agents.Master.{Master}
use Rattle.board_model.specs.declared.board.Board.{Board}
use Rattle.history_model.specs.declared.event.Event.{Event}
use Rattle.history_model.specs.Program.{turn_of}
use Rattle.history_model.specs.Left.{program_left, programs_left}

pub programs_more : (board : Board) (h : List Event) (masters : List Master) (i : ℕ) (x : Master) (so_far here all : ℕ) → i < length masters → x ≡ get_or masters i x
    → here ≡ program_left board h x (turn_of board h i) → so_far + programs_left board h i (drop i masters) ≡ all
    → (so_far + here) + programs_left board h (i + 1) (drop (i + 1) masters) ≡ all
programs_more board h masters i x so_far here all within item is before =
    let rest : drop i masters ≡ get_or masters i x ∷ drop (i + 1) masters = rw (add-one, drop-cons masters i x) in
    let split : drop i masters ≡ x ∷ drop (i + 1) masters = cc in
    let before2 = rw split at before in
    omega (arith, before2, is)
