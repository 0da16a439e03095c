-- Each event of a run lowers what is left, so that a run ends.
use Rattle.std.proofs.Common.{◌+◌, ◌≤◌, List, [], ◌∷◌, ◌++◌, length, append-nil, sym, subst, ⊎_elim, arith}
use Rattle.board_model.specs.declared.board.Board.{Board}
use Rattle.board_model.specs.Ways.{bound_of}
use Rattle.board_model.specs.Valid.{IsValid}
use Rattle.history_model.specs.declared.event.Event.{Event}
use Rattle.history_model.specs.Runs.{Run}
use Rattle.history_model.specs.Left.{left_of}
use Rattle.law_bound.specs.posted.PostedEvents.{IsPostedEvent}
use Rattle.law_bound.specs.delayed.Delayed.{IsDelayedEvent}
use Rattle.law_bound.proofs.BeginsLemmas.{left-begins, Begins-formed}
use Rattle.law_bound.proofs.KindLemmas.{event_kind}

-- each event of a run of a valid board lowers what is left by at least one
abbrev pub EachLowers : Type 0
EachLowers = (board : Board) (h : List Event) (e : Event) → IsValid board → Run board (e ∷ h) → left_of board (e ∷ h) + 1 ≤ left_of board h

-- those of a kind do
abbrev pub KindLowers : (Board → List Event → Event → Type 0) → Type 0
KindLowers Kind = (board : Board) (h : List Event) (e : Event) → IsValid board → Run board (e ∷ h) → Kind board h e → left_of board (e ∷ h) + 1 ≤ left_of board h

-- where those of both kinds do, each does
pub each_lowers : KindLowers IsPostedEvent → KindLowers IsDelayedEvent → EachLowers
each_lowers posted delayed board h e valid run = ⊎_elim (posted board h e valid run) (delayed board h e valid run) (event_kind board h e valid run)

-- then more events lower it by their number
pub follow_left : EachLowers → (board : Board) (later h : List Event) → IsValid board → Run board (later ++ h) → length later + left_of board (later ++ h) ≤ left_of board h
follow_left falls board [] h valid run = omega arith
follow_left falls board (e ∷ later) h valid run = omega (arith, falls board (later ++ h) e valid run, follow_left falls board later h valid run.1)

-- and before the first as much is left as the board's bound
pub run_bounded : EachLowers → (board : Board) (h : List Event) → IsValid board → Run board h → length h ≤ bound_of board
run_bounded falls board h valid run =
    let whole : Run board (h ++ []) = subst (Run board) (sym (append-nil h)) run in
    omega (arith, follow_left falls board h [] valid whole, left-begins board (Begins-formed board valid.well_formed))
