-- A run goes on by its next events.
use Rattle.std.proofs.Common.{◌≡◌, ◌↔◌, ◌+◌, ◌<◌, ◌≤◌, List, [], ◌∷◌, ◌++◌, append_assoc, append-nil, Option, Some, None, refl, sym, subst, ap, ◌∙◌, arith}
use Rattle.std.specs.Prelude.{IfSome}
use Rattle.std.proofs.lemmas.List.{reverse-append, length-reverse}
use Rattle.board_model.specs.declared.board.Board.{Board}
use Rattle.board_model.specs.Ways.{bound_of}
use Rattle.history_model.specs.declared.event.Event.{Event}
use Rattle.history_model.specs.Runs.{Run, Allowed, Complete, history_of}
use Rattle.history_model.specs.Left.{left_of}
use Rattle.history_model.specs.Next.{next_of}
use Rattle.law_delivered.specs.Laws.{LawsOfRun}
use Rattle.judge_next.specs.declared.course.Course.{Course}
use Rattle.judge_next.specs.Course.{IsCourse}
use Rattle.judge_finish.specs.Finishing.{GoesOn, GoesOnBy, Finishes}

-- a run that went on by its next events so far
pub record WentOn (board : Board) (events whole : List Event) : Type 0 where
  pub more : List Event
  pub whole_is : whole ≡ events ++ more
  pub goes_on : GoesOn board events more
  pub run : Run board (history_of whole)

-- a run goes on by its next event behind those with which it went on
pub goes_on_more : (board : Board) (before more : List Event) (e : Event) → GoesOn board before more
    → next_of board (history_of (before ++ more)) ≡ Some e → GoesOn board before (more ++ e ∷ [])
goes_on_more board before [] e goes next =
    (subst (λ (l : List Event). next_of board (history_of l) ≡ Some e) (append-nil before) next, tt)
goes_on_more board before (first ∷ more) e goes next =
    let same = sym (append_assoc before (first ∷ []) more) in
    (goes.0, goes_on_more board (before ++ first ∷ []) more e goes.1 (subst (λ (l : List Event). next_of board (history_of l) ≡ Some e) same next))

-- the last event of a trace is the newest of its history
pub history_push : (events : List Event) (e : Event) → history_of (events ++ e ∷ []) ≡ e ∷ history_of events
history_push events e = reverse-append events (e ∷ [])

-- a run of no more events than were read went on so
pub went_nowhere : (board : Board) (events : List Event) → Run board (history_of events) → WentOn board events events
went_nowhere board events run =
    record { more = []; whole_is = sym (append-nil events); goes_on = tt; run = run }

-- and with its next event, which is allowed, it went on as well
pub went_on_more : (board : Board) (events whole : List Event) (e : Event) → WentOn board events whole
    → next_of board (history_of whole) ≡ Some e → Allowed board (history_of whole) e → WentOn board events (whole ++ e ∷ [])
went_on_more board events whole e went next allowed =
    record {
      more = went.more ++ e ∷ [];
      whole_is = ap (λ (l : List Event). l ++ e ∷ []) went.whole_is ∙ append_assoc events went.more (e ∷ []);
      goes_on = goes_on_more board events went.more e went.goes_on (subst (λ (l : List Event). next_of board (history_of l) ≡ Some e) went.whole_is next);
      run = subst (Run board) (sym (history_push whole e)) (allowed, went.run);
    }

-- less is left behind a newest event that lowers it
pub left_fell : (board : Board) (whole longer : List Event) (e : Event) → longer ≡ whole ++ e ∷ []
    → left_of board (e ∷ history_of whole) + 1 ≤ left_of board (history_of whole) → left_of board (history_of longer) < left_of board (history_of whole)
left_fell board whole longer e is falls =
    let same : history_of longer ≡ e ∷ history_of whole = ap history_of is ∙ history_push whole e in
    let fewer : left_of board (e ∷ history_of whole) < left_of board (history_of whole) = omega (arith, falls) in
    subst (λ (h : List Event). left_of board h < left_of board (history_of whole)) (sym same) fewer

-- what the next event does, by the laws of runs
pub goes_on_by : (board : Board) (h : List Event) (found : Option Event) (course : Course) → Run board h → LawsOfRun board h → found ≡ next_of board h
    → IfSome found (λ e. IsCourse board (e ∷ h) course) → IfSome found (Allowed board h) → (found ≡ None ↔ Complete board h) → GoesOnBy board h course found
goes_on_by board h None course run laws next goes allowed complete = (complete.0 refl, laws)
goes_on_by board h (Some e) course run laws next goes allowed complete =
    record {
      next = sym next;
      allowed = allowed;
      course_is = goes;
      lowers = omega (arith, laws.falls (e ∷ []) (allowed, run));
    }

-- a run that went on so far, and is complete, is finished
pub finishes : (board : Board) (events whole : List Event) → WentOn board events whole → Complete board (history_of whole) → LawsOfRun board (history_of whole) → Finishes board events whole
finishes board events whole went complete laws =
    record {
      more = went.more;
      whole_is = went.whole_is;
      goes_on = went.goes_on;
      runs = record {
        run = went.run;
        complete = complete;
        matched = laws.matched;
        fresh = laws.fresh;
        as_left = laws.as_left;
        as_held = laws.as_held;
        bound = subst (λ n. n ≤ bound_of board) (length-reverse whole) laws.bounded;
      };
    }
