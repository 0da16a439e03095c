-- What was got after one more event of a trace.
use Rattle.std.proofs.Common.{◌≡◌, ℕ, zero, suc, ◌+◌, ◌<◌, List, [], ◌∷◌, length, Option, get_or, take, refl, sym, ap, subst, ◌∙◌, arith, below_more, slice_get}
use Rattle.std.proofs.lemmas.List.{length-append, take_all}
use Rattle.circular_buffer.proofs.Places.{slice_get-append_left, slice_get-append_right}
use Rattle.board_model.specs.declared.board.Board.{Board}
use Rattle.history_model.specs.declared.event.Event.{Event}
use Rattle.history_model.specs.Runs.{history_of}
use Rattle.judge_lanes.proofs.RoomLemmas.{history_more}
use Rattle.law_untagged.specs.Origins.{ending_reading}
use Rattle.untagged_run.specs.declared.got.Got.{Got}
use Rattle.untagged_run.specs.Flat.{flat}
use Rattle.untagged_run.specs.Table.{SameGot}
use Rattle.untagged_run.specs.Course.{CourseState, IsCourse, GoesOn, AreGots}

abbrev pub GotAt : Board → List Event → List (Option Got) → ℕ → Type 0
GotAt board events gots j = (d : Event) → SameGot (flat (slice_get gots j)) (ending_reading board (history_of (take j events)) (get_or events j d))

-- so far
pub record Upto (board : Board) (events : List Event) (i : ℕ) (c : CourseState) : Type 0 where
  pub course : IsCourse board (history_of (take i events)) c
  pub many : length c.gots ≡ i
  pub gots : (j : ℕ) → j < i → GotAt board events c.gots j

get_or_any : {X : Type 0} (xs : List X) (i : ℕ) (d e : X) → i < length xs → get_or xs i d ≡ get_or xs i e
get_or_any [] i d e within = absurd (omega (arith, within))
get_or_any (x ∷ xs) zero d e within = refl
get_or_any (x ∷ xs) (suc i) d e within = get_or_any xs i d e (omega (arith, within))

pub upto_more : (board : Board) (events : List Event) (i : ℕ) (d : Event) (old new : CourseState) → i < length events → Upto board events i old
    → GoesOn board (history_of (take i events)) (get_or events i d) old new → Upto board events (i + 1) new
upto_more board events i d old new within upto goes =
    let h : List Event = history_of (take i events) in
    let more : history_of (take (i + 1) events) ≡ get_or events i d ∷ h = history_more events i d within in
    record {
      course = subst (λ (g : List Event). IsCourse board g new) (sym more) goes.course;
      many = ap (λ (gs : List (Option Got)). length gs) goes.gots ∙ (length-append old.gots (goes.got ∷ []) ∙ ap (λ n. n + 1) upto.many);
      gots = λ j below.
          let P : ℕ → Type 0 = λ n. (e : Event) → SameGot (flat (slice_get new.gots n)) (ending_reading board (history_of (take n events)) (get_or events n e)) in
          below_more P i
          (λ n low e. rw goes.gots (rw (slice_get-append_left old.gots (goes.got ∷ []) n (omega (arith, upto.many, low))) (upto.gots n low e)))
          (λ e. rw goes.gots (rw (slice_get-append_right old.gots (goes.got ∷ []) i 0 (omega (arith, upto.many)))
          (subst (λ x. SameGot goes.got (ending_reading board h x)) (get_or_any events i d e within) goes.same)))
          j below;
    }

pub upto_first : (board : Board) (events : List Event) (c : CourseState) → IsCourse board [] c → Upto board events 0 c
upto_first board events c course = record { course = course; many = course.many; gots = λ j below d. absurd (omega (arith, below)) }

pub upto_all : (board : Board) (events : List Event) (i : ℕ) (c : CourseState) → i ≡ length events → Upto board events i c → IsCourse board (history_of events) c × AreGots board events c.gots
upto_all board events i c all upto =
    let whole : take i events ≡ events = take_all i events (omega (arith, all)) in (
      subst (λ (es : List Event). IsCourse board (history_of es) c) whole upto.course,
      record { many = upto.many ∙ all; each = λ j d within. upto.gots j (omega (arith, all, within)) d },
    )
