-- How far a run has come: the write is held back until the read has ended, and then the read read before the write.
use Rattle.std.proofs.Common.{◌≡◌, ◌≢◌, ◌+◌, ◌<◌, ◌≤◌, ⊎_elim, arith, Bool, true, false, not, ◌&&◌, ◌||◌, nat_lt, List, [], ◌∷◌, ◌++◌, length, Option, Some, None, is_some, refl, sym, ap, subst, ◌∙◌}
use Rattle.std.specs.List.{list_any}
use Rattle.std.proofs.lemmas.Bool.{and_parts, or_parts}
use Rattle.std.proofs.lemmas.List.{reverse-append, length-reverse}
use Rattle.pci_command.specs.declared.op_id.OpId.{OpId}
use Rattle.board_model.specs.declared.board.Board.{Board}
use Rattle.board_model.specs.Requests.{op_of, reads}
use Rattle.board_model.specs.Valid.{IsValid}
use Rattle.board_model.specs.Ways.{Dword, bound_of}
use Rattle.history_model.specs.declared.event.Event.{Event}
use Rattle.history_model.specs.Knowledge.{Reading, got, ends_as, has_ended, words_named}
use Rattle.history_model.specs.Runs.{Run, Complete, history_of}
use Rattle.history_model.specs.Left.{left_of}
use Rattle.law_lanes.specs.progress.Next.{Next}
use Rattle.law_lanes.proofs.progress.Laws.{goes_on, Sound-valid}
use Rattle.law_fresh.proofs.Laws.{Front, front_run}
use Rattle.law_fresh.proofs.reads.Laws.{always_got}
use Rattle.law_delivered.specs.Laws.{LawsOfRun}
use Rattle.law_audit.proofs.LaterLemmas.{got_front, got_kept}
use Rattle.safe_model.specs.Clocks.{is_poll}
use Rattle.judge_adverse.specs.declared.run.Pair.{Pair}
use Rattle.judge_next.specs.declared.course.Course.{Course}
use Rattle.judge_next.specs.Course.{IsCourse}
use Rattle.judge_adverse.specs.declared.ring.Ring.{Ring}
use Rattle.judge_adverse.specs.Turns.{IsRing, KnowsIdle, NothingMayCome, WentOnBy, is_from_on, is_passed_over}
use Rattle.judge_adverse.specs.Runs.{IsPair, held_back, ReadsEarly, IsAdverse, MayWait}
use Rattle.judge_adverse.proofs.BegunLemmas.{no_act, no_landing}

-- until the read has ended no master did anything of the write or of what stands behind it, and then it read early
abbrev pub SoFar : Board → Pair → List Event → Bool → Type 0
SoFar board pair h false = list_any (is_from_on pair.write) h ≡ false
SoFar board pair h true = ReadsEarly board h pair.read pair.write

module _ (board : Board) (valid : IsValid board) (pair : Pair) (is : IsPair board pair) where
  -- no event of a front part is one where none of all is
  front_none : (test : Event → Bool) (later before : List Event) → list_any test (later ++ before) ≡ false → list_any test before ≡ false
  front_none test [] before none = none
  front_none test (e ∷ later) before none = front_none test later before (or_parts (test e) (list_any test (later ++ before)) none).1

  -- a read that has just ended read early
  just_ended : (h : List Event) → Run board h → list_any (is_from_on pair.write) h ≡ false → has_ended h pair.read ≡ true → ReadsEarly board h pair.read pair.write
  just_ended h run none ended =
      let r : OpId = pair.read in
      let parts = and_parts (reads board r && not (is_poll (op_of board r))) (nat_lt 0 (length (words_named board r))) is.reads in
      let first = and_parts (reads board r) (not (is_poll (op_of board r))) parts.0 in
      let words : words_named board r ≢ [] = λ empty. (let none : nat_lt 0 (length (words_named board r)) ≡ false = ap (λ (ws : List Dword). nat_lt 0 (length ws)) empty in cc) in
      let some : is_some (got board h r) ≡ true = always_got board h r valid run first.0 words ended in
      let P : Option Reading → Type 0 = λ found. got board h r ≡ found → is_some found ≡ true → ReadsEarly board h r pair.write in
      (elim (got board h r) as P [
        | None ↦ λ _ e. absurd cc
        | Some reading ↦ λ is_got _.
            let front : Front reading.before h = got_front board h r reading is_got in
            let before_none : list_any (is_from_on pair.write) reading.before ≡ false =
            front_none (is_from_on pair.write) front.later reading.before (subst (λ (g : List Event). list_any (is_from_on pair.write) g ≡ false) (sym front.is) none) in
            let not_begun = no_act board pair.write reading.before (front_run board reading.before h front run) before_none in
            record { reading = reading; ended = is_got; not_begun = not_begun; not_landed = λ word. no_landing board pair.write reading.before word not_begun }
      ]) refl some

  -- what was read stays so
  still_early : (e : Event) (h : List Event) → Run board (e ∷ h) → ReadsEarly board h pair.read pair.write → ReadsEarly board (e ∷ h) pair.read pair.write
  still_early e h run early =
      record {
        reading = early.reading;
        ended = got_kept board h (e ∷ h) run (record { later = e ∷ []; is = refl }) pair.read early.reading early.ended;
        not_begun = early.not_begun;
        not_landed = early.not_landed;
      }

  -- one event further
  pub so_far_more : (e : Event) (h : List Event) (ended : Bool) → Run board (e ∷ h) → is_passed_over (held_back pair ended) e ≡ false → ended ≡ has_ended h pair.read → SoFar board pair h ended
      → SoFar board pair (e ∷ h) (has_ended (e ∷ h) pair.read)
  so_far_more e h true run passed was early =
      let P : Bool → Type 0 = λ b. SoFar board pair (e ∷ h) (is_some (ends_as pair.read e) || b) in
      subst P was (or_true_holds (is_some (ends_as pair.read e)) (still_early e h run early))
    where
      or_true_holds : (b : Bool) → ReadsEarly board (e ∷ h) pair.read pair.write → SoFar board pair (e ∷ h) (b || true)
      or_true_holds true early = early
      or_true_holds false early = early
  so_far_more e h false run passed was none =
      let all : list_any (is_from_on pair.write) (e ∷ h) ≡ false = rw (passed, none) refl in
      let P : Bool → Type 0 = λ b. has_ended (e ∷ h) pair.read ≡ b → SoFar board pair (e ∷ h) b in
      (elim (has_ended (e ∷ h) pair.read) as P [
        | true ↦ λ ended. just_ended (e ∷ h) run all ended
        | false ↦ λ _. all
      ]) refl

-- The loop.

-- a run so far: its course and the ring stand for it, and the write was held back
pub record RunsSoFar (board : Board) (pair : Pair) (ring : Ring) (course : Course) (events : List Event) (ended : Bool) : Type 0 where
  pub course_is : IsCourse board (history_of events) course
  pub ring_is : IsRing board ring
  pub idle_is : KnowsIdle board (history_of events) ring
  pub ended_is : ended ≡ has_ended (history_of events) pair.read
  pub so_far : SoFar board pair (history_of events) ended

-- the last event of a trace is the newest of its history
history_push : (events : List Event) (e : Event) → history_of (events ++ e ∷ []) ≡ e ∷ history_of events
history_push events e = reverse-append events (e ∷ [])

-- before the first event
pub runs_none : (board : Board) (pair : Pair) (ring : Ring) (course : Course) (events : List Event) → IsCourse board [] course → IsRing board ring → KnowsIdle board [] ring → events ≡ []
    → RunsSoFar board pair ring course events false
runs_none board pair ring course events course_is ring_is idle_is empty =
    subst (λ (l : List Event). RunsSoFar board pair ring course l false) (sym empty) (record { course_is = course_is; ring_is = ring_is; idle_is = idle_is; ended_is = refl; so_far = refl })

-- one event further
pub runs_more : (board : Board) (pair : Pair) (ring later_ring : Ring) (course later : Course) (events longer : List Event) (ended now : Bool) (e : Event) → IsValid board → IsPair board pair → RunsSoFar board pair ring course events ended
    → WentOnBy board (history_of events) (held_back pair ended) later e → IsRing board later_ring → KnowsIdle board (e ∷ history_of events) later_ring → now ≡ (is_some (ends_as pair.read e) || ended) → longer ≡ events ++ e ∷ []
    → RunsSoFar board pair later_ring later longer now
runs_more board pair ring later_ring course later events longer ended now e valid is so by ring_is idle_is now_is longer_is =
    let h : List Event = history_of events in
    let same : history_of longer ≡ e ∷ h = ap history_of longer_is ∙ history_push events e in
    let run : Run board (e ∷ h) = (by.may.0, so.course_is.stands.run) in
    let has : now ≡ has_ended (e ∷ h) pair.read = now_is ∙ ap (λ (b : Bool). is_some (ends_as pair.read e) || b) so.ended_is in
    let more : SoFar board pair (e ∷ h) (has_ended (e ∷ h) pair.read) = so_far_more board valid pair is e h ended run by.may.1 so.ended_is so.so_far in
    record {
      course_is = subst (λ (g : List Event). IsCourse board g later) (sym same) by.course_is;
      ring_is = ring_is;
      idle_is = subst (λ (g : List Event). KnowsIdle board g later_ring) (sym same) idle_is;
      ended_is = subst (λ (g : List Event). now ≡ has_ended g pair.read) (sym same) has;
      so_far = subst (λ (g : List Event). SoFar board pair g now) (sym same) (subst (λ (b : Bool). SoFar board pair (e ∷ h) b) (sym has) more);
    }

-- less is left behind it
pub left_fell : (board : Board) (events longer : List Event) (e : Event) → longer ≡ events ++ e ∷ []
    → left_of board (e ∷ history_of events) + 1 ≤ left_of board (history_of events) → left_of board (history_of longer) < left_of board (history_of events)
left_fell board events longer e is falls =
    let same : history_of longer ≡ e ∷ history_of events = ap history_of is ∙ history_push events e in
    let fewer : left_of board (e ∷ history_of events) < left_of board (history_of events) = omega (arith, falls) in
    subst (λ (h : List Event). left_of board h < left_of board (history_of events)) (sym same) fewer

-- where nothing may come next and no write is held back the run is complete, and the read read early
pub shows : (board : Board) (pair : Pair) (ring : Ring) (course : Course) (events : List Event) → IsValid board → RunsSoFar board pair ring course events true
    → NothingMayCome board (history_of events) None → LawsOfRun board (history_of events) → IsAdverse board pair.read pair.write events
shows board pair ring course events valid so nothing laws =
    let h : List Event = history_of events in
    let run : Run board h = so.course_is.stands.run in
    let complete : Complete board h =
    ⊎_elim {C = Complete board h} (λ (next : Next board h). (let no : false ≡ true = nothing next.event next.allowed in absurd cc)) (λ complete. complete) (goes_on board h run (Sound-valid board valid)) in
    record {
      runs = record {
        run = run;
        complete = complete;
        matched = laws.matched;
        fresh = laws.fresh;
        as_left = laws.as_left;
        as_held = laws.as_held;
        bound = subst (λ n. n ≤ bound_of board) (length-reverse events) laws.bounded;
      };
      early = so.so_far;
    }

-- and where the write is held back the run waits for it
pub waits : (board : Board) (pair : Pair) (ring : Ring) (course : Course) (events : List Event) → RunsSoFar board pair ring course events false
    → NothingMayCome board (history_of events) (Some pair.write) → MayWait board pair.read pair.write
waits board pair ring course events so nothing =
    (history_of events, record { run = so.course_is.stands.run; not_ended = sym so.ended_is; nothing_else = nothing })
