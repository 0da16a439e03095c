-- What is written of a run so far.
use Rattle.std.proofs.Common.{codes, ◌≡◌, ℕ, ◌+◌, ◌<◌, suc, Bool, List, [], ◌∷◌, ◌++◌, length, take, drop, get_or, reverse, Option, None, refl, sym, ap, subst, ◌∙◌, arith, append_assoc}
use Rattle.std.proofs.lemmas.List.{drop_all, take-append-drop, reverse-append}
use Rattle.std.proofs.Math.Seq.{drop-cons}
use Rattle.board_model.specs.declared.board.Board.{Board}
use Rattle.history_model.specs.declared.event.Event.{Event}
use Rattle.history_model.specs.Runs.{Run, Allowed, history_of}
use Rattle.board_printer.specs.Lines.{Line, line_text, text_of}
use Rattle.board_printer.proofs.LineLemmas.{text_of-append}
use Rattle.law_lanes.proofs.Laws.{Run-before}
use Rattle.judge_lanes.proofs.RoomLemmas.{history_more}
use Rattle.judge_state.specs.State.{KeptState}
use Rattle.run_waves.specs.declared.scene.Scene.{Scene}
use Rattle.run_waves.specs.declared.reading.SignalReading.{SignalReading}
use Rattle.run_waves.specs.declared.signal.Signal.{Signal}
use Rattle.run_waves.specs.Signals.{signals_of}
use Rattle.run_waves.specs.Shown.{Moment, past, beginning, next, ending}
use Rattle.run_waves.specs.Scenes.{Follows, IsAt, ReadsFrom, scene_of}
use Rattle.run_waves.specs.Dump.{time_line, head_lines, value_lines, change_lines, moment_lines, moments, first_lines, dump_lines}

-- after so many events: what is to be written in all
pub record SoFar (board : Board) (events : List Event) (signals : List Signal) (whole text : List ℕ) (shown : List SignalReading) (kept : KeptState) (waiting : List Bool) (scene : Option Scene) (i : ℕ) : Type 0 where
  pub moment : Moment
  pub past_is : past moment ≡ history_of (take i events)
  pub at : IsAt board moment kept waiting scene
  pub reads : ReadsFrom board moment signals shown 0
  pub so_far : text ++ text_of (moments board (i + 1) moment (drop i events)) ≡ whole

-- before the first event
pub first_so_far : (board : Board) (events : List Event) (signals : List Signal) (text : List ℕ) (shown : List SignalReading) (kept : KeptState) (waiting : List Bool) (scene : Option Scene)
    → IsAt board beginning kept waiting scene → ReadsFrom board beginning signals shown 0 → SoFar board events signals (text ++ text_of (moments board 1 beginning events)) text shown kept waiting scene 0
first_so_far board events signals text shown kept waiting scene at reads = record { moment = beginning; past_is = refl; at = at; reads = reads; so_far = refl }

-- what the signals read before the first event, by the program's own board, signals and readings
pub first_reads : (given board : Board) (signals s1 : List Signal) (shown r1 : List SignalReading) (kept : KeptState) (waiting : List Bool) (scene : Option Scene) → given ≡ board → signals ≡ s1 → shown ≡ r1
    → IsAt board beginning kept waiting scene → ((m : Moment) → IsAt given m kept waiting scene → ReadsFrom given m signals shown 0) → ReadsFrom board beginning s1 r1 0
first_reads given board signals s1 shown r1 kept waiting scene same signals_are shown_are at reads =
    let there : IsAt given beginning kept waiting scene = subst (λ (b : Board). IsAt b beginning kept waiting scene) (sym same) at in
    let here : ReadsFrom board beginning signals shown 0 = subst (λ (b : Board). ReadsFrom b beginning signals shown 0) same (reads beginning there) in
    subst (λ (l : List SignalReading). ReadsFrom board beginning s1 l 0) shown_are (subst (λ (l : List Signal). ReadsFrom board beginning l shown 0) signals_are here)

-- the text before the first event, by its parts
first_text : (zero vars : Line) (values : List Line) (end : Line) (rest : List Line) (t1 t2 t3 t4 t5 : List ℕ) → t2 ≡ t1 ++ line_text zero → t3 ≡ t2 ++ line_text vars
    → t4 ≡ t3 ++ text_of values → t5 ≡ t4 ++ line_text end → t5 ++ text_of rest ≡ t1 ++ text_of (zero ∷ vars ∷ (values ++ (end ∷ rest)))
first_text zero vars values end rest t1 t2 t3 t4 t5 two three four five =
    let r5 : List ℕ = text_of (end ∷ rest) in
    let r4 : List ℕ = text_of (values ++ (end ∷ rest)) in
    let r3 : List ℕ = text_of (vars ∷ (values ++ (end ∷ rest))) in
    ap (λ (t : List ℕ). t ++ text_of rest) five ∙ append_assoc t4 (line_text end) (text_of rest)
    ∙ ap (λ (t : List ℕ). t ++ r5) four ∙ append_assoc t3 (text_of values) r5 ∙ ap (λ (t : List ℕ). t3 ++ t) (sym (text_of-append values (end ∷ rest)))
    ∙ ap (λ (t : List ℕ). t ++ r4) three ∙ append_assoc t2 (line_text vars) r4
    ∙ ap (λ (t : List ℕ). t ++ r3) two ∙ append_assoc t1 (line_text zero) r3

pub first_written : (board : Board) (signals : List Signal) (rest : List Line) (t1 t2 t3 t4 t5 : List ℕ) → t2 ≡ t1 ++ line_text (time_line 0) → t3 ≡ t2 ++ line_text (codes "$dumpvars" ∷ [])
    → t4 ≡ t3 ++ text_of (value_lines board beginning 0 signals) → t5 ≡ t4 ++ line_text (codes "$end" ∷ []) → t5 ++ text_of rest ≡ t1 ++ text_of (first_lines board signals rest)
first_written board signals rest t1 t2 t3 t4 t5 two three four five =
    first_text (time_line 0) (codes "$dumpvars" ∷ []) (value_lines board beginning 0 signals) (codes "$end" ∷ []) rest t1 t2 t3 t4 t5 two three four five

-- the head, what is shown before the first event, and what changes at each moment
pub all_written : (board : Board) (events : List Event) (signals : List Signal) (old t1 t5 new : List ℕ) → signals ≡ signals_of board → t1 ≡ old ++ text_of (head_lines board)
    → t5 ++ text_of (moments board 1 beginning events) ≡ t1 ++ text_of (first_lines board signals (moments board 1 beginning events)) → new ≡ t5 ++ text_of (moments board 1 beginning events)
    → new ≡ old ++ text_of (dump_lines board events)
all_written board events signals old t1 t5 new signals_are head first rest =
    let behind : List Line = moments board 1 beginning events in
    let body : List Line = first_lines board (signals_of board) behind in
    rest ∙ first ∙ ap (λ (l : List Signal). t1 ++ text_of (first_lines board l behind)) signals_are ∙ ap (λ (t : List ℕ). t ++ text_of body) head ∙ append_assoc old (text_of (head_lines board)) (text_of body)
    ∙ ap (λ (t : List ℕ). old ++ t) (sym (text_of-append (head_lines board) body))

-- the first events of a run are a run
pub first_run : (board : Board) (events : List Event) (i : ℕ) → Run board (history_of events) → Run board (history_of (take i events))
first_run board events i run =
    let turned : history_of events ≡ reverse (drop i events) ++ history_of (take i events) =
    ap (λ (xs : List Event). reverse xs) (sym (take-append-drop i events)) ∙ reverse-append (take i events) (drop i events) in
    Run-before board (reverse (drop i events)) (history_of (take i events)) (subst (Run board) turned run)

-- each event is allowed after those before it
pub allowed_next : (board : Board) (events : List Event) (i : ℕ) (d : Event) (before : List Event) → Run board (history_of events) → i < length events → before ≡ history_of (take i events) → Allowed board before (get_or events i d)
allowed_next board events i d before run within is =
    let e : Event = get_or events i d in
    let both : Run board (e ∷ history_of (take i events)) = subst (Run board) (history_more events i d within) (first_run board events (i + 1) run) in
    subst (λ (h : List Event). Allowed board h e) (sym is) both.0

-- one event more
so_far_next : (board : Board) (events : List Event) (signals : List Signal) (whole text longer : List ℕ) (shown changed : List SignalReading) (kept after : KeptState) (waiting later : List Bool) (scene now : Option Scene) (i : ℕ) (d : Event)
    → (so : SoFar board events signals whole text shown kept waiting scene i) → i < length events → signals ≡ signals_of board
    → IsAt board (next so.moment (get_or events i d)) after later now → ReadsFrom board (next so.moment (get_or events i d)) signals changed 0
    → longer ≡ text ++ text_of (time_line (i + 1) ∷ change_lines board so.moment (next so.moment (get_or events i d)) 0 signals)
    → SoFar board events signals whole longer changed after later now (i + 1)
so_far_next board events signals whole text longer shown changed kept after waiting later scene now i d so within signals_are at reads is =
    let e : Event = get_or events i d in
    let m : Moment = so.moment in
    let to : Moment = next m e in
    let lines : List Line = moment_lines board (i + 1) m to in
    let number : suc i ≡ i + 1 = omega arith in
    let rest : List Line = moments board ((i + 1) + 1) to (drop (i + 1) events) in
    let split : text_of (moments board (i + 1) m (drop i events)) ≡ text_of lines ++ text_of rest =
    ap (λ (l : List Event). text_of (moments board (i + 1) m l)) (drop-cons events i d within) ∙ ap (λ (n : ℕ). text_of (lines ++ moments board ((i + 1) + 1) to (drop n events))) number ∙ text_of-append lines rest in
    let written : longer ≡ text ++ text_of lines = is ∙ ap (λ (l : List Signal). text ++ text_of (time_line (i + 1) ∷ change_lines board m to 0 l)) signals_are in
    record {
      moment = to;
      past_is = ap (λ (h : List Event). e ∷ h) so.past_is ∙ sym (history_more events i d within);
      at = at;
      reads = reads;
      so_far = ap (λ (t : List ℕ). t ++ text_of rest) written ∙ append_assoc text (text_of lines) (text_of rest) ∙ ap (λ (t : List ℕ). text ++ t) (sym split) ∙ so.so_far;
    }

-- nothing happens any more
pub at_rest : (board : Board) (m : Moment) (kept after : KeptState) (waiting later : List Bool) (scene now : Option Scene) → IsAt board m kept waiting scene → after ≡ kept → later ≡ waiting → now ≡ None
    → IsAt board (ending m) after later now
at_rest board m kept after waiting later scene now at kept_is waits_are none =
    let there : IsAt board (ending m) kept waiting now = record { stands = at.stands; masters = at.masters; waiting_is = at.waiting_is; scene_is = none } in
    subst (λ (k : KeptState). IsAt board (ending m) k later now) (sym kept_is) (subst (λ (l : List Bool). IsAt board (ending m) kept l now) (sym waits_are) there)

-- all of it
so_far_all : (board : Board) (events : List Event) (signals : List Signal) (whole text longer : List ℕ) (shown : List SignalReading) (kept : KeptState) (waiting : List Bool) (scene : Option Scene) (i : ℕ)
    → (so : SoFar board events signals whole text shown kept waiting scene i) → length events ≡ i → signals ≡ signals_of board
    → longer ≡ text ++ text_of (time_line (i + 1) ∷ change_lines board so.moment (ending so.moment) 0 signals) → longer ≡ whole
so_far_all board events signals whole text longer shown kept waiting scene i so all signals_are is =
    let m : Moment = so.moment in
    let none : drop i events ≡ [] = drop_all i events (omega arith) in
    is ∙ ap (λ (l : List Signal). text ++ text_of (time_line (i + 1) ∷ change_lines board m (ending m) 0 l)) signals_are
    ∙ ap (λ (l : List Event). text ++ text_of (moments board (i + 1) m l)) (sym none) ∙ so.so_far

-- the same, of what the program has of them: its board, its signals and its readings

-- what a moment writes
abbrev Writes : Board → List Signal → Option Scene → List SignalReading → KeptState → List Bool → Option Scene → ℕ → List ℕ → List ℕ → Type 0
Writes board signals from shown kept waiting scene n text longer =
    (before after : Moment) → Follows before after → from ≡ scene_of board before → ReadsFrom board before signals shown 0 → IsAt board after kept waiting scene → longer ≡ text ++ text_of (time_line n ∷ change_lines board before after 0 signals)

abbrev Tells : Board → List Signal → Option Scene → List SignalReading → List SignalReading → KeptState → List Bool → Option Scene → Type 0
Tells board signals from shown changed kept waiting scene =
    (before after : Moment) → Follows before after → from ≡ scene_of board before → ReadsFrom board before signals shown 0 → IsAt board after kept waiting scene → ReadsFrom board after signals changed 0

pub next_so_far : (given board : Board) (events : List Event) (signals s1 : List Signal) (whole text longer : List ℕ) (shown changed : List SignalReading) (kept after : KeptState) (waiting later : List Bool) (scene from now : Option Scene) (i : ℕ) (d : Event)
    → (so : SoFar board events signals whole text shown kept waiting scene i) → i < length events → given ≡ board → s1 ≡ signals → signals ≡ signals_of given → from ≡ scene
    → IsAt board (next so.moment (get_or events i d)) after later now → Writes given s1 from shown after later now (i + 1) text longer → Tells given s1 from shown changed after later now
    → SoFar board events signals whole longer changed after later now (i + 1)
next_so_far given board events signals s1 whole text longer shown changed kept after waiting later scene from now i d so within same s1_is signals_are from_is at writes tells =
    let to : Moment = next so.moment (get_or events i d) in
    let w1 : Writes board s1 from shown after later now (i + 1) text longer = subst (λ (b : Board). Writes b s1 from shown after later now (i + 1) text longer) same writes in
    let w2 : Writes board signals from shown after later now (i + 1) text longer = subst (λ (l : List Signal). Writes board l from shown after later now (i + 1) text longer) s1_is w1 in
    let r1 : Tells board s1 from shown changed after later now = subst (λ (b : Board). Tells b s1 from shown changed after later now) same tells in
    let r2 : Tells board signals from shown changed after later now = subst (λ (l : List Signal). Tells board l from shown changed after later now) s1_is r1 in
    let scene_is : from ≡ scene_of board so.moment = from_is ∙ so.at.scene_is in
    so_far_next board events signals whole text longer shown changed kept after waiting later scene now i d so within (signals_are ∙ ap signals_of same) at (r2 so.moment to refl scene_is so.reads at) (w2 so.moment to refl scene_is so.reads at)

pub all_so_far : (given board : Board) (events : List Event) (signals s1 : List Signal) (whole text longer : List ℕ) (shown : List SignalReading) (kept after : KeptState) (waiting later : List Bool) (scene from now : Option Scene) (i n : ℕ)
    → (so : SoFar board events signals whole text shown kept waiting scene i) → length events ≡ i → n ≡ i + 1 → given ≡ board → s1 ≡ signals → signals ≡ signals_of given → from ≡ scene → after ≡ kept → later ≡ waiting → now ≡ None
    → Writes given s1 from shown after later now n text longer → longer ≡ whole
all_so_far given board events signals s1 whole text longer shown kept after waiting later scene from now i n so all number same s1_is signals_are from_is kept_is waits_are none writes =
    let at : IsAt board (ending so.moment) after later now = at_rest board so.moment kept after waiting later scene now so.at kept_is waits_are none in
    let w1 : Writes board s1 from shown after later now n text longer = subst (λ (b : Board). Writes b s1 from shown after later now n text longer) same writes in
    let w2 : Writes board signals from shown after later now n text longer = subst (λ (l : List Signal). Writes board l from shown after later now n text longer) s1_is w1 in
    so_far_all board events signals whole text longer shown kept waiting scene i so all (signals_are ∙ ap signals_of same)
    (w2 so.moment (ending so.moment) refl (from_is ∙ so.at.scene_is) so.reads at ∙ ap (λ (k : ℕ). text ++ text_of (time_line k ∷ change_lines board so.moment (ending so.moment) 0 signals)) number)
