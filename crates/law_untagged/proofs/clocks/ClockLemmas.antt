-- A master knows of a write exactly where its number for the write's author is above the write's.
use Rattle.std.proofs.Common.{◌≡◌, ℕ, max, Bool, true, false, ◌&&◌, ◌||◌, ◌==◌, cond, eqb, eqb-true, nat_lt, List, [], ◌∷◌, ◌++◌, length, Option, Some, None, is_some, refl, sym, ap, subst, ◌∙◌, arith}
use Rattle.std.specs.List.{list_any}
use Rattle.std.proofs.lemmas.Bool.{or_left, or_right}
use Rattle.std.proofs.lemmas.Bool.Decides.{nat_tests}
use Rattle.std.proofs.Math.Bool.{or-false}
use Rattle.list_facts.specs.Lists.{greatest}
use Rattle.list_facts.proofs.EachLemmas.{Each-weaker}
use Rattle.pci_command.specs.declared.op_id.OpId.{OpId}
use Rattle.pci_command.specs.Same.{same_op}
use Rattle.board_model.specs.declared.board.Board.{Board}
use Rattle.history_model.specs.declared.event.By.TheVariants.{Master, Lane as ByLane}
use Rattle.history_model.specs.declared.event.Event.{Event}
use Rattle.history_model.specs.declared.event.Event.TheVariants.{Act, Arrive}
use Rattle.history_model.specs.declared.rule.Rule.TheVariants.{Untagged}
use Rattle.history_model.specs.Program.{Ending, ended, turn_of}
use Rattle.history_model.specs.Words.{Landing, landed}
use Rattle.history_model.specs.Knowledge.{Reading, has_landed, has_ended}
use Rattle.history_model.proofs.facts.RequestLemmas.{same_op_true}
use Rattle.history_model.proofs.facts.WantsLemmas.{wants-turn}
use Rattle.law_untagged.specs.Untagged.{UntaggedRun}
use Rattle.law_untagged.specs.Origins.{ending_reading}
use Rattle.law_untagged.specs.Heard.{Since, is_behind, knows, speaks, heard, first_known, untagged_since}
use Rattle.law_untagged.proofs.HeardLemmas.{knows_front, knew_front, heard_before, heard_after, since_behind}
use Rattle.law_untagged.proofs.ToldLemmas.{write_from}
use Rattle.law_audit.specs.Clocks.{own, reaches}
use Rattle.law_audit.proofs.ClockLemmas.{bool_same, or_comm, lt_none, lt_max, lt_greatest, any_same, own_parts, own_same}
use Rattle.law_fresh.proofs.Laws.{WriteOp, turns_ended, IsBehind, Begun, Begun-turn, ends_turn, Begun-kept, Front, front_self, front_more, run_turns, or_either}
use Rattle.law_untagged.specs.clocks.Clocks.{Clocks, number_in, landing_tells, reads_at, told_by, got_tells, known_after, first_start, clocks_of}
use Rattle.law_untagged.proofs.clocks.NamedLemmas.{Started, landings_started}
use Rattle.law_untagged.proofs.clocks.ReadLemmas.{IsRead, ending_read}

more_than : (later : List Event) (e : Event) (before : List Event) → nat_lt (length before) (length (later ++ e ∷ before)) ≡ true
more_than [] e before = grind (arith, nat_tests)
more_than (f ∷ later) e before = let older = more_than later e before in grind (arith, nat_tests)

module _ (board : Board) (w : OpId) (write : WriteOp board w) where
  -- where a master's turn is behind the write, the master knows it
  own_knows : (h : List Event) (o : OpId) → UntaggedRun board h → turn_of board h o.master ≡ Some o → reaches (own o) w ≡ true → (is_some (untagged_since board w h o.master) || same_op o w) ≡ true
  own_knows h o run turn is =
      let since : Since = untagged_since board w h in
      let parts = own_parts w o is in
      let P : Bool → Type 0 = λ b. same_op o w ≡ b → (is_some (since o.master) || b) ≡ true in
      (elim (same_op o w) as P [
        | true ↦ λ _. or_right (is_some (since o.master)) true refl
        | false ↦ λ other.
            let ended_it : has_ended h w ≡ true = turns_ended board w write h o (run_turns Untagged board h run) turn parts.0 parts.1 other in
            let from = write_from board w h run ended_it in
            let some : is_some (since w.master) ≡ true = ap is_some from.is in
            or_left (is_some (since o.master)) false (subst (λ m. is_some (since m) ≡ true) (sym parts.0) some)
      ]) refl

  -- the turn knows what its master knows
  pub turn_knows : (h : List Event) (o : OpId) → UntaggedRun board h → turn_of board h o.master ≡ Some o → knows (untagged_since board w h) o ≡ is_some (untagged_since board w h o.master)
  turn_knows h o run turn =
      let since : Since = untagged_since board w h in
      let P : Option OpId → Type 0 = λ found. since o.master ≡ found → is_behind found o ≡ is_some found in
      (elim (since o.master) as P [
        | None ↦ λ _. refl
        | Some p ↦ λ is. subst (IsBehind p) turn (since_behind board w h o.master p run is).1
      ]) refl

  -- what an operation that began knows it knows later, and nothing more
  pub knows_same : (before h : List Event) (q : OpId) → Front before h → UntaggedRun board h → Begun board before q → knows (untagged_since board w h) q ≡ knows (untagged_since board w before) q
  knows_same before h q front run begun =
      bool_same (knows (untagged_since board w h) q) (knows (untagged_since board w before) q) (knew_front board w before h q front run begun) (knows_front board w before h q front)

  -- and what a reading tells
  pub heard_same : (before h : List Event) (reading : Reading) → Front before h → Front reading.before before → UntaggedRun board h → heard board w (untagged_since board w h) (Some reading) ≡ heard board w (untagged_since board w before) (Some reading)
  heard_same before h reading front inner run =
      bool_same (heard board w (untagged_since board w h) (Some reading)) (heard board w (untagged_since board w before) (Some reading))
      (heard_before board w before h reading front inner run) (heard_after board w before h reading front)

  -- what an operation knew as its master first presented it
  record StartLaw (h : List Event) (q : OpId) (start : ℕ → ℕ) : Type 0 where
    begun : Begun board h q
    law : (knows (untagged_since board w h) q || same_op q w) ≡ (reaches start w || reaches (own q) w)

  pub record Law (h : List Event) : Type 0 where
    pub known : (master : ℕ) → is_some (untagged_since board w h master) ≡ reaches ((clocks_of board h).known master) w
    starts : (q : OpId) (start : ℕ → ℕ) → (clocks_of board h).start q ≡ Some start → StartLaw h q start
    told : (reading : Reading) → IsRead board h reading → heard board w (untagged_since board w h) (Some reading) ≡ reaches ((clocks_of board h).told (length reading.before)) w

  module _ (e : Event) (h : List Event) (run : UntaggedRun board (e ∷ h)) (old : Law h) where
    abbrev one_more : Front h (e ∷ h)
    one_more = front_more h h e (front_self h)

    law_kept : (q : OpId) (start : ℕ → ℕ) → StartLaw h q start → StartLaw (e ∷ h) q start
    law_kept q start was = record {
      begun = Begun-kept Untagged board e h q run was.begun;
      law = ap (λ b. b || same_op q w) (knows_same h (e ∷ h) q one_more run was.begun) ∙ was.law;
    }

    -- as a master first presents an operation
    presented_law : (o : OpId) → turn_of board h o.master ≡ Some o → StartLaw (e ∷ h) o ((clocks_of board h).known o.master)
    presented_law o turn =
        let begun : Begun board h o = Begun-turn board h o turn in
        let now : Bool = knows (untagged_since board w (e ∷ h)) o in
        let some : Bool = is_some (untagged_since board w h o.master) in
        let stable : now ≡ some = knows_same h (e ∷ h) o one_more run begun ∙ turn_knows h o run.1 turn in
        let starts_it : Bool = reaches ((clocks_of board h).known o.master) w in
        let same_start : some ≡ starts_it = old.known o.master in
        record {
          begun = Begun-kept Untagged board e h o run begun;
          law = bool_same (now || same_op o w) (starts_it || reaches (own o) w)
              (λ is. or_either ((starts_it || reaches (own o) w) ≡ true) now (same_op o w)
              (λ known. or_left starts_it (reaches (own o) w) (sym same_start ∙ (sym stable ∙ known)))
              (λ same. or_right starts_it (reaches (own o) w) (own_same w o same)) is)
              (λ is. or_either ((now || same_op o w) ≡ true) starts_it (reaches (own o) w)
              (λ known. or_left now (same_op o w) (stable ∙ (same_start ∙ known)))
              (λ is_own. or_either ((now || same_op o w) ≡ true) some (same_op o w) (λ f. or_left now (same_op o w) (stable ∙ f)) (λ f. or_right now (same_op o w) f) (own_knows h o run.1 turn is_own)) is);
        }

    -- a landing tells of the write where it speaks of it
    landing_law : (before : List Event) (l : Landing) → Started board h l.op → speaks w (untagged_since board w h) before l ≡ nat_lt w.index (landing_tells (clocks_of board h) before w.master l)
    landing_law before l started =
        let since : Since = untagged_since board w h in
        let found : Option (ℕ → ℕ) = (clocks_of board h).start l.op in
        let mine : ℕ = own l.op w.master in
        let Q : Option (ℕ → ℕ) → Type 0 = λ start. found ≡ start → is_some start ≡ true → (knows since l.op || same_op l.op w) ≡ (nat_lt w.index (number_in start w.master) || nat_lt w.index mine) in
        let law : (knows since l.op || same_op l.op w) ≡ (nat_lt w.index (number_in found w.master) || nat_lt w.index mine) = (elim found as Q [ None ↦ λ _ f. cc | Some start ↦ λ is _. (old.starts l.op start is).law ]) refl started in
        let P : Bool → Type 0 = λ b. (b && (same_op l.op w || knows since l.op)) ≡ nat_lt w.index (cond b (max (number_in found w.master) mine) 0) in
        elim (has_landed before l.op) as P [
          | true ↦ or_comm (same_op l.op w) (knows since l.op) ∙ law ∙ sym (lt_max w.index (number_in found w.master) mine)
          | false ↦ sym (lt_none w.index)
        ]

    -- what is read at the event
    word_law : (reading : Reading) → reading.before ≡ h → heard board w (untagged_since board w h) (Some reading) ≡ nat_lt w.index (greatest (landing_tells (clocks_of board h) h w.master) (landed board h reading.word))
    word_law reading before =
        let since : Since = untagged_since board w h in
        let landings : List Landing = landed board h reading.word in
        let tells : Landing → ℕ = landing_tells (clocks_of board h) h w.master in
        ap (λ g. list_any (speaks w since g) (landed board g reading.word)) before
        ∙ any_same (speaks w since h) (λ l. nat_lt w.index (tells l)) landings
        (Each-weaker (λ (l : Landing). Started board h l.op) (λ l. speaks w since h l ≡ nat_lt w.index (tells l)) (λ l started. landing_law h l started) landings (landings_started board h reading.word run.1))
        ∙ sym (lt_greatest w.index tells landings)

    -- a reading is of this event, or of an earlier one
    told_now : (reading : Reading) → IsRead board (e ∷ h) reading → heard board w (untagged_since board w h) (Some reading) ≡ reaches ((clocks_of board (e ∷ h)).told (length reading.before)) w
    told_now reading it = by_front it.front.later it.front.is
      where
        before_of : List Event → List Event
        before_of [] = []
        before_of (f ∷ g) = g

        event_of : List Event → Event
        event_of [] = e
        event_of (f ∷ g) = f

        clocks : Clocks
        clocks = clocks_of board h

        Goal : Type 0
        Goal = heard board w (untagged_since board w h) (Some reading) ≡ reaches (told_by board (clocks_of board h) h (reads_at board h e) (length reading.before)) w

        by_front : (later : List Event) → later ++ (it.event ∷ reading.before) ≡ e ∷ h → Goal
        by_front [] is =
            let before : reading.before ≡ h = ap before_of is in
            let event : it.event ≡ e = ap event_of is in
            let read : reads_at board h e ≡ Some reading = subst (λ f. reads_at board h f ≡ Some reading) event (subst (λ g. reads_at board g it.event ≡ Some reading) before it.reads_it) in
            let self : (length reading.before == length h) ≡ true = subst (λ g. (length reading.before == length g) ≡ true) before (grind (arith, nat_tests)) in
            let F : Option Reading → Type 0 = λ found. heard board w (untagged_since board w h) (Some reading) ≡ reaches (told_by board (clocks_of board h) h found (length reading.before)) w in
            let there : F (Some reading) = rw self (word_law reading before) in
            subst F (sym read) there
        by_front (f ∷ later) is =
            let rest : later ++ (it.event ∷ reading.before) ≡ h = ap before_of is in
            let older : IsRead board h reading = record { event = it.event; front = record { later = later; is = rest }; reads_it = it.reads_it } in
            let below : nat_lt (length reading.before) (length h) ≡ true = subst (λ g. nat_lt (length reading.before) (length g) ≡ true) rest (more_than later it.event reading.before) in
            let other : (length reading.before == length h) ≡ false = grind (arith, nat_tests) in
            let was = old.told reading older in
            let F : Option Reading → Type 0 = λ found. heard board w (untagged_since board w h) (Some reading) ≡ reaches (told_by board (clocks_of board h) h found (length reading.before)) w in
            elim (reads_at board h e) as F [ None ↦ was | Some found ↦ rw other was ]

    -- what an event gives to the read that it ends
    pub got_law : heard board w (untagged_since board w h) (ending_reading board h e) ≡ nat_lt w.index (got_tells ((clocks_of board (e ∷ h)).told) (ending_reading board h e) w.master)
    got_law =
        let P : Option Reading → Type 0 = λ found. ending_reading board h e ≡ found → heard board w (untagged_since board w h) found ≡ nat_lt w.index (got_tells ((clocks_of board (e ∷ h)).told) found w.master) in
        (elim (ending_reading board h e) as P [ None ↦ λ _. sym (lt_none w.index) | Some reading ↦ λ is. told_now reading (ending_read board h e reading is) ]) refl

    first_some : (since : Option OpId) (master : ℕ) (heard_it : Bool) (ending : Ending) → is_some (first_known since master w heard_it (Some ending)) ≡ (is_some since || ((ending.op.master == master) && (same_op ending.op w || heard_it)))
    first_some (Some p) master heard_it ending = refl
    first_some None master heard_it ending =
        let P : Bool → Type 0 = λ b. is_some (cond b (Some ending.op) None) ≡ b in
        elim ((ending.op.master == master) && (same_op ending.op w || heard_it)) as P [ true ↦ refl | false ↦ refl ]

    -- a master whose operation ended
    ending_law : (master : ℕ) (heard_it : Bool) (tells : ℕ → ℕ) (ending : Ending) → turn_of board h ending.op.master ≡ Some ending.op → heard_it ≡ nat_lt w.index (tells w.master)
        → is_some (first_known (untagged_since board w h master) master w heard_it (Some ending)) ≡ nat_lt w.index (known_after master ((clocks_of board h).known master) tells (Some ending) w.master)
    ending_law master heard_it tells ending turn alike =
        let since : Option OpId = untagged_since board w h master in
        let o : OpId = ending.op in
        let some : Bool = is_some since in
        let k : ℕ = (clocks_of board h).known master w.master in
        let v : ℕ = tells w.master in
        let mine : ℕ = own o w.master in
        let was : some ≡ nat_lt w.index k = old.known master in
        let P : Bool → Type 0 = λ b. eqb o.master master ≡ b → (some || (b && (same_op o w || heard_it))) ≡ nat_lt w.index (cond b (max (max k v) mine) k) in
        first_some since master heard_it ending ∙ (elim (eqb o.master master) as P [
          | true ↦ λ same.
              let masters : o.master ≡ master = eqb-true o.master master same in
              let by_max : nat_lt w.index (max (max k v) mine) ≡ ((nat_lt w.index k || nat_lt w.index v) || nat_lt w.index mine) = lt_max w.index (max k v) mine ∙ ap (λ b. b || nat_lt w.index mine) (lt_max w.index k v) in
              let right : nat_lt w.index (max (max k v) mine) ≡ ((some || heard_it) || nat_lt w.index mine) = by_max ∙ ap (λ b. (b || nat_lt w.index v) || nat_lt w.index mine) (sym was) ∙ ap (λ b. (some || b) || nat_lt w.index mine) (sym alike) in
              bool_same (some || (same_op o w || heard_it)) ((some || heard_it) || nat_lt w.index mine)
              (λ is. or_either (((some || heard_it) || nat_lt w.index mine) ≡ true) some (same_op o w || heard_it)
              (λ f. or_left (some || heard_it) (nat_lt w.index mine) (or_left some heard_it f))
              (λ f. or_either (((some || heard_it) || nat_lt w.index mine) ≡ true) (same_op o w) heard_it
              (λ g. or_right (some || heard_it) (nat_lt w.index mine) (own_same w o g))
              (λ g. or_left (some || heard_it) (nat_lt w.index mine) (or_right some heard_it g)) f) is)
              (λ is. or_either ((some || (same_op o w || heard_it)) ≡ true) (some || heard_it) (nat_lt w.index mine)
              (λ f. or_either ((some || (same_op o w || heard_it)) ≡ true) some heard_it (λ g. or_left some (same_op o w || heard_it) g) (λ g. or_right some (same_op o w || heard_it) (or_right (same_op o w) heard_it g)) f)
              (λ f.
              let knows_it : (is_some (untagged_since board w h o.master) || same_op o w) ≡ true = own_knows h o run.1 turn f in
              or_either ((some || (same_op o w || heard_it)) ≡ true) (is_some (untagged_since board w h o.master)) (same_op o w)
              (λ g. or_left some (same_op o w || heard_it) (subst (λ m. is_some (untagged_since board w h m) ≡ true) masters g))
              (λ g. or_right some (same_op o w || heard_it) (or_left (same_op o w) heard_it g)) knows_it) is)
              ∙ sym right
          | false ↦ λ _. or-false some ∙ was
        ]) refl

    known_law : (master : ℕ) → is_some (untagged_since board w (e ∷ h) master) ≡ reaches ((clocks_of board (e ∷ h)).known master) w
    known_law master =
        let since : Option OpId = untagged_since board w h master in
        let heard_it : Bool = heard board w (untagged_since board w h) (ending_reading board h e) in
        let tells : ℕ → ℕ = got_tells ((clocks_of board (e ∷ h)).told) (ending_reading board h e) in
        let P : Option Ending → Type 0 = λ found. ended e ≡ found → is_some (first_known since master w heard_it found) ≡ nat_lt w.index (known_after master ((clocks_of board h).known master) tells found w.master) in
        let S : Option OpId → Type 0 = λ found. is_some (first_known found master w heard_it None) ≡ is_some found in
        (elim (ended e) as P [
          | None ↦ λ _. (elim since as S [ None ↦ refl | Some p ↦ refl ]) ∙ old.known master
          | Some ending ↦ λ is. ending_law master heard_it tells ending (ends_turn Untagged board e h ending run is) got_law
        ]) refl

  starts_law : (e : Event) (h : List Event) → UntaggedRun board (e ∷ h) → Law h → (q : OpId) (start : ℕ → ℕ) → (clocks_of board (e ∷ h)).start q ≡ Some start → StartLaw (e ∷ h) q start
  starts_law (Act on Master o step place) h run old q start is =
      let e : Event = Act on Master o step place in
      let clocks : Clocks = clocks_of board h in
      let turn : turn_of board h o.master ≡ Some o = wants-turn board h on o run.0.0 in
      let P : Bool → Type 0 = λ b. same_op o q ≡ b → cond b (first_start (clocks.start q) (clocks.known q.master)) (clocks.start q) ≡ Some start → StartLaw (e ∷ h) q start in
      let Q : Option (ℕ → ℕ) → Type 0 = λ found. clocks.start q ≡ found → first_start found (clocks.known q.master) ≡ Some start → StartLaw (e ∷ h) q start in
      let G : Option (ℕ → ℕ) → Type 0 = λ found. (x : ℕ → ℕ) → found ≡ Some x → StartLaw (e ∷ h) q x in
      (elim (same_op o q) as P [
        | true ↦ λ same f. (elim (clocks.start q) as Q [
          | None ↦ λ _ g.
              let there : StartLaw (e ∷ h) q (clocks.known q.master) = subst (λ p. StartLaw (e ∷ h) p (clocks.known p.master)) (same_op_true o q same) (presented_law e h run old o turn) in
              subst (StartLaw (e ∷ h) q) (some_same g) there
          | Some first ↦ λ was g. law_kept e h run old q start (old.starts q start (was ∙ g))
        ]) refl f
        | false ↦ λ _ f. law_kept e h run old q start (old.starts q start f)
      ]) refl is
    where
      start_in : Option (ℕ → ℕ) → ℕ → ℕ
      start_in None = start
      start_in (Some x) = x

      some_same : {a b : ℕ → ℕ} → Some a ≡ Some b → a ≡ b
      some_same same = ap start_in same
  starts_law (Act on (ByLane k) o step place) h run old q start is = law_kept (Act on (ByLane k) o step place) h run old q start (old.starts q start is)
  starts_law (Arrive lane mark) h run old q start is = law_kept (Arrive lane mark) h run old q start (old.starts q start is)

  told_law : (e : Event) (h : List Event) → UntaggedRun board (e ∷ h) → Law h → (reading : Reading) → IsRead board (e ∷ h) reading → heard board w (untagged_since board w (e ∷ h)) (Some reading) ≡ reaches ((clocks_of board (e ∷ h)).told (length reading.before)) w
  told_law e h run old reading it =
      let one : Front h (e ∷ h) = front_more h h e (front_self h) in
      heard_same h (e ∷ h) reading one (inner it.front.later it.front.is) run ∙ told_now e h run old reading it
    where
      rest_of : List Event → List Event
      rest_of [] = []
      rest_of (f ∷ g) = g

      inner : (later : List Event) → later ++ (it.event ∷ reading.before) ≡ e ∷ h → Front reading.before h
      inner [] is = subst (λ g. Front g h) (sym (ap rest_of is)) (front_self h)
      inner (f ∷ later) is = subst (λ g. Front reading.before g) (ap rest_of is) (front_along later)
        where
          front_along : (later : List Event) → Front reading.before (later ++ (it.event ∷ reading.before))
          front_along [] = front_more reading.before reading.before it.event (front_self reading.before)
          front_along (g ∷ later) = front_more reading.before (later ++ (it.event ∷ reading.before)) g (front_along later)

  pub Law-run : (h : List Event) → UntaggedRun board h → Law h
  Law-run [] run = record { known = λ master. sym (lt_none w.index); starts = λ q start is. cc; told = λ reading it. absurd (nothing_read reading.before it.front.later it.event it.front.is) }
    where
      nothing_read : (before : List Event) (later : List Event) (e : Event) → later ++ (e ∷ before) ≡ [] → ⊥
      nothing_read before [] e is = cc
      nothing_read before (f ∷ later) e is = cc
  Law-run (e ∷ h) run =
      let old : Law h = Law-run h run.1 in
      record {
        known = λ master. known_law e h run old master;
        starts = λ q start is. starts_law e h run old q start is;
        told = λ reading it. told_law e h run old reading it;
      }
