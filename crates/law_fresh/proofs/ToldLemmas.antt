-- Who was told of a write knows of it.
use Rattle.std.proofs.Common.{◌≡◌, ℕ, Bool, true, false, ◌&&◌, ◌||◌, cond, eqb, List, [], ◌∷◌, ◌++◌, append_assoc, Option, Some, None, is_some, refl, sym, ap, subst, ◌∙◌}
use Rattle.std.specs.List.{list_any}
use Rattle.list_facts.proofs.EachLemmas.{Each-find}
use Rattle.list_facts.proofs.FindLemmas.{find_passes}
use Rattle.pci_command.specs.declared.request.Request.{Request}
use Rattle.pci_command.specs.declared.op_id.OpId.{OpId}
use Rattle.pci_command.specs.Same.{same_op}
use Rattle.board_model.specs.declared.bridge.Place.{Place}
use Rattle.board_model.specs.declared.bridge.Place.TheVariants.{Target, Header, Lane, Nobody}
use Rattle.board_model.specs.declared.board.Board.{Board}
use Rattle.board_model.specs.Requests.{op_of, request_of, reads}
use Rattle.history_model.specs.declared.event.Step.{Step}
use Rattle.history_model.specs.declared.event.Step.TheVariants.{Land, Part, Read, Accept, Latch, Take, Stall, MasterAbort, TargetAbort}
use Rattle.history_model.specs.declared.event.Event.{Event}
use Rattle.history_model.specs.declared.event.Event.TheVariants.{Act, Arrive}
use Rattle.history_model.specs.declared.rule.Rule.TheVariants.{Tagged}
use Rattle.history_model.specs.Words.{landed}
use Rattle.history_model.specs.Knowledge.{Reading, ends_with, has_ended, reading_of, reading_at, reading_by, reading_in, reading_or, last_reading, up_to_end, has_landed, is_landing_of, saw_in, saw, stands_after, later, tells, Chain, one, more}
use Rattle.history_model.specs.Runs.{Run}
use Rattle.std.proofs.lemmas.Bool.{and_parts, or_left, or_right}
use Rattle.law_fresh.specs.Aware.{Aware, knows, shows, shown, taught_by, aware_of}
use Rattle.law_fresh.proofs.ListLemmas.{or_either}
use Rattle.law_fresh.proofs.BehindLemmas.{Begun, Begun-kept}
use Rattle.law_fresh.proofs.BegunLemmas.{LandingBegun, LandingsBegun-run}
use Rattle.law_fresh.proofs.AwareLemmas.{knew}
use Rattle.law_fresh.proofs.SinceLemmas.{Since, write_since, got_since, since_knows, knows_later}
use Rattle.law_fresh.proofs.TaughtLemmas.{taught_read}
use Rattle.law_lanes.proofs.Laws.{Run-before}
use Rattle.history_model.proofs.facts.RequestLemmas.{same_op_true, same_op_self}
use Rattle.list_facts.proofs.AnyLemmas.{any_some, found_any}
use Rattle.law_fresh.proofs.reads.Laws.{no_reading}
use Rattle.law_fresh.proofs.LandLemmas.{landed_writes}

-- A history is the end of a longer one.
pub record Front (before h : List Event) : Type 0 where
  pub later : List Event
  pub is : later ++ before ≡ h

pub front_run : (board : Board) (before h : List Event) → Front before h → Run board h → Run board before
front_run board before h front run = Run-before board front.later before (subst (Run board) (sym front.is) run)

pub front_self : (h : List Event) → Front h h
front_self h = record { later = []; is = refl }

pub front_more : (before h : List Event) (e : Event) → Front before h → Front before (e ∷ h)
front_more before h e front = record { later = e ∷ front.later; is = ap (λ g. e ∷ g) front.is }

pub front_front : (a b c : List Event) → Front a b → Front b c → Front a c
front_front a b c first second =
    record { later = second.later ++ first.later; is = append_assoc second.later first.later a ∙ ap (λ g. second.later ++ g) first.is ∙ second.is }

pub front_end : (r : OpId) (h : List Event) → Front (up_to_end r h) h
front_end r [] = record { later = []; is = refl }
front_end r (e ∷ h) =
    let P : Bool → Type 0 = λ b. Front (cond b (e ∷ h) (up_to_end r h)) (e ∷ h) in
    elim (is_some (ends_with r e)) as P [ true ↦ record { later = []; is = refl } | false ↦ front_more (up_to_end r h) h e (front_end r h) ]

-- What an operation that began knows at the end it knew from its beginning on.
knew_along : (board : Board) (w : OpId) (q : OpId) (later before : List Event) → Run board (later ++ before) → Begun board before q → Begun board (later ++ before) q × (knows (aware_of board w (later ++ before)) q ≡ true → knows (aware_of board w before) q ≡ true)
knew_along board w q [] before run begun = (begun, λ is. is)
knew_along board w q (e ∷ later) before run begun =
    let rest = knew_along board w q later before run.1 begun in
    (Begun-kept Tagged board e (later ++ before) q run rest.0, λ is. rest.1 (knew board w e (later ++ before) q run rest.0 is))

pub knew_before : (board : Board) (w : OpId) (q : OpId) (before h : List Event) → Front before h → Run board h → Begun board before q → knows (aware_of board w h) q ≡ true → knows (aware_of board w before) q ≡ true
knew_before board w q before h front run begun is =
    (knew_along board w q front.later before (subst (Run board) (sym front.is) run) begun).1 (subst (λ g. knows (aware_of board w g) q ≡ true) (sym front.is) is)

-- What was read, and when.

-- a reading is of the history before its event
before_of : (target value : ℕ) (h : List Event) (request : Option Request) (reading : Reading) → reading_of target value h request ≡ Some reading → reading.before ≡ h
before_of target value h None reading is = cc
before_of target value h (Some request) reading is = sym (ap before_or is)
  where
    before_or : Option Reading → List Event
    before_or None = h
    before_or (Some other) = other.before

before_at : (board : Board) (h : List Event) (on : ℕ) (r : OpId) (value : ℕ) (place : Place) (reading : Reading) → reading_at board h on r value place ≡ Some reading → reading.before ≡ h
before_at board h on r value (Target target) reading is = before_of target value h (request_of board r on) reading is
before_at board h on r value (Header bus) reading is = cc
before_at board h on r value (Lane lane) reading is = cc
before_at board h on r value Nobody reading is = cc

pub before_by : (board : Board) (h : List Event) (on : ℕ) (r : OpId) (step : Step) (place : Place) (reading : Reading) → reading_by board h on r step place ≡ Some reading → reading.before ≡ h
before_by board h on r Land place reading is = cc
before_by board h on r (Part phases) place reading is = cc
before_by board h on r (Read value) place reading is = before_at board h on r value place reading is
before_by board h on r Accept place reading is = cc
before_by board h on r Latch place reading is = cc
before_by board h on r (Take outcome) place reading is = cc
before_by board h on r Stall place reading is = cc
before_by board h on r MasterAbort place reading is = cc
before_by board h on r TargetAbort place reading is = cc

pub before_in : (board : Board) (h : List Event) (r : OpId) (e : Event) (reading : Reading) → reading_in board h r e ≡ Some reading → reading.before ≡ h
before_in board h r (Act on by o step place) reading is =
    let P : Bool → Type 0 = λ b. cond b (reading_by board h on o step place) None ≡ Some reading → reading.before ≡ h in
    (elim (same_op o r) as P [ true ↦ λ f. before_by board h on o step place reading f | false ↦ λ f. cc ]) is
before_in board h r (Arrive lane mark) reading is = cc

-- the event of the last reading, and what it taught
pub record ReadBy (board : Board) (w : OpId) (h : List Event) (r : OpId) (reading : Reading) : Type 0 where
  pub event : Event
  pub front : Front (event ∷ reading.before) h
  pub is_reading : reading_in board reading.before r event ≡ Some reading
  pub taught : (aware_of board w h).taught r ≡ shown board w (aware_of board w reading.before) reading.before reading.word

pub read_by : (board : Board) (w : OpId) (h : List Event) (r : OpId) (reading : Reading) → last_reading board r h ≡ Some reading → ReadBy board w h r reading
read_by board w [] r reading is = cc
read_by board w (e ∷ h) r reading is =
    let P : Option Reading → Type 0 = λ here. reading_in board h r e ≡ here → reading_or here (last_reading board r h) ≡ Some reading → ReadBy board w (e ∷ h) r reading in
    (elim (reading_in board h r e) as P [
      | None ↦ λ none f.
          let older = read_by board w h r reading f in
          let F : Option Reading → Type 0 = λ here. taught_by board w (aware_of board w h) ((aware_of board w h).taught r) here ≡ shown board w (aware_of board w reading.before) reading.before reading.word in
          record { event = older.event; front = front_more (older.event ∷ reading.before) h e older.front; is_reading = older.is_reading; taught = subst F (sym none) older.taught }
      | Some here ↦ λ some f.
          let same : here ≡ reading = cc in
          let some_reading : reading_in board h r e ≡ Some reading = some ∙ ap Some same in
          let before : reading.before ≡ h = before_in board h r e reading some_reading in
          let F : Option Reading → Type 0 = λ found. taught_by board w (aware_of board w h) ((aware_of board w h).taught r) found ≡ shown board w (aware_of board w h) reading.before reading.word in
          let there : F (Some reading) = refl in
          let taught : (aware_of board w (e ∷ h)).taught r ≡ shown board w (aware_of board w h) reading.before reading.word = subst F (sym some_reading) there in
          record {
            event = e;
            front = record { later = []; is = ap (λ g. e ∷ g) before };
            is_reading = subst (λ g. reading_in board g r e ≡ Some reading) (sym before) some_reading;
            taught = subst (λ g. (aware_of board w (e ∷ h)).taught r ≡ shown board w (aware_of board w g) reading.before reading.word) (sym before) taught;
          }
    ]) refl is

-- what was taught is a read
pub taught_reads : (board : Board) (w : OpId) (h : List Event) (p : OpId) → Run board h → (aware_of board w h).taught p ≡ true → reads board p ≡ true
taught_reads board w h p run taught =
    let some = taught_read board w h p taught in
    let P : Bool → Type 0 = λ b. reads board p ≡ b → b ≡ true in
    (elim (reads board p) as P [
      | true ↦ λ _. refl
      | false ↦ λ other. let last = no_reading board p h other run in let e : is_some (last_reading board p h) ≡ false = ap is_some last in let f : true ≡ false = sym some ∙ e in cc
    ]) refl

module _ (board : Board) (w : OpId) (h : List Event) (run : Run board h) where
  -- it knows of the write, or is a read that ended with a value and was taught
  abbrev pub Knows : OpId → Type 0
  Knows q = (knows (aware_of board w h) q || (aware_of board w (up_to_end q h)).taught q) ≡ true

  -- a later operation of the master of one that was told, or of the write
  later_knows : (p q : OpId) → later board h p q ≡ true → (same_op p w || (knows (aware_of board w h) p || (aware_of board w (up_to_end p h)).taught p)) ≡ true → Knows q
  later_knows p q is mark =
      let aware : Aware = aware_of board w h in
      let taught_q : Bool = (aware_of board w (up_to_end q h)).taught q in
      let parts = split_later p q is in
      or_left (knows aware q) taught_q
      (or_either (knows aware q ≡ true) (same_op p w) (knows aware p || (aware_of board w (up_to_end p h)).taught p)
      (λ same.
      let is_w : p ≡ w = same_op_true p w same in
      let ended_w : has_ended h w ≡ true = subst (λ r. has_ended h r ≡ true) is_w parts.1 in
      let F : OpId → Type 0 = λ r. Since board w h r in
      let since : F p = subst F (sym is_w) (write_since board w h run ended_w) in
      since_knows board w h p q since parts.0 parts.2)
      (λ told.
      or_either (knows aware q ≡ true) (knows aware p) ((aware_of board w (up_to_end p h)).taught p)
      (λ known. knows_later aware p q known parts.0 parts.2)
      (λ taught. since_knows board w h p q (got_since board w h p run taught) parts.0 parts.2) told)
      mark)
    where
      split_later : (p q : OpId) → later board h p q ≡ true → (eqb p.master q.master ≡ true) × (has_ended h p ≡ true) × (stands_after p q ≡ true)
      split_later p q is =
          let same : Bool = eqb p.master q.master in
          let first = and_parts (same && has_ended h p && stands_after p q) (is_some (op_of board q)) is in
          let second = and_parts (same && has_ended h p) (stands_after p q) first.0 in
          let third = and_parts same (has_ended h p) second.0 in
          (third.0, third.1, second.1)

  -- a read that saw one that was told, or the write
  saw_knows : (p q : OpId) → saw board h q p ≡ true → (same_op p w || (knows (aware_of board w h) p || (aware_of board w (up_to_end p h)).taught p)) ≡ true → Knows q
  saw_knows p q is mark =
      let upto : List Event = up_to_end q h in
      let P : Option Reading → Type 0 = λ last. last_reading board q upto ≡ last → saw_in board p last ≡ true → Knows q in
      (elim (last_reading board q upto) as P [
        | None ↦ λ _ f. cc
        | Some reading ↦ λ last f.
            let before : List Event = reading.before in
            let read = read_by board w upto q reading last in
            let parts = and_parts (list_any (is_landing_of p) (landed board before reading.word)) (has_landed before p) f in
            let to_event : Front (read.event ∷ before) h = front_front (read.event ∷ before) upto h read.front (front_end q h) in
            let front : Front before h = front_front before (read.event ∷ before) h (record { later = read.event ∷ []; is = refl }) to_event in
            let run_before : Run board before = front_run board before h front run in
            let some = any_some (is_landing_of p) (landed board before reading.word) parts.0 in
            let passes : is_landing_of p some.0 ≡ true = find_passes (is_landing_of p) (landed board before reading.word) some.0 some.1 in
            let one_op : some.0.op ≡ p = same_op_true some.0.op p passes in
            let begun : Begun board before p = subst (Begun board before) one_op (Each-find (LandingBegun board before) (is_landing_of p) (landed board before reading.word) some.0 (LandingsBegun-run Tagged board before reading.word run_before) some.1) in
            let aware : Aware = aware_of board w before in
            let told : (same_op p w || knows aware p) ≡ true =
            or_either ((same_op p w || knows aware p) ≡ true) (same_op p w) (knows (aware_of board w h) p || (aware_of board w (up_to_end p h)).taught p)
            (λ same. or_left (same_op p w) (knows aware p) same)
            (λ rest. or_either ((same_op p w || knows aware p) ≡ true) (knows (aware_of board w h) p) ((aware_of board w (up_to_end p h)).taught p)
            (λ known. or_right (same_op p w) (knows aware p) (knew_before board w p before h front run begun known))
            (λ taught.
            let reads_it : reads board p ≡ true = taught_reads board w (up_to_end p h) p (front_run board (up_to_end p h) h (front_end p h) run) taught in
            let writes : reads board p ≡ false = landed_writes Tagged board before p run_before parts.1 in
            let e : true ≡ false = sym reads_it ∙ writes in
            cc) rest)
            mark in
            let shows_p : (has_landed before p && (same_op p w || knows aware p)) ≡ true = rw (parts.1, told) refl in
            let shows_it : shows w aware before some.0 ≡ true = subst (λ o. (has_landed before o && (same_op o w || knows aware o)) ≡ true) (sym one_op) shows_p in
            let seen : shown board w aware before reading.word ≡ true = found_any (is_landing_of p) (shows w aware before) (landed board before reading.word) some.0 some.1 shows_it in
            or_right (knows (aware_of board w h) q) ((aware_of board w upto).taught q) (read.taught ∙ seen)
      ]) refl is

  -- a step of telling
  tells_knows : (p q : OpId) → tells board h p q ≡ true → (same_op p w || (knows (aware_of board w h) p || (aware_of board w (up_to_end p h)).taught p)) ≡ true → Knows q
  tells_knows p q is mark =
      or_either (Knows q) (later board h p q) (saw board h q p) (λ later_it. later_knows p q later_it mark) (λ saw_it. saw_knows p q saw_it mark) is

  chain_knows : (p q : OpId) → Chain board h p q → (same_op p w || (knows (aware_of board w h) p || (aware_of board w (up_to_end p h)).taught p)) ≡ true → Knows q
  chain_knows a b (one p q is) mark = tells_knows p q is mark
  chain_knows a b (more p q r is rest) mark = chain_knows q r rest (or_right (same_op q w) _ (tells_knows p q is mark))

  -- who was told of the write by a chain knows of it
  pub told_knows : (q : OpId) → Chain board h w q → Knows q
  told_knows q chain = chain_knows w q chain (or_left (same_op w w) _ (same_op_self w))
