-- What each master knows of all writes, by one number for each author.
use Rattle.std.proofs.Common.{◌≡◌, ℕ, ◌+◌, ◌<◌, ◌≤◌, max, Bool, true, false, ◌&&◌, ◌||◌, ◌==◌, cond, eqb, eqb-true, nat_lt, List, [], ◌∷◌, Option, Some, None, is_some, refl, sym, ap, subst, ◌∙◌, arith}
use Rattle.std.specs.List.{list_any, AllByRecursion}
use Rattle.std.proofs.lemmas.Bool.Decides.{nat_tests}
use Rattle.list_facts.specs.Lists.{greatest}
use Rattle.list_facts.proofs.EachLemmas.{Each-weaker}
use Rattle.pci_command.specs.declared.op_id.OpId.{OpId}
use Rattle.pci_command.specs.declared.op_id.Outcome.{Outcome}
use Rattle.pci_command.specs.Same.{same_op}
use Rattle.board_model.specs.declared.board.Board.{Board}
use Rattle.board_model.specs.Ways.{Dword}
use Rattle.board_model.specs.Valid.{IsValid}
use Rattle.board_model.specs.declared.bridge.Place.{Place}
use Rattle.history_model.specs.declared.event.By.TheVariants.{Master, Lane as ByLane}
use Rattle.history_model.specs.declared.event.Step.{Step}
use Rattle.history_model.specs.declared.event.Event.{Event}
use Rattle.history_model.specs.declared.event.Event.TheVariants.{Act, Arrive}
use Rattle.history_model.specs.declared.rule.Rule.TheVariants.{Tagged}
use Rattle.history_model.specs.World.{world_of}
use Rattle.history_model.specs.Program.{Ending, ended, turn_of}
use Rattle.history_model.specs.Words.{Landing, landed}
use Rattle.history_model.specs.Knowledge.{value_in, Reading, reading_in, has_landed, has_ended, is_write}
use Rattle.history_model.specs.Runs.{Run}
use Rattle.history_model.proofs.facts.WantsLemmas.{wants-turn}
use Rattle.history_model.proofs.facts.RequestLemmas.{same_op_true, same_op_self}
use Rattle.law_fresh.specs.Aware.{Aware, is_behind, knows, brings, first_known, shows, aware_of}
use Rattle.std.proofs.lemmas.Bool.{or_left, or_right}
use Rattle.std.proofs.Math.Bool.{or-false}
use Rattle.law_fresh.proofs.Laws.{IsBehind, Begun, Begun-turn, Begun-kept, WorldHas, ends_turn, knew, knows_kept, write_since, since_behind, before_in, or_either, Names, Entry, items_after, landings_after}
use Rattle.law_audit.specs.Clocks.{Clocks, own, landing_tells, value_tells, known_after, clocks_of, reaches, taught_by}
use Rattle.law_fresh.proofs.Laws.{WriteOp, write_op, own_ended}

pub bool_same : (a b : Bool) → (a ≡ true → b ≡ true) → (b ≡ true → a ≡ true) → a ≡ b
bool_same true true f g = refl
bool_same true false f g = sym (f refl)
bool_same false true f g = g refl
bool_same false false f g = refl

pub or_comm : (a b : Bool) → (a || b) ≡ (b || a)
or_comm true true = refl
or_comm true false = refl
or_comm false true = refl
or_comm false false = refl

pub lt_is : (n a : ℕ) → nat_lt n a ≡ true → n < a
lt_is n a is = grind (arith, nat_tests)

pub is_lt : (n a : ℕ) → n < a → nat_lt n a ≡ true
is_lt n a below = grind (arith, nat_tests)

pub lt_none : (n : ℕ) → nat_lt n 0 ≡ false
lt_none n = grind (arith, nat_tests)

pub lt_max : (n a b : ℕ) → nat_lt n (max a b) ≡ (nat_lt n a || nat_lt n b)
lt_max n a b =
    bool_same (nat_lt n (max a b)) (nat_lt n a || nat_lt n b)
    (λ is.
    let below : n < max a b = lt_is n (max a b) is in
    let P : Bool → Type 0 = λ c. nat_lt n a ≡ c → (c || nat_lt n b) ≡ true in
    (elim (nat_lt n a) as P [
      | true ↦ λ _. refl
      | false ↦ λ none. let above : a ≤ n = grind (arith, nat_tests) in is_lt n b (omega (arith, below, above))
    ]) refl)
    (λ is. or_either (nat_lt n (max a b) ≡ true) (nat_lt n a) (nat_lt n b)
    (λ first. let below : n < a = lt_is n a first in is_lt n (max a b) (omega (arith, below)))
    (λ second. let below : n < b = lt_is n b second in is_lt n (max a b) (omega (arith, below))) is)

pub lt_greatest : {X : Type 0} (n : ℕ) (f : X → ℕ) (xs : List X) → nat_lt n (greatest f xs) ≡ list_any (λ x. nat_lt n (f x)) xs
lt_greatest n f [] = lt_none n
lt_greatest n f (x ∷ xs) = lt_max n (f x) (greatest f xs) ∙ ap (λ b. nat_lt n (f x) || b) (lt_greatest n f xs)

pub any_same : {X : Type 0} (f g : X → Bool) (xs : List X) → AllByRecursion (λ x. f x ≡ g x) xs → list_any f xs ≡ list_any g xs
any_same f g [] alike = refl
any_same f g (x ∷ xs) alike = let here = alike.0 in let later = any_same f g xs alike.1 in cc

module _ (w : OpId) where
  -- an operation and those before it in its program
  pub own_parts : (q : OpId) → reaches (own q) w ≡ true → (q.master ≡ w.master) × (w.index < q.index + 1)
  own_parts q is =
      let P : Bool → Type 0 = λ b. eqb q.master w.master ≡ b → nat_lt w.index (cond b (q.index + 1) 0) ≡ true → (q.master ≡ w.master) × (w.index < q.index + 1) in
      (elim (eqb q.master w.master) as P [
        | true ↦ λ same f. (eqb-true q.master w.master same, lt_is w.index (q.index + 1) f)
        | false ↦ λ _ f. let e : true ≡ false = sym f ∙ lt_none w.index in cc
      ]) refl is

  pub own_same : (q : OpId) → same_op q w ≡ true → reaches (own q) w ≡ true
  own_same q same =
      let one : q ≡ w = same_op_true q w same in
      let self : eqb w.master w.master ≡ true = grind (arith, nat_tests) in
      let there : reaches (own w) w ≡ true = rw self (is_lt w.index (w.index + 1) (omega arith)) in
      subst (λ p. reaches (own p) w ≡ true) (sym one) there

module _ (board : Board) (valid : IsValid board) (w : OpId) (write : WriteOp board w) where
  -- where a master's turn is behind the write, the master knows it
  own_knows : (h : List Event) (o : OpId) → Run board h → turn_of board h o.master ≡ Some o → reaches (own o) w ≡ true → (is_some ((aware_of board w h).since o.master) || same_op o w) ≡ true
  own_knows h o run turn is =
      let aware : Aware = aware_of board w h in
      let parts = own_parts w o is in
      let P : Bool → Type 0 = λ b. same_op o w ≡ b → (is_some (aware.since o.master) || b) ≡ true in
      (elim (same_op o w) as P [
        | true ↦ λ _. or_right (is_some (aware.since o.master)) true refl
        | false ↦ λ other.
            let ended_it : has_ended h w ≡ true = own_ended board w write h o run turn parts.0 parts.1 other in
            let since = write_since board w h run ended_it in
            let some : is_some (aware.since w.master) ≡ true = ap is_some since.is in
            or_left (is_some (aware.since o.master)) false (subst (λ m. is_some (aware.since m) ≡ true) (sym parts.0) some)
      ]) refl

  -- the turn knows what its master knows
  turn_knows : (h : List Event) (o : OpId) → Run board h → turn_of board h o.master ≡ Some o → knows (aware_of board w h) o ≡ is_some ((aware_of board w h).since o.master)
  turn_knows h o run turn =
      let aware : Aware = aware_of board w h in
      let P : Option OpId → Type 0 = λ since. aware.since o.master ≡ since → is_behind since o ≡ is_some since in
      (elim (aware.since o.master) as P [
        | None ↦ λ _. refl
        | Some p ↦ λ is. subst (IsBehind p) turn (since_behind board w h o.master p run is)
      ]) refl

  -- what an operation knew as its master presented it
  pub record Starts (h : List Event) (q : OpId) : Type 0 where
    pub begun : Begun board h q
    pub law : (knows (aware_of board w h) q || same_op q w) ≡ (reaches ((clocks_of board h).start q) w || reaches (own q) w)

  pub record Law (h : List Event) : Type 0 where
    pub known : (master : ℕ) → is_some ((aware_of board w h).since master) ≡ reaches ((clocks_of board h).known master) w
    pub taught : (o : OpId) → (aware_of board w h).taught o ≡ reaches ((clocks_of board h).taught o) w
    pub items : WorldHas (Names (Starts h)) (world_of board h)
    pub landings : (word : Dword) → AllByRecursion (λ (l : Landing). Starts h l.op) (landed board h word)

  -- as a master presents an operation
  presented_starts : (on : ℕ) (o : OpId) (step : Step) (place : Place) (h : List Event) → Run board (Act on Master o step place ∷ h) → Law h → Starts (Act on Master o step place ∷ h) o
  presented_starts on o step place h run old =
      let e : Event = Act on Master o step place in
      let turn : turn_of board h o.master ≡ Some o = wants-turn board h on o run.0.0 in
      let begun : Begun board h o = Begun-turn board h o turn in
      let now : Bool = knows (aware_of board w (e ∷ h)) o in
      let some : Bool = is_some ((aware_of board w h).since o.master) in
      let stable : now ≡ some = bool_same now (knows (aware_of board w h) o) (knew board w e h o run begun) (knows_kept board w e h o) ∙ turn_knows h o run.1 turn in
      let self = same_op_self o in
      let start : reaches ((clocks_of board (e ∷ h)).start o) w ≡ reaches ((clocks_of board h).known o.master) w = rw self refl in
      let starts : Bool = reaches ((clocks_of board (e ∷ h)).start o) w in
      let same_start : some ≡ starts = old.known o.master ∙ sym start in
      record {
        begun = Begun-kept Tagged board e h o run begun;
        law = bool_same (now || same_op o w) (starts || reaches (own o) w)
            (λ is. or_either ((starts || reaches (own o) w) ≡ true) now (same_op o w)
            (λ known. or_left starts (reaches (own o) w) (sym same_start ∙ (sym stable ∙ known)))
            (λ same. or_right starts (reaches (own o) w) (own_same w o same)) is)
            (λ is. or_either ((now || same_op o w) ≡ true) starts (reaches (own o) w)
            (λ known. or_left now (same_op o w) (stable ∙ (same_start ∙ known)))
            (λ is_own. or_either ((now || same_op o w) ≡ true) some (same_op o w) (λ f. or_left now (same_op o w) (stable ∙ f)) (λ f. or_right now (same_op o w) f) (own_knows h o run.1 turn is_own)) is);
      }

  -- as another is presented
  other_starts : (e : Event) (h : List Event) (q : OpId) → Run board (e ∷ h) → (clocks_of board (e ∷ h)).start q ≡ (clocks_of board h).start q → Starts h q → Starts (e ∷ h) q
  other_starts e h q run same old =
      let stable : knows (aware_of board w (e ∷ h)) q ≡ knows (aware_of board w h) q =
      bool_same (knows (aware_of board w (e ∷ h)) q) (knows (aware_of board w h) q) (knew board w e h q run old.begun) (knows_kept board w e h q) in
      record {
        begun = Begun-kept Tagged board e h q run old.begun;
        law = ap (λ b. b || same_op q w) stable ∙ old.law ∙ ap (λ (known : ℕ → ℕ). reaches known w || reaches (own q) w) (sym same);
      }

  starts_kept : (e : Event) (h : List Event) → Run board (e ∷ h) → Law h → (q : OpId) → Starts h q → Starts (e ∷ h) q
  starts_kept (Act on Master o step place) h run old q has =
      let e : Event = Act on Master o step place in
      let P : Bool → Type 0 = λ b. same_op o q ≡ b → Starts (e ∷ h) q in
      (elim (same_op o q) as P [
        | true ↦ λ same. subst (Starts (e ∷ h)) (same_op_true o q same) (presented_starts on o step place h run old)
        | false ↦ λ other. other_starts e h q run (rw other refl) has
      ]) refl
  starts_kept (Act on (ByLane k) o step place) h run old q has = other_starts (Act on (ByLane k) o step place) h q run refl has
  starts_kept (Arrive lane mark) h run old q has = other_starts (Arrive lane mark) h q run refl has

  entry : (e : Event) (h : List Event) → Run board (e ∷ h) → Law h → Entry (Starts (e ∷ h)) e
  entry (Act on Master o step place) h run old = presented_starts on o step place h run old
  entry (Act on (ByLane k) o step place) h run old = tt
  entry (Arrive lane mark) h run old = tt

  -- a landing tells of the write where it shows it
  landing_law : (h before : List Event) (l : Landing) → Starts h l.op → shows w (aware_of board w h) before l ≡ nat_lt w.index (landing_tells (clocks_of board h) before w.master l)
  landing_law h before l starts =
      let aware : Aware = aware_of board w h in
      let start : ℕ = (clocks_of board h).start l.op w.master in
      let mine : ℕ = own l.op w.master in
      let P : Bool → Type 0 = λ b. (b && (same_op l.op w || knows aware l.op)) ≡ nat_lt w.index (cond b (max start mine) 0) in
      elim (has_landed before l.op) as P [
        | true ↦ or_comm (same_op l.op w) (knows aware l.op) ∙ starts.law ∙ sym (lt_max w.index start mine)
        | false ↦ sym (lt_none w.index)
      ]

  taught_law : (e : Event) (h : List Event) (o : OpId) → Law h → (aware_of board w (e ∷ h)).taught o ≡ reaches ((clocks_of board (e ∷ h)).taught o) w
  taught_law e h o old =
      let aware : Aware = aware_of board w h in
      let clocks : Clocks = clocks_of board h in
      let P : Option Reading → Type 0 = λ here. reading_in board h o e ≡ here → Rattle.law_fresh.specs.Aware.taught_by board w aware (aware.taught o) here ≡ nat_lt w.index (taught_by board clocks (clocks.taught o) here w.master) in
      (elim (reading_in board h o e) as P [
        | None ↦ λ _. old.taught o
        | Some reading ↦ λ is.
            let before : reading.before ≡ h = before_in board h o e reading is in
            let landings : List Landing = landed board reading.before reading.word in
            let starts : AllByRecursion (λ (l : Landing). Starts h l.op) landings = subst (λ g. AllByRecursion (λ (l : Landing). Starts h l.op) (landed board g reading.word)) (sym before) (old.landings reading.word) in
            any_same (shows w aware reading.before) (λ l. nat_lt w.index (landing_tells clocks reading.before w.master l)) landings
            (Each-weaker (λ (l : Landing). Starts h l.op) (λ l. shows w aware reading.before l ≡ nat_lt w.index (landing_tells clocks reading.before w.master l)) (λ l has. landing_law h reading.before l has) landings starts)
            ∙ sym (lt_greatest w.index (landing_tells clocks reading.before w.master) landings)
      ]) refl

  first_some : (since : Option OpId) (master : ℕ) (taught : OpId → Bool) (ending : Ending) → is_some (first_known since master w taught (Some ending)) ≡ (is_some since || ((ending.op.master == master) && brings w (taught ending.op) ending))
  first_some (Some p) master taught ending = refl
  first_some None master taught ending =
      let P : Bool → Type 0 = λ b. is_some (cond b (Some ending.op) None) ≡ b in
      elim ((ending.op.master == master) && brings w (taught ending.op) ending) as P [ true ↦ refl | false ↦ refl ]

  value_law : (outcome : Outcome) (taught : ℕ) → nat_lt w.index (value_tells outcome taught) ≡ (is_some (value_in outcome) && nat_lt w.index taught)
  value_law outcome taught =
      let P : Bool → Type 0 = λ b. nat_lt w.index (cond b taught 0) ≡ (b && nat_lt w.index taught) in
      elim (is_some (value_in outcome)) as P [ true ↦ refl | false ↦ lt_none w.index ]

  -- a master whose operation ended
  ending_law : (h : List Event) (master : ℕ) (taught : OpId → Bool) (clock : OpId → ℕ → ℕ) (ending : Ending) → Run board h → turn_of board h ending.op.master ≡ Some ending.op → ((o : OpId) → taught o ≡ nat_lt w.index (clock o w.master)) → Law h
      → is_some (first_known ((aware_of board w h).since master) master w taught (Some ending)) ≡ nat_lt w.index (known_after master ((clocks_of board h).known master) clock (Some ending) w.master)
  ending_law h master taught clock ending run turn alike old =
      let since : Option OpId = (aware_of board w h).since master in
      let o : OpId = ending.op in
      let some : Bool = is_some since in
      let k : ℕ = (clocks_of board h).known master w.master in
      let v : ℕ = value_tells ending.outcome (clock o w.master) in
      let mine : ℕ = own o w.master in
      let is_value : Bool = is_some (value_in ending.outcome) in
      let was : some ≡ nat_lt w.index k = old.known master in
      let P : Bool → Type 0 = λ b. eqb o.master master ≡ b → (some || (b && (same_op o w || (is_value && taught o)))) ≡ nat_lt w.index (cond b (max (max k v) mine) k) in
      first_some since master taught ending ∙ (elim (eqb o.master master) as P [
        | true ↦ λ same.
            let masters : o.master ≡ master = eqb-true o.master master same in
            let by_max : nat_lt w.index (max (max k v) mine) ≡ ((nat_lt w.index k || nat_lt w.index v) || nat_lt w.index mine) = lt_max w.index (max k v) mine ∙ ap (λ b. b || nat_lt w.index mine) (lt_max w.index k v) in
            let value : nat_lt w.index v ≡ (is_value && taught o) = value_law ending.outcome (clock o w.master) ∙ ap (λ b. is_value && b) (sym (alike o)) in
            let told : Bool = is_value && taught o in
            let right : nat_lt w.index (max (max k v) mine) ≡ ((some || told) || nat_lt w.index mine) = by_max ∙ ap (λ b. (b || nat_lt w.index v) || nat_lt w.index mine) (sym was) ∙ ap (λ b. (some || b) || nat_lt w.index mine) value in
            bool_same (some || (same_op o w || told)) ((some || told) || nat_lt w.index mine)
            (λ is. or_either (((some || told) || nat_lt w.index mine) ≡ true) some (same_op o w || told)
            (λ f. or_left (some || told) (nat_lt w.index mine) (or_left some told f))
            (λ f. or_either (((some || told) || nat_lt w.index mine) ≡ true) (same_op o w) told
            (λ g. or_right (some || told) (nat_lt w.index mine) (own_same w o g))
            (λ g. or_left (some || told) (nat_lt w.index mine) (or_right some told g)) f) is)
            (λ is. or_either ((some || (same_op o w || told)) ≡ true) (some || told) (nat_lt w.index mine)
            (λ f. or_either ((some || (same_op o w || told)) ≡ true) some told (λ g. or_left some (same_op o w || told) g) (λ g. or_right some (same_op o w || told) (or_right (same_op o w) told g)) f)
            (λ f.
            let knows_it : (is_some ((aware_of board w h).since o.master) || same_op o w) ≡ true = own_knows h o run turn f in
            or_either ((some || (same_op o w || told)) ≡ true) (is_some ((aware_of board w h).since o.master)) (same_op o w)
            (λ g. or_left some (same_op o w || told) (subst (λ m. is_some ((aware_of board w h).since m) ≡ true) masters g))
            (λ g. or_right some (same_op o w || told) (or_left (same_op o w) told g)) knows_it) is)
            ∙ sym right
        | false ↦ λ _. or-false some ∙ was
      ]) refl

  -- a master after one more event
  known_law : (e : Event) (h : List Event) (master : ℕ) → Run board (e ∷ h) → Law h → is_some ((aware_of board w (e ∷ h)).since master) ≡ reaches ((clocks_of board (e ∷ h)).known master) w
  known_law e h master run old =
      let since : Option OpId = (aware_of board w h).since master in
      let taught : OpId → Bool = (aware_of board w (e ∷ h)).taught in
      let clock : OpId → ℕ → ℕ = (clocks_of board (e ∷ h)).taught in
      let P : Option Ending → Type 0 = λ found. ended e ≡ found → is_some (first_known since master w taught found) ≡ nat_lt w.index (known_after master ((clocks_of board h).known master) clock found w.master) in
      let S : Option OpId → Type 0 = λ found. is_some (first_known found master w taught None) ≡ is_some found in
      (elim (ended e) as P [
        | None ↦ λ _. (elim since as S [ None ↦ refl | Some p ↦ refl ]) ∙ old.known master
        | Some ending ↦ λ is. ending_law h master taught clock ending run.1 (ends_turn Tagged board e h ending run is) (λ o. taught_law e h o old) old
      ]) refl

  pub Law-run : (h : List Event) → Run board h → Law h
  Law-run [] run = record { known = λ master. sym (lt_none w.index); taught = λ o. sym (lt_none w.index); items = λ lane. (tt, tt); landings = λ word. tt }
  Law-run (e ∷ h) run =
      let old : Law h = Law-run h run.1 in
      record {
        known = λ master. known_law e h master run old;
        taught = λ o. taught_law e h o old;
        items = items_after Tagged board h (Starts h) (Starts (e ∷ h)) (starts_kept e h run old) old.items e run (entry e h run old);
        landings = λ word. landings_after Tagged board h (Starts h) (Starts (e ∷ h)) (starts_kept e h run old) old.items e word run (entry e h run old) (old.landings word);
      }

-- a master knows of a write where its number for the write's author is above the write's
pub known_reaches : (board : Board) (valid : IsValid board) (h : List Event) (w : OpId) (master : ℕ) → Run board h → is_write board w ≡ true → is_some ((aware_of board w h).since master) ≡ reaches ((clocks_of board h).known master) w
known_reaches board valid h w master run write = (Law-run board valid w (write_op board w write) h run).known master
