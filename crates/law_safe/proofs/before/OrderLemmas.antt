-- What an operation comes after by a consistent table has come before it in every run.
use Rattle.std.proofs.Common.{◌≡◌, ◌≢◌, ℕ, suc, ◌+◌, ◌<◌, ◌≤◌, Bool, true, false, eqb, eqb-true, cond, nat_lt, List, [], ◌∷◌, ◌++◌, Option, Some, None, is_some, refl, sym, ap, subst, ◌∙◌, arith, ◌⊎◌, inl, inr, ⊎_elim, slice_get, option_and_then}
use Rattle.std.specs.List.{list_any}
use Rattle.std.proofs.lemmas.Bool.Decides.{nat_tests}
use Rattle.pci_command.specs.declared.command.Space.{Space}
use Rattle.pci_command.specs.declared.command.Space.TheVariants.{Mem, Io, Cfg}
use Rattle.pci_command.specs.declared.op_id.OpId.{OpId}
use Rattle.pci_command.specs.declared.op_id.Outcome.{Outcome}
use Rattle.pci_command.specs.declared.op_id.Outcome.TheVariants.{Value, Written as WrittenThere, Aborted, Nobody as NobodyClaimed}
use Rattle.pci_command.specs.Command.{is_read}
use Rattle.board_model.specs.declared.op.Want.{Want}
use Rattle.board_model.specs.declared.agents.Master.{Master as MasterAgent}
use Rattle.board_model.specs.declared.op.Op.{Op}
use Rattle.board_model.specs.declared.op.Op.TheVariants.{Read as ReadOp, Write, CfgRead, CfgWrite, Poll}
use Rattle.board_model.specs.declared.board.Board.{Board}
use Rattle.board_model.specs.Requests.{op_of, tries_of, reads, reads_in, read_in}
use Rattle.board_model.specs.Ways.{Dword}
use Rattle.board_model.specs.Valid.{IsValid}
use Rattle.history_model.specs.declared.event.By.{By}
use Rattle.history_model.specs.declared.event.Event.{Event}
use Rattle.history_model.specs.declared.rule.Rule.TheVariants.{Tagged}
use Rattle.history_model.specs.Program.{Ending, ended, present, next_op, next_try, meets, follows_op, follows_in, follows, turn_after, turn_of}
use Rattle.history_model.specs.Answers.{wants}
use Rattle.history_model.specs.Words.{landed, value_of}
use Rattle.history_model.specs.Knowledge.{Reading, value_of_ending, outcome_in, ends_as, has_ended, or_else, given_value, got, has_landed, is_landing_of, stands_after, is_write, words_named}
use Rattle.history_model.specs.Runs.{Run}
use Rattle.list_facts.proofs.AnyLemmas.{any_some}
use Rattle.list_facts.proofs.EachLemmas.{Each-find}
use Rattle.list_facts.proofs.FindLemmas.{find_passes}
use Rattle.std.proofs.lemmas.Bool.{or_left}
use Rattle.history_model.proofs.facts.RequestLemmas.{same_op_true, same_op_self}
use Rattle.law_bound.proofs.changes.Laws.{entry_of}
use Rattle.law_fresh.proofs.reads.Laws.{master_there, always_got}
use Rattle.law_fresh.proofs.Laws.{ends_turn, Front, front_front}
use Rattle.law_delivered.proofs.left.Laws.{read_at, returned_held, read_word}
use Rattle.safe_model.specs.Raisers.{is_met_by, Firm, Raises}
use Rattle.safe_model.specs.Clocks.{Table, is_poll, at_place, known_by, greater, raised, clock_of, clock_with, LeftOut, OpensOut, Awaits, IsConsistent}
use Rattle.safe_model.proofs.tables.TableLemmas.{greater_first, greater_second}
use Rattle.law_safe.proofs.before.MetLemmas.{Raised}
use Rattle.law_safe.proofs.before.HeldLemmas.{Held, presented, held_first, held_after}

-- Clocks.

greater_below : (n a b : ℕ) → n < greater a b → (n < a) ⊎ (n < b)
greater_below n a b below =
    let P : Bool → Type 0 = λ t. n < cond t b a → (n < a) ⊎ (n < b) in
    (elim (nat_lt a b) as P [ true ↦ λ f. inr f | false ↦ λ f. inl f ]) below

below_first : (n a b : ℕ) → n < a → n < greater a b
below_first n a b below = let more = greater_first a b in omega (arith, below, more)

below_second : (n a b : ℕ) → n < b → n < greater a b
below_second n a b below = let more = greater_second a b in omega (arith, below, more)

-- what a raised clock counts
pub raised_below : (clock : ℕ → ℕ) (master count other n : ℕ) → n < raised clock master count other → (n < clock other) ⊎ ((other ≡ master) × (n < count))
raised_below clock master count other n below =
    let P : Bool → Type 0 = λ b. eqb other master ≡ b → n < cond b (greater (clock other) count) (clock other) → (n < clock other) ⊎ ((other ≡ master) × (n < count)) in
    (elim (eqb other master) as P [
      | true ↦ λ same f.
          ⊎_elim {C = (n < clock other) ⊎ ((other ≡ master) × (n < count))} (λ (old : n < clock other). inl old) (λ (new : n < count). inr (eqb-true other master same, new)) (greater_below n (clock other) count f)
      | false ↦ λ _ f. inl f
    ]) refl below

pub below_raised : (clock : ℕ → ℕ) (master count other n : ℕ) → n < clock other → n < raised clock master count other
below_raised clock master count other n below =
    let P : Bool → Type 0 = λ b. n < cond b (greater (clock other) count) (clock other) in
    elim (eqb other master) as P [ true ↦ below_first n (clock other) count below | false ↦ below ]

pub below_own : (clock : ℕ → ℕ) (master count other n : ℕ) → other ≡ master → n < count → n < raised clock master count other
below_own clock master count other n same below =
    let is : eqb other master ≡ true = grind (arith, nat_tests) in
    let F : Bool → Type 0 = λ b. n < cond b (greater (clock other) count) (clock other) in
    let here : F true = below_second n (clock other) count below in
    subst F (sym is) here

-- Operations and their first tries.

pub first_try : (board : Board) (p : OpId) (op : Op) → op_of board p ≡ Some op → op_of board (at_place p.master p.index) ≡ Some op
first_try board p op is_op =
    let there = master_there board p op is_op in
    let entry = entry_of board p op there.0 is_op there.1 in
    let some : nat_lt 0 (tries_of op) ≡ true = let below = entry.tries in grind (arith, nat_tests) in
    let here : Op → Option Op = λ q. cond (nat_lt 0 (tries_of q)) (Some q) None in
    let F : Option MasterAgent → Type 0 = λ found. option_and_then here (option_and_then (λ (m : MasterAgent). slice_get m.ops p.index) found) ≡ Some op in
    let G : Option Op → Type 0 = λ found. option_and_then here found ≡ Some op in
    let H : Bool → Type 0 = λ b. cond b (Some op) None ≡ Some op in
    let one : H true = refl in
    let of_op : G (Some op) = subst H (sym some) one in
    let of_master : F (Some there.0) = subst G (sym entry.there) of_op in
    subst F (sym there.1) of_master

present_is : (board : Board) (o q : OpId) → present board o ≡ Some q → o ≡ q
present_is board o q is =
    let P : Bool → Type 0 = λ b. cond b (Some o) None ≡ Some q → o ≡ q in
    (elim (is_some (op_of board o)) as P [ true ↦ λ e. cc | false ↦ λ e. cc ]) is

pub ends_as_here : (e : Event) (p : OpId) (outcome : Outcome) → ended e ≡ Some (record { op = p; outcome = outcome }) → ends_as p e ≡ Some outcome
ends_as_here e p outcome ends =
    let F : Option Ending → Type 0 = λ found. outcome_in p found ≡ Some outcome in
    let G : Bool → Type 0 = λ b. cond b (Some outcome) None ≡ Some outcome in
    let one : G true = refl in
    let here : F (Some (record { op = p; outcome = outcome })) = subst G (sym (same_op_self p)) one in
    subst F (sym ends) here

-- The history before a reading is the end of the history before the event that ended the read, or of an older one.

pub before_front : (x : Event) (b : List Event) (e : Event) (g : List Event) → Front (x ∷ b) (e ∷ g) → Front b g
before_front x b e g front = by_later front.later front.is
  where
    by_later : (later : List Event) → later ++ (x ∷ b) ≡ e ∷ g → Front b g
    by_later [] is = let same : b ≡ g = cc in record { later = []; is = same }
    by_later (y ∷ later) is =
        let same : later ++ (x ∷ b) ≡ g = cc in
        front_front b (x ∷ b) g (record { later = x ∷ []; is = refl }) (record { later = later; is = same })

-- A poll that was met by an ending: what it read.
pub record MetBy (board : Board) (e : Event) (g : List Event) (p : OpId) (want : Want) (word : Dword) : Type 0 where
  pub reading : Reading
  pub is_got : got board (e ∷ g) p ≡ Some reading
  pub before : Front reading.before g
  pub is_word : reading.word ≡ word
  pub held : is_met_by want (value_of board reading.before word) ≡ true

met_value : (want : Want) (outcome : Outcome) → meets want outcome ≡ true → (value : ℕ) × (outcome ≡ Value value) × (is_met_by want value ≡ true)
met_value want (Value value) is = (value, refl, is)
met_value want WrittenThere is = cc
met_value want Aborted is = cc
met_value want NobodyClaimed is = cc

pub met_by : (board : Board) (valid : IsValid board) (e : Event) (g : List Event) (run : Run board (e ∷ g)) (p : OpId) (space : Space) (address : ℕ) (want : Want) (tries : ℕ) (is_op : op_of board p ≡ Some (Poll space address want tries))
    (outcome : Outcome) → ended e ≡ Some (record { op = p; outcome = outcome }) → meets want outcome ≡ true → (word : Dword) → Firm board p want word → MetBy board e g p want word
met_by board valid e g run p space address want tries is_op outcome ends is_met word firm =
    let h : List Event = e ∷ g in
    let given = met_value want outcome is_met in
    let ends_p : ends_as p e ≡ Some outcome = ends_as_here e p outcome ends in
    let ended_it : has_ended h p ≡ true = or_left (is_some (ends_as p e)) (has_ended g p) (ap is_some ends_p) in
    let reads_it : reads board p ≡ true = ap reads_in is_op ∙ (elim space as (λ s. is_read (read_in s) ≡ true) [ Mem ↦ refl | Io ↦ refl | Cfg ↦ refl ]) in
    let some_words : words_named board p ≢ [] = λ none. (let e : word ∷ [] ≡ [] = sym firm.has_word ∙ none in cc) in
    let some : is_some (got board h p) ≡ true = always_got board h p valid run reads_it some_words ended_it in
    let P : Option Reading → Type 0 = λ found. got board h p ≡ found → is_some found ≡ true → MetBy board e g p want word in
    (elim (got board h p) as P [
      | None ↦ λ _ f. cc
      | Some reading ↦ λ is_got _.
          let at = read_at board h p reading valid run is_got in
          let before : Front reading.before g = before_front at.event reading.before e g at.front in
          let is_word : reading.word ≡ word = read_word board h p reading word [] valid at firm.has_word in
          let returned : given_value h p ≡ Some (value_of board reading.before reading.word) = returned_held board h p reading valid run is_got in
          let F : Option Outcome → Type 0 = λ found. or_else (value_of_ending found) (given_value g p) ≡ Some (value_of board reading.before reading.word) in
          let now : F (Some outcome) = subst F ends_p returned in
          let G : Outcome → Type 0 = λ y. F (Some y) in
          let with_value : G (Value given.0) = subst G given.1 now in
          let values : given.0 ≡ value_of board reading.before reading.word = cc in
          let held : is_met_by want (value_of board reading.before word) ≡ true =
          subst (λ d. is_met_by want (value_of board reading.before d) ≡ true) is_word (subst (λ v. is_met_by want v ≡ true) values given.2) in
          record { reading = reading; is_got = is_got; before = before; is_word = is_word; held = held }
    ]) refl some

-- And who raised it: a write that is not left out.
pub record RaisedBy (board : Board) (table : Table) (e : Event) (g : List Event) (p : OpId) (want : Want) (word : Dword) : Type 0 where
  pub met : MetBy board e g p want word
  pub raised : Raised board met.reading.before want word
  pub stays : LeftOut board table p word raised.last.op → ⊥

-- whatever poll an event ends as met, such a write raised
abbrev pub SoundAt : Board → Table → Event → List Event → Type 0
SoundAt board table e g =
    (p : OpId) (want : Want) → Awaits board p want → (outcome : Outcome) → ended e ≡ Some (record { op = p; outcome = outcome }) → meets want outcome ≡ true
    → (word : Dword) → Firm board p want word → OpensOut board table p want word → RaisedBy board table e g p want word

-- and so all events of a history (SoundLemmas has it of every run)
abbrev pub Sound : Board → Table → List Event → Type 0
Sound board table [] = Unit {0}
Sound board table (e ∷ g) = SoundAt board table e g × Sound board table g

pub sound_behind : (board : Board) (table : Table) (later before : List Event) → Sound board table (later ++ before) → Sound board table before
sound_behind board table [] before sound = sound
sound_behind board table (e ∷ later) before sound = sound_behind board table later before sound.1

pub sound_front : (board : Board) (table : Table) (before h : List Event) → Front before h → Sound board table h → Sound board table before
sound_front board table before h front sound = sound_behind board table front.later before (subst (Sound board table) (sym front.is) sound)

-- An operation `c`, and a fact `X` of histories and operations: that `c` has come before. It goes on to hold, and for
-- later operations of a program; it holds behind `c`; and behind a poll that saw `c`, or one for which it held.
pub record Passes (board : Board) (c : OpId) (X : List Event → OpId → Type 0) : Type 0 where
  pub kept : (e : Event) (h : List Event) (q : OpId) → Run board (e ∷ h) → X h q → X (e ∷ h) q
  pub later : (h : List Event) (p q : OpId) → p.master ≡ q.master → stands_after p q ≡ true → X h p → X h q
  pub own : (e : Event) (h : List Event) (p q : OpId) (outcome : Outcome) → Run board (e ∷ h) → ended e ≡ Some (record { op = p; outcome = outcome }) → is_some (op_of board p) ≡ true → p.master ≡ c.master → p.index ≡ c.index → p.master ≡ q.master → stands_after p q ≡ true → X (e ∷ h) q
  pub seen : (e : Event) (h : List Event) (p q : OpId) (reading : Reading) (f : OpId) → Run board (e ∷ h) → got board (e ∷ h) p ≡ Some reading → is_write board f ≡ true
      → list_any (is_landing_of f) (landed board reading.before reading.word) ≡ true → has_landed reading.before f ≡ true → Front reading.before h
      → ((f.master ≡ c.master) × (f.index ≡ c.index)) ⊎ X reading.before f → p.master ≡ q.master → stands_after p q ≡ true → X (e ∷ h) q

module _ (board : Board) (valid : IsValid board) (table : Table) (consistent : IsConsistent board table) (c : OpId) (X : List Event → OpId → Type 0) (passes : Passes board c X) where
  -- where its clock counts `c`
  abbrev pub Knowing : List Event → OpId → Type 0
  Knowing h q = c.index < clock_of board table q c.master → X h q

  pub knowing_kept : (e : Event) (h : List Event) (q : OpId) → Run board (e ∷ h) → Knowing h q → Knowing (e ∷ h) q
  knowing_kept e h q run old = λ below. passes.kept e h q run (old below)

  abbrev pub Good : List Event → Type 0
  Good = Held board Knowing knowing_kept

  -- so after each of the events
  abbrev pub Goods : List Event → Type 0
  Goods [] = Good []
  Goods (e ∷ h) = Good (e ∷ h) × Goods h

  good_now : (h : List Event) → Goods h → Good h
  good_now [] goods = goods
  good_now (e ∷ h) goods = goods.0

  good_behind : (later before : List Event) → Goods (later ++ before) → Good before
  good_behind [] before goods = good_now before goods
  good_behind (e ∷ later) before goods = good_behind later before goods.1

  pub good_at : (before h : List Event) → Front before h → Goods h → Good before
  good_at before h front goods = good_behind front.later before (subst Goods (sym front.is) goods)

  -- what is known where an operation has ended
  module _ (e : Event) (g : List Event) (run : Run board (e ∷ g)) (goods : Goods g) (sound : SoundAt board table e g) (p : OpId) (outcome : Outcome) (ends : ended e ≡ Some (record { op = p; outcome = outcome })) (op : Op) (is_op : op_of board p ≡ Some op) where
    turn : turn_of board g p.master ≡ Some p
    turn = ends_turn Tagged board e g (record { op = p; outcome = outcome }) run ends

    -- what the clock of it counts
    by_it : (q : OpId) → p.master ≡ q.master → stands_after p q ≡ true → c.index < clock_of board table p c.master → X (e ∷ g) q
    by_it q masters behind below =
        passes.later (e ∷ g) p q masters behind (passes.kept e g p run ((good_now g goods).turns p turn below))

    -- what a poll that was met knows
    by_poll : (q : OpId) (space : Space) (address : ℕ) (want : Want) (tries : ℕ) → op_of board p ≡ Some (Poll space address want tries) → meets want outcome ≡ true → p.master ≡ q.master → stands_after p q ≡ true
        → c.index < table p.master p.index c.master → X (e ∷ g) q
    by_poll q space address want tries is_poll_op is_met masters behind below =
        ⊎_elim {C = X (e ∷ g) q}
        (λ (most : table p.master p.index c.master ≤ clock_of board table p c.master). by_it q masters behind (omega (arith, below, most)))
        (λ (firm : (word : Dword) × Firm board p want word × OpensOut board table p want word × ((f : OpId) → Raises board want word f → LeftOut board table p word f ⊎ (table p.master p.index c.master ≤ clock_with board table f c.master))).
        let it = sound p want (space, address, tries, is_poll_op) outcome ends is_met firm.0 firm.1 firm.2 in
        let met = it.met in
        let raised_it = it.raised in
        let f : OpId = raised_it.last.op in
        let most : table p.master p.index c.master ≤ clock_with board table f c.master =
        ⊎_elim {C = table p.master p.index c.master ≤ clock_with board table f c.master} (λ (left : LeftOut board table p firm.0 f). absurd (it.stays left)) (λ (known : table p.master p.index c.master ≤ clock_with board table f c.master). known) (firm.3 f raised_it.raises) in
        let with_f : c.index < clock_with board table f c.master = omega (arith, below, most) in
        let good : Good met.reading.before = good_at met.reading.before g met.before goods in
        let lands : list_any (is_landing_of f) (landed board met.reading.before met.reading.word) ≡ true = subst (λ d. list_any (is_landing_of f) (landed board met.reading.before d) ≡ true) (sym met.is_word) raised_it.lands in
        let some = any_some (is_landing_of f) (landed board met.reading.before met.reading.word) lands in
        let one : some.0.op ≡ f = same_op_true some.0.op f (find_passes (is_landing_of f) (landed board met.reading.before met.reading.word) some.0 some.1) in
        let knowing : Knowing met.reading.before f = subst (Knowing met.reading.before) one (Each-find (λ l. Knowing met.reading.before l.op) (is_landing_of f) (landed board met.reading.before met.reading.word) some.0 (good.landings met.reading.word) some.1) in
        let is_before : (((f.master ≡ c.master) × (f.index ≡ c.index)) ⊎ X met.reading.before f) =
        ⊎_elim {C = ((f.master ≡ c.master) × (f.index ≡ c.index)) ⊎ X met.reading.before f}
        (λ (old : c.index < known_by board table f.master f.index c.master). inr (knowing (below_raised (known_by board table f.master f.index) f.master f.index c.master c.index old)))
        (λ (own : (c.master ≡ f.master) × (c.index < f.index + 1)).
        let P : Bool → Type 0 = λ b. nat_lt c.index f.index ≡ b → ((f.master ≡ c.master) × (f.index ≡ c.index)) ⊎ X met.reading.before f in
        (elim (nat_lt c.index f.index) as P [
          | true ↦ λ less. let under : c.index < f.index = grind (arith, nat_tests) in inr (knowing (below_own (known_by board table f.master f.index) f.master f.index c.master c.index own.0 under))
          | false ↦ λ none. let most_it : f.index ≤ c.index = grind (arith, nat_tests) in inl (sym own.0, omega (arith, most_it, own.1))
        ]) refl)
        (raised_below (known_by board table f.master f.index) f.master (f.index + 1) c.master c.index with_f) in
        passes.seen e g p q met.reading f run met.is_got raised_it.writes lands raised_it.whole met.before is_before masters behind)
        (consistent p want (space, address, tries, is_poll_op) c.master)

    -- the next operation of the program
    next_known : (q : OpId) → next_op board p ≡ Some q → (is_poll (Some op) ≡ true → (next : OpId) → p.master ≡ next.master → stands_after p next ≡ true → c.index < table p.master p.index c.master → X (e ∷ g) next) → Knowing (e ∷ g) q
    next_known q is poll_knows =
        let next : OpId = record { master = p.master; index = p.index + 1; attempt = 0 } in
        let same : next ≡ q = present_is board next q is in
        let behind : stands_after p next ≡ true = grind (arith, nat_tests) in
        let here : Knowing (e ∷ g) next = λ below.
        ⊎_elim {C = X (e ∷ g) next}
        (λ (known : c.index < known_by board table p.master (p.index + 1) c.master).
        let further : p.index + 1 ≡ suc p.index = omega arith in
        let K : ℕ → Type 0 = λ n. c.index < known_by board table p.master n c.master in
        let known_next : K (suc p.index) = subst K further known in
        let P : Bool → Type 0 = λ b. is_poll (op_of board (at_place p.master p.index)) ≡ b → c.index < cond b (table p.master p.index) (known_by board table p.master p.index) c.master → X (e ∷ g) next in
        (elim (is_poll (op_of board (at_place p.master p.index))) as P [
          | true ↦ λ poll f. poll_knows (sym (ap is_poll (first_try board p op is_op)) ∙ poll) next refl behind f
          | false ↦ λ _ f. by_it next refl behind (below_raised (known_by board table p.master p.index) p.master p.index c.master c.index f)
        ]) refl known_next)
        (λ (own : (c.master ≡ p.master) × (c.index < p.index + 1)).
        let P : Bool → Type 0 = λ b. nat_lt c.index p.index ≡ b → X (e ∷ g) next in
        (elim (nat_lt c.index p.index) as P [
          | true ↦ λ less. let under : c.index < p.index = grind (arith, nat_tests) in by_it next refl behind (below_own (known_by board table p.master p.index) p.master p.index c.master c.index own.0 under)
          | false ↦ λ none.
              let most : p.index ≤ c.index = grind (arith, nat_tests) in
              passes.own e g p next outcome run ends (ap is_some is_op) (sym own.0) (omega (arith, most, own.1)) refl behind
        ]) refl)
        (raised_below (known_by board table p.master (p.index + 1)) p.master (p.index + 1) c.master c.index below) in
        subst (Knowing (e ∷ g)) same here

    -- the next try of the poll
    try_known : (q : OpId) → next_try board p ≡ Some q → Knowing (e ∷ g) q
    try_known q is =
        let next : OpId = record { master = p.master; index = p.index; attempt = p.attempt + 1 } in
        let same : next ≡ q = present_is board next q is in
        let behind : stands_after p next ≡ true = grind (arith, nat_tests) in
        let here : Knowing (e ∷ g) next = λ below. by_it next refl behind below in
        subst (Knowing (e ∷ g)) same here

    no_poll : (X : Type 0) → is_poll (Some op) ≡ false → is_poll (Some op) ≡ true → X
    no_poll X none is = let e : true ≡ false = sym is ∙ none in cc

  follows_known : (e : Event) (g : List Event) (run : Run board (e ∷ g)) (goods : Goods g) (sound : SoundAt board table e g) (p : OpId) (outcome : Outcome) → ended e ≡ Some (record { op = p; outcome = outcome }) → (op : Op) → op_of board p ≡ Some op → (q : OpId) → follows_op board p outcome op ≡ Some q → Knowing (e ∷ g) q
  follows_known e g run goods sound p outcome ends (ReadOp command address) is_op q is = next_known e g run goods sound p outcome ends (ReadOp command address) is_op q is (λ f. cc)
  follows_known e g run goods sound p outcome ends (Write command address phases) is_op q is = next_known e g run goods sound p outcome ends (Write command address phases) is_op q is (λ f. cc)
  follows_known e g run goods sound p outcome ends (CfgRead bus device register) is_op q is = next_known e g run goods sound p outcome ends (CfgRead bus device register) is_op q is (λ f. cc)
  follows_known e g run goods sound p outcome ends (CfgWrite bus device register phase) is_op q is = next_known e g run goods sound p outcome ends (CfgWrite bus device register phase) is_op q is (λ f. cc)
  follows_known e g run goods sound p outcome ends (Poll space address want tries) is_op q is =
      let op : Op = Poll space address want tries in
      let P : Bool → Type 0 = λ b. meets want outcome ≡ b → cond b (next_op board p) (next_try board p) ≡ Some q → Knowing (e ∷ g) q in
      (elim (meets want outcome) as P [
        | true ↦ λ is_met f. next_known e g run goods sound p outcome ends op is_op q f (λ _ next masters behind below. by_poll e g run goods sound p outcome ends op is_op next space address want tries is_op is_met masters behind below)
        | false ↦ λ _ f. try_known e g run goods sound p outcome ends op is_op q f
      ]) refl is

  ending_known : (e : Event) (g : List Event) (run : Run board (e ∷ g)) (goods : Goods g) (sound : SoundAt board table e g) (ending : Ending) → ended e ≡ Some ending → (q : OpId) → follows board ending ≡ Some q → Knowing (e ∷ g) q
  ending_known e g run goods sound ending ends q is =
      let P : Option Op → Type 0 = λ found. op_of board ending.op ≡ found → follows_in board ending.op ending.outcome found ≡ Some q → Knowing (e ∷ g) q in
      (elim (op_of board ending.op) as P [
        | None ↦ λ _ f. cc
        | Some op ↦ λ is_op f. follows_known e g run goods sound ending.op ending.outcome ends op is_op q f
      ]) refl is

  turns_known : (e : Event) (g : List Event) (run : Run board (e ∷ g)) (goods : Goods g) (sound : SoundAt board table e g) (q : OpId) → turn_of board (e ∷ g) q.master ≡ Some q → Knowing (e ∷ g) q
  turns_known e g run goods sound q is =
      let old : turn_of board g q.master ≡ Some q → Knowing (e ∷ g) q = λ was. knowing_kept e g q run ((good_now g goods).turns q was) in
      let P : Option Ending → Type 0 = λ found. ended e ≡ found → turn_after board q.master (turn_of board g q.master) found ≡ Some q → Knowing (e ∷ g) q in
      let Q : Ending → Bool → Type 0 = λ ending b. ended e ≡ Some ending → cond b (follows board ending) (turn_of board g q.master) ≡ Some q → Knowing (e ∷ g) q in
      (elim (ended e) as P [
        | None ↦ λ _ was. old was
        | Some ending ↦ λ ends f. (elim (eqb ending.op.master q.master) as (Q ending) [ true ↦ λ is_end k. ending_known e g run goods sound ending is_end q k | false ↦ λ _ k. old k ]) ends f
      ]) refl is

  -- the first operation of a program comes after nothing
  first_known : (q : OpId) → turn_of board [] q.master ≡ Some q → Knowing [] q
  first_known q is =
      let first : OpId = at_place q.master 0 in
      let same : first ≡ q = present_is board first q is in
      let here : Knowing [] first = λ below.
      ⊎_elim {C = X [] first} (λ (none : c.index < 0). absurd (omega (arith, none))) (λ (own : (c.master ≡ q.master) × (c.index < 0)). absurd (omega (arith, own.1)))
      (raised_below (known_by board table q.master 0) q.master 0 c.master c.index below) in
      subst (Knowing []) same here

  -- in every history that is sound
  pub Goods-run : (h : List Event) → Run board h → Sound board table h → Goods h
  Goods-run [] run sound = held_first board Knowing knowing_kept first_known
  Goods-run (e ∷ g) run sound =
      let goods = Goods-run g run.1 sound.1 in
      (held_after board Knowing knowing_kept e g run (good_now g goods) (turns_known e g run goods sound.0), goods)

  -- so of whatever is the turn
  pub turn_known : (h : List Event) (q : OpId) → Run board h → Sound board table h → turn_of board h q.master ≡ Some q → c.index < clock_of board table q c.master → X h q
  turn_known h q run sound is below = (good_now h (Goods-run h run sound)).turns q is below

  -- of whatever is presented
  pub wanted_known : (h : List Event) (on : ℕ) (by : By) (q : OpId) → Run board h → Sound board table h → wants board h on by q ≡ true → c.index < clock_of board table q c.master → X h q
  wanted_known h on by q run sound wanted below = presented board Knowing knowing_kept h on by q (good_now h (Goods-run h run sound)) wanted below

  -- of a read, before its reading
  pub read_known : (h : List Event) (r : OpId) (reading : Reading) → Run board h → Sound board table h → got board h r ≡ Some reading → c.index < clock_of board table r c.master → X reading.before r
  read_known h r reading run sound is_got below =
      let at = read_at board h r reading valid run is_got in
      wanted_known reading.before at.some.on at.some.by r at.run.1 (sound_front board table reading.before h at.before sound) at.some.wanted below

  -- and of a write, where a data phase of it landed
  pub write_known : (h : List Event) (w : OpId) (word : Dword) → Run board h → Sound board table h → list_any (is_landing_of w) (landed board h word) ≡ true → c.index < clock_of board table w c.master → X h w
  write_known h w word run sound lands below =
      let some = any_some (is_landing_of w) (landed board h word) lands in
      let one : some.0.op ≡ w = same_op_true some.0.op w (find_passes (is_landing_of w) (landed board h word) some.0 some.1) in
      (subst (Knowing h) one (Each-find (λ l. Knowing h l.op) (is_landing_of w) (landed board h word) some.0 ((good_now h (Goods-run h run sound)).landings word) some.1)) below
