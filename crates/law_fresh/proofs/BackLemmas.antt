-- Who knows of a write was told of it.
use Rattle.std.proofs.Common.{◌≡◌, ℕ, ◌≤◌, Bool, true, false, ◌&&◌, ◌||◌, ◌==◌, cond, eqb, List, [], ◌∷◌, ◌++◌, append_assoc, Option, Some, None, is_some, refl, sym, ap, subst, ◌∙◌, arith, ◌⊎◌, inl, inr, ⊎_elim}
use Rattle.std.specs.List.{list_any, AllByRecursion}
use Rattle.std.proofs.lemmas.Bool.Decides.{nat_tests}
use Rattle.list_facts.proofs.EachLemmas.{Each-append, Each-find, Each-weaker}
use Rattle.list_facts.proofs.FindLemmas.{find_passes}
use Rattle.pci_command.specs.declared.request.Request.{Request}
use Rattle.pci_command.specs.declared.op_id.OpId.{OpId}
use Rattle.pci_command.specs.declared.op_id.Outcome.{Outcome}
use Rattle.pci_command.specs.Same.{same_op}
use Rattle.board_model.specs.declared.bridge.Place.{Place}
use Rattle.board_model.specs.declared.bridge.Place.TheVariants.{Target, Header, Lane, Nobody}
use Rattle.board_model.specs.declared.op.Op.{Op}
use Rattle.board_model.specs.declared.board.Board.{Board}
use Rattle.board_model.specs.Requests.{op_of, request_of, reads, reads_in}
use Rattle.board_model.specs.Ways.{Dword}
use Rattle.history_model.specs.declared.event.Step.{Step}
use Rattle.history_model.specs.declared.event.Event.{Event}
use Rattle.history_model.specs.declared.event.Event.TheVariants.{Act, Arrive}
use Rattle.history_model.specs.declared.rule.Rule.TheVariants.{Tagged}
use Rattle.history_model.specs.Program.{Ending, ended, turn_of}
use Rattle.history_model.specs.Words.{Landing, through, landings_of, landings_by, brought, landed}
use Rattle.history_model.specs.Knowledge.{value_in, Reading, value_of_ending, outcome_in, ends_as, ends_with, has_ended, up_to_end, reading_in, reading_or, last_reading, got, has_landed, is_landing_of, saw_in, saw, stands_after, later, tells, Chain, one, more, is_write, Told}
use Rattle.history_model.specs.Runs.{Run}
use Rattle.law_lanes.specs.order.One.{times, ends_at_master}
use Rattle.std.proofs.lemmas.Bool.{and_parts, or_left, or_right}
use Rattle.law_fresh.specs.Aware.{Aware, is_behind, knows, shows, shown, first_known, taught_by, taught_after, aware_of}
use Rattle.law_fresh.specs.Told.{was_told}
use Rattle.law_fresh.proofs.ListLemmas.{or_either}
use Rattle.law_fresh.proofs.AwareLemmas.{first_brought}
use Rattle.law_fresh.proofs.SinceLemmas.{ends_as_ended}
use Rattle.law_fresh.proofs.ToldLemmas.{Front, front_run, front_end, before_in, told_knows}
use Rattle.history_model.proofs.facts.RequestLemmas.{same_op_true, same_op_self, request_is_of}
use Rattle.law_lanes.proofs.order.Laws.{turn_not_ended}
use Rattle.list_facts.proofs.AnyLemmas.{any_some, found_any}
use Rattle.law_fresh.proofs.reads.Laws.{no_reading}
use Rattle.law_fresh.proofs.BehindLemmas.{ends_turn}
use Rattle.law_fresh.proofs.NamedLemmas.{IsOf, of_of}

-- An operation of which a data phase landed is there.

abbrev pub IsThere : Board → Landing → Type 0
IsThere board landing = is_some (op_of board landing.op) ≡ true

there_by : (board : Board) (h : List Event) (on : ℕ) (o : OpId) (step : Step) (word : Dword) (place : Place) → AllByRecursion (IsThere board) (landings_by board h on o step word place)
there_by board h on o step word (Target target) =
    let P : Bool → Type 0 = λ b. AllByRecursion (IsThere board) (cond b (landings_of o step (through h o) word (request_of board o on)) []) in
    let Q : Option Request → Type 0 = λ found. request_of board o on ≡ found → AllByRecursion (IsThere board) (landings_of o step (through h o) word found) in
    let all : AllByRecursion (IsThere board) (landings_of o step (through h o) word (request_of board o on)) = (elim (request_of board o on) as Q [
      | None ↦ λ _. tt
      | Some request ↦ λ is.
          let named = request_is_of board o on request is in
          let there : is_some (op_of board o) ≡ true = ap is_some named.is_op in
          Each-weaker (IsOf o) (IsThere board) (λ landing of_o. subst (λ p. is_some (op_of board p) ≡ true) (sym of_o) there) (landings_of o step (through h o) word (Some request)) (of_of o step (through h o) word (Some request))
    ]) refl in
    elim (target == word.target) as P [ true ↦ all | false ↦ tt ]
there_by board h on o step word (Header bus) = tt
there_by board h on o step word (Lane lane) = tt
there_by board h on o step word Nobody = tt

there_in : (board : Board) (h : List Event) (word : Dword) (e : Event) → AllByRecursion (IsThere board) (brought board h word e)
there_in board h word (Act on by o step place) = there_by board h on o step word place
there_in board h word (Arrive lane mark) = tt

pub landings_there : (board : Board) (h : List Event) (word : Dword) → AllByRecursion (IsThere board) (landed board h word)
landings_there board [] word = tt
landings_there board (e ∷ h) word = Each-append (IsThere board) (landed board h word) (brought board h word e) (landings_there board h word) (there_in board h word e)

-- A master ends an operation once.

ends_once_more : (o : OpId) (e : Event) (h : List Event) → is_some (ends_as o e) ≡ true → 1 ≤ times (ends_at_master o) (e ∷ h)
ends_once_more o e h is = rw is (omega arith)

pub times_later : (o : OpId) (later h : List Event) → 1 ≤ times (ends_at_master o) h → 1 ≤ times (ends_at_master o) (later ++ h)
times_later o [] h some = some
times_later o (e ∷ later) h some = omega (arith, times_later o later h some)

value_ends : (o : OpId) (e : Event) → is_some (ends_with o e) ≡ true → is_some (ends_as o e) ≡ true
value_ends o e is =
    let P : Option Outcome → Type 0 = λ given. is_some (value_of_ending given) ≡ true → is_some given ≡ true in
    (elim (ends_as o e) as P [ None ↦ λ f. cc | Some outcome ↦ λ _. refl ]) is

-- what ends an operation ends a turn
ends_turn_of : (board : Board) (e : Event) (h : List Event) (o : OpId) → Run board (e ∷ h) → is_some (ends_as o e) ≡ true → turn_of board h o.master ≡ Some o
ends_turn_of board e h o run is =
    let P : Option Outcome → Type 0 = λ given. ends_as o e ≡ given → is_some given ≡ true → turn_of board h o.master ≡ Some o in
    (elim (ends_as o e) as P [
      | None ↦ λ _ f. cc
      | Some outcome ↦ λ some _. ends_turn Tagged board e h (record { op = o; outcome = outcome }) run (ends_as_ended o e outcome some)
    ]) refl is

end_in : (board : Board) (o : OpId) (e : Event) (g later : List Event) → Run board (later ++ e ∷ g) → is_some (ends_with o e) ≡ true → up_to_end o (later ++ e ∷ g) ≡ e ∷ g
end_in board o e g [] run is = rw is refl
end_in board o e g (f ∷ later) run is =
    let older : up_to_end o (later ++ e ∷ g) ≡ e ∷ g = end_in board o e g later run.1 is in
    let P : Bool → Type 0 = λ b. is_some (ends_with o f) ≡ b → cond b (f ∷ (later ++ e ∷ g)) (up_to_end o (later ++ e ∷ g)) ≡ e ∷ g in
    (elim (is_some (ends_with o f)) as P [
      | true ↦ λ again.
          let turn = ends_turn_of board f (later ++ e ∷ g) o run (value_ends o f again) in
          let none : times (ends_at_master o) (later ++ e ∷ g) ≡ 0 = turn_not_ended board (later ++ e ∷ g) o run.1 turn in
          let some : 1 ≤ times (ends_at_master o) (later ++ e ∷ g) = times_later o later (e ∷ g) (ends_once_more o e g (value_ends o e is)) in
          absurd (omega (arith, none, some))
      | false ↦ λ _. older
    ]) refl

end_at : (board : Board) (o : OpId) (e : Event) (g h : List Event) → Run board h → Front (e ∷ g) h → is_some (ends_with o e) ≡ true → up_to_end o h ≡ e ∷ g
end_at board o e g h run front is =
    subst (λ k. up_to_end o k ≡ e ∷ g) front.is (end_in board o e g front.later (subst (Run board) (sym front.is) run) is)

pub ended_later : (o : OpId) (later g : List Event) → has_ended g o ≡ true → has_ended (later ++ g) o ≡ true
ended_later o [] g is = is
ended_later o (e ∷ later) g is = or_right (is_some (ends_as o e)) (has_ended (later ++ g) o) (ended_later o later g is)

pub ended_front : (o : OpId) (g h : List Event) → Front g h → has_ended g o ≡ true → has_ended h o ≡ true
ended_front o g h front is = subst (λ k. has_ended k o ≡ true) front.is (ended_later o front.later g is)

module _ (board : Board) (w : OpId) (h : List Event) (run : Run board h) where
  -- the write, or told of it by a chain
  abbrev Linked : OpId → Type 0
  Linked p = (p ≡ w) ⊎ Chain board h w p

  onward : (p q r : OpId) → Chain board h p q → tells board h q r ≡ true → Chain board h p r
  onward p q r (one a b is) next = more p q r is (one q r next)
  onward p q r (more a b c is rest) next = more p b r is (onward b q r rest next)

  link : (p q : OpId) → Linked p → tells board h p q ≡ true → Chain board h w q
  link p q linked is =
      ⊎_elim {C = Chain board h w q}
      (λ (same : p ≡ w). let F : OpId → Type 0 = λ r. tells board h r q ≡ true in one w q (subst F same is))
      (λ (chain : Chain board h w p). onward w p q chain is)
      linked

  -- what was seen in a reading that told of the write
  record Seen (reading : Reading) : Type 0 where
    op : OpId
    linked : Linked op
    seen : saw_in board op (Some reading) ≡ true

  record Taught (g : List Event) (r : OpId) : Type 0 where
    reading : Reading
    is_last : last_reading board r g ≡ Some reading
    told : Seen reading

  record Backed (g : List Event) : Type 0 where
    since : (master : ℕ) (p : OpId) → (aware_of board w g).since master ≡ Some p → (p.master ≡ master) × (has_ended h p ≡ true) × Linked p
    taught : (r : OpId) → (aware_of board w g).taught r ≡ true → Taught g r

  -- an operation that is there and stands behind one of these was told
  later_linked : (p q : OpId) → p.master ≡ q.master → has_ended h p ≡ true → stands_after p q ≡ true → is_some (op_of board q) ≡ true → Linked p → Chain board h w q
  later_linked p q masters ended_it behind there linked =
      let self : eqb p.master q.master ≡ true = grind (arith, nat_tests) in
      let is_later : later board h p q ≡ true = rw (self, ended_it, behind, there) refl in
      link p q linked (or_left (later board h p q) (saw board h q p) is_later)

  knows_linked : (g : List Event) (q : OpId) → Backed g → is_some (op_of board q) ≡ true → knows (aware_of board w g) q ≡ true → Chain board h w q
  knows_linked g q backed there known =
      let P : Option OpId → Type 0 = λ since. (aware_of board w g).since q.master ≡ since → is_behind since q ≡ true → Chain board h w q in
      (elim ((aware_of board w g).since q.master) as P [
        | None ↦ λ _ f. cc
        | Some p ↦ λ is behind.
            let old = backed.since q.master p is in
            later_linked p q old.0 old.1 behind there old.2
      ]) refl known

  shown_seen : (g : List Event) (reading : Reading) → Backed g → reading.before ≡ g → shown board w (aware_of board w g) reading.before reading.word ≡ true → Seen reading
  shown_seen g reading backed before is =
      let aware : Aware = aware_of board w g in
      let landings : List Landing = landed board reading.before reading.word in
      let some = any_some (shows w aware reading.before) landings is in
      let landing : Landing = some.0 in
      let parts = and_parts (has_landed reading.before landing.op) (same_op landing.op w || knows aware landing.op) (find_passes (shows w aware reading.before) landings landing some.1) in
      let lands : list_any (is_landing_of landing.op) landings ≡ true = found_any (shows w aware reading.before) (is_landing_of landing.op) landings landing some.1 (same_op_self landing.op) in
      let there : is_some (op_of board landing.op) ≡ true = Each-find (IsThere board) (shows w aware reading.before) landings landing (landings_there board reading.before reading.word) some.1 in
      let linked : Linked landing.op =
      or_either (Linked landing.op) (same_op landing.op w) (knows aware landing.op)
      (λ same. inl (same_op_true landing.op w same))
      (λ known. inr (knows_linked g landing.op backed there known)) parts.1 in
      record { op = landing.op; linked = linked; seen = rw (lands, parts.0) refl }

  -- what was taught after one more event
  taught_after_event : (e : Event) (g : List Event) (r : OpId) → Backed g → (aware_of board w (e ∷ g)).taught r ≡ true → Taught (e ∷ g) r
  taught_after_event e g r backed is =
      let aware : Aware = aware_of board w g in
      let P : Option Reading → Type 0 = λ here. reading_in board g r e ≡ here → taught_by board w aware (aware.taught r) here ≡ true → Taught (e ∷ g) r in
      (elim (reading_in board g r e) as P [
        | None ↦ λ none f.
            let older = backed.taught r f in
            let F : Option Reading → Type 0 = λ here. reading_or here (last_reading board r g) ≡ Some older.reading in
            record { reading = older.reading; is_last = subst F (sym none) older.is_last; told = older.told }
        | Some reading ↦ λ some f.
            let F : Option Reading → Type 0 = λ here. reading_or here (last_reading board r g) ≡ Some reading in
            record { reading = reading; is_last = subst F (sym some) refl; told = shown_seen g reading backed (before_in board g r e reading some) f }
      ]) refl is

  -- a read that was taught and ended with a value saw what taught it
  taught_linked : (e : Event) (g : List Event) (r : OpId) → Front (e ∷ g) h → is_some (ends_with r e) ≡ true → Taught (e ∷ g) r → Chain board h w r
  taught_linked e g r front ends taught =
      let F : List Event → Type 0 = λ k. last_reading board r k ≡ Some taught.reading in
      let got_it : got board h r ≡ Some taught.reading = subst F (sym (end_at board r e g h run front ends)) taught.is_last in
      let G : Option Reading → Type 0 = λ found. saw_in board taught.told.op found ≡ true in
      let saw_it : saw board h r taught.told.op ≡ true = subst G (sym got_it) taught.told.seen in
      link taught.told.op r taught.told.linked (or_right (later board h taught.told.op r) (saw board h r taught.told.op) saw_it)

  ending_with : (e : Event) (ending : Ending) → ended e ≡ Some ending → is_some (value_in ending.outcome) ≡ true → is_some (ends_with ending.op e) ≡ true
  ending_with e ending is some =
      let F : Option Ending → Type 0 = λ found. is_some (value_of_ending (outcome_in ending.op found)) ≡ true in
      let self = same_op_self ending.op in
      let there : F (Some ending) = rw self some in
      subst F (sym is) there

  ending_ends : (e : Event) (ending : Ending) → ended e ≡ Some ending → is_some (ends_as ending.op e) ≡ true
  ending_ends e ending is =
      let F : Option Ending → Type 0 = λ found. is_some (outcome_in ending.op found) ≡ true in
      let self = same_op_self ending.op in
      let there : F (Some ending) = rw self refl in
      subst F (sym is) there

  Backed-run : (g : List Event) → Front g h → Backed g
  Backed-run [] front = record { since = λ master p is. cc; taught = λ r is. cc }
  Backed-run (e ∷ g) front =
      let rest : Front g h = record { later = front.later ++ e ∷ []; is = append_assoc front.later (e ∷ []) g ∙ front.is } in
      let backed : Backed g = Backed-run g rest in
      let aware : Aware = aware_of board w g in
      let taught : OpId → Bool = taught_after board w aware g e in
      record {
        since = λ master p is.
            let Goal : Type 0 = (p.master ≡ master) × (has_ended h p ≡ true) × Linked p in
            let P : Option OpId → Type 0 = λ since. aware.since master ≡ since → first_known since master w taught (ended e) ≡ Some p → Goal in
            let Q : Option Ending → Type 0 = λ ending. ended e ≡ ending → first_known None master w taught ending ≡ Some p → Goal in
            (elim (aware.since master) as P [
              | None ↦ λ _ f. (elim (ended e) as Q [
                | None ↦ λ _ k. cc
                | Some ending ↦ λ ends k.
                    let brought = first_brought master w taught ending p k in
                    let G : OpId → Type 0 = λ q. (q.master ≡ master) × (has_ended h q ≡ true) × Linked q in
                    let ended_here : has_ended (e ∷ g) ending.op ≡ true = or_left (is_some (ends_as ending.op e)) (has_ended g ending.op) (ending_ends e ending ends) in
                    let linked : Linked ending.op =
                    or_either (Linked ending.op) (same_op ending.op w) (is_some (value_in ending.outcome) && taught ending.op)
                    (λ same. inl (same_op_true ending.op w same))
                    (λ both.
                    let parts = and_parts (is_some (value_in ending.outcome)) (taught ending.op) both in
                    inr (taught_linked e g ending.op front (ending_with e ending ends parts.0) (taught_after_event e g ending.op backed parts.1)))
                    brought.brings_it in
                    let here : G ending.op = (brought.of_master, ended_front ending.op (e ∷ g) h front ended_here, linked) in
                    subst G (sym brought.is_first) here
              ]) refl f
              | Some first ↦ λ was f.
                  let same : first ≡ p = cc in
                  backed.since master p (was ∙ ap Some same)
            ]) refl is;
        taught = λ r is. taught_after_event e g r backed is;
      }

  -- who knows of the write was told of it
  pub known_told : (r : OpId) → was_told board h w r ≡ true → Told board h w r
  known_told r is =
      let upto : List Event = up_to_end r h in
      let known : Bool = knows (aware_of board w h) r || (aware_of board w upto).taught r in
      let first = and_parts (is_write board w && is_some (op_of board r)) known is in
      let second = and_parts (is_write board w) (is_some (op_of board r)) first.0 in
      let whole : Front h h = record { later = []; is = refl } in
      let chain : Chain board h w r =
      or_either (Chain board h w r) (knows (aware_of board w h) r) ((aware_of board w upto).taught r)
      (λ knows_it. knows_linked h r (Backed-run h whole) second.1 knows_it)
      (λ taught_it.
      let taught = (Backed-run upto (front_end r h)).taught r taught_it in
      let G : Option Reading → Type 0 = λ found. saw_in board taught.told.op found ≡ true in
      let saw_it : saw board h r taught.told.op ≡ true = subst G (sym taught.is_last) taught.told.seen in
      link taught.told.op r taught.told.linked (or_right (later board h taught.told.op r) (saw board h r taught.told.op) saw_it))
      first.1 in
      (second.0, chain)

  -- an operation that is told is there
  tells_there : (p q : OpId) → tells board h p q ≡ true → is_some (op_of board q) ≡ true
  tells_there p q is =
      or_either (is_some (op_of board q) ≡ true) (later board h p q) (saw board h q p)
      (λ later_it. (and_parts (eqb p.master q.master && has_ended h p && stands_after p q) (is_some (op_of board q)) later_it).1)
      (λ saw_it.
      let upto : List Event = up_to_end q h in
      let P : Option Reading → Type 0 = λ last. last_reading board q upto ≡ last → saw_in board p last ≡ true → is_some (op_of board q) ≡ true in
      (elim (last_reading board q upto) as P [
        | None ↦ λ _ f. cc
        | Some reading ↦ λ last _.
            let R : Bool → Type 0 = λ b. reads board q ≡ b → is_some (op_of board q) ≡ true in
            let S : Option Op → Type 0 = λ found. reads_in found ≡ true → is_some found ≡ true in
            (elim (reads board q) as R [
              | true ↦ λ reads_it. (elim (op_of board q) as S [ None ↦ λ f. cc | Some op ↦ λ _. refl ]) reads_it
              | false ↦ λ other.
                  let none = no_reading board q upto other (front_run board upto h (front_end q h) run) in
                  let e : ◌≡◌ {A = Option Reading} None (Some reading) = sym none ∙ last in
                  cc
            ]) refl
      ]) refl saw_it)
      is

  chain_there : (p q : OpId) → Chain board h p q → is_some (op_of board q) ≡ true
  chain_there a b (one p q is) = tells_there p q is
  chain_there a b (more p q r is rest) = chain_there q r rest

  pub told_known : (r : OpId) → Told board h w r → was_told board h w r ≡ true
  told_known r told =
      let there = chain_there w r told.1 in
      let known = told_knows board w h run r told.1 in
      let write = told.0 in
      rw (write, there) known
