-- What an operation that began knows of a write it knows ever after, and nothing more.
use Rattle.std.proofs.Common.{◌≡◌, ℕ, Bool, true, false, ◌&&◌, ◌||◌, ◌==◌, cond, eqb-true, List, [], ◌∷◌, ◌++◌, Option, Some, None, is_some, refl, sym, ap, subst, ◌∙◌}
use Rattle.std.specs.List.{find}
use Rattle.list_facts.proofs.EachLemmas.{Each-find}
use Rattle.list_facts.proofs.FindLemmas.{find_passes}
use Rattle.list_facts.proofs.AnyLemmas.{any_some, found_any}
use Rattle.pci_command.specs.declared.op_id.OpId.{OpId}
use Rattle.pci_command.specs.declared.op_id.Outcome.{Outcome}
use Rattle.pci_command.specs.Same.{same_op}
use Rattle.board_model.specs.declared.bridge.Lane.{Lane as BridgeLane}
use Rattle.board_model.specs.declared.bridge.Place.{Place}
use Rattle.board_model.specs.declared.bridge.Place.TheVariants.{Target, Header, Lane, Nobody}
use Rattle.board_model.specs.declared.board.Board.{Board}
use Rattle.board_model.specs.Requests.{reads}
use Rattle.history_model.specs.declared.event.By.TheVariants.{Master, Lane as ByLane}
use Rattle.history_model.specs.declared.event.Step.{Step}
use Rattle.history_model.specs.declared.event.Step.TheVariants.{Land, Part, Read, Accept, Latch, Take, Stall, MasterAbort, TargetAbort}
use Rattle.history_model.specs.declared.event.Event.{Event}
use Rattle.history_model.specs.declared.event.Event.TheVariants.{Act, Arrive}
use Rattle.history_model.specs.declared.item.Slot.{Slot}
use Rattle.history_model.specs.declared.rule.Rule.TheVariants.{Untagged}
use Rattle.history_model.specs.World.{anyone, World, same_lane, is_own, world_by}
use Rattle.history_model.specs.Program.{Ending, ending_of, ended, master_outcome, turn_of}
use Rattle.history_model.specs.Words.{Landing, landed}
use Rattle.history_model.specs.Knowledge.{ends_as, Reading, reading_by, reading_or, has_landed, stands_after}
use Rattle.std.proofs.lemmas.Bool.{and_parts, or_left, or_right}
use Rattle.law_untagged.specs.Untagged.{UntaggedRun}
use Rattle.law_untagged.specs.Origins.{Origins, origin_in, taken_from, taken_in, source_of, answers, origins_of, ending_reading, untagged_got}
use Rattle.law_untagged.specs.Heard.{Since, is_behind, knows, speaks, heard, first_known, untagged_since}
use Rattle.law_untagged.proofs.OrderLemmas.{ends_some, run_front, front_begun}
use Rattle.law_fresh.proofs.Laws.{IsBehind, Begun, ends_turn, event_behind, ended_behind, LandingBegun, LandingsBegun-run, Front, front_self, front_more, front_front, before_by, or_either}

-- What a reading is of.

read_front : (board : Board) (h : List Event) (on : ℕ) (r : OpId) (step : Step) (place : Place) (reading : Reading) → reading_by board h on r step place ≡ Some reading → Front reading.before h
read_front board h on r step place reading is = subst (λ g. Front reading.before g) (before_by board h on r step place reading is) (front_self reading.before)

-- all readings are of fronts
abbrev AreFronts : List Event → Origins → Type 0
AreFronts h origins = (lane : BridgeLane) (number : ℕ) (reading : Reading) → origins lane number ≡ Some reading → Front reading.before h

found_front : (h : List Event) (origins : Origins) → AreFronts h origins → (lane : BridgeLane) (own : Option Slot) (reading : Reading) → origin_in origins lane own ≡ Some reading → Front reading.before h
found_front h origins fronts lane None reading is = cc
found_front h origins fronts lane (Some slot) reading is = fronts lane slot.number reading is

from_front : (board : Board) (world : World) (h : List Event) (origins : Origins) → AreFronts h origins → (on : ℕ) (o : OpId) (place : Place) (reading : Reading)
    → taken_from board world origins on o place ≡ Some reading → Front reading.before h
from_front board world h origins fronts on o (Target target) reading is = cc
from_front board world h origins fronts on o (Header bus) reading is = cc
from_front board world h origins fronts on o (Lane lane) reading is = found_front h origins fronts lane (find (is_own board on anyone o) (world lane).held) reading is
from_front board world h origins fronts on o Nobody reading is = cc

taken_front : (board : Board) (world : World) (h : List Event) (origins : Origins) → AreFronts h origins → (on : ℕ) (o : OpId) (step : Step) (place : Place) (reading : Reading)
    → taken_in board world origins on o step place ≡ Some reading → Front reading.before h
taken_front board world h origins fronts on o Land place reading is = cc
taken_front board world h origins fronts on o (Part phases) place reading is = cc
taken_front board world h origins fronts on o (Read value) place reading is = cc
taken_front board world h origins fronts on o Accept place reading is = cc
taken_front board world h origins fronts on o Latch place reading is = cc
taken_front board world h origins fronts on o (Take outcome) place reading is = from_front board world h origins fronts on o place reading is
taken_front board world h origins fronts on o Stall place reading is = cc
taken_front board world h origins fronts on o MasterAbort place reading is = cc
taken_front board world h origins fronts on o TargetAbort place reading is = cc

source_front : (board : Board) (h : List Event) (world : World) (origins : Origins) → AreFronts h origins → (on : ℕ) (o : OpId) (step : Step) (place : Place) (reading : Reading)
    → source_of board h world origins on o step place ≡ Some reading → Front reading.before h
source_front board h world origins fronts on o step place reading is =
    let P : Option Reading → Type 0 = λ here. reading_by board h on o step place ≡ here → reading_or here (taken_in board world origins on o step place) ≡ Some reading → Front reading.before h in
    (elim (reading_by board h on o step place) as P [
      | None ↦ λ _ f. taken_front board world h origins fronts on o step place reading f
      | Some here ↦ λ some f. read_front board h on o step place reading (some ∙ f)
    ]) refl is

more_fronts : (h : List Event) (e : Event) (origins : Origins) → AreFronts h origins → AreFronts (e ∷ h) origins
more_fronts h e origins fronts lane number reading is = front_more reading.before h e (fronts lane number reading is)

event_fronts : (board : Board) (e : Event) (h : List Event) → AreFronts h (origins_of board h) → AreFronts (e ∷ h) (origins_of board (e ∷ h))
event_fronts board (Act on Master o step place) h old lane number reading is = more_fronts h (Act on Master o step place) (origins_of board h) old lane number reading is
event_fronts board (Act on (ByLane k) o step place) h old lane number reading is =
    let e : Event = Act on (ByLane k) o step place in
    let world : World = world_by Untagged board h in
    let origins : Origins = origins_of board h in
    let P : Bool → Type 0 = λ b. cond b (source_of board h world origins on o step place) (origins lane number) ≡ Some reading → Front reading.before (e ∷ h) in
    (elim (same_lane k lane && answers board world k o step number) as P [
      | true ↦ λ f. front_more reading.before h e (source_front board h world origins old on o step place reading f)
      | false ↦ λ f. more_fronts h e origins old lane number reading f
    ]) is
event_fronts board (Arrive k mark) h old lane number reading is = more_fronts h (Arrive k mark) (origins_of board h) old lane number reading is

pub origins_fronts : (board : Board) (h : List Event) → AreFronts h (origins_of board h)
origins_fronts board [] = λ lane number reading is. cc
origins_fronts board (e ∷ h) = event_fronts board e h (origins_fronts board h)

pub ending_front : (board : Board) (h : List Event) (e : Event) (reading : Reading) → ending_reading board h e ≡ Some reading → Front reading.before h
ending_front board h (Act on Master o step place) reading is =
    let source : Option Reading = source_of board h (world_by Untagged board h) (origins_of board h) on o step place in
    let P : Bool → Type 0 = λ b. cond b source None ≡ Some reading → Front reading.before h in
    (elim (reads board o) as P [ true ↦ λ f. source_front board h (world_by Untagged board h) (origins_of board h) (origins_fronts board h) on o step place reading f | false ↦ λ f. cc ]) is
ending_front board h (Act on (ByLane lane) o step place) reading is = cc
ending_front board h (Arrive lane mark) reading is = cc

pub got_front : (board : Board) (h : List Event) (r : OpId) (reading : Reading) → untagged_got board h r ≡ Some reading → Front reading.before h
got_front board [] r reading is = cc
got_front board (e ∷ h) r reading is =
    let P : Bool → Type 0 = λ b. cond b (ending_reading board h e) (untagged_got board h r) ≡ Some reading → Front reading.before (e ∷ h) in
    (elim (is_some (ends_as r e)) as P [
      | true ↦ λ f. front_more reading.before h e (ending_front board h e reading f)
      | false ↦ λ f. front_more reading.before h e (got_front board h r reading f)
    ]) is

-- what got a reading reads
ending_reads : (board : Board) (h : List Event) (e : Event) (ending : Ending) (reading : Reading) → ended e ≡ Some ending → ending_reading board h e ≡ Some reading → reads board ending.op ≡ true
ending_reads board h (Act on Master o step place) ending reading ends is =
    let source : Option Reading = source_of board h (world_by Untagged board h) (origins_of board h) on o step place in
    let P : Bool → Type 0 = λ b. reads board o ≡ b → cond b source None ≡ Some reading → reads board o ≡ true in
    let there : reads board o ≡ true = (elim (reads board o) as P [ true ↦ λ yes_it _. yes_it | false ↦ λ _ f. cc ]) refl is in
    let Q : Option Outcome → Type 0 = λ given. ending_of o given ≡ Some ending → o ≡ ending.op in
    let same : o ≡ ending.op = (elim (master_outcome step) as Q [ None ↦ λ f. cc | Some outcome ↦ λ f. ap op_or_self f ]) ends in
    subst (λ p. reads board p ≡ true) same there
  where
    op_or_self : Option Ending → OpId
    op_or_self None = o
    op_or_self (Some other) = other.op
ending_reads board h (Act on (ByLane lane) o step place) ending reading ends is = cc
ending_reads board h (Arrive lane mark) ending reading ends is = cc

pub got_reads : (board : Board) (h : List Event) (r : OpId) (reading : Reading) → untagged_got board h r ≡ Some reading → reads board r ≡ true
got_reads board [] r reading is = cc
got_reads board (e ∷ h) r reading is =
    let P : Bool → Type 0 = λ b. is_some (ends_as r e) ≡ b → cond b (ending_reading board h e) (untagged_got board h r) ≡ Some reading → reads board r ≡ true in
    (elim (is_some (ends_as r e)) as P [
      | true ↦ λ some f. let ends = ends_some r e some in ending_reads board h e (record { op = r; outcome = ends.outcome }) reading ends.is f
      | false ↦ λ _ f. got_reads board h r reading f
    ]) refl is

-- Who knows.

module _ (board : Board) (w : OpId) where
  -- what an ending brings to a master
  pub record Brought (master : ℕ) (heard_it : Bool) (ending : Ending) (first : OpId) : Type 0 where
    pub is_first : first ≡ ending.op
    pub of_master : ending.op.master ≡ master
    pub brings_it : (same_op ending.op w || heard_it) ≡ true

  pub first_brought : (master : ℕ) (heard_it : Bool) (ending : Ending) (first : OpId) → first_known None master w heard_it (Some ending) ≡ Some first → Brought master heard_it ending first
  first_brought master heard_it ending first is =
      let test : Bool = same_op ending.op w || heard_it in
      let P : Bool → Type 0 = λ b. (ending.op.master == master && test) ≡ b → cond b (Some ending.op) None ≡ Some first → Brought master heard_it ending first in
      (elim (ending.op.master == master && test) as P [
        | true ↦ λ both e.
            let parts = and_parts (ending.op.master == master) test both in
            let same : ending.op ≡ first = cc in
            record { is_first = sym same; of_master = eqb-true ending.op.master master parts.0; brings_it = parts.1 }
        | false ↦ λ _ e. cc
      ]) refl is

  pub since_kept : (e : Event) (h : List Event) (master : ℕ) (p : OpId) → untagged_since board w h master ≡ Some p → untagged_since board w (e ∷ h) master ≡ Some p
  since_kept e h master p is = rw is refl

  knows_kept : (e : Event) (h : List Event) (q : OpId) → knows (untagged_since board w h) q ≡ true → knows (untagged_since board w (e ∷ h)) q ≡ true
  knows_kept e h q is =
      let heard_it : Bool = heard board w (untagged_since board w h) (ending_reading board h e) in
      let P : Option OpId → Type 0 = λ since. is_behind since q ≡ true → is_behind (first_known since q.master w heard_it (ended e)) q ≡ true in
      (elim (untagged_since board w h q.master) as P [ None ↦ λ f. cc | Some p ↦ λ f. f ]) is

  -- where an operation that began knows of the write after an event, it knew before
  knew : (e : Event) (h : List Event) (q : OpId) → UntaggedRun board (e ∷ h) → Begun board h q → knows (untagged_since board w (e ∷ h)) q ≡ true → knows (untagged_since board w h) q ≡ true
  knew e h q run begun is =
      let heard_it : Bool = heard board w (untagged_since board w h) (ending_reading board h e) in
      let P : Option OpId → Type 0 = λ since. is_behind (first_known since q.master w heard_it (ended e)) q ≡ true → is_behind since q ≡ true in
      let Q : Option Ending → Type 0 = λ ending. ended e ≡ ending → is_behind (first_known None q.master w heard_it ending) q ≡ true → false ≡ true in
      let R : Ending → Option OpId → Type 0 = λ ending first. first_known None q.master w heard_it (Some ending) ≡ first → ended e ≡ Some ending → is_behind first q ≡ true → false ≡ true in
      (elim (untagged_since board w h q.master) as P [
        | None ↦ λ now. (elim (ended e) as Q [
          | None ↦ λ _ f. f
          | Some ending ↦ λ ends f. (elim (first_known None q.master w heard_it (Some ending)) as (R ending) [
            | None ↦ λ _ _ g. g
            | Some first ↦ λ some ends g.
                let brought = first_brought q.master heard_it ending first some in
                let turn : turn_of board h q.master ≡ Some ending.op = subst (λ m. turn_of board h m ≡ Some ending.op) brought.of_master (ends_turn Untagged board e h ending run ends) in
                let none : stands_after ending.op q ≡ false = begun ending.op turn in
                let behind : stands_after ending.op q ≡ true = subst (λ p. stands_after p q ≡ true) brought.is_first g in
                sym none ∙ behind
          ]) refl ends f
        ]) refl now
        | Some p ↦ λ now. now
      ]) is

  knows_along : (later before : List Event) (q : OpId) → knows (untagged_since board w before) q ≡ true → knows (untagged_since board w (later ++ before)) q ≡ true
  knows_along [] before q is = is
  knows_along (e ∷ later) before q is = knows_kept e (later ++ before) q (knows_along later before q is)

  pub knows_front : (before h : List Event) (q : OpId) → Front before h → knows (untagged_since board w before) q ≡ true → knows (untagged_since board w h) q ≡ true
  knows_front before h q front is = subst (λ g. knows (untagged_since board w g) q ≡ true) front.is (knows_along front.later before q is)

  knew_along : (later before : List Event) (q : OpId) → UntaggedRun board (later ++ before) → Begun board before q → knows (untagged_since board w (later ++ before)) q ≡ true → knows (untagged_since board w before) q ≡ true
  knew_along [] before q run begun is = is
  knew_along (e ∷ later) before q run begun is =
      let now : Begun board (later ++ before) q = front_begun board before (later ++ before) q (record { later = later; is = refl }) run.1 begun in
      knew_along later before q run.1 begun (knew e (later ++ before) q run now is)

  pub knew_front : (before h : List Event) (q : OpId) → Front before h → UntaggedRun board h → Begun board before q → knows (untagged_since board w h) q ≡ true → knows (untagged_since board w before) q ≡ true
  knew_front before h q front run begun is =
      knew_along front.later before q (subst (UntaggedRun board) (sym front.is) run) begun (subst (λ g. knows (untagged_since board w g) q ≡ true) (sym front.is) is)

  -- a landing that speaks of the write
  pub record Spoken (since : Since) (reading : Reading) : Type 0 where
    pub landing : Landing
    pub is_found : find (speaks w since reading.before) (landed board reading.before reading.word) ≡ Some landing
    pub has_landed_whole : has_landed reading.before landing.op ≡ true
    pub tells : (same_op landing.op w || knows since landing.op) ≡ true

  pub spoken : (since : Since) (reading : Reading) → heard board w since (Some reading) ≡ true → Spoken since reading
  spoken since reading is =
      let some = any_some (speaks w since reading.before) (landed board reading.before reading.word) is in
      let parts = and_parts (has_landed reading.before some.0.op) (same_op some.0.op w || knows since some.0.op) (find_passes (speaks w since reading.before) (landed board reading.before reading.word) some.0 some.1) in
      record { landing = some.0; is_found = some.1; has_landed_whole = parts.0; tells = parts.1 }

  -- what a reading tells does not change with who comes to know later
  pub heard_before : (before h : List Event) (reading : Reading) → Front before h → Front reading.before before → UntaggedRun board h → heard board w (untagged_since board w h) (Some reading) ≡ true → heard board w (untagged_since board w before) (Some reading) ≡ true
  heard_before before h reading front inner run is =
      let now : Since = untagged_since board w h in
      let then_ : Since = untagged_since board w before in
      let landings : List Landing = landed board reading.before reading.word in
      let found = spoken now reading is in
      let inner_run : UntaggedRun board reading.before = run_front board reading.before h (front_front reading.before before h inner front) run in
      let begun : Begun board reading.before found.landing.op = Each-find (LandingBegun board reading.before) (speaks w now reading.before) landings found.landing (LandingsBegun-run Untagged board reading.before reading.word inner_run) found.is_found in
      let begun_then : Begun board before found.landing.op = front_begun board reading.before before found.landing.op inner (run_front board before h front run) begun in
      let told : (same_op found.landing.op w || knows then_ found.landing.op) ≡ true =
      or_either ((same_op found.landing.op w || knows then_ found.landing.op) ≡ true) (same_op found.landing.op w) (knows now found.landing.op)
      (λ same. or_left (same_op found.landing.op w) (knows then_ found.landing.op) same)
      (λ known. or_right (same_op found.landing.op w) (knows then_ found.landing.op) (knew_front before h found.landing.op front run begun_then known)) found.tells in
      let whole = found.has_landed_whole in
      let speaks_then : speaks w then_ reading.before found.landing ≡ true = rw (whole, told) refl in
      found_any (speaks w now reading.before) (speaks w then_ reading.before) landings found.landing found.is_found speaks_then

  pub heard_after : (before h : List Event) (reading : Reading) → Front before h → heard board w (untagged_since board w before) (Some reading) ≡ true → heard board w (untagged_since board w h) (Some reading) ≡ true
  heard_after before h reading front is =
      let now : Since = untagged_since board w h in
      let then_ : Since = untagged_since board w before in
      let landings : List Landing = landed board reading.before reading.word in
      let found = spoken then_ reading is in
      let told : (same_op found.landing.op w || knows now found.landing.op) ≡ true =
      or_either ((same_op found.landing.op w || knows now found.landing.op) ≡ true) (same_op found.landing.op w) (knows then_ found.landing.op)
      (λ same. or_left (same_op found.landing.op w) (knows now found.landing.op) same)
      (λ known. or_right (same_op found.landing.op w) (knows now found.landing.op) (knows_front before h found.landing.op front known)) found.tells in
      let whole = found.has_landed_whole in
      let speaks_now : speaks w now reading.before found.landing ≡ true = rw (whole, told) refl in
      found_any (speaks w then_ reading.before) (speaks w now reading.before) landings found.landing found.is_found speaks_now

  -- the first operation with which a master came to know of the write is its own, and stands before its turn
  pub since_behind : (h : List Event) (master : ℕ) (p : OpId) → UntaggedRun board h → untagged_since board w h master ≡ Some p → (p.master ≡ master) × IsBehind p (turn_of board h master)
  since_behind [] master p run is = cc
  since_behind (e ∷ h) master p run is =
      let heard_it : Bool = heard board w (untagged_since board w h) (ending_reading board h e) in
      let Goal : Type 0 = (p.master ≡ master) × IsBehind p (turn_of board (e ∷ h) master) in
      let P : Option OpId → Type 0 = λ since. untagged_since board w h master ≡ since → first_known since master w heard_it (ended e) ≡ Some p → Goal in
      let Q : Option Ending → Type 0 = λ ending. ended e ≡ ending → first_known None master w heard_it ending ≡ Some p → Goal in
      (elim (untagged_since board w h master) as P [
        | None ↦ λ _ f. (elim (ended e) as Q [
          | None ↦ λ _ g. cc
          | Some ending ↦ λ ends g.
              let brought = first_brought master heard_it ending p g in
              let there : IsBehind ending.op (turn_of board (e ∷ h) ending.op.master) = ended_behind board e h ending ends in
              let behind : IsBehind p (turn_of board (e ∷ h) master) = subst (λ n. IsBehind p (turn_of board (e ∷ h) n)) brought.of_master (subst (λ q. IsBehind q (turn_of board (e ∷ h) ending.op.master)) (sym brought.is_first) there) in
              (ap (λ (q : OpId). q.master) brought.is_first ∙ brought.of_master, behind)
        ]) refl f
        | Some first ↦ λ was f.
            let same : first ≡ p = cc in
            let old = since_behind h master p run.1 (was ∙ ap Some same) in
            (old.0, event_behind Untagged board e h p master run old.1)
      ]) refl is
