-- The line of a transaction, as it is printed, is read as the transaction.
use Rattle.std.proofs.Common.{◌≡◌, ℕ, ◌^◌, ◌<◌, ◌≤◌, true, ◌&&◌, List, ◌∷◌, ◌++◌, Option, Some, Ok, refl, ◌∙◌, arith}
use Rattle.std.specs.Prelude.{is_some}
use Rattle.std.specs.Option.{option_map, option_and_then}
use Rattle.std.specs.Fmt.{decimal}
use Rattle.std.proofs.lemmas.Bool.{and_parts}
use Rattle.pci_command.specs.declared.op_id.OpId.{OpId}
use Rattle.board_model.specs.declared.bridge.Place.{Place}
use Rattle.board_model.specs.declared.board.Board.{Board}
use Rattle.board_model.specs.Requests.{op_of}
use Rattle.board_model.specs.WellFormed.{is_well_formed}
use Rattle.board_model.specs.Valid.{is_bus}
use Rattle.history_model.specs.declared.event.By.{By}
use Rattle.history_model.specs.declared.event.Step.{Step}
use Rattle.history_model.specs.declared.event.Step.TheVariants.{Land, Part, Read, Accept, Latch, Take, Stall, MasterAbort, TargetAbort}
use Rattle.history_model.specs.declared.event.Event.TheVariants.{Act}
use Rattle.board_model.specs.Fits.{BoardFits}
use Rattle.board_roundtrip.proofs.lines.AllowedTexts.{width}
use Rattle.board_roundtrip.specs.words.Printed.{has_words_alone, joined}
use Rattle.trace_text.specs.Words.{by_word, op_word, place_words}
use Rattle.trace_text.specs.Events.{step_word, result_words, act_line, has_initiator, has_place, is_step_at, has_line}
use Rattle.trace_reader.specs.declared.lines.line.TraceLine.TheVariants.{Happens}
use Rattle.trace_reader.specs.lines.Events.{done_by, act_of, act_in, event_in}
use Rattle.trace_reader.specs.lines.Words.{bus_in, by_in, op_in}
use Rattle.trace_reader.specs.lines.Lines.{line_of}
use Rattle.trace_roundtrip.specs.events.Fits.{StepFits, PlaceFits}
use Rattle.trace_roundtrip.proofs.names.NumberLemmas.{number_is_short}
use Rattle.trace_roundtrip.proofs.names.OperationLemmas.{op_is_read, op_is_word, op_is_short}
use Rattle.trace_roundtrip.proofs.events.LineLemmas.{event_by_kind}
use Rattle.trace_roundtrip.proofs.events.LaneLemmas.{bus_small, bus_read, bus_no_end, by_read, by_plain, by_short}
use Rattle.trace_roundtrip.proofs.events.PlaceLemmas.{kind_for, kind_told, step_plain, step_short, stands}
use Rattle.board_roundtrip.proofs.words.Laws.{decimal_word}

-- the parts of a transaction that has a line
pub record ActParts (board : Board) (bus : ℕ) (by : By) (op : OpId) (step : Step) (place : Place) : Type 0 where
  pub on : is_bus board bus ≡ true
  pub from : has_initiator board by ≡ true
  pub named : is_some (op_of board op) ≡ true
  pub claimed : has_place board place ≡ true
  pub at : is_step_at step place ≡ true

-- a transaction that has a line has these parts
pub act_parts : (board : Board) (bus : ℕ) (by : By) (op : OpId) (step : Step) (place : Place) → has_line board (Act bus by op step place) ≡ true → ActParts board bus by op step place
act_parts board bus by op step place has =
    let one = and_parts (is_bus board bus) (has_initiator board by && (is_some (op_of board op) && (has_place board place && is_step_at step place))) has in
    let two = and_parts (has_initiator board by) (is_some (op_of board op) && (has_place board place && is_step_at step place)) one.1 in
    let three = and_parts (is_some (op_of board op)) (has_place board place && is_step_at step place) two.1 in
    let four = and_parts (has_place board place) (is_step_at step place) three.1 in
    record { on = one.0; from = two.0; named = three.0; claimed = four.0; at = four.1 }

-- four parts that are read give the whole
four_parts : {A B C D E : Type 0} (f : A → B → C → D → E) (a : Option A) (b : Option B) (c : Option C) (d : Option D) (x : A) (y : B) (z : C) (w : D) → a ≡ Some x → b ≡ Some y → c ≡ Some z → d ≡ Some w → option_and_then (λ p. option_and_then (λ q. option_and_then (λ r. option_map (f p q r) d) c) b) a ≡ Some (f x y z w)
four_parts f a b c d x y z w of_a of_b of_c of_d = rw (of_a, of_b, of_c, of_d) refl

-- a step is none of an arrival
act_kind : (board : Board) (step : Step) (words : List (List ℕ)) → event_in board (kind_for step) words ≡ act_in board (kind_for step) words
act_kind board Land words = refl
act_kind board (Part phases) words = refl
act_kind board (Read value) words = refl
act_kind board Accept words = refl
act_kind board Latch words = refl
act_kind board (Take outcome) words = refl
act_kind board Stall words = refl
act_kind board MasterAbort words = refl
act_kind board TargetAbort words = refl

-- its words are words
pub act_plain : (board : Board) (bus : ℕ) (by : By) (op : OpId) (step : Step) (place : Place) → BoardFits board → is_well_formed board ≡ true → StepFits step → PlaceFits place → ActParts board bus by op step place → has_words_alone (act_line board bus by op step place) ≡ true
act_plain board bus by op step place fits formed wide below parts =
    let stand = stands board step place fits formed parts.claimed wide below parts.at in
    let few = bus_small board bus fits parts.on in
    rw (decimal_word bus (omega arith), step_plain step, by_plain board by fits parts.from, op_is_word board op fits formed parts.named) stand.plain

-- and few enough
act_short : (board : Board) (bus : ℕ) (by : By) (op : OpId) (step : Step) (place : Place) → BoardFits board → is_well_formed board ≡ true → StepFits step → PlaceFits place → ActParts board bus by op step place → width (act_line board bus by op step place) ≤ 257
act_short board bus by op step place fits formed wide below parts =
    let stand = stands board step place fits formed parts.claimed wide below parts.at in
    let few = bus_small board bus fits parts.on in
    let one = number_is_short bus (omega arith) in
    let two = step_short step in
    let three = by_short board by fits parts.from in
    let four = op_is_short board op fits formed parts.named in
    let five = stand.short in
    omega (arith, one, two, three, four, five)

-- the line is read as the transaction
pub act_read : (board : Board) (bus : ℕ) (by : By) (op : OpId) (step : Step) (place : Place) → BoardFits board → is_well_formed board ≡ true → op.master < 2 ^ 16 → StepFits step → PlaceFits place → ActParts board bus by op step place → line_of board (joined (act_line board bus by op step place)) ≡ Ok (Happens (Act bus by op step place))
act_read board bus by op step place fits formed master wide below parts =
    let stand = stands board step place fits formed parts.claimed wide below parts.at in
    let few = bus_small board bus fits parts.on in
    let rest : List (List ℕ) = by_word by ∷ op_word board op ∷ (place_words board place ++ result_words step) in
    let words : List (List ℕ) = decimal bus ∷ step_word step ∷ rest in
    let whole : act_in board (kind_for step) words ≡ Some (Act bus by op step place) =
    four_parts (λ (b : ℕ) (y : By) (o : OpId) (d : Step × Place). act_of b y o d) (bus_in board (decimal bus)) (by_in board (by_word by)) (op_in board (op_word board op)) (done_by board (kind_for step) words) bus by op (step, place)
    (bus_read board bus fits parts.on) (by_read board by fits parts.from) (op_is_read board op fits formed master parts.named) (stand.read (decimal bus) (step_word step) (by_word by) (op_word board op)) in
    event_by_kind board (decimal bus) (step_word step) rest (kind_for step) (Act bus by op step place)
    (act_plain board bus by op step place fits formed wide below parts)
    (act_short board bus by op step place fits formed wide below parts)
    (bus_no_end bus few) (kind_told step)
    (stand.many (decimal bus) (step_word step) (by_word by) (op_word board op))
    (act_kind board step words ∙ whole)
