-- Who claimed and what happened, as they are printed, are read as the same.
use Rattle.std.proofs.Common.{◌≡◌, ℕ, ◌^◌, ◌<◌, ◌≤◌, Bool, true, false, cond, leb, List, [], ◌∷◌, ◌++◌, length, Option, Some, refl, ap, ◌∙◌, arith}
use Rattle.std.specs.List.{list_all}
use Rattle.std.specs.Option.{option_map, option_and_then}
use Rattle.std.specs.Fmt.{decimal}
use Rattle.std.proofs.lemmas.Bool.{and_parts, ltb-true, leb-true}
use Rattle.pci_command.specs.declared.op_id.Outcome.{Outcome}
use Rattle.board_model.specs.declared.bridge.Lane.{Lane as BridgeLane}
use Rattle.board_model.specs.declared.bridge.Place.{Place}
use Rattle.board_model.specs.declared.bridge.Place.TheVariants.{Target, Header, Lane, Nobody}
use Rattle.board_model.specs.declared.board.Board.{Board}
use Rattle.board_model.specs.WellFormed.{is_well_formed}
use Rattle.board_model.specs.Valid.{has_bridge_to}
use Rattle.history_model.specs.declared.event.Step.{Step}
use Rattle.history_model.specs.declared.event.Step.TheVariants.{Land, Part, Read, Accept, Latch, Take, Stall, MasterAbort, TargetAbort}
use Rattle.board_printer.specs.Numbers.{word_text}
use Rattle.board_model.specs.Fits.{BoardFits}
use Rattle.board_roundtrip.proofs.lines.AllowedTexts.{width}
use Rattle.board_roundtrip.proofs.lines.PartTexts.{word_length}
use Rattle.board_roundtrip.specs.words.Printed.{is_word}
use Rattle.trace_text.specs.Words.{lane_word, target_name, place_words, outcome_word}
use Rattle.trace_text.specs.Events.{step_word, result_words, has_place, is_step_at}
use Rattle.trace_reader.specs.declared.lines.kind.EventWord.{EventWord}
use Rattle.board_roundtrip.proofs.words.Laws.{decimal_word, eight_word}
use Rattle.trace_reader.specs.declared.lines.kind.EventWord.TheVariants as kinds
use Rattle.trace_reader.specs.lines.Words.{header_in, target_in}
use Rattle.trace_reader.specs.lines.Events.{kind_of, has_words_for, reader_in, done_by}
use Rattle.trace_roundtrip.specs.events.Fits.{StepFits, PlaceFits}
use Rattle.trace_roundtrip.proofs.names.NumberLemmas.{number_is_short}
use Rattle.trace_roundtrip.proofs.names.TargetLemmas.{target_is_read, target_is_word}
use Rattle.trace_roundtrip.proofs.events.LineLemmas.{bytes_of}
use Rattle.trace_roundtrip.proofs.events.LaneLemmas.{lane_small, bridge_read, lane_read, lane_plain, lane_short, longer_word}
use Rattle.trace_roundtrip.proofs.events.ResultLemmas.{value_read, outcome_read, outcome_plain, outcome_short, phases_read}

-- the kind of a step
abbrev pub kind_for : Step → EventWord
kind_for Land = kinds.Land
kind_for (Part phases) = kinds.Part
kind_for (Read value) = kinds.Read
kind_for Accept = kinds.Accept
kind_for Latch = kinds.Latch
kind_for (Take outcome) = kinds.Take
kind_for Stall = kinds.Stall
kind_for MasterAbort = kinds.Nobody
kind_for TargetAbort = kinds.Abort

-- the word of a step tells its kind
pub kind_told : (step : Step) → kind_of (step_word step) ≡ Some (kind_for step)
kind_told Land = refl
kind_told (Part phases) = refl
kind_told (Read value) = refl
kind_told Accept = refl
kind_told Latch = refl
kind_told (Take outcome) = refl
kind_told Stall = refl
kind_told MasterAbort = refl
kind_told TargetAbort = refl

-- the word of a step is a word
pub step_plain : (step : Step) → is_word (step_word step) ≡ true
step_plain Land = refl
step_plain (Part phases) = refl
step_plain (Read value) = refl
step_plain Accept = refl
step_plain Latch = refl
step_plain (Take outcome) = refl
step_plain Stall = refl
step_plain MasterAbort = refl
step_plain TargetAbort = refl

-- of so few bytes
pub step_short : (step : Step) → length (step_word step) ≤ 6
step_short Land = omega arith
step_short (Part phases) = omega arith
step_short (Read value) = omega arith
step_short Accept = omega arith
step_short Latch = omega arith
step_short (Take outcome) = omega arith
step_short Stall = omega arith
step_short MasterAbort = omega arith
step_short TargetAbort = omega arith

-- Readers: a target by its name, or the header of a bridge.

-- the name of a target is read as a reader
reader_target : (board : Board) (index : ℕ) → BoardFits board → is_well_formed board ≡ true → index < 2 ^ 16 → index < length board.targets → reader_in board (target_name board index) ≡ Some (Target index)
reader_target board index fits formed below there =
    ap (λ (b : Bool). cond b (option_map Header (header_in board (target_name board index))) (option_map Target (target_in board (target_name board index)))) (target_is_word board index fits there).no_header
    ∙ ap (option_map Target) (target_is_read board index formed below there)

-- so is the word of a header
reader_header : (board : Board) (bus : ℕ) → BoardFits board → has_bridge_to board bus ≡ true → reader_in board (61 ∷ decimal bus) ≡ Some (Header bus)
reader_header board bus fits there = ap (option_map Header) (bridge_read board bus fits there)

-- What stands behind the operation of a line.

-- the words behind the operation are read as what happened and who claimed it, are as many as they have to be, and are words of so few bytes
pub record Stands (board : Board) (step : Step) (place : Place) : Type 0 where
  pub read : (bus kind by op : List ℕ) → done_by board (kind_for step) (bus ∷ kind ∷ by ∷ op ∷ (place_words board place ++ result_words step)) ≡ Some (step, place)
  pub many : (bus kind by op : List ℕ) → has_words_for (kind_for step) (bus ∷ kind ∷ by ∷ op ∷ (place_words board place ++ result_words step)) ≡ true
  pub plain : list_all is_word (place_words board place ++ result_words step) ≡ true
  pub short : width (place_words board place ++ result_words step) ≤ 28

-- what is so where two parts are read
both : {A B C : Type 0} (f : A → B → C) (a : Option A) (b : Option B) (x : A) (y : B) → a ≡ Some x → b ≡ Some y → option_and_then (λ p. option_map (f p) b) a ≡ Some (f x y)
both f a b x y of_a of_b = rw (of_a, of_b) refl

-- one word
one_word : (word : List ℕ) → is_word word ≡ true → list_all is_word (word ∷ []) ≡ true
one_word word good = rw good refl

-- two words
two_words : (word next : List ℕ) → is_word word ≡ true → is_word next ≡ true → list_all is_word (word ∷ next ∷ []) ≡ true
two_words word next good more = rw (good, more) refl

-- what a target did is read as that
target_stands : (board : Board) (step : Step) (index : ℕ) → BoardFits board → is_well_formed board ≡ true → index < 2 ^ 16 → index < length board.targets → StepFits step → is_step_at step (Target index) ≡ true → Stands board step (Target index)
target_stands board Land index fits formed below there wide at =
    let name = target_is_word board index fits there in
    let few = name.short in
    record {
      read = λ bus kind by op. ap (option_map (λ (t : ℕ). (Land, Target t))) (target_is_read board index formed below there);
      many = λ bus kind by op. refl;
      plain = one_word (target_name board index) name.word;
      short = omega (arith, few);
    }
target_stands board Stall index fits formed below there wide at =
    let name = target_is_word board index fits there in
    let few = name.short in
    record {
      read = λ bus kind by op. ap (option_map (λ (t : ℕ). (Stall, Target t))) (target_is_read board index formed below there);
      many = λ bus kind by op. refl;
      plain = one_word (target_name board index) name.word;
      short = omega (arith, few);
    }
target_stands board TargetAbort index fits formed below there wide at =
    let name = target_is_word board index fits there in
    let few = name.short in
    record {
      read = λ bus kind by op. ap (option_map (λ (t : ℕ). (TargetAbort, Target t))) (target_is_read board index formed below there);
      many = λ bus kind by op. refl;
      plain = one_word (target_name board index) name.word;
      short = omega (arith, few);
    }
target_stands board (Part phases) index fits formed below there wide at =
    let bounds = and_parts (leb 1 phases) (leb phases 8) at in
    let some = leb-true _ _ bounds.0 in
    let most = leb-true _ _ bounds.1 in
    let name = target_is_word board index fits there in
    let few = name.short in
    let digits = number_is_short phases (omega arith) in
    record {
      read = λ bus kind by op. both (λ (p t : ℕ). (Part p, Target t)) _ _ phases index (phases_read phases some most) (target_is_read board index formed below there);
      many = λ bus kind by op. refl;
      plain = two_words (target_name board index) (decimal phases) name.word (decimal_word phases (omega arith));
      short = omega (arith, few, digits);
    }
target_stands board (Read value) index fits formed below there wide at =
    let name = target_is_word board index fits there in
    let few = name.short in
    let digits = word_length value in
    record {
      read = λ bus kind by op. both (λ (v : ℕ) (p : Place). (Read v, p)) _ _ value (Target index) (value_read value wide) (reader_target board index fits formed below there);
      many = λ bus kind by op. refl;
      plain = two_words (target_name board index) (word_text value) name.word (eight_word value);
      short = omega (arith, few, digits);
    }
target_stands board step index fits formed below there wide at = absurd (let apart : false ≡ true = at in cc)

-- what the header of a bridge did is read as that
header_stands : (board : Board) (step : Step) (bus : ℕ) → BoardFits board → has_bridge_to board bus ≡ true → StepFits step → is_step_at step (Header bus) ≡ true → Stands board step (Header bus)
header_stands board (Read value) bus fits there wide at =
    let below = lane_small board bus fits there in
    let front = number_is_short bus (omega arith) in
    let digits = word_length value in
    let sign : is_word (61 ∷ decimal bus) ≡ true = longer_word (61 ∷ []) (decimal bus) refl (bytes_of (decimal bus) (decimal_word bus (omega arith))) in
    record {
      read = λ first kind by op. both (λ (v : ℕ) (p : Place). (Read v, p)) _ _ value (Header bus) (value_read value wide) (reader_header board bus fits there);
      many = λ first kind by op. refl;
      plain = two_words (61 ∷ decimal bus) (word_text value) sign (eight_word value);
      short = omega (arith, front, digits);
    }
header_stands board step bus fits there wide at = absurd (let apart : false ≡ true = at in cc)

-- what a bridge did at a lane is read as that
lane_stands : (board : Board) (step : Step) (lane : BridgeLane) → BoardFits board → has_bridge_to board lane.bus ≡ true → StepFits step → is_step_at step (Lane lane) ≡ true → Stands board step (Lane lane)
lane_stands board Accept lane fits there wide at =
    let below = lane_small board lane.bus fits there in
    let front = lane_short lane below in
    record {
      read = λ bus kind by op. ap (option_map (λ (l : BridgeLane). (Accept, Lane l))) (lane_read board lane fits there);
      many = λ bus kind by op. refl;
      plain = one_word (lane_word lane) (lane_plain lane below);
      short = omega (arith, front);
    }
lane_stands board Latch lane fits there wide at =
    let below = lane_small board lane.bus fits there in
    let front = lane_short lane below in
    record {
      read = λ bus kind by op. ap (option_map (λ (l : BridgeLane). (Latch, Lane l))) (lane_read board lane fits there);
      many = λ bus kind by op. refl;
      plain = one_word (lane_word lane) (lane_plain lane below);
      short = omega (arith, front);
    }
lane_stands board (Take outcome) lane fits there wide at =
    let below = lane_small board lane.bus fits there in
    let front = lane_short lane below in
    let end = outcome_short outcome in
    record {
      read = λ bus kind by op. both (λ (o : Outcome) (l : BridgeLane). (Take o, Lane l)) _ _ outcome lane (outcome_read outcome wide at) (lane_read board lane fits there);
      many = λ bus kind by op. refl;
      plain = two_words (lane_word lane) (outcome_word outcome) (lane_plain lane below) (outcome_plain outcome);
      short = omega (arith, front, end);
    }
lane_stands board step lane fits there wide at = absurd (let apart : false ≡ true = at in cc)

-- what nobody claimed is read as that
nobody_stands : (board : Board) (step : Step) → is_step_at step Nobody ≡ true → Stands board step Nobody
nobody_stands board MasterAbort at = record { read = λ bus kind by op. refl; many = λ bus kind by op. refl; plain = refl; short = omega arith }
nobody_stands board step at = absurd (let apart : false ≡ true = at in cc)

-- what happened at any place is read as that
pub stands : (board : Board) (step : Step) (place : Place) → BoardFits board → is_well_formed board ≡ true → has_place board place ≡ true → StepFits step → PlaceFits place → is_step_at step place ≡ true → Stands board step place
stands board step (Target index) fits formed there wide below at = target_stands board step index fits formed below (ltb-true _ _ there) wide at
stands board step (Header bus) fits formed there wide below at = header_stands board step bus fits there wide at
stands board step (Lane lane) fits formed there wide below at = lane_stands board step lane fits there wide at
stands board step Nobody fits formed there wide below at = nobody_stands board step at
