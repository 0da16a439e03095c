-- What was read, and what a read got, as it is noted down.
use Rattle.std.proofs.Common.{◌≡◌, ◌<◌, ℕ, Bool, true, false, cond, length, List, [], ◌∷◌, Option, Some, None, is_some, refl, sym, ap, subst, ◌∙◌}
use Rattle.std.specs.Option.{option_map}
use Rattle.std.proofs.lemmas.List.{length-map}
use Rattle.list_facts.specs.Lists.{greatest}
use Rattle.pci_command.specs.declared.op_id.OpId.{OpId}
use Rattle.pci_command.specs.declared.request.Request.{Request}
use Rattle.pci_command.specs.Same.{same_op}
use Rattle.board_model.specs.declared.bridge.Place.{Place}
use Rattle.board_model.specs.declared.bridge.Place.TheVariants.{Target, Header, Lane, Nobody}
use Rattle.board_model.specs.declared.board.Board.{Board}
use Rattle.board_model.specs.Requests.{request_of}
use Rattle.history_model.specs.declared.event.Step.{Step}
use Rattle.history_model.specs.declared.event.Step.TheVariants.{Land, Part, Read, Accept, Latch, Take, Stall, MasterAbort, TargetAbort}
use Rattle.history_model.specs.declared.event.Event.{Event}
use Rattle.history_model.specs.declared.event.Event.TheVariants.{Act, Arrive}
use Rattle.history_model.specs.Program.{Ending, ended}
use Rattle.history_model.specs.Words.{landed}
use Rattle.history_model.specs.Knowledge.{Reading as WordReading, value_in, outcome_in, value_of_ending, up_to_end, reading_of, reading_by, reading_in, reading_or, last_reading, got}
use Rattle.history_model.proofs.facts.RequestLemmas.{same_op_true}
use Rattle.law_fresh.proofs.Laws.{before_in}
use Rattle.law_audit.specs.Clocks.{Clocks, clocks_of, taught_by, word_tells}
use Rattle.board_model.specs.declared.word.Word.{Word}
use Rattle.audit_clocks.specs.Rows.{number}
use Rattle.audit_clocks.specs.Tables.{value_of, numbers_of, writes_in, dword}
use Rattle.audit_clocks.specs.Clocks.{ClockState}
use Rattle.audit_text.specs.declared.readings.Reading.{Reading}
use Rattle.audit_landings.specs.Hits.{op_of_landing}
use Rattle.audit_landings.specs.Told.{told_by}
use Rattle.audit_landings.proofs.Laws.{word_told}
use Rattle.audit_text.specs.Notes.{Notes, flat, read_of, word_read, read_in, ReadSo, Reads, Gets, EndsSo, Ends, ended_of}
use Rattle.audit_text.specs.Stands.{StandsFor, reading_as}

-- the history before does not matter to what an event reads
of_same : (p : OpId) (target value : ℕ) (h : List Event) (request : Option Request) → option_map (read_of p) (reading_of target value [] request) ≡ option_map (read_of p) (reading_of target value h request)
of_same p target value h None = refl
of_same p target value h (Some request) = refl

read_same : (board : Board) (h : List Event) (p : OpId) (on : ℕ) (step : Step) (place : Place) → option_map (read_of p) (reading_by board [] on p step place) ≡ option_map (read_of p) (reading_by board h on p step place)
read_same board h p on Land place = refl
read_same board h p on (Part phases) place = refl
read_same board h p on (Read value) (Target target) = of_same p target value h (request_of board p on)
read_same board h p on (Read value) (Header bus) = refl
read_same board h p on (Read value) (Lane lane) = refl
read_same board h p on (Read value) Nobody = refl
read_same board h p on Accept place = refl
read_same board h p on Latch place = refl
read_same board h p on (Take outcome) place = refl
read_same board h p on Stall place = refl
read_same board h p on MasterAbort place = refl
read_same board h p on TargetAbort place = refl

-- after what an event read was noted down
pub record AfterRead (board : Board) (e : Event) (h : List Event) (old new : ClockState) (readings : List (OpId × Reading)) : Type 0 where
  pub known : new.known ≡ old.known
  pub starts : new.starts ≡ old.starts
  pub taught : (o : OpId) (author : ℕ) → author < length board.masters → number (numbers_of o new.taught) author ≡ (clocks_of board (e ∷ h)).taught o author
  pub readings_are : (o : OpId) → value_of o readings ≡ option_map (reading_as board) (last_reading board o (e ∷ h))

module _ (board : Board) (h : List Event) (notes : Notes) (stands : StandsFor board h notes) where
  -- what landed whole in a dword tells what the clocks say
  tells_clocks : (word : Word) (author : ℕ) → author < length board.masters
      → greatest (told_by notes.landings.whole notes.clocks.starts author) (writes_in word notes.landings.landed) ≡ word_tells board (clocks_of board h) h (dword word) author
  tells_clocks word author within =
      word_told board h notes.landings stands.landings notes.clocks.starts (λ o. (clocks_of board h).start o author) author (λ o _. stands.starts o author within) word

  act_read : (on : ℕ) (by : Rattle.history_model.specs.declared.event.By.By) (p : OpId) (step : Step) (place : Place) (new : ClockState) (readings : List (OpId × Reading))
      → Reads (length board.masters) (length h) notes.landings (option_map (read_of p) (reading_by board h on p step place)) notes.clocks new notes.readings readings
      → AfterRead board (Act on by p step place) h notes.clocks new readings
  act_read on by p step place new readings reads =
      let e : Event = Act on by p step place in
      let masters : ℕ = length board.masters in
      let clocks : Clocks = clocks_of board h in
      let P : Option WordReading → Type 0 = λ here. reading_by board h on p step place ≡ here → Reads masters (length h) notes.landings (option_map (read_of p) here) notes.clocks new notes.readings readings → AfterRead board e h notes.clocks new readings in
      (elim (reading_by board h on p step place) as P [
        | None ↦ λ none r.
            let nothing : (o : OpId) → reading_in board h o e ≡ None = λ o.
            let Q : Bool → Type 0 = λ b. cond b (reading_by board h on p step place) None ≡ None in
            elim (same_op p o) as Q [ true ↦ none | false ↦ refl ] in
            record {
              known = ap (λ (c : ClockState). c.known) r.0;
              starts = ap (λ (c : ClockState). c.starts) r.0;
              taught = λ o author within. ap (λ (c : ClockState). number (numbers_of o c.taught) author) r.0 ∙ stands.taught o author within ∙ sym (ap (λ found. taught_by board clocks (clocks.taught o) found author) (nothing o));
              readings_are = λ o. ap (λ xs. value_of o xs) r.1 ∙ stands.readings o ∙ ap (λ found. option_map (reading_as board) (reading_or found (last_reading board o h))) (sym (nothing o));
            }
        | Some reading ↦ λ some r.
            let so : ReadSo masters (length h) notes.landings (read_of p reading) notes.clocks new notes.readings readings = r in
            let mine : reading_in board h p e ≡ Some reading = rw (Rattle.history_model.proofs.facts.RequestLemmas.same_op_self p) some in
            let before : reading.before ≡ h = before_in board h p e reading mine in
            record {
              known = so.known;
              starts = so.starts;
              taught = λ o author within.
                  let Q : Bool → Type 0 = λ b. number (Rattle.audit_clocks.specs.Tables.list_in (cond b (Some so.told) (value_of o notes.clocks.taught))) author ≡ taught_by board clocks (clocks.taught o) (cond b (reading_by board h on p step place) None) author in
                  ap (λ found. number (Rattle.audit_clocks.specs.Tables.list_in found) author) (so.taught.each o)
                  ∙ (elim (same_op p o) as Q [
                    | true ↦
                        so.tells.each author within ∙ tells_clocks (word_read (read_of p reading)) author within
                        ∙ ap (λ g. word_tells board clocks g reading.word author) (sym before)
                        ∙ sym (ap (λ found. taught_by board clocks (clocks.taught o) found author) some)
                    | false ↦ stands.taught o author within
                  ]);
              readings_are = λ o.
                  let entry : Reading = Rattle.audit_text.specs.Notes.reading_of (read_of p reading) (length (writes_in (word_read (read_of p reading)) notes.landings.landed)) (length h) in
                  let is_it : entry ≡ reading_as board reading =
                  ap (λ n. Rattle.audit_text.specs.Notes.reading_of (read_of p reading) n (length h)) (ap (λ xs. length xs) (stands.landings.landed (word_read (read_of p reading))) ∙ length-map (landed board h reading.word) op_of_landing)
                  ∙ ap (λ g. Rattle.audit_text.specs.Notes.reading_of (read_of p reading) (length (landed board g reading.word)) (length g)) (sym before) in
                  let Q : Bool → Type 0 = λ b. cond b (Some entry) (value_of o notes.readings) ≡ option_map (reading_as board) (reading_or (cond b (reading_by board h on p step place) None) (last_reading board o h)) in
                  so.reading.each o
                  ∙ (elim (same_op p o) as Q [
                    | true ↦ ap Some is_it ∙ ap (λ found. option_map (reading_as board) (reading_or found (last_reading board o h))) (sym some)
                    | false ↦ stands.readings o
                  ]);
            }
      ]) refl reads

  pub event_read : (e : Event) (new : ClockState) (readings : List (OpId × Reading)) → Reads (length board.masters) (length h) notes.landings (read_in board e) notes.clocks new notes.readings readings → AfterRead board e h notes.clocks new readings
  event_read (Act on by p step place) new readings reads =
      act_read on by p step place new readings
      (subst (λ found. Reads (length board.masters) (length h) notes.landings found notes.clocks new notes.readings readings) (read_same board h p on step place) reads)
  event_read (Arrive lane mark) new readings reads =
      record {
        known = ap (λ (c : ClockState). c.known) reads.0;
        starts = ap (λ (c : ClockState). c.starts) reads.0;
        taught = λ o author within. ap (λ (c : ClockState). number (numbers_of o c.taught) author) reads.0 ∙ stands.taught o author within;
        readings_are = λ o. ap (λ xs. value_of o xs) reads.1 ∙ stands.readings o;
      }

  -- what a read got
  end_got : (e : Event) (readings : List (OpId × Reading)) (gots : List (OpId × Option Reading)) (ending : Ending) (o : OpId) → ended e ≡ Some ending
      → ((q : OpId) → value_of q readings ≡ option_map (reading_as board) (last_reading board q (e ∷ h))) → Gets (value_in ending.outcome) ending.op readings notes.gots gots
      → flat (value_of o gots) ≡ option_map (reading_as board) (last_reading board o (cond (is_some (value_of_ending (outcome_in o (Some ending)))) (e ∷ h) (up_to_end o h)))
  end_got e readings gots ending o is now gets =
      let W : Option ℕ → Bool → Type 0 = λ v b. flat (value_of o gots) ≡ option_map (reading_as board) (last_reading board o (cond (is_some (value_of_ending (cond b (Some ending.outcome) None))) (e ∷ h) (up_to_end o h))) in
      let old : flat (value_of o notes.gots) ≡ option_map (reading_as board) (last_reading board o (up_to_end o h)) = stands.gots o in
      let found : Option ℕ = value_in ending.outcome in
      let X : Option ℕ → Type 0 = λ v. found ≡ v → Gets v ending.op readings notes.gots gots → W v (same_op ending.op o) in
      (elim found as X [
        | None ↦ λ none g.
            let B : Bool → Type 0 = λ b. W None b in
            elim (same_op ending.op o) as B [ true ↦ ap (λ xs. flat (value_of o xs)) g ∙ old ∙ ap (λ v. option_map (reading_as board) (last_reading board o (cond (is_some v) (e ∷ h) (up_to_end o h)))) (sym none) | false ↦ ap (λ xs. flat (value_of o xs)) g ∙ old ]
        | Some value ↦ λ some puts.
            let B : Bool → Type 0 = λ b. same_op ending.op o ≡ b → W (Some value) b in
            (elim (same_op ending.op o) as B [
              | true ↦ λ same.
                  let one : ending.op ≡ o = same_op_true ending.op o same in
                  let put : value_of o gots ≡ Some (value_of ending.op readings) = puts.each o ∙ rw same refl in
                  ap flat put ∙ ap (λ q. value_of q readings) one ∙ now o ∙ ap (λ v. option_map (reading_as board) (last_reading board o (cond (is_some v) (e ∷ h) (up_to_end o h)))) (sym some)
              | false ↦ λ other. let put : value_of o gots ≡ value_of o notes.gots = puts.each o ∙ rw other refl in ap flat put ∙ old
            ]) refl
      ]) refl gets

  pub event_got : (e : Event) (clocks clocks_new : ClockState) (readings : List (OpId × Reading)) (gots : List (OpId × Option Reading)) → ((q : OpId) → value_of q readings ≡ option_map (reading_as board) (last_reading board q (e ∷ h)))
      → Ends (option_map ended_of (ended e)) readings clocks clocks_new notes.gots gots → (o : OpId) → flat (value_of o gots) ≡ option_map (reading_as board) (got board (e ∷ h) o)
  event_got e clocks clocks_new readings gots now ends o =
      let P : Option Ending → Type 0 = λ found. ended e ≡ found → Ends (option_map ended_of found) readings clocks clocks_new notes.gots gots
      → flat (value_of o gots) ≡ option_map (reading_as board) (last_reading board o (cond (is_some (value_of_ending (outcome_in o found))) (e ∷ h) (up_to_end o h))) in
      (elim (ended e) as P [
        | None ↦ λ _ f. ap (λ xs. flat (value_of o xs)) f.1 ∙ stands.gots o
        | Some ending ↦ λ is f. let so : EndsSo (ended_of ending) readings clocks clocks_new notes.gots gots = f in end_got e readings gots ending o is now so.gets
      ]) refl ends
