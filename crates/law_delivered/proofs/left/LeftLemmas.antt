-- A read that was told of a write returns the word as that write and what landed beside it left it.
use Rattle.std.proofs.Common.{◌≡◌, Bool, true, false, ◌||◌, List, [], ◌∷◌, ◌++◌, Option, Some, None, Contains, refl, sym, ap, subst, ◌∙◌}
use Rattle.std.specs.List.{list_any}
use Rattle.pci_command.specs.declared.op_id.OpId.{OpId}
use Rattle.pci_command.specs.Command.{is_read}
use Rattle.board_model.specs.declared.op.Op.{Op}
use Rattle.board_model.specs.declared.board.Board.{Board}
use Rattle.board_model.specs.Requests.{op_of, command_of, reads, reads_in}
use Rattle.board_model.specs.Valid.{IsValid}
use Rattle.history_model.specs.declared.event.Event.{Event}
use Rattle.history_model.specs.Words.{Landing, landed, opens_as, merged, value_of}
use Rattle.history_model.specs.Knowledge.{Reading, given_value, up_to_end, got, is_landing_of, words_named, Told}
use Rattle.history_model.specs.Runs.{Run}
use Rattle.history_model.proofs.facts.RequestLemmas.{same_op_true}
use Rattle.law_fresh.proofs.reads.Laws.{no_reading}
use Rattle.law_fresh.proofs.Laws.{Fresh-run, Front, front_run, front_front, front_end, read_by}
use Rattle.law_delivered.proofs.NamedLemmas.{named_lands}
use Rattle.law_delivered.specs.left.Left.{ReturnsWhatWasLeft}
use Rattle.law_delivered.proofs.left.HeldLemmas.{ReadSome, reading_held}

-- an operation that got something reads
pub got_there : (board : Board) (h : List Event) (r : OpId) (reading : Reading) → Run board h → got board h r ≡ Some reading → reads board r ≡ true
got_there board h r reading run is_got =
    let P : Bool → Type 0 = λ b. reads board r ≡ b → b ≡ true in
    (elim (reads board r) as P [
      | true ↦ λ _. refl
      | false ↦ λ other.
          let nothing = no_reading board r (up_to_end r h) other (front_run board (up_to_end r h) h (front_end r h) run) in
          let e : ◌≡◌ {A = Option Reading} None (Some reading) = sym nothing ∙ is_got in
          cc
    ]) refl

-- Where the reading of a read stands in a run, and what it read.
pub record ReadAt (board : Board) (h : List Event) (r : OpId) (reading : Reading) : Type 0 where
  pub event : Event
  pub front : Front (event ∷ reading.before) h
  pub before : Front reading.before h
  pub run : Run board (event ∷ reading.before)
  pub op : Op
  pub is_op : op_of board r ≡ Some op
  pub read : is_read (command_of op) ≡ true
  pub some : ReadSome board r op reading.before reading

pub read_at : (board : Board) (h : List Event) (r : OpId) (reading : Reading) → IsValid board → Run board h → got board h r ≡ Some reading → ReadAt board h r reading
read_at board h r reading valid run is_got =
    let upto : List Event = up_to_end r h in
    let at = read_by board r upto r reading is_got in
    let front : Front (at.event ∷ reading.before) h = front_front (at.event ∷ reading.before) upto h at.front (front_end r h) in
    let before : Front reading.before h = front_front reading.before (at.event ∷ reading.before) h (record { later = at.event ∷ []; is = refl }) front in
    let run_e : Run board (at.event ∷ reading.before) = front_run board (at.event ∷ reading.before) h front run in
    let reads_it : reads board r ≡ true = got_there board h r reading run is_got in
    let P : Option Op → Type 0 = λ found. op_of board r ≡ found → reads_in found ≡ true → ReadAt board h r reading in
    (elim (op_of board r) as P [
      | None ↦ λ _ f. cc
      | Some op ↦ λ is_op read.
          record { event = at.event; front = front; before = before; run = run_e; op = op; is_op = is_op; read = read; some = reading_held board valid r op is_op read reading.before at.event reading run_e at.is_reading }
    ]) refl reads_it

-- a read returned what its word held
pub returned_held : (board : Board) (h : List Event) (r : OpId) (reading : Reading) → IsValid board → Run board h → got board h r ≡ Some reading → given_value h r ≡ Some (value_of board reading.before reading.word)
returned_held board h r reading valid run is_got =
    let at = read_at board h r reading valid run is_got in
    (Fresh-run board h valid run).returned r reading is_got ∙ ap Some at.some.here.held

-- before the reading of a read that was told of a write, a data phase of the write had landed in the word
pub told_lands : (board : Board) (h : List Event) (w r : OpId) (reading : Reading) → IsValid board → Run board h → Told board h w r → got board h r ≡ Some reading → Contains (words_named board w) reading.word
    → list_any (is_landing_of w) (landed board reading.before reading.word) ≡ true
told_lands board h w r reading valid run told is_got named =
    let whole = (Fresh-run board h valid run).informed w r reading told is_got named in
    let at = read_at board h r reading valid run is_got in
    named_lands board reading.before w reading.word valid at.run.1 told.0 named whole

-- the parts of a list around one that passes
record Around (test : Landing → Bool) (xs : List Landing) : Type 0 where
  earlier : List Landing
  one : Landing
  later : List Landing
  passes : test one ≡ true
  is : xs ≡ earlier ++ one ∷ later

around : (test : Landing → Bool) (xs : List Landing) → list_any test xs ≡ true → Around test xs
around test [] some = cc
around test (x ∷ xs) some =
    let P : Bool → Type 0 = λ b. test x ≡ b → (b || list_any test xs) ≡ true → Around test (x ∷ xs) in
    (elim (test x) as P [
      | true ↦ λ passes _. record { earlier = []; one = x; later = xs; passes = passes; is = refl }
      | false ↦ λ _ more.
          let rest = around test xs more in
          record { earlier = x ∷ rest.earlier; one = rest.one; later = rest.later; passes = rest.passes; is = ap (λ ys. x ∷ ys) rest.is }
    ]) refl some

-- so a read that was told returns the word as the write and what landed beside it left it
pub told_left : (board : Board) (h : List Event) (w r : OpId) (reading : Reading) → IsValid board → Run board h → Told board h w r → got board h r ≡ Some reading → Contains (words_named board w) reading.word → ReturnsWhatWasLeft board h w r reading
told_left board h w r reading valid run told is_got named =
    let landings : List Landing = landed board reading.before reading.word in
    let parts = around (is_landing_of w) landings (told_lands board h w r reading valid run told is_got named) in
    let F : List Landing → Type 0 = λ ls. given_value h r ≡ Some (merged reading.word (opens_as board reading.word) ls) in
    record {
      earlier = parts.earlier;
      landing = parts.one;
      later = parts.later;
      is_of = same_op_true parts.one.op w parts.passes;
      is_landed = parts.is;
      returns = subst F parts.is (returned_held board h r reading valid run is_got);
    }
