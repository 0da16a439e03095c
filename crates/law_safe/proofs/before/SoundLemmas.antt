-- In every run a firm poll that was met was met by a raiser that is not left out: a write that comes before the poll had
-- landed before its reading, and a raiser that is left out lands no more once it has, so what landed last is of another.
use Rattle.std.proofs.Common.{◌≡◌, ◌≢◌, ℕ, true, false, List, [], ◌∷◌, Some, Contains, refl, sym, subst, ◌∙◌, ⊎_elim}
use Rattle.std.specs.List.{list_any}
use Rattle.pci_command.specs.declared.op_id.OpId.{OpId}
use Rattle.pci_command.specs.declared.phases.Phase.{Phase}
use Rattle.board_model.specs.declared.op.Want.{Want}
use Rattle.board_model.specs.declared.board.Board.{Board}
use Rattle.board_model.specs.Requests.{op_of}
use Rattle.board_model.specs.Ways.{Dword}
use Rattle.board_model.specs.Valid.{IsValid}
use Rattle.history_model.specs.declared.event.Event.{Event}
use Rattle.history_model.specs.Words.{Landing, opens_as, landed}
use Rattle.history_model.specs.Knowledge.{is_landing_of, has_landed, is_write, words_named, Told, got, Reading}
use Rattle.history_model.specs.Runs.{Run}
use Rattle.law_fresh.proofs.Laws.{Fresh-run, front_run}
use Rattle.law_delivered.proofs.Laws.{named_lands}
use Rattle.law_delivered.proofs.left.Laws.{read_at}
use Rattle.law_safe.specs.writes.InOrder.{NoneBehind}
use Rattle.safe_model.specs.Raisers.{phases_to, brings_met, is_met_by}
use Rattle.safe_model.specs.Clocks.{Table, WritesBefore, LeftOut, IsConsistent, IsBefore, is_poll}
use Rattle.law_safe.proofs.before.MetLemmas.{Raised, raised_by}
use Rattle.law_safe.proofs.before.OrderLemmas.{MetBy, met_by, RaisedBy, SoundAt, Sound, sound_front}
use Rattle.law_safe.proofs.before.BeforeLemmas.{got_told, wanted_knows, read_told, read_after}
use Rattle.law_safe.proofs.before.LastLemmas.{names_word, none_behind, last_alone}

module _ (board : Board) (valid : IsValid board) (table : Table) (consistent : IsConsistent board table) where
  -- a write that comes before the poll had landed before its reading
  landed_then : (e : Event) (g : List Event) (run : Run board (e ∷ g)) → Sound board table g → (p : OpId) (want : Want) (word : Dword) → (met : MetBy board e g p want word) → (x : OpId) → WritesBefore board table p word x
      → list_any (is_landing_of x) (landed board met.reading.before word) ≡ true
  landed_then e g run sound p want word met x earlier =
      let h : List Event = e ∷ g in
      let reading : Reading = met.reading in
      let before : List Event = reading.before in
      let at = read_at board h p reading valid run met.is_got in
      let then = wanted_knows board valid x earlier.writes table consistent before at.some.on at.some.by p at.run.1 (sound_front board table before g met.before sound) at.some.wanted earlier.before in
      let told : Told board h x p = got_told board valid x earlier.writes h p reading run met.is_got then in
      let names : Contains (words_named board x) word = names_word board word x earlier.writes earlier.brings in
      let named : Contains (words_named board x) reading.word = subst (Contains (words_named board x)) (sym met.is_word) names in
      let whole : has_landed before x ≡ true = (Fresh-run board h valid run).informed x p reading told met.is_got named in
      named_lands board before x word valid at.run.1 earlier.writes names whole

  -- so what landed last is of no raiser that is left out
  stays : (e : Event) (g : List Event) (run : Run board (e ∷ g)) → Sound board table g → (p : OpId) (want : Want) (word : Dword) → (met : MetBy board e g p want word) → (raised : Raised board met.reading.before want word)
      → LeftOut board table p word raised.last.op → ⊥
  stays e g run sound p want word met raised left =
      let before : List Event = met.reading.before in
      let f : OpId = raised.last.op in
      let run_b : Run board before = front_run board before g met.before run.1 in
      let sound_b = sound_front board table before g met.before sound in
      let lands : list_any (is_landing_of left.x) (landed board before word) ≡ true = landed_then e g run sound p want word met left.x left.earlier in
      let some : phases_to board word f ≢ [] = λ none. (
      let F : List Phase → Type 0 = λ ps. list_any (brings_met want) ps ≡ true in
      let here : F [] = subst F none raised.raises in
      cc) in
      let none = none_behind board valid table consistent before run_b sound_b word f left.x raised.writes (names_word board word f raised.writes some) left.earlier.writes lands left.other left.no_more in
      last_alone f left.x raised.earlier raised.last refl left.other (subst (NoneBehind f left.x false) raised.is_last none) (subst (λ ls. list_any (is_landing_of left.x) ls ≡ true) raised.is_last lands) ⊥

  sound_at : (e : Event) (g : List Event) → Run board (e ∷ g) → Sound board table g → SoundAt board table e g
  sound_at e g run sound p want awaits outcome ends is_met word firm opens =
      let met = met_by board valid e g run p awaits.0 awaits.1 want awaits.2 awaits.3 outcome ends is_met word firm in
      let before : List Event = met.reading.before in
      let run_b : Run board before = front_run board before g met.before run.1 in
      ⊎_elim {C = RaisedBy board table e g p want word}
      (λ (raised : Raised board before want word). record { met = met; raised = raised; stays = stays e g run sound p want word met raised })
      (λ (none : (landed board before word ≡ []) × (is_met_by want (opens_as board word) ≡ true)).
      ⊎_elim {C = RaisedBy board table e g p want word}
      (λ (other : is_met_by want (opens_as board word) ≡ false). let e : true ≡ false = sym none.1 ∙ other in cc)
      (λ (some : (x : OpId) × WritesBefore board table p word x).
      let lands = landed_then e g run sound p want word met some.0 some.1 in
      let F : List Landing → Type 0 = λ ls. list_any (is_landing_of some.0) ls ≡ true in
      let nothing : F [] = subst F none.0 lands in
      cc)
      opens)
      (raised_by board before p want word valid run_b firm met.held)

  pub Sound-run : (h : List Event) → Run board h → Sound board table h
  Sound-run [] run = tt
  Sound-run (e ∷ g) run = let sound = Sound-run g run.1 in (sound_at e g run sound, sound)

-- The laws.

pub before_told : (board : Board) (valid : IsValid board) (table : Table) → IsConsistent board table → (h : List Event) (w r : OpId) (reading : Reading) → Run board h → is_write board w ≡ true → IsBefore board table w r → got board h r ≡ Some reading → Told board h w r
before_told board valid table consistent h w r reading run writes is_before is_got = read_told board valid w writes table consistent h r reading run (Sound-run board valid table consistent h run) is_got is_before

pub after_not_seen : (board : Board) (valid : IsValid board) (table : Table) → IsConsistent board table → (h : List Event) (w r : OpId) (reading : Reading) → Run board h → is_poll (op_of board r) ≡ false → IsBefore board table r w → got board h r ≡ Some reading
    → list_any (is_landing_of w) (landed board reading.before reading.word) ≡ false
after_not_seen board valid table consistent h w r reading run no_poll is_before is_got = read_after board valid table consistent h w r reading run (Sound-run board valid table consistent h run) no_poll is_got is_before
