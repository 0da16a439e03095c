-- After one more event it stands for a run with that event.
use Rattle.std.proofs.Common.{◌≡◌, ℕ, zero, suc, ◌-◌, ◌<◌, max, Bool, true, false, ◌==◌, cond, eqb, eqb-true, List, [], ◌∷◌, ◌++◌, length, Option, Some, None, is_some, slice_get, refl, sym, ap, subst, ◌∙◌, arith}
use Rattle.std.specs.Option.{option_map}
use Rattle.std.proofs.lemmas.Bool.Decides.{nat_tests}
use Rattle.std.proofs.lemmas.List.{length-append}
use Rattle.std.proofs.lemmas.Option.{slice_get-get_or, slice_get_within}
use Rattle.list_facts.specs.Lists.{greatest}
use Rattle.pci_command.specs.declared.op_id.OpId.{OpId}
use Rattle.pci_command.specs.declared.request.Request.{Request}
use Rattle.pci_command.specs.Same.{same_op}
use Rattle.board_model.specs.declared.bridge.Place.{Place}
use Rattle.board_model.specs.declared.bridge.Place.TheVariants.{Target, Header, Lane, Nobody}
use Rattle.board_model.specs.declared.board.Board.{Board}
use Rattle.board_model.specs.declared.op.Op.{Op}
use Rattle.board_model.specs.Requests.{op_of, request_of}
use Rattle.history_model.specs.declared.event.By.TheVariants.{Master, Lane as ByLane}
use Rattle.history_model.specs.declared.event.Step.{Step}
use Rattle.history_model.specs.declared.event.Step.TheVariants.{Land, Part, Read, Accept, Latch, Take, Stall, MasterAbort, TargetAbort}
use Rattle.history_model.specs.declared.event.Event.{Event}
use Rattle.history_model.specs.declared.event.Event.TheVariants.{Act, Arrive}
use Rattle.history_model.specs.declared.rule.Rule.TheVariants.{Untagged}
use Rattle.history_model.specs.Program.{Ending, ended, turn_of}
use Rattle.history_model.specs.Knowledge.{Reading, reading_of, reading_by, has_landed}
use Rattle.history_model.proofs.facts.RequestLemmas.{same_op_true}
use Rattle.history_model.proofs.facts.WantsLemmas.{wants-turn}
use Rattle.law_fresh.proofs.reads.Laws.{master_there}
use Rattle.law_untagged.specs.Untagged.{UntaggedRun}
use Rattle.law_untagged.specs.Origins.{ending_reading}
use Rattle.law_audit.specs.Clocks.{own}
use Rattle.law_fresh.proofs.Laws.{turn_is_there, ends_turn}
use Rattle.board_model.specs.declared.word.Word.{Word}
use Rattle.audit_clocks.specs.Rows.{number}
use Rattle.audit_clocks.specs.Tables.{value_of, list_in, numbers_of, writes_in, dword}
use Rattle.audit_landings.specs.Hits.{op_of_landing}
use Rattle.audit_landings.specs.Notes.{AreLandings}
use Rattle.audit_landings.specs.Told.{told_by as tells_by, Tells, ToldsFor}
use Rattle.audit_landings.proofs.Laws.{whole_has, tolds_over, word_told as landings_tell}
use Rattle.untagged_run.specs.declared.got.Got.{Got}
use Rattle.untagged_run.specs.Flat.{flat}
use Rattle.machine_steps.specs.Words.{word_at}
use Rattle.untagged_run.specs.Table.{IsGot, SameGot}
use Rattle.law_untagged.specs.clocks.Clocks.{Clocks, number_in, word_tells, reads_at, told_by, got_tells, known_after, first_start, clocks_of}
use Rattle.law_untagged.proofs.clocks.NamedLemmas.{start_stays, landed_started}
use Rattle.machine_steps.specs.Endings.{ended_op}
use Rattle.untagged_run.specs.told.Knowers.{KnowerState, word_by, word_in, ToldAt, StartsBy, Presents, told_at, known_at, Learns, LearnsBy, Happens, Knows}

no_number : (author : ℕ) → number [] author ≡ 0
no_number zero = refl
no_number (suc n) = refl

-- one more at the end of a list
seam : {X : Type 0} (xs : List X) (x : X) → slice_get (xs ++ x ∷ []) (length xs) ≡ Some x
seam [] x = refl
seam (y ∷ xs) x = seam xs x

beside : {X : Type 0} (xs : List X) (x : X) (i : ℕ) → (i == length xs) ≡ false → slice_get (xs ++ x ∷ []) i ≡ slice_get xs i
beside [] x zero other = cc
beside [] x (suc i) other = refl
beside (y ∷ xs) x zero other = refl
beside (y ∷ xs) x (suc i) other = beside xs x i (grind (arith, nat_tests))

-- What an event reads.

-- neither is there, or the dword is that of the reading
abbrev SameWord : Option Word → Option Reading → Type 0
SameWord None None = Unit {0}
SameWord None (Some reading) = ⊥
SameWord (Some word) None = ⊥
SameWord (Some word) (Some reading) = dword word ≡ reading.word

of_same : (target value : ℕ) (h : List Event) (request : Option Request) → SameWord (option_map (word_at target) request) (reading_of target value h request)
of_same target value h None = tt
of_same target value h (Some request) = refl

by_same : (board : Board) (h : List Event) (on : ℕ) (o : OpId) (step : Step) (place : Place) → SameWord (word_by board on o step place) (reading_by board h on o step place)
by_same board h on o (Read value) (Target target) = of_same target value h (request_of board o on)
by_same board h on o (Read value) (Header bus) = tt
by_same board h on o (Read value) (Lane lane) = tt
by_same board h on o (Read value) Nobody = tt
by_same board h on o Land place = tt
by_same board h on o (Part phases) place = tt
by_same board h on o Accept place = tt
by_same board h on o Latch place = tt
by_same board h on o (Take outcome) place = tt
by_same board h on o Stall place = tt
by_same board h on o MasterAbort place = tt
by_same board h on o TargetAbort place = tt

word_same : (board : Board) (h : List Event) (e : Event) → SameWord (word_in board e) (reads_at board h e)
word_same board h (Act on by o step place) = by_same board h on o step place
word_same board h (Arrive lane mark) = tt

-- an operation's master is one of the board's
pub master_within : (board : Board) (o : OpId) → is_some (op_of board o) ≡ true → o.master < length board.masters
master_within board o there =
    let P : Option Op → Type 0 = λ found. op_of board o ≡ found → is_some found ≡ true → o.master < length board.masters in
    (elim (op_of board o) as P [
      | None ↦ λ _ f. cc
      | Some op ↦ λ is _. let master = master_there board o op is in slice_get_within board.masters o.master master.0 master.1
    ]) refl there

module _ (board : Board) (h : List Event) (k : KnowerState) (old : Knows board h k) where
  abbrev M : ℕ
  M = length board.masters

  -- what landed whole in a dword tells what the clocks say
  word_told : (word : Word) (author : ℕ) → author < M → greatest (tells_by k.landings.whole k.starts author) (writes_in word k.landings.landed) ≡ word_tells board (clocks_of board h) h (dword word) author
  word_told word author within = landings_tell board h k.landings old.landings k.starts (λ o. number_in ((clocks_of board h).start o) author) author (λ o is. old.starts o author within) word

  -- what was told by then
  told_next : (e : Event) (read : Option (List ℕ)) (place author : ℕ) → author < M → ToldAt M k.landings k.starts (word_in board e) read
      → number (list_in (flat (slice_get (k.told ++ read ∷ []) place))) author ≡ told_by board (clocks_of board h) h (reads_at board h e) place author
  told_next e read place author below is = by_words (word_in board e) (reads_at board h e) read (word_same board h e) is
    where
      now : Option (List ℕ) → ℕ
      now found = number (list_in (flat (slice_get (k.told ++ found ∷ []) place))) author

      nothing : now None ≡ (clocks_of board h).told place author
      nothing =
          let P : Bool → Type 0 = λ b. (place == length k.told) ≡ b → now None ≡ (clocks_of board h).told place author in
          (elim (place == length k.told) as P [
            | true ↦ λ same.
                let here : place ≡ length k.told = grind (arith, nat_tests) in
                let new : now None ≡ 0 = ap (λ found. number (list_in (flat found)) author) (ap (slice_get (k.told ++ None ∷ [])) here ∙ seam k.told None) ∙ no_number author in
                let past : number (list_in (flat (slice_get k.told place))) author ≡ 0 = ap (λ found. number (list_in (flat found)) author) (Rattle.std.proofs.lemmas.Option.slice_get_past k.told place (omega (arith, here))) ∙ no_number author in
                new ∙ sym past ∙ old.told place author below
            | false ↦ λ other. ap (λ found. number (list_in (flat found)) author) (beside k.told None place other) ∙ old.told place author below
          ]) refl

      something : (word : Word) (reading : Reading) (numbers : List ℕ) → dword word ≡ reading.word → Tells M k.landings.whole k.starts (writes_in word k.landings.landed) numbers
          → now (Some numbers) ≡ told_by board (clocks_of board h) h (Some reading) place author
      something word reading numbers same tells =
          let P : Bool → Type 0 = λ b. (place == length h) ≡ b → now (Some numbers) ≡ cond b (word_tells board (clocks_of board h) h reading.word author) ((clocks_of board h).told place author) in
          (elim (place == length h) as P [
            | true ↦ λ is_it.
                let here : place ≡ length k.told = let many = old.many in grind (arith, nat_tests) in
                ap (λ found. number (list_in (flat found)) author) (ap (slice_get (k.told ++ Some numbers ∷ [])) here ∙ seam k.told (Some numbers))
                ∙ tells.each author below ∙ word_told word author below ∙ ap (λ d. word_tells board (clocks_of board h) h d author) same
            | false ↦ λ other.
                let beside_it : (place == length k.told) ≡ false = let many = old.many in grind (arith, nat_tests) in
                ap (λ found. number (list_in (flat found)) author) (beside k.told (Some numbers) place beside_it) ∙ old.told place author below
          ]) refl

      by_words : (word : Option Word) (reading : Option Reading) (read : Option (List ℕ)) → SameWord word reading → ToldAt M k.landings k.starts word read → now read ≡ told_by board (clocks_of board h) h reading place author
      by_words None None read same none = ap now none ∙ nothing
      by_words None (Some reading) read same none = absurd same
      by_words (Some word) None read same tells = absurd same
      by_words (Some word) (Some reading) None same never = absurd never
      by_words (Some word) (Some reading) (Some numbers) same tells = something word reading numbers same tells

  -- what is noted as a master presents
  record Started (e : Event) (new : List (OpId × List ℕ)) : Type 0 where
    noted : (o : OpId) → is_some (value_of o new) ≡ is_some ((clocks_of board (e ∷ h)).start o)
    starts : (o : OpId) (author : ℕ) → author < M → number (numbers_of o new) author ≡ number_in ((clocks_of board (e ∷ h)).start o) author

  started_still : (e : Event) (new : List (OpId × List ℕ)) → ((o : OpId) → (clocks_of board (e ∷ h)).start o ≡ (clocks_of board h).start o) → new ≡ k.starts → Started e new
  started_still e new still same =
      record {
        noted = λ o. ap (λ s. is_some (value_of o s)) same ∙ old.noted o ∙ ap is_some (sym (still o));
        starts = λ o author below. ap (λ s. number (numbers_of o s) author) same ∙ old.starts o author below ∙ ap (λ found. number_in found author) (sym (still o));
      }

  master_starts : (on : ℕ) (p : OpId) (step : Step) (place : Place) (new : List (OpId × List ℕ)) → p.master < M → StartsBy p (value_of p k.starts) (slice_get k.known p.master) k.starts new → Started (Act on Master p step place) new
  master_starts on p step place new within is = by_noted (value_of p k.starts) (clocks.start p) refl refl (old.noted p) is
    where
      e : Event
      e = Act on Master p step place

      clocks : Clocks
      clocks = clocks_of board h

      -- it was noted before
      was : (start : ℕ → ℕ) → clocks.start p ≡ Some start → (o : OpId) → (clocks_of board (e ∷ h)).start o ≡ clocks.start o
      was start is o =
          let P : Bool → Type 0 = λ b. same_op p o ≡ b → cond b (first_start (clocks.start o) (clocks.known o.master)) (clocks.start o) ≡ clocks.start o in
          (elim (same_op p o) as P [
            | true ↦ λ same.
                let there : clocks.start o ≡ Some start = subst (λ q. clocks.start q ≡ Some start) (same_op_true p o same) is in
                ap (λ found. first_start found (clocks.known o.master)) there ∙ sym there
            | false ↦ λ _. refl
          ]) refl

      -- it is noted now
      now : (numbers : List ℕ) → clocks.start p ≡ None → slice_get k.known p.master ≡ Some numbers → Rattle.audit_clocks.specs.Tables.Puts p numbers k.starts new → Started e new
      now numbers none mine puts =
          let row : known_at k.known p.master ≡ numbers = Rattle.std.proofs.lemmas.Option.get_or_from_slice_get k.known p.master numbers [] mine in
          let of_p : (o : OpId) → same_op p o ≡ true → (clocks_of board (e ∷ h)).start o ≡ Some (clocks.known p.master) = λ o same.
          let one : p ≡ o = same_op_true p o same in
          let there : first_start (clocks.start o) (clocks.known o.master) ≡ Some (clocks.known p.master) = subst (λ q. first_start (clocks.start q) (clocks.known q.master) ≡ Some (clocks.known p.master)) one (ap (λ found. first_start found (clocks.known p.master)) none) in
          rw same there in
          let of_other : (o : OpId) → same_op p o ≡ false → (clocks_of board (e ∷ h)).start o ≡ clocks.start o = λ o other. rw other refl in
          record {
            noted = λ o.
                let P : Bool → Type 0 = λ b. same_op p o ≡ b → is_some (cond b (Some numbers) (value_of o k.starts)) ≡ is_some ((clocks_of board (e ∷ h)).start o) in
                ap is_some (puts.each o) ∙ (elim (same_op p o) as P [
                  | true ↦ λ same. ap is_some (sym (of_p o same))
                  | false ↦ λ other. old.noted o ∙ ap is_some (sym (of_other o other))
                ]) refl;
            starts = λ o author below.
                let P : Bool → Type 0 = λ b. same_op p o ≡ b → number (list_in (cond b (Some numbers) (value_of o k.starts))) author ≡ number_in ((clocks_of board (e ∷ h)).start o) author in
                ap (λ found. number (list_in found) author) (puts.each o) ∙ (elim (same_op p o) as P [
                  | true ↦ λ same. ap (λ xs. number xs author) (sym row) ∙ old.known p.master author within below ∙ ap (λ found. number_in found author) (sym (of_p o same))
                  | false ↦ λ other. old.starts o author below ∙ ap (λ found. number_in found author) (sym (of_other o other))
                ]) refl;
          }

      by_found : (found : Option (List ℕ)) → slice_get k.known p.master ≡ found → clocks.start p ≡ None → StartsBy p None found k.starts new → Started e new
      by_found None none _ _ =
          let inside : p.master < length k.known = let masters = old.masters in omega (arith, masters, within) in
          let some = slice_get-get_or k.known p.master [] inside in
          cc
      by_found (Some numbers) mine none puts = now numbers none mine puts

      by_noted : (value : Option (List ℕ)) (start : Option (ℕ → ℕ)) → value_of p k.starts ≡ value → clocks.start p ≡ start → is_some (value_of p k.starts) ≡ is_some (clocks.start p) → StartsBy p (value_of p k.starts) (slice_get k.known p.master) k.starts new → Started e new
      by_noted (Some value) (Some start) there is agree same = started_still e new (was start is) (subst (λ found. StartsBy p found (slice_get k.known p.master) k.starts new) there same)
      by_noted (Some value) None there is agree same = cc
      by_noted None (Some start) there is agree same = cc
      by_noted None None there is agree it = by_found (slice_get k.known p.master) refl is (subst (λ found. StartsBy p found (slice_get k.known p.master) k.starts new) there it)

  event_starts : (e : Event) (new : List (OpId × List ℕ)) → UntaggedRun board (e ∷ h) → Presents e k.known k.starts new → Started e new
  event_starts (Act on Master p step place) new run is =
      let turn : turn_of board h p.master ≡ Some p = wants-turn board h on p run.0.0 in
      master_starts on p step place new (master_within board p (turn_is_there board h p turn)) is
  event_starts (Act on (ByLane lane) p step place) new run is = started_still (Act on (ByLane lane) p step place) new (λ o. refl) is
  event_starts (Arrive lane mark) new run is = started_still (Arrive lane mark) new (λ o. refl) is

  module _ (e : Event) (got : Option Got) (new : KnowerState) (run : UntaggedRun board (e ∷ h)) (same_got : SameGot got (ending_reading board h e)) (it : Happens board e got k new) where
    told_is : (place author : ℕ) → author < M → number (list_in (flat (slice_get new.told place))) author ≡ (clocks_of board (e ∷ h)).told place author
    told_is place author below = ap (λ xs. number (list_in (flat (slice_get xs place))) author) it.told ∙ told_next e it.read place author below it.read_is

    got_is : (author : ℕ) → author < M → number (list_in (told_at new.told got)) author ≡ got_tells ((clocks_of board (e ∷ h)).told) (ending_reading board h e) author
    got_is author below = by_gots got (ending_reading board h e) same_got
      where
        by_gots : (found : Option Got) (reading : Option Reading) → SameGot found reading → number (list_in (told_at new.told found)) author ≡ got_tells ((clocks_of board (e ∷ h)).told) reading author
        by_gots None None same = no_number author
        by_gots None (Some reading) same = absurd same
        by_gots (Some found) None same = absurd same
        by_gots (Some found) (Some reading) same =
            let so : IsGot found reading = same in
            let event : found.event - 1 ≡ length reading.before = let number_is = so.event in omega (arith, number_is) in
            ap (λ n. number (list_in (flat (slice_get new.told n))) author) event ∙ told_is (length reading.before) author below

    still_known : ended e ≡ None → (master author : ℕ) → (clocks_of board (e ∷ h)).known master author ≡ (clocks_of board h).known master author
    still_known none master author = ap (λ found. known_after master ((clocks_of board h).known master) (got_tells ((clocks_of board (e ∷ h)).told) (ending_reading board h e)) found author) none

    record Learned : Type 0 where
      masters : length new.known ≡ M
      authors : (master : ℕ) → master < M → length (known_at new.known master) ≡ M
      known : (master author : ℕ) → master < M → author < M → number (known_at new.known master) author ≡ (clocks_of board (e ∷ h)).known master author

    nothing_ended : ended e ≡ None → new.known ≡ k.known → Learned
    nothing_ended none same =
        record {
          masters = ap (λ (xs : List (List ℕ)). length xs) same ∙ old.masters;
          authors = λ master within. ap (λ xs. length (known_at xs master)) same ∙ old.authors master within;
          known = λ master author within below. ap (λ xs. number (known_at xs master) author) same ∙ old.known master author within below ∙ sym (still_known none master author);
        }

    one_ended : (ending : Ending) → ended e ≡ Some ending → Learns ending.op (list_in (told_at new.told got)) k.known new.known → Learned
    one_ended ending is learns =
        let o : OpId = ending.op in
        let within_o : o.master < M = master_within board o (turn_is_there board h o (ends_turn Untagged board e h ending run is)) in
        let inside : o.master < length k.known = let masters = old.masters in omega (arith, masters, within_o) in
        let tells : ℕ → ℕ = got_tells ((clocks_of board (e ∷ h)).told) (ending_reading board h e) in
        let raises = learns.mine inside in
        let after : (master author : ℕ) → (clocks_of board (e ∷ h)).known master author ≡ known_after master ((clocks_of board h).known master) tells (Some ending) author = λ master author. ap (λ found. known_after master ((clocks_of board h).known master) tells found author) is in
        let mine_is : (author : ℕ) → author < M → number (known_at new.known o.master) author ≡ (clocks_of board (e ∷ h)).known o.master author = λ author below.
        let self : eqb o.master o.master ≡ true = grind (arith, nat_tests) in
        let beside_it : author < length (known_at k.known o.master) = let authors = old.authors o.master within_o in omega (arith, authors, below) in
        let known_it : ℕ = (clocks_of board h).known o.master author in
        let assoc : max known_it (max (tells author) (own o author)) ≡ max (max known_it (tells author)) (own o author) = omega arith in
        raises.each author beside_it ∙ ap (λ n. max n (max (number (list_in (told_at new.told got)) author) (own o author))) (old.known o.master author within_o below)
        ∙ ap (λ n. max known_it (max n (own o author))) (got_is author below) ∙ assoc ∙ sym (after o.master author ∙ rw self refl) in
        record {
          masters = learns.masters ∙ old.masters;
          authors = λ master within.
              let P : Bool → Type 0 = λ b. eqb o.master master ≡ b → length (known_at new.known master) ≡ M in
              (elim (eqb o.master master) as P [
                | true ↦ λ same. subst (λ m. length (known_at new.known m) ≡ M) (eqb-true o.master master same) (raises.authors ∙ old.authors o.master within_o)
                | false ↦ λ other. ap (λ (xs : List ℕ). length xs) (learns.others master other) ∙ old.authors master within
              ]) refl;
          known = λ master author within below.
              let P : Bool → Type 0 = λ b. eqb o.master master ≡ b → number (known_at new.known master) author ≡ (clocks_of board (e ∷ h)).known master author in
              (elim (eqb o.master master) as P [
                | true ↦ λ same. subst (λ m. number (known_at new.known m) author ≡ (clocks_of board (e ∷ h)).known m author) (eqb-true o.master master same) (mine_is author below)
                | false ↦ λ other. ap (λ xs. number xs author) (learns.others master other) ∙ old.known master author within below ∙ sym (after master author ∙ rw other refl)
              ]) refl;
        }

    learned : Learned
    learned =
        let P : Option Ending → Type 0 = λ found. ended e ≡ found → LearnsBy (ended_op found) (told_at new.told got) k.known new.known → Learned in
        (elim (ended e) as P [ None ↦ λ none same. nothing_ended none same | Some ending ↦ λ is learns. one_ended ending is learns ]) refl it.learns

    looked_stands : AreLandings board h it.looked
    looked_stands =
        let was = old.landings in
        record {
          gone = λ o. ap (λ xs. Rattle.audit_landings.specs.Hits.count_of o xs) it.same.gone ∙ was.gone o;
          few = was.few;
          landed = λ word. ap (λ xs. writes_in word xs) it.same.landed ∙ was.landed word;
          whole = λ o. ap (λ xs. value_of o xs) it.same.whole ∙ was.whole o;
        }

    told_over : Started e new.starts → ToldsFor M it.looked.whole new.starts it.looked.landed it.looked.tolds
    told_over started =
        tolds_over M it.looked.whole k.starts new.starts it.looked.landed it.looked.tolds it.tolds
        (λ o author below is.
        let landed_it : has_landed h o ≡ true = sym (whole_has h o) ∙ (sym (ap is_some (looked_stands.whole o)) ∙ is) in
        started.starts o author below ∙ ap (λ found. number_in found author) (start_stays board e h o (landed_started board h o run.1 landed_it)) ∙ sym (old.starts o author below))

    knows_it : Knows board (e ∷ h) new
    knows_it =
        let started : Started e new.starts = event_starts e new.starts run it.starts in
        let gone_on : Learned = learned in
        record {
          landings = it.landings.stands h (sym old.many) looked_stands;
          tolds = it.landings.told M new.starts (told_over started);
          masters = gone_on.masters;
          authors = gone_on.authors;
          known = gone_on.known;
          noted = started.noted;
          starts = started.starts;
          many = (ap (λ (xs : List (Option (List ℕ))). length xs) it.told ∙ length-append k.told (it.read ∷ []) ∙ (let many = old.many in omega (arith, many)));
          told = told_is;
        }

pub knows_next : (board : Board) (h : List Event) (e : Event) (got : Option Got) (k new : KnowerState) → Knows board h k → Happens board e got k new → UntaggedRun board (e ∷ h) → SameGot got (ending_reading board h e) → Knows board (e ∷ h) new
knows_next board h e got k new old it run same = knows_it board h k old e got new run same it
