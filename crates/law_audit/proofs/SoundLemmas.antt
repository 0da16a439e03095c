-- Each finding of an audit is so.
use Rattle.std.proofs.Common.{◌≡◌, ℕ, Bool, true, false, cond, List, [], ◌∷◌, ◌++◌, append_assoc, reverse, Option, Some, None, is_some, refl, sym, ap, subst, ◌∙◌}
use Rattle.std.specs.List.{find, AllByRecursion}
use Rattle.std.proofs.lemmas.List.{reverse-append}
use Rattle.list_facts.proofs.EachLemmas.{Each-append}
use Rattle.list_facts.proofs.FindLemmas.{find-append_found, find-append_none}
use Rattle.pci_command.specs.declared.op_id.OpId.{OpId}
use Rattle.pci_command.specs.declared.op_id.Outcome.{Outcome}
use Rattle.pci_command.specs.declared.op_id.Outcome.TheVariants.{Value, Written, Aborted, Nobody}
use Rattle.board_model.specs.declared.board.Board.{Board}
use Rattle.board_model.specs.Requests.{op_of}
use Rattle.board_model.specs.Valid.{IsValid}
use Rattle.history_model.specs.declared.event.Event.{Event}
use Rattle.history_model.specs.declared.rule.Rule.TheVariants.{Tagged}
use Rattle.history_model.specs.Program.{Ending, ended}
use Rattle.history_model.specs.Words.{Landing, landed}
use Rattle.history_model.specs.Knowledge.{Reading, got, is_write}
use Rattle.history_model.specs.Runs.{Run}
use Rattle.law_fresh.specs.Aware.{knows, aware_of}
use Rattle.law_fresh.specs.Told.{was_told}
use Rattle.law_fresh.proofs.Laws.{Begun, Begun-turn, Begun-kept, ends_turn, Front, front_run, knew_before, each_contains}
use Rattle.law_fresh.proofs.reads.Laws.{returned_got}
use Rattle.law_audit.specs.Chains.{op_in, chain_from, chain_of}
use Rattle.law_audit.specs.Audit.{is_known_by, finding_of, findings_by, findings_as, findings_in, findings}
use Rattle.law_audit.specs.Links.{IsChain}
use Rattle.law_audit.specs.Sound.{Knew, IsFound, AreSound}
use Rattle.law_audit.proofs.MasterLemmas.{ended_there}
use Rattle.law_audit.proofs.KnownLemmas.{knows_later}
use Rattle.law_audit.proofs.ChainLemmas.{chain_tells}
use Rattle.law_audit.proofs.WrittenLemmas.{IsOfWrite, landings_write}
use Rattle.law_audit.proofs.LaterLemmas.{got_front, got_kept, chain_kept}
use Rattle.law_audit.proofs.KnewLemmas.{known_knew, knew_knows}

-- The last of a list that passes.

one_passes : {X : Type 0} (test : X → Bool) (x y : X) → find test (x ∷ []) ≡ Some y → (test x ≡ true) × (x ≡ y)
one_passes test x y is =
    let P : Bool → Type 0 = λ b. test x ≡ b → cond b (Some x) None ≡ Some y → (test x ≡ true) × (x ≡ y) in
    (elim (test x) as P [ true ↦ λ passes f. (let same : x ≡ y = cc in (passes, same)) | false ↦ λ _ f. cc ]) refl is

one_fails : {X : Type 0} (test : X → Bool) (x : X) → find test (x ∷ []) ≡ None → test x ≡ false
one_fails test x is =
    let P : Bool → Type 0 = λ b. cond b (Some x) None ≡ None → b ≡ false in
    (elim (test x) as P [ true ↦ λ f. cc | false ↦ λ _. refl ]) is

turned : {X : Type 0} (test : X → Bool) (x : X) (xs : List X) → find test (reverse (x ∷ xs)) ≡ find test (reverse xs ++ x ∷ [])
turned test x xs = ap (find test) (reverse-append (x ∷ []) xs)

-- where none is found from the end on, each fails
pub none_last : {X : Type 0} (test : X → Bool) (xs : List X) → find test (reverse xs) ≡ None → AllByRecursion (λ x. test x ≡ false) xs
none_last test [] is = tt
none_last {X} test (x ∷ xs) is =
    let P : Option X → Type 0 = λ found. find test (reverse xs) ≡ found → find test (reverse xs ++ x ∷ []) ≡ None → AllByRecursion (λ y. test y ≡ false) (x ∷ xs) in
    (elim (find test (reverse xs)) as P [
      | None ↦ λ none f. (one_fails test x (sym (find-append_none test (reverse xs) (x ∷ []) none) ∙ f), none_last test xs none)
      | Some y ↦ λ some f. let clash : ◌≡◌ {A = Option X} (Some y) None = sym (find-append_found test (reverse xs) (x ∷ []) y some) ∙ f in cc
    ]) refl (sym (turned test x xs) ∙ is)

-- a list around the last that passes
pub record LastOf {X : Type 0} (test : X → Bool) (xs : List X) (y : X) : Type 0 where
  pub ahead : List X
  pub behind : List X
  pub is : xs ≡ ahead ++ y ∷ behind
  pub passes : test y ≡ true
  pub fails : AllByRecursion (λ x. test x ≡ false) behind

pub last_of : {X : Type 0} (test : X → Bool) (xs : List X) (y : X) → find test (reverse xs) ≡ Some y → LastOf test xs y
last_of test [] y is = cc
last_of {X} test (x ∷ xs) y is =
    let P : Option X → Type 0 = λ found. find test (reverse xs) ≡ found → find test (reverse xs ++ x ∷ []) ≡ Some y → LastOf test (x ∷ xs) y in
    (elim (find test (reverse xs)) as P [
      | None ↦ λ none f.
          let one = one_passes test x y (sym (find-append_none test (reverse xs) (x ∷ []) none) ∙ f) in
          record { ahead = []; behind = xs; is = ap (λ z. z ∷ xs) one.1; passes = subst (λ z. test z ≡ true) one.1 one.0; fails = none_last test xs none }
      | Some z ↦ λ some f.
          let both : ◌≡◌ {A = Option X} (Some z) (Some y) = sym (find-append_found test (reverse xs) (x ∷ []) z some) ∙ f in
          let same : z ≡ y = cc in
          let old = last_of test xs y (some ∙ ap Some same) in
          record { ahead = x ∷ old.ahead; behind = old.behind; is = ap (λ ys. x ∷ ys) old.is; passes = old.passes; fails = old.fails }
    ]) refl (sym (turned test x xs) ∙ is)

each_at : {X : Type 0} (P : X → Type 0) (ahead : List X) (y : X) (behind : List X) → AllByRecursion P (ahead ++ y ∷ behind) → P y
each_at P [] y behind all = all.0
each_at P (x ∷ ahead) y behind all = each_at P ahead y behind all.1

module _ (board : Board) (valid : IsValid board) (h : List Event) (run : Run board h) where
  -- an event that ends a read with a value
  module _ (e : Event) (g : List Event) (front : Front (e ∷ g) h) (r : OpId) (value : ℕ) (ends : ended e ≡ Some (record { op = r; outcome = Value value })) where
    abbrev now : List Event
    now = e ∷ g

    abbrev ending : Ending
    ending = record { op = r; outcome = Value value }

    run_now : Run board now
    run_now = front_run board now h front run

    begun : Begun board now r
    begun = Begun-kept Tagged board e g r run_now (Begun-turn board g r (ends_turn Tagged board e g ending run_now ends))

    there : is_some (op_of board r) ≡ true
    there = ended_there board e g ending run_now ends

    -- what is known at the end of a run was known as the read ended
    pub knew_now : (w : OpId) → Knew board h w r → knows (aware_of board w now) r ≡ true
    knew_now w knew = knew_before board w r now h front run begun (knew_knows board valid h run w r knew)

    module _ (reading : Reading) (is_got : got board now r ≡ Some reading) where
      abbrev landings : List Landing
      landings = landed board reading.before reading.word

      chain_so : (w : OpId) → is_write board w ≡ true → knows (aware_of board w now) r ≡ true → IsChain board h w r (chain_from board w now r ((aware_of board w now).since r.master))
      chain_so w writes known =
          let told : was_told board now w r ≡ true = rw (writes, there, known) refl in
          let chain : List OpId = chain_from board w now r ((aware_of board w now).since r.master) in
          let made : chain_of board now w r ≡ Some chain = rw told refl in
          chain_kept board now h run front w r chain (chain_tells board now w r chain valid run_now made)

      found_so : (landing : Landing) → find (is_known_by board now r) (reverse landings) ≡ Some landing
          → IsFound board h (record { read = r; word = reading.word; value = reading.value; write = landing.op; chain = chain_from board landing.op now r ((aware_of board landing.op now).since r.master) })
      found_so landing is =
          let w : OpId = landing.op in
          let last = last_of (is_known_by board now r) landings landing is in
          let before_now : Front reading.before now = got_front board now r reading is_got in
          let run_before : Run board reading.before = front_run board reading.before now before_now run_now in
          let all = subst (AllByRecursion (IsOfWrite board)) last.is (landings_write board reading.before reading.word run_before) in
          let writes : is_write board w ≡ true = each_at (IsOfWrite board) last.ahead landing last.behind all in
          let known_now : knows (aware_of board w now) r ≡ true = last.passes in
          let known : knows (aware_of board w h) r ≡ true = subst (λ k. knows (aware_of board w k) r ≡ true) front.is (knows_later board w r front.later now known_now) in
          let got_it : got board h r ≡ Some reading = got_kept board now h run front r reading is_got in
          record {
            reading = reading;
            is_got = got_it;
            is_word = refl;
            is_value = returned_got board h r reading valid run got_it;
            knew = known_knew board valid h run w r writes there known;
            is_chain = chain_so w writes known_now;
            ahead = last.ahead;
            landing = landing;
            behind = last.behind;
            is_of = refl;
            is_landed = last.is;
            is_last = λ x in_behind knew.
                let fails : knows (aware_of board x.op now) r ≡ false = each_contains (λ l. is_known_by board now r l ≡ false) last.behind x last.fails in_behind.0 in_behind.1 in_behind.2 in
                let clash : true ≡ false = sym (knew_now x.op knew) ∙ fails in
                cc;
          }

      by_landing : (found : Option Landing) → find (is_known_by board now r) (reverse landings) ≡ found → AllByRecursion (IsFound board h) (finding_of board now r reading (op_in found))
      by_landing None is = tt
      by_landing (Some landing) is = (found_so landing is, tt)

    by_reading : (found : Option Reading) → got board now r ≡ found → AllByRecursion (IsFound board h) (findings_by board now r found)
    by_reading None is = tt
    by_reading (Some reading) is = by_landing reading is (find (is_known_by board now r) (reverse (landed board reading.before reading.word))) refl

  by_outcome : (e : Event) (g : List Event) → Front (e ∷ g) h → (r : OpId) (outcome : Outcome) → ended e ≡ Some (record { op = r; outcome = outcome }) → AllByRecursion (IsFound board h) (findings_as board (e ∷ g) r outcome)
  by_outcome e g front r (Value value) ends = by_reading e g front r value ends (got board (e ∷ g) r) refl
  by_outcome e g front r Written ends = tt
  by_outcome e g front r Aborted ends = tt
  by_outcome e g front r Nobody ends = tt

  by_ending : (e : Event) (g : List Event) → Front (e ∷ g) h → (found : Option Ending) → ended e ≡ found → AllByRecursion (IsFound board h) (findings_in board (e ∷ g) found)
  by_ending e g front None ends = tt
  by_ending e g front (Some ending) ends = by_outcome e g front ending.op ending.outcome ends

  each_found : (g : List Event) → Front g h → AllByRecursion (IsFound board h) (findings board g)
  each_found [] front = tt
  each_found (e ∷ g) front =
      let rest : Front g h = record { later = front.later ++ e ∷ []; is = append_assoc front.later (e ∷ []) g ∙ front.is } in
      Each-append (IsFound board h) (findings board g) (findings_in board (e ∷ g) (ended e)) (each_found g rest) (by_ending e g front (ended e) refl)

  pub all_sound : AreSound board h
  all_sound found is =
      each_contains (IsFound board h) (findings board h) found (each_found h (record { later = []; is = refl })) is.0 is.1 is.2
