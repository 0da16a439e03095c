-- What is found of an event is what the list has of it.
use Rattle.std.proofs.Common.{◌≡◌, ℕ, ◌+◌, ◌-◌, ◌<◌, ◌≤◌, Bool, true, false, not, ◌&&◌, cond, nat_lt, List, [], ◌∷◌, ◌++◌, length, take, drop, reverse, get_or, slice_get, Option, Some, None, is_some, refl, sym, ap, subst, ◌∙◌, arith}
use Rattle.std.specs.List.{find, list_any}
use Rattle.std.proofs.lemmas.Bool.Decides.{nat_tests}
use Rattle.std.proofs.lemmas.List.{take_all, take_more, reverse-append, take-append-drop}
use Rattle.std.proofs.lemmas.Option.{slice_get-get_or}
use Rattle.pci_command.specs.declared.op_id.OpId.{OpId}
use Rattle.board_model.specs.declared.board.Board.{Board}
use Rattle.history_model.specs.declared.event.Event.{Event}
use Rattle.history_model.specs.declared.rule.Rule.TheVariants.{Untagged}
use Rattle.history_model.specs.Program.{Ending, ended}
use Rattle.history_model.specs.Knowledge.{Reading, is_land_of, has_landed, words_named, is_write}
use Rattle.history_model.specs.Runs.{RunBy, history_of}
use Rattle.board_model.specs.declared.word.Word.{Word}
use Rattle.audit_clocks.specs.Rows.{number}
use Rattle.law_audit.specs.Clocks.{reaches}
use Rattle.audit_landings.specs.Hits.{or_place, whole_at}
use Rattle.audit_landings.proofs.Laws.{whole_has}
use Rattle.law_untagged.specs.Untagged.{UntaggedRun}
use Rattle.law_untagged.specs.Origins.{ending_reading, untagged_got}
use Rattle.law_untagged.specs.Heard.{untagged_was_told}
use Rattle.safe_model.specs.Raisers.{same_dword}
use Rattle.safe_model.specs.Ops.{ops_by}
use Rattle.law_untagged.specs.Stale.{StaleRead, breaks, breaks_in, stale_by, stale_at, stale_ending, stale_in}
use Rattle.law_untagged.proofs.HeardLemmas.{ending_front}
use Rattle.law_untagged.proofs.ToldLemmas.{got_along}
use Rattle.law_untagged.specs.clocks.Clocks.{clocks_of}
use Rattle.law_untagged.proofs.clocks.ToldLemmas.{ends_it, told_reaches}
use Rattle.law_untagged.proofs.OrderLemmas.{run_along}
use Rattle.untagged_run.specs.declared.got.Got.{Got}
use Rattle.untagged_run.specs.Flat.{flat}
use Rattle.untagged_run.specs.Table.{IsGot, SameGot}
use Rattle.untagged_run.specs.Course.{AreGots}
use Rattle.machine_steps.specs.Endings.{ended_op}
use Rattle.untagged_run.specs.told.Knowers.{KnowerState, known_at, Knows}
use Rattle.untagged_run.proofs.told.NextLemmas.{master_within}
use Rattle.untagged_check.specs.index.Entries.{Listing}
use Rattle.untagged_check.specs.index.Pending.{is_before, reaches_in, names, is_pending, first_pending}
use Rattle.untagged_check.specs.Found.{IndexesRun, is_unlanded, first_unlanded, found_by, found_with, found_at, found_ending}
use Rattle.law_fresh.proofs.Laws.{ends_turn, Front, front_self, front_more, front_front, turn_is_there}

-- what is found by tests that agree
find_same : {X : Type 0} (f g : X → Bool) → ((x : X) → f x ≡ g x) → (xs : List X) → find f xs ≡ find g xs
find_same f g same [] = refl
find_same f g same (x ∷ xs) = ap (λ b. cond b (Some x) (find f xs)) (same x) ∙ ap (λ found. cond (g x) (Some x) found) (find_same f g same xs)

-- the index finds it
pub pending_is : (board : Board) (h : List Event) (landed : List (OpId × ℕ)) (word : Word) (events : ℕ) (numbers : List ℕ) → ((w : OpId) → Rattle.audit_clocks.specs.Tables.value_of w landed ≡ whole_at h w)
    → first_pending board landed word events numbers ≡ first_unlanded board h word events numbers
pending_is board h landed word events numbers whole =
    find_same (is_pending board landed word events numbers) (is_unlanded board h word events numbers)
    (λ w. ap (λ found. is_write board w && names board word w && not (is_before events found) && reaches_in numbers w) (whole w)) (ops_by 0 board.masters)

-- When a write landed.

below_length : (h : List Event) (w : OpId) (n : ℕ) → whole_at h w ≡ Some n → n < length h
below_length [] w n is = cc
below_length (e ∷ h) w n is = let at_most = by_older (whole_at h w) refl (below_length h w n) is in omega (arith, at_most)
  where
    now : (b : Bool) → cond b (Some (length h)) None ≡ Some n → n < length h + 1
    now true same = let one : length h ≡ n = cc in omega (arith, one)
    now false same = cc

    by_older : (older : Option ℕ) → whole_at h w ≡ older → (whole_at h w ≡ Some n → n < length h) → or_place (whole_at h w) (cond (is_land_of w e) (Some (length h)) None) ≡ Some n → n < length h + 1
    by_older None none below same = now (is_land_of w e) (sym (ap (λ found. or_place found (cond (is_land_of w e) (Some (length h)) None)) none) ∙ same)
    by_older (Some m) some below same =
        let one : Some m ≡ Some n = sym (ap (λ found. or_place found (cond (is_land_of w e) (Some (length h)) None)) some) ∙ same in
        let older = below (some ∙ one) in
        omega (arith, older)

-- before so many events
landed_then : (later before : List Event) (w : OpId) → is_before (length before) (whole_at (later ++ before) w) ≡ has_landed before w
landed_then [] before w = by_place (whole_at before w) refl
  where
    by_place : (found : Option ℕ) → whole_at before w ≡ found → is_before (length before) (whole_at before w) ≡ has_landed before w
    by_place None none = ap (is_before (length before)) none ∙ (sym (ap is_some none) ∙ whole_has before w)
    by_place (Some n) some =
        let below : n < length before = below_length before w n some in
        let yes_it : nat_lt n (length before) ≡ true = grind (arith, nat_tests) in
        ap (is_before (length before)) some ∙ (yes_it ∙ (sym (ap is_some some) ∙ whole_has before w))
landed_then (e ∷ later) before w = by_older (whole_at (later ++ before) w) refl (landed_then later before w)
  where
    long : (later : List Event) → length before ≤ length (later ++ before)
    long [] = omega arith
    long (f ∷ later) = let older = long later in omega (arith, older)

    now : (b : Bool) → is_before (length before) (cond b (Some (length (later ++ before))) None) ≡ false
    now true = let at_least = long later in grind (arith, nat_tests)
    now false = refl

    by_older : (older : Option ℕ) → whole_at (later ++ before) w ≡ older → is_before (length before) (whole_at (later ++ before) w) ≡ has_landed before w
        → is_before (length before) (or_place (whole_at (later ++ before) w) (cond (is_land_of w e) (Some (length (later ++ before))) None)) ≡ has_landed before w
    by_older None none was =
        ap (λ found. is_before (length before) (or_place found (cond (is_land_of w e) (Some (length (later ++ before))) None))) none
        ∙ (now (is_land_of w e) ∙ (sym (ap (is_before (length before)) none) ∙ was))
    by_older (Some n) some was =
        ap (λ found. is_before (length before) (or_place found (cond (is_land_of w e) (Some (length (later ++ before))) None))) some
        ∙ (sym (ap (is_before (length before)) some) ∙ was)

front_landed : (before h : List Event) (w : OpId) → Front before h → is_before (length before) (whole_at h w) ≡ has_landed before w
front_landed before h w front = subst (λ g. is_before (length before) (whole_at g w) ≡ has_landed before w) front.is (landed_then front.later before w)

write_within : (board : Board) (w : OpId) → is_write board w ≡ true → w.master < length board.masters
write_within board w is = master_within board w (Rattle.std.proofs.lemmas.Bool.and_parts (is_some (Rattle.board_model.specs.Requests.op_of board w)) (not (Rattle.board_model.specs.Requests.reads board w)) is).0

module _ (board : Board) (later : List Event) (e : Event) (h : List Event) (run : UntaggedRun board (later ++ e ∷ h)) (k : KnowerState) (knows : Knows board (e ∷ h) k) where
  abbrev whole : List Event
  whole = later ++ e ∷ h

  -- a write for which a read breaks freshness that got this
  same_test : (ending : Ending) (reading : Reading) (got : Got) (numbers : List ℕ) (w : OpId) → ended e ≡ Some ending → ending_reading board h e ≡ Some reading → IsGot got reading → known_at k.known ending.op.master ≡ numbers → ending.op.master < length board.masters
      → is_unlanded board (later ++ e ∷ h) got.word (got.event - 1) numbers w ≡ breaks_in board (later ++ e ∷ h) w ending.op (Some reading)
  same_test ending reading got numbers w ends read is numbers_are within =
      let H : List Event = later ++ e ∷ h in
      let r : OpId = ending.op in
      let event : got.event - 1 ≡ length reading.before = let number_is = is.event in omega (arith, number_is) in
      let front : Front reading.before H = front_front reading.before h H (ending_front board h e reading read) (front_front h (e ∷ h) H (front_more h h e (front_self h)) (record { later = later; is = refl })) in
      let landed_it : is_before (got.event - 1) (whole_at H w) ≡ has_landed reading.before w = ap (λ n. is_before n (whole_at H w)) event ∙ front_landed reading.before H w front in
      let named : names board got.word w ≡ list_any (same_dword reading.word) (words_named board w) = ap (λ d. list_any (same_dword d) (words_named board w)) is.word in
      let n : Bool = list_any (same_dword reading.word) (words_named board w) in
      let u : Bool = not (has_landed reading.before w) in
      let both : is_unlanded board H got.word (got.event - 1) numbers w ≡ (is_write board w && n && u && reaches_in numbers w) =
      ap (λ b. is_write board w && b && not (is_before (got.event - 1) (whole_at H w)) && reaches_in numbers w) named ∙ ap (λ b. is_write board w && n && not b && reaches_in numbers w) landed_it in
      let P : Bool → Type 0 = λ b. is_write board w ≡ b → (b && n && u && reaches_in numbers w) ≡ (n && u && untagged_was_told board H w r) in
      both ∙ (elim (is_write board w) as P [
        | true ↦ λ writes.
            let told : untagged_was_told board H w r ≡ reaches ((clocks_of board (e ∷ h)).known r.master) w = told_reaches board later e h ending reading w run writes ends read in
            let known : number numbers w.master ≡ (clocks_of board (e ∷ h)).known r.master w.master = ap (λ xs. number xs w.master) (sym numbers_are) ∙ knows.known r.master w.master within (write_within board w writes) in
            ap (λ b. n && u && b) (ap (λ m. nat_lt w.index m) known ∙ sym told)
        | false ↦ λ reads_it.
            let untold : untagged_was_told board H w r ≡ false = rw reads_it refl in
            sym (ap (λ b. n && u && b) untold ∙ and_false (n && u))
      ]) refl
    where
      and_false : (a : Bool) → (a && false) ≡ false
      and_false true = refl
      and_false false = refl

  no_reading : (r : OpId) (xs : List OpId) → untagged_got board (later ++ e ∷ h) r ≡ None → find (λ w. breaks board (later ++ e ∷ h) w r) xs ≡ None
  no_reading r [] none = refl
  no_reading r (w ∷ xs) none =
      ap (λ found. cond (breaks_in board (later ++ e ∷ h) w r found) (Some w) (find (λ v. breaks board (later ++ e ∷ h) v r) xs)) none ∙ no_reading r xs none

  of_ending : (ending : Ending) (got : Option Got) → ended e ≡ Some ending → SameGot got (ending_reading board h e) → found_at board (later ++ e ∷ h) ending.op got (slice_get k.known ending.op.master) ≡ stale_at board (later ++ e ∷ h) ending.op
  of_ending ending got ends same =
      let H : List Event = later ++ e ∷ h in
      let r : OpId = ending.op in
      let within : r.master < length board.masters = master_within board r (turn_is_there board h r (ends_turn Untagged board e h ending (run_along board later (e ∷ h) run) ends)) in
      let inside : r.master < length k.known = let masters = knows.masters in omega (arith, masters, within) in
      let numbers : List ℕ = known_at k.known r.master in
      let some : slice_get k.known r.master ≡ Some numbers = slice_get-get_or k.known r.master [] inside in
      let given : untagged_got board H r ≡ ending_reading board h e = got_along board r e h later run (ends_it e ending ends) in
      ap (found_at board H r got) some ∙ by_got got (ending_reading board h e) same refl given within
    where
      by_got : (found : Option Got) (reading : Option Reading) → SameGot found reading → ending_reading board h e ≡ reading → untagged_got board (later ++ e ∷ h) ending.op ≡ ending_reading board h e → ending.op.master < length board.masters
          → found_with board (later ++ e ∷ h) ending.op (known_at k.known ending.op.master) found ≡ stale_at board (later ++ e ∷ h) ending.op
      by_got None None alike read given within =
          let none : untagged_got board (later ++ e ∷ h) ending.op ≡ None = given ∙ read in
          sym (ap (λ found. stale_by ending.op found (untagged_got board (later ++ e ∷ h) ending.op)) (no_reading ending.op (ops_by 0 board.masters) none))
      by_got None (Some reading) alike read given within = absurd alike
      by_got (Some found) None alike read given within = absurd alike
      by_got (Some found) (Some reading) alike read given within =
          let H : List Event = later ++ e ∷ h in
          let r : OpId = ending.op in
          let is : IsGot found reading = alike in
          let got_it : untagged_got board H r ≡ Some reading = given ∙ read in
          let numbers : List ℕ = known_at k.known r.master in
          let ops : List OpId = ops_by 0 board.masters in
          let tests : (w : OpId) → is_unlanded board H found.word (found.event - 1) numbers w ≡ breaks board H w r =
          λ w. same_test ending reading found numbers w ends read is refl within ∙ ap (λ x. breaks_in board H w r x) (sym got_it) in
          let same_find : first_unlanded board H found.word (found.event - 1) numbers ≡ find (λ w. breaks board H w r) ops = find_same (is_unlanded board H found.word (found.event - 1) numbers) (λ w. breaks board H w r) tests ops in
          ap (found_by r found.event) same_find ∙ (as_listed r reading found.event is.event (find (λ w. breaks board H w r) ops) ∙ ap (stale_by r (find (λ w. breaks board H w r) ops)) (sym got_it))
        where
          as_listed : (r : OpId) (reading : Reading) (event : ℕ) → event ≡ length reading.before + 1 → (found : Option OpId) → found_by r event found ≡ stale_by r found (Some reading)
          as_listed r reading event is None = refl
          as_listed r reading event is (Some w) = ap (λ n. record { read = r; write = w; event = n } ∷ []) is

  found_is : (got : Option Got) → SameGot got (ending_reading board h e) → found_ending board (later ++ e ∷ h) k.known got (ended_op (ended e)) ≡ stale_ending board (later ++ e ∷ h) (ended e)
  found_is got same =
      let P : Option Ending → Type 0 = λ found. ended e ≡ found → found_ending board (later ++ e ∷ h) k.known got (ended_op found) ≡ stale_ending board (later ++ e ∷ h) found in
      (elim (ended e) as P [ None ↦ λ _. refl | Some ending ↦ λ ends. of_ending ending got ends same ]) refl

-- Event by event.

history_split : (events : List Event) (i : ℕ) (d : Event) → i < length events → (later : List Event) × (later ++ (get_or events i d ∷ history_of (take i events)) ≡ history_of events)
history_split events i d within =
    let more : history_of (take (i + 1) events) ≡ get_or events i d ∷ history_of (take i events) = ap (λ (xs : List Event). reverse xs) (take_more events i d within) ∙ reverse-append (take i events) (get_or events i d ∷ []) in
    let rest : List Event = reverse (drop (i + 1) events) in
    let whole : rest ++ history_of (take (i + 1) events) ≡ history_of events = sym (ap (λ (xs : List Event). reverse xs) (sym (take-append-drop (i + 1) events)) ∙ reverse-append (take (i + 1) events) (drop (i + 1) events)) in
    (rest, ap (λ g. rest ++ g) (sym more) ∙ whole)

-- an event of a run is a run with those before it
pub run_then : (board : Board) (events : List Event) (i : ℕ) (d : Event) → i < length events → RunBy Untagged board (history_of events) → RunBy Untagged board (get_or events i d ∷ history_of (take i events))
run_then board events i d within run =
    let split = history_split events i d within in
    run_along board split.0 (get_or events i d ∷ history_of (take i events)) (subst (λ g. RunBy Untagged board g) (sym split.1) run)

-- the list, one event further
pub listed_more : (board : Board) (events : List Event) (gots : List (Option Got)) (i : ℕ) (d : Event) (k : KnowerState) (old new : List StaleRead) → i < length events → RunBy Untagged board (history_of events) → AreGots board events gots
    → Knows board (get_or events i d ∷ history_of (take i events)) k → old ≡ stale_in board (history_of events) (history_of (take i events))
    → new ≡ old ++ found_ending board (history_of events) k.known (flat (slice_get gots i)) (ended_op (ended (get_or events i d)))
    → new ≡ stale_in board (history_of events) (history_of (take (i + 1) events))
listed_more board events gots i d k old new within run are knows so_far is =
    let e : Event = get_or events i d in
    let h : List Event = history_of (take i events) in
    let split = history_split events i d within in
    let more : history_of (take (i + 1) events) ≡ e ∷ h = ap (λ (xs : List Event). reverse xs) (take_more events i d within) ∙ reverse-append (take i events) (e ∷ []) in
    let run_split : UntaggedRun board (split.0 ++ e ∷ h) = subst (λ g. RunBy Untagged board g) (sym split.1) run in
    let there : found_ending board (split.0 ++ e ∷ h) k.known (flat (slice_get gots i)) (ended_op (ended e)) ≡ stale_ending board (split.0 ++ e ∷ h) (ended e) = found_is board split.0 e h run_split k knows (flat (slice_get gots i)) (are.each i d within) in
    let here : found_ending board (history_of events) k.known (flat (slice_get gots i)) (ended_op (ended e)) ≡ stale_ending board (history_of events) (ended e) =
    subst (λ g. found_ending board g k.known (flat (slice_get gots i)) (ended_op (ended e)) ≡ stale_ending board g (ended e)) split.1 there in
    is ∙ (ap (λ xs. xs ++ found_ending board (history_of events) k.known (flat (slice_get gots i)) (ended_op (ended e))) so_far
    ∙ (ap (λ xs. stale_in board (history_of events) h ++ xs) here ∙ ap (λ g. stale_in board (history_of events) g) (sym more)))

-- what is listed and known, one event further
pub list_next : (board made : Board) (events : List Event) (gots : List (Option Got)) (i : ℕ) (d : Event) (index : List (Word × List Listing)) (old_knowers knowers : KnowerState) (old new : List StaleRead) (got : Option Got)
    → made ≡ board → i < length events → RunBy Untagged board (history_of events) → AreGots board events gots → IndexesRun board (history_of events) index → got ≡ flat (slice_get gots i)
    → ((h : List Event) → Knows made h old_knowers → UntaggedRun made (get_or events i d ∷ h) → SameGot got (ending_reading made h (get_or events i d)) → Knows made (get_or events i d ∷ h) knowers)
    → ((any : Board) (h : List Event) → IndexesRun any h index → new ≡ old ++ found_ending any h knowers.known got (ended_op (ended (get_or events i d))))
    → (old ≡ stale_in board (history_of events) (history_of (take i events))) × Knows board (history_of (take i events)) old_knowers
    → (new ≡ stale_in board (history_of events) (history_of (take (i + 1) events))) × Knows board (history_of (take (i + 1) events)) knowers
list_next board made events gots i d index old_knowers knowers old new got same_board within run are indexes is happens adds so_far =
    let e : Event = get_or events i d in
    let h : List Event = history_of (take i events) in
    let more : history_of (take (i + 1) events) ≡ e ∷ h = ap (λ (xs : List Event). reverse xs) (take_more events i d within) ∙ reverse-append (take i events) (e ∷ []) in
    let steps : (h : List Event) → Knows board h old_knowers → UntaggedRun board (e ∷ h) → SameGot got (ending_reading board h e) → Knows board (e ∷ h) knowers =
    subst (λ b. (h : List Event) → Knows b h old_knowers → UntaggedRun b (e ∷ h) → SameGot got (ending_reading b h e) → Knows b (e ∷ h) knowers) same_board happens in
    let same : SameGot got (ending_reading board h e) = subst (λ found. SameGot found (ending_reading board h e)) (sym is) (are.each i d within) in
    let knows : Knows board (e ∷ h) knowers = steps h so_far.1 (run_then board events i d within run) same in
    let found : new ≡ old ++ found_ending board (history_of events) knowers.known (flat (slice_get gots i)) (ended_op (ended e)) =
    adds board (history_of events) indexes ∙ ap (λ g. old ++ found_ending board (history_of events) knowers.known g (ended_op (ended e))) is in
    (listed_more board events gots i d knowers old new within run are knows so_far.0 found, subst (λ g. Knows board g knowers) (sym more) knows)

-- all of it
pub list_whole : (board : Board) (events : List Event) (i : ℕ) (now : List StaleRead) → length events ≤ i → now ≡ stale_in board (history_of events) (history_of (take i events)) → now ≡ stale_in board (history_of events) (history_of events)
list_whole board events i now over is = is ∙ ap (λ (es : List Event). stale_in board (history_of events) (history_of es)) (take_all i events over)
