-- The places say who knows, after every event.
use Rattle.std.proofs.Common.{◌≡◌, ℕ, zero, suc, ◌<◌, ◌≤◌, Bool, true, false, ◌&&◌, ◌||◌, not, ◌==◌, cond, eqb, eqb-true, get_or, set, nat_lt, is_none, ◌≢◌, length, length-set, replicate, take, drop, reverse, take-append-drop, ◌+◌, get_or-set_same, get_or-set_other, List, [], ◌∷◌, ◌++◌, append_assoc, Option, Some, None, is_some, refl, sym, ap, subst, ◌∙◌, arith}
use Rattle.std.proofs.lemmas.Bool.Decides.{nat_tests}
use Rattle.std.specs.List.{find, list_any}
use Rattle.std.proofs.lemmas.List.{take_more, take_all, length-replicate, reverse-append}
use Rattle.list_facts.proofs.EachLemmas.{Each-weaker}
use Rattle.pci_command.specs.declared.op_id.OpId.{OpId}
use Rattle.pci_command.specs.Same.{same_op}
use Rattle.board_model.specs.declared.board.Board.{Board}
use Rattle.board_model.specs.Requests.{op_of}
use Rattle.board_model.specs.Ways.{Dword}
use Rattle.board_model.specs.Valid.{IsValid}
use Rattle.history_model.specs.declared.event.Event.{Event}
use Rattle.history_model.specs.declared.rule.Rule.TheVariants.{Tagged}
use Rattle.history_model.specs.Program.{Ending, ended}
use Rattle.history_model.specs.Words.{Landing, landed}
use Rattle.history_model.specs.Knowledge.{value_in, up_to_end, Reading, reading_in, has_landed, is_write}
use Rattle.history_model.specs.Runs.{Run, history_of}
use Rattle.law_lanes.proofs.Laws.{Run-before}
use Rattle.law_fresh.specs.Aware.{is_behind, knows, first_known, shows, shown, taught_by, taught_after, aware_of}
use Rattle.law_fresh.specs.Told.{was_told}
use Rattle.law_fresh.proofs.Laws.{Front, front_run, front_end, before_in, LandingBegun, LandingsBegun-run}
use Rattle.law_audit.specs.Chains.{op_in}
use Rattle.plain_audit.specs.Places.{knows_by, shows_by, first_shown, shown_after, last_shown, brings_it, is_open, learned, ArePlaces}
use Rattle.law_audit.proofs.MasterLemmas.{has_place, ended_there}
use Rattle.law_audit.proofs.KnownLemmas.{same_knows, find_same}

found_any : (test : Landing → Bool) (xs : List Landing) → is_some (op_in (find test xs)) ≡ list_any test xs
found_any test [] = refl
found_any test (x ∷ xs) =
    let P : Bool → Type 0 = λ b. is_some (op_in (cond b (Some x) (find test xs))) ≡ (b || list_any test xs) in
    elim (test x) as P [ true ↦ refl | false ↦ found_any test xs ]

module _ (board : Board) (valid : IsValid board) (w : OpId) (h : List Event) (run : Run board h) (since : List (Option OpId)) (places : ArePlaces (aware_of board w h) since) where
  pub knows_place : (q : OpId) → knows_by since q ≡ knows (aware_of board w h) q
  knows_place q = ap (λ found. is_behind found q) (places.are q.master)

  same_shows : (g : List Event) → Front g h → (l : Landing) → LandingBegun board g l → shows_by w since g l ≡ shows w (aware_of board w g) g l
  same_shows g front l begun =
      let q : OpId = l.op in
      ap (λ b. has_landed g q && (same_op q w || b)) (knows_place q ∙ same_knows board w q g h front run begun)

  same_shown : (g : List Event) (word : Dword) → Front g h → is_some (first_shown board w since g word) ≡ shown board w (aware_of board w g) g word
  same_shown g word front =
      let run_g : Run board g = front_run board g h front run in
      let landings : List Landing = landed board g word in
      let same : find (shows_by w since g) landings ≡ find (shows w (aware_of board w g) g) landings = find_same (shows_by w since g) (shows w (aware_of board w g) g) landings
      (Each-weaker (LandingBegun board g) (λ l. shows_by w since g l ≡ shows w (aware_of board w g) g l) (same_shows g front) landings (LandingsBegun-run Tagged board g word run_g)) in
      ap (λ found. is_some (op_in found)) same ∙ found_any (shows w (aware_of board w g) g) landings

  -- what an event more shows
  shown_step : (e : Event) (g : List Event) (o : OpId) → Front g h → is_some (last_shown board w since g o) ≡ (aware_of board w g).taught o → is_some (last_shown board w since (e ∷ g) o) ≡ (aware_of board w (e ∷ g)).taught o
  shown_step e g o front old =
      let P : Option Reading → Type 0 = λ here. reading_in board g o e ≡ here → is_some (shown_after board w since (last_shown board w since g o) here) ≡ taught_by board w (aware_of board w g) ((aware_of board w g).taught o) here in
      (elim (reading_in board g o e) as P [
        | None ↦ λ _. old
        | Some reading ↦ λ is.
            let before : reading.before ≡ g = before_in board g o e reading is in
            let F : List Event → Type 0 = λ k. is_some (first_shown board w since k reading.word) ≡ shown board w (aware_of board w g) k reading.word in
            subst F (sym before) (same_shown g reading.word front)
      ]) refl

  -- what an operation last read shows is what it was taught, at each time before
  pub shown_front : (g : List Event) (o : OpId) → Front g h → is_some (last_shown board w since g o) ≡ (aware_of board w g).taught o
  shown_front [] o front = refl
  shown_front (e ∷ g) o front =
      let rest : Front g h = record { later = front.later ++ e ∷ []; is = append_assoc front.later (e ∷ []) g ∙ front.is } in
      shown_step e g o rest (shown_front g o rest)

  shown_same : (e : Event) (o : OpId) → is_some (last_shown board w since (e ∷ h) o) ≡ (aware_of board w (e ∷ h)).taught o
  shown_same e o =
      let whole : Front h h = record { later = []; is = refl } in
      shown_step e h o whole (shown_front h o whole)

  -- the places after an event that ends nothing
  places_none : (e : Event) → ended e ≡ None → ArePlaces (aware_of board w (e ∷ h)) since
  places_none e none =
      record {
        many = places.many;
        are = λ master.
            let P : Option OpId → Type 0 = λ found. found ≡ first_known found master w (taught_after board w (aware_of board w h) h e) None in
            let same : (aware_of board w h).since master ≡ first_known ((aware_of board w h).since master) master w (taught_after board w (aware_of board w h) h e) None = elim ((aware_of board w h).since master) as P [ None ↦ refl | Some p ↦ refl ] in
            let F : Option Ending → Type 0 = λ found. (aware_of board w h).since master ≡ first_known ((aware_of board w h).since master) master w (taught_after board w (aware_of board w h) h e) found in
            places.are master ∙ subst F (sym none) same;
      }

  -- what the place of the operation's master becomes, and that no other changes
  place_after : (e : Event) (ending : Ending) (bring : Bool) → ended e ≡ Some ending → bring ≡ (same_op ending.op w || (is_some (value_in ending.outcome) && is_some (last_shown board w since (e ∷ h) ending.op))) → (master : ℕ)
      → (aware_of board w (e ∷ h)).since master ≡ first_known (get_or since master None) master w (λ o. is_some (last_shown board w since (e ∷ h) o)) (Some ending)
  place_after e ending bring is given master =
      let taught : OpId → Bool = (aware_of board w (e ∷ h)).taught in
      let look : OpId → Bool = λ o. is_some (last_shown board w since (e ∷ h) o) in
      let F : Option Ending → Type 0 = λ found. (aware_of board w (e ∷ h)).since master ≡ first_known ((aware_of board w h).since master) master w taught found in
      let by_ending : (aware_of board w (e ∷ h)).since master ≡ first_known ((aware_of board w h).since master) master w taught (Some ending) = subst F is refl in
      let G : Option OpId → Type 0 = λ found. first_known found master w taught (Some ending) ≡ first_known found master w look (Some ending) in
      let H : Bool → Type 0 = λ b. cond ((ending.op.master == master) && (same_op ending.op w || (is_some (value_in ending.outcome) && taught ending.op))) (Some ending.op) None ≡ cond ((ending.op.master == master) && (same_op ending.op w || (is_some (value_in ending.outcome) && b))) (Some ending.op) None in
      let alike : G ((aware_of board w h).since master) = elim ((aware_of board w h).since master) as G [ None ↦ subst H (sym (shown_same e ending.op)) refl | Some p ↦ refl ] in
      by_ending ∙ alike ∙ ap (λ found. first_known found master w look (Some ending)) (sym (places.are master))

  in_bounds : (op : OpId) → op.master < 256 → nat_lt op.master (length since) ≡ true
  in_bounds op at =
      let long = places.many in
      let below_it : op.master < length since = omega (arith, long, at) in
      grind (arith, nat_tests)

  abbrev noted : OpId → List (Option OpId)
  noted op = cond (is_open since op) (set since op.master (Some op)) since

  abbrev PlaceOf : OpId → ℕ → Option OpId → Option OpId
  PlaceOf op master found = cond (eqb op.master master) (cond (is_some found) found (Some op)) found

  place_noted : (op : OpId) (master : ℕ) → op.master < 256 → get_or (noted op) master None ≡ PlaceOf op master (get_or since master None)
  place_noted op master at =
      let inside : nat_lt op.master (length since) ≡ true = in_bounds op at in
      let long = places.many in
      let below_it : op.master < length since = omega (arith, long, at) in
      let Goal : Bool → Type 0 = λ b. get_or (cond (nat_lt op.master (length since) && not b) (set since op.master (Some op)) since) master None ≡ PlaceOf op master (get_or since master None) in
      let P : Bool → Type 0 = λ b. is_some (get_or since op.master None) ≡ b → Goal b in
      let Full : Bool → Type 0 = λ c. eqb op.master master ≡ c → get_or since master None ≡ cond c (cond (is_some (get_or since master None)) (get_or since master None) (Some op)) (get_or since master None) in
      let Empty : Bool → Type 0 = λ c. eqb op.master master ≡ c → get_or (set since op.master (Some op)) master None ≡ cond c (cond (is_some (get_or since master None)) (get_or since master None) (Some op)) (get_or since master None) in
      (elim (is_some (get_or since op.master None)) as P [
        | true ↦ λ full.
            let same = (elim (eqb op.master master) as Full [
              | true ↦ λ is.
                  let one : op.master ≡ master = eqb-true op.master master is in
                  let there : is_some (get_or since master None) ≡ true = subst (λ m. is_some (get_or since m None) ≡ true) one full in
                  rw there refl
              | false ↦ λ _. refl
            ]) refl in
            rw inside same
        | false ↦ λ empty.
            let same = (elim (eqb op.master master) as Empty [
              | true ↦ λ is.
                  let one : op.master ≡ master = eqb-true op.master master is in
                  let none : is_some (get_or since master None) ≡ false = subst (λ m. is_some (get_or since m None) ≡ false) one empty in
                  let put : get_or (set since op.master (Some op)) master None ≡ Some op = subst (λ m. get_or (set since op.master (Some op)) m None ≡ Some op) one (get_or-set_same since op.master (Some op) None below_it) in
                  rw none put
              | false ↦ λ other.
                  let apart : master ≢ op.master = grind (arith, nat_tests) in
                  get_or-set_other since op.master master (Some op) None apart
            ]) refl in
            rw inside same
      ]) refl

  noted_many : (op : OpId) → length (noted op) ≡ 256
  noted_many op =
      let P : Bool → Type 0 = λ b. length (cond b (set since op.master (Some op)) since) ≡ 256 in
      elim (nat_lt op.master (length since) && is_none (get_or since op.master None)) as P [ true ↦ length-set since op.master (Some op) ∙ places.many | false ↦ places.many ]

  places_brought : (e : Event) (ending : Ending) → ended e ≡ Some ending → ending.op.master < 256
      → ArePlaces (aware_of board w (e ∷ h)) (cond (brings_it board w since (e ∷ h) (Some ending) ending.op) (noted ending.op) since)
  places_brought e ending is at =
      let bring : Bool = brings_it board w since (e ∷ h) (Some ending) ending.op in
      let look : OpId → Bool = λ o. is_some (last_shown board w since (e ∷ h) o) in
      let P : Bool → Type 0 = λ b. bring ≡ b → ArePlaces (aware_of board w (e ∷ h)) (cond b (noted ending.op) since) in
      let first : (master : ℕ) → Option OpId → Bool → Option OpId = λ master found b. cond (eqb ending.op.master master) (cond (is_some found) found (cond b (Some ending.op) None)) found in
      let is_first : (master : ℕ) (found : Option OpId) → first_known found master w look (Some ending) ≡ first master found bring =
      λ master found. first_is master w look ending found in
      (elim bring as P [
        | true ↦ λ brings_now.
            record {
              many = noted_many ending.op;
              are = λ master.
                  place_noted ending.op master at ∙ sym (place_after e ending bring is refl master ∙ is_first master (get_or since master None) ∙ ap (first master (get_or since master None)) brings_now);
            }
        | false ↦ λ none.
            record {
              many = places.many;
              are = λ master.
                  sym (place_after e ending bring is refl master ∙ is_first master (get_or since master None) ∙ ap (first master (get_or since master None)) none ∙ unchanged master ending.op (get_or since master None));
            }
      ]) refl
    where
      unchanged : (master : ℕ) (op : OpId) (found : Option OpId) → cond (eqb op.master master) (cond (is_some found) found None) found ≡ found
      unchanged master op None =
          let none : Option OpId = None in
          let P : Bool → Type 0 = λ b. cond b none none ≡ none in
          elim (eqb op.master master) as P [ true ↦ refl | false ↦ refl ]
      unchanged master op (Some p) =
          let P : Bool → Type 0 = λ b. cond b (Some p) (Some p) ≡ Some p in
          elim (eqb op.master master) as P [ true ↦ refl | false ↦ refl ]

      first_is : (master : ℕ) (w : OpId) (look : OpId → Bool) (ending : Ending) (found : Option OpId) → first_known found master w look (Some ending)
          ≡ cond (eqb ending.op.master master) (cond (is_some found) found (cond (same_op ending.op w || (is_some (value_in ending.outcome) && look ending.op)) (Some ending.op) None)) found
      first_is master w look ending (Some p) =
          let P : Bool → Type 0 = λ b. Some p ≡ cond b (Some p) (Some p) in
          elim (eqb ending.op.master master) as P [ true ↦ refl | false ↦ refl ]
      first_is master w look ending None =
          let brought : Bool = same_op ending.op w || (is_some (value_in ending.outcome) && look ending.op) in
          let none : Option OpId = None in
          let P : Bool → Type 0 = λ b. cond (b && brought) (Some ending.op) none ≡ cond b (cond brought (Some ending.op) none) none in
          elim (eqb ending.op.master master) as P [ true ↦ refl | false ↦ refl ]

  -- the places after an event that ends an operation
  places_some : (e : Event) (ending : Ending) → ended e ≡ Some ending → ending.op.master < 256 → ArePlaces (aware_of board w (e ∷ h)) (learned board w since (e ∷ h) (Some ending))
  places_some e ending is at =
      let bring : Bool = brings_it board w since (e ∷ h) (Some ending) ending.op in
      let open_first : (free bring : Bool) → cond bring (cond free (set since ending.op.master (Some ending.op)) since) since ≡ cond (free && bring) (set since ending.op.master (Some ending.op)) since =
      λ free bring. either free bring (set since ending.op.master (Some ending.op)) since in
      subst (ArePlaces (aware_of board w (e ∷ h))) (open_first (is_open since ending.op) bring) (places_brought e ending is at)
    where
      either : (free bring : Bool) (xs ys : List (Option OpId)) → cond bring (cond free xs ys) ys ≡ cond (free && bring) xs ys
      either true true xs ys = refl
      either true false xs ys = refl
      either false true xs ys = refl
      either false false xs ys = refl

  pub places_learned : (e : Event) → Run board (e ∷ h) → ArePlaces (aware_of board w (e ∷ h)) (learned board w since (e ∷ h) (ended e))
  places_learned e run_e =
      let P : Option Ending → Type 0 = λ found. ended e ≡ found → ArePlaces (aware_of board w (e ∷ h)) (learned board w since (e ∷ h) found) in
      (elim (ended e) as P [
        | None ↦ λ none. places_none e none
        | Some ending ↦ λ is. places_some e ending is (has_place board ending.op valid (ended_there board e h ending run_e is))
      ]) refl

  -- what the places say of an operation that is there
  pub told_equal : (r : OpId) → is_write board w ≡ true → is_some (op_of board r) ≡ true
      → (knows_by since r || is_some (last_shown board w since (up_to_end r h) r)) ≡ was_told board h w r
  told_equal r write there =
      let knows_it : knows_by since r ≡ knows (aware_of board w h) r = knows_place r in
      let taught : is_some (last_shown board w since (up_to_end r h) r) ≡ (aware_of board w (up_to_end r h)).taught r = shown_front (up_to_end r h) r (front_end r h) in
      rw (write, there, knows_it, taught) refl

-- no place is taken before the first event
none_at : (n i : ℕ) → let none : Option OpId = None in get_or (replicate n none) i none ≡ none
none_at zero i = refl
none_at (suc n) zero = refl
none_at (suc n) (suc i) = none_at n i

pub places_empty : (board : Board) (w : OpId) (since : List (Option OpId)) → since ≡ replicate 256 None → ArePlaces (aware_of board w []) since
places_empty board w since is =
    let none : Option OpId = None in
    record {
      many = ap length is ∙ length-replicate 256 none;
      are = λ master. ap (λ places. get_or places master none) is ∙ none_at 256 master;
    }

-- one more event of a trace
pub places_step : (board : Board) (valid : IsValid board) (w mine : OpId) (events : List Event) (i : ℕ) (d : Event) (since now : List (Option OpId)) → Run board (history_of events) → i < length events
    → mine ≡ w → ArePlaces (aware_of board w (history_of (take i events))) since → now ≡ learned board mine since (history_of (take (i + 1) events)) (ended (get_or events i d))
    → ArePlaces (aware_of board w (history_of (take (i + 1) events))) now
places_step board valid w mine events i d since now run within same old learns =
    let e : Event = get_or events i d in
    let h : List Event = history_of (take i events) in
    let more : history_of (take (i + 1) events) ≡ e ∷ h =
    ap (λ (xs : List Event). reverse xs) (take_more events i d within) ∙ reverse-append (take i events) (e ∷ []) in
    let whole : history_of events ≡ reverse (drop (i + 1) events) ++ history_of (take (i + 1) events) =
    ap (λ (xs : List Event). reverse xs) (sym (take-append-drop (i + 1) events)) ∙ reverse-append (take (i + 1) events) (drop (i + 1) events) in
    let run_more : Run board (history_of (take (i + 1) events)) = Run-before board (reverse (drop (i + 1) events)) (history_of (take (i + 1) events)) (subst (Run board) whole run) in
    let run_e : Run board (e ∷ h) = subst (Run board) more run_more in
    let P : List Event → Type 0 = λ past. ArePlaces (aware_of board w past) (learned board w since past (ended e)) in
    let here : P (history_of (take (i + 1) events)) = subst P (sym more) (places_learned board valid w h run_e.1 since old e run_e) in
    subst (ArePlaces (aware_of board w (history_of (take (i + 1) events)))) (sym (subst (λ o. now ≡ learned board o since (history_of (take (i + 1) events)) (ended e)) same learns)) here

-- after all events
pub places_end : (board : Board) (w : OpId) (events : List Event) (i : ℕ) (since : List (Option OpId)) → length events ≤ i → ArePlaces (aware_of board w (history_of (take i events))) since → ArePlaces (aware_of board w (history_of events)) since
places_end board w events i since over are = subst (λ (es : List Event). ArePlaces (aware_of board w (history_of es)) since) (take_all i events over) are

-- what the places say of an operation that is there
pub told_by : (board : Board) (valid : IsValid board) (w r : OpId) (events ended_by : List Event) (mine : OpId) (since : List (Option OpId)) (result : Bool) → Run board (history_of events) → is_write board w ≡ true → is_some (op_of board r) ≡ true
    → mine ≡ w → ArePlaces (aware_of board w (history_of events)) since → history_of ended_by ≡ up_to_end r (history_of events)
    → result ≡ (knows_by since r || is_some (last_shown board mine since (history_of ended_by) r)) → result ≡ was_told board (history_of events) w r
told_by board valid w r events ended_by mine since result run write there same places ends is =
    let F : OpId → List Event → Type 0 = λ o h. result ≡ (knows_by since r || is_some (last_shown board o since h r)) in
    let here : F w (up_to_end r (history_of events)) = subst (F w) ends (subst (λ o. F o (history_of ended_by)) same is) in
    here ∙ told_equal board valid w (history_of events) run since places r write there
