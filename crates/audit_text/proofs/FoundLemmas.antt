-- The findings by what was noted down are the findings of the run.
use Rattle.std.proofs.Common.{◌≡◌, ◌<◌, ◌≤◌, ℕ, zero, suc, Bool, true, false, ◌&&◌, ◌||◌, cond, take, map, length, reverse, List, [], ◌∷◌, ◌++◌, Option, Some, None, is_some, refl, sym, ap, subst, ◌∙◌, append_assoc, append-nil, length-append, arith}
use Rattle.std.specs.List.{find, AllByRecursion}
use Rattle.std.specs.Option.{option_map}
use Rattle.std.proofs.Math.Seq.{take-append_seam}
use Rattle.std.proofs.lemmas.Bool.Decides.{nat_tests}
use Rattle.std.proofs.lemmas.List.{reverse-append, map-append, length-map}
use Rattle.list_facts.proofs.EachLemmas.{Each-weaker, Each-append}
use Rattle.list_facts.proofs.FindLemmas.{find_agree}
use Rattle.pci_command.specs.declared.op_id.OpId.{OpId}
use Rattle.pci_command.specs.declared.op_id.Outcome.{Outcome}
use Rattle.pci_command.specs.declared.op_id.Outcome.TheVariants.{Value, Written, Aborted, Nobody}
use Rattle.pci_command.specs.Same.{same_op}
use Rattle.board_model.specs.declared.board.Board.{Board}
use Rattle.board_model.specs.Ways.{Dword}
use Rattle.board_model.specs.Valid.{IsValid}
use Rattle.history_model.specs.declared.event.Event.{Event}
use Rattle.history_model.specs.Program.{Ending, ended}
use Rattle.history_model.specs.Words.{Landing, landed, brought}
use Rattle.history_model.specs.Knowledge.{Reading as WordReading, got, has_landed, is_land_of, is_write}
use Rattle.history_model.specs.Runs.{Run}
use Rattle.law_fresh.specs.Aware.{is_behind, knows, shows, aware_of}
use Rattle.law_fresh.proofs.Laws.{Front, front_run}
use Rattle.law_audit.specs.Chains.{op_in, joined, to_seen, to_reader}
use Rattle.law_audit.specs.Chains as chains
use Rattle.law_audit.specs.Audit.{Finding, is_known_by}
use Rattle.law_audit.specs.Audit as audit
use Rattle.law_audit.proofs.WrittenLemmas.{IsOfWrite, landings_write}
use Rattle.law_audit.proofs.LaterLemmas.{got_front}
use Rattle.audit_text.specs.declared.readings.Reading.{Reading}
use Rattle.audit_landings.specs.Hits.{op_of_landing, or_place, whole_at}
use Rattle.audit_landings.proofs.Laws.{whole_has}
use Rattle.audit_text.specs.Notes.{Notes, word_of, ended_of, end_in}
use Rattle.audit_text.specs.Found.{since_of, knows_by, got_in, landed_before, is_before, last_known, shows_it, first_shown, shown_by, shown_to, chain_to, chain_from, finding_of, findings_by, findings_as, findings_in}
use Rattle.audit_text.specs.Stands.{StandsFor, reading_as}

Each-reverse : (P : Landing → Type 0) (xs : List Landing) → AllByRecursion P xs → AllByRecursion P (reverse xs)
Each-reverse P [] all = tt
Each-reverse P (x ∷ xs) all = subst (AllByRecursion P) (sym (reverse-append (x ∷ []) xs)) (Each-append P (reverse xs) (x ∷ []) (Each-reverse P xs all.1) (all.0, tt))

-- The last and the first of some operations that pass.

last_op : (OpId → Bool) → Option OpId → List OpId → Option OpId
last_op test found [] = found
last_op test found (q ∷ qs) = last_op test (cond (test q) (Some q) found) qs

first_op : (OpId → Bool) → List OpId → Option OpId
first_op test [] = None
first_op test (q ∷ qs) = cond (test q) (Some q) (first_op test qs)

abbrev pub or_op : Option OpId → Option OpId → Option OpId
or_op None other = other
or_op (Some p) other = Some p

last_in : (notes : Notes) (r : OpId) (found : Option OpId) (qs : List OpId) → last_known notes r found qs ≡ last_op (λ q. knows_by notes q r) found qs
unfolding last_op
last_in notes r found [] = refl
last_in notes r found (q ∷ qs) = last_in notes r (cond (knows_by notes q r) (Some q) found) qs

first_in : (notes : Notes) (reading : Reading) (w : OpId) (qs : List OpId) → first_shown notes reading w qs ≡ first_op (shows_it notes reading w) qs
unfolding first_op
first_in notes reading w [] = refl
first_in notes reading w (q ∷ qs) = ap (λ found. cond (shows_it notes reading w q) (Some q) found) (first_in notes reading w qs)

find_each : (f g : Landing → Bool) (xs : List Landing) → AllByRecursion (λ l. f l ≡ g l) xs → op_in (find f xs) ≡ op_in (find g xs)
find_each f g [] alike = refl
find_each f g (x ∷ xs) alike =
    ap (λ b. op_in (cond b (Some x) (find f xs))) (alike.0)
    ∙ (let P : Bool → Type 0 = λ b. op_in (cond b (Some x) (find f xs)) ≡ op_in (cond b (Some x) (find g xs)) in
    elim (g x) as P [ true ↦ refl | false ↦ find_each f g xs alike.1 ])

or_assoc : (a b c : Option OpId) → or_op (or_op a b) c ≡ or_op a (or_op b c)
or_assoc None b c = refl
or_assoc (Some p) b c = refl

or_nothing : (a : Option OpId) → or_op a None ≡ a
or_nothing None = refl
or_nothing (Some p) = refl

last_or : (test : OpId → Bool) (found : Option OpId) (qs : List OpId) → last_op test found qs ≡ or_op (last_op test None qs) found
unfolding last_op
last_or test found [] = refl
last_or test found (q ∷ qs) =
    let mine : Option OpId = last_op test None qs in
    let P : Bool → Type 0 = λ b. or_op mine (cond b (Some q) found) ≡ or_op mine (or_op (cond b (Some q) None) found) in
    last_or test (cond (test q) (Some q) found) qs
    ∙ (elim (test q) as P [ true ↦ refl | false ↦ refl ])
    ∙ sym (or_assoc mine (cond (test q) (Some q) None) found)
    ∙ ap (λ x. or_op x found) (sym (last_or test (cond (test q) (Some q) None) qs))

find_two : (test : Landing → Bool) (xs ys : List Landing) → op_in (find test (xs ++ ys)) ≡ or_op (op_in (find test xs)) (op_in (find test ys))
find_two test [] ys = refl
find_two test (x ∷ xs) ys =
    let P : Bool → Type 0 = λ b. op_in (cond b (Some x) (find test (xs ++ ys))) ≡ or_op (op_in (cond b (Some x) (find test xs))) (op_in (find test ys)) in
    elim (test x) as P [ true ↦ refl | false ↦ find_two test xs ys ]

last_found : (test : OpId → Bool) (xs : List Landing) → op_in (find (λ (l : Landing). test l.op) (reverse xs)) ≡ last_op test None (map op_of_landing xs)
unfolding last_op
last_found test [] = refl
last_found test (x ∷ xs) =
    let on : Landing → Bool = λ l. test l.op in
    let ops : List OpId = map op_of_landing xs in
    let P : Bool → Type 0 = λ b. op_in (cond b (Some x) None) ≡ cond b (Some x.op) None in
    let turned : reverse (x ∷ xs) ≡ reverse xs ++ x ∷ [] = reverse-append (x ∷ []) xs in
    ap (λ l. op_in (find on l)) turned
    ∙ find_two on (reverse xs) (x ∷ [])
    ∙ ap (λ found. or_op found (op_in (cond (test x.op) (Some x) None))) (last_found test xs)
    ∙ ap (λ found. or_op (last_op test None ops) found) (elim (test x.op) as P [ true ↦ refl | false ↦ refl ])
    ∙ sym (last_or test (cond (test x.op) (Some x.op) None) ops)

first_found : (test : OpId → Bool) (xs : List Landing) → op_in (find (λ (l : Landing). test l.op) xs) ≡ first_op test (map op_of_landing xs)
unfolding first_op
first_found test [] = refl
first_found test (x ∷ xs) =
    let P : Bool → Type 0 = λ b. op_in (cond b (Some x) (find (λ (l : Landing). test l.op) xs)) ≡ cond b (Some x.op) (first_op test (map op_of_landing xs)) in
    elim (test x.op) as P [ true ↦ refl | false ↦ first_found test xs ]

-- a history that goes on from another has its landings at the front
record Fronted (front all : List Landing) : Type 0 where
  more : List Landing
  is : all ≡ front ++ more

landed_along : (board : Board) (word : Dword) (before later : List Event) → Fronted (landed board before word) (landed board (later ++ before) word)
landed_along board word before [] = record { more = []; is = sym (append-nil (landed board before word)) }
landed_along board word before (e ∷ later) =
    let old = landed_along board word before later in
    let new : List Landing = brought board (later ++ before) word e in
    record { more = old.more ++ new; is = ap (λ xs. xs ++ new) old.is ∙ append_assoc (landed board before word) old.more new }

-- the writes that landed before, of all that landed
taken : (board : Board) (word : Dword) (before h : List Event) → Front before h → take (length (landed board before word)) (map op_of_landing (landed board h word)) ≡ map op_of_landing (landed board before word)
taken board word before h front =
    let front_list : List Landing = landed board before word in
    let all = landed_along board word before front.later in
    let ops : List OpId = map op_of_landing front_list in
    ap (λ g. take (length front_list) (map op_of_landing (landed board g word))) (sym front.is)
    ∙ ap (λ xs. take (length front_list) (map op_of_landing xs)) all.is
    ∙ ap (λ xs. take (length front_list) xs) (map-append op_of_landing front_list all.more)
    ∙ ap (λ n. take n (ops ++ map op_of_landing all.more)) (sym (length-map front_list op_of_landing))
    ∙ take-append_seam ops (map op_of_landing all.more)

-- who landed whole before a front of the history
place_or : (n : ℕ) (a : Option ℕ) (m : ℕ) (b : Bool) → n ≤ m → is_before n (or_place a (cond b (Some m) None)) ≡ is_before n a
place_or n (Some p) m b at_most = refl
place_or n None m true at_most = grind (arith, nat_tests)
place_or n None m false at_most = refl

-- a place is below the number of events
all_before : (h : List Event) (o : OpId) (n : ℕ) → length h ≤ n → is_before n (whole_at h o) ≡ is_some (whole_at h o)
all_before [] o n at_most = refl
all_before (e ∷ h) o n at_most =
    let older : length h ≤ n = omega (arith, at_most) in
    let old = all_before h o n older in
    let P : Option ℕ → Type 0 = λ a. is_before n a ≡ is_some a → is_before n (or_place a (cond (is_land_of o e) (Some (length h)) None)) ≡ is_some (or_place a (cond (is_land_of o e) (Some (length h)) None)) in
    let Q : Bool → Type 0 = λ b. is_before n (cond b (Some (length h)) None) ≡ is_some (cond b (Some (length h)) None) in
    (elim (whole_at h o) as P [
      | Some p ↦ λ f. f
      | None ↦ λ _. elim (is_land_of o e) as Q [ true ↦ (let below : length h < n = omega (arith, at_most) in grind (arith, nat_tests)) | false ↦ refl ]
    ]) old

whole_along : (before later : List Event) (o : OpId) → is_before (length before) (whole_at (later ++ before) o) ≡ has_landed before o
whole_along before [] o = all_before before o (length before) (omega arith) ∙ whole_has before o
whole_along before (e ∷ later) o =
    place_or (length before) (whole_at (later ++ before) o) (length (later ++ before)) (is_land_of o e) (rw (length-append later before) (omega arith))
    ∙ whole_along before later o

whole_front : (before h : List Event) (o : OpId) → Front before h → is_before (length before) (whole_at h o) ≡ has_landed before o
whole_front before h o front = subst (λ g. is_before (length before) (whole_at g o) ≡ has_landed before o) front.is (whole_along before front.later o)

module _ (board : Board) (valid : IsValid board) (h : List Event) (notes : Notes) (run : Run board h) (stands : StandsFor board h notes) where
  knows_noted : (w q : OpId) → is_write board w ≡ true → knows_by notes w q ≡ knows (aware_of board w h) q
  knows_noted w q writes = ap (λ found. is_behind found q) (stands.since w q.master writes)

  before_is : (reading : WordReading) → Front reading.before h → landed_before notes (reading_as board reading) ≡ map op_of_landing (landed board reading.before reading.word)
  before_is reading front =
      let n : ℕ = length (landed board reading.before reading.word) in
      ap (λ xs. take n xs) (stands.landings.landed (word_of reading.word.target reading.word.space reading.word.address)) ∙ taken board reading.word reading.before h front

  writes_before : (reading : WordReading) → Front reading.before h → AllByRecursion (IsOfWrite board) (landed board reading.before reading.word)
  writes_before reading front = landings_write board reading.before reading.word (front_run board reading.before h front run)

  -- the last landing of which the read knew
  last_same : (r : OpId) (reading : WordReading) → Front reading.before h → last_known notes r None (landed_before notes (reading_as board reading)) ≡ audit.last_known board h r reading
  last_same r reading front =
      let before : List Event = reading.before in
      let list : List Landing = landed board before reading.word in
      let test : OpId → Bool = λ q. knows_by notes q r in
      let alike : AllByRecursion (λ (l : Landing). test l.op ≡ is_known_by board h r l) (reverse list) =
      Each-reverse (λ (l : Landing). test l.op ≡ is_known_by board h r l) list
      (Each-weaker (IsOfWrite board) (λ (l : Landing). test l.op ≡ is_known_by board h r l) (λ l writes. knows_noted l.op r writes) list (writes_before reading front)) in
      ap (λ xs. last_known notes r None xs) (before_is reading front)
      ∙ last_in notes r None (map op_of_landing list)
      ∙ sym (last_found test list)
      ∙ find_each (λ (l : Landing). test l.op) (is_known_by board h r) (reverse list) alike

  -- the first landing that shows the write
  first_same : (w : OpId) (reading : WordReading) → is_write board w ≡ true → Front reading.before h
      → first_shown notes (reading_as board reading) w (landed_before notes (reading_as board reading)) ≡ op_in (find (shows w (aware_of board w h) reading.before) (landed board reading.before reading.word))
  first_same w reading writes front =
      let before : List Event = reading.before in
      let list : List Landing = landed board before reading.word in
      let test : OpId → Bool = shows_it notes (reading_as board reading) w in
      let one : (l : Landing) → test l.op ≡ shows w (aware_of board w h) before l = λ l.
      ap (λ found. is_before (length before) found && (same_op l.op w || knows_by notes w l.op)) (stands.landings.whole l.op)
      ∙ ap (λ b. b && (same_op l.op w || knows_by notes w l.op)) (whole_front before h l.op front)
      ∙ ap (λ b. has_landed before l.op && (same_op l.op w || b)) (knows_noted w l.op writes) in
      ap (λ xs. first_shown notes (reading_as board reading) w xs) (before_is reading front)
      ∙ first_in notes (reading_as board reading) w (map op_of_landing list)
      ∙ sym (first_found test list)
      ∙ ap op_in (find_agree (λ (l : Landing). test l.op) (shows w (aware_of board w h) before) one list)

  shown_same : (w q : OpId) → is_write board w ≡ true → shown_to notes w q ≡ chains.first_shown board w h q
  shown_same w q writes =
      let P : Option WordReading → Type 0 = λ found. got board h q ≡ found → shown_by notes w (option_map (reading_as board) found) ≡ chains.shown_by board w (aware_of board w h) found in
      ap (λ found. shown_by notes w found) (stands.gots q)
      ∙ (elim (got board h q) as P [
        | None ↦ λ _. refl
        | Some reading ↦ λ some. first_same w reading writes (got_front board h q reading some)
      ]) refl

  seen_same : (f g : OpId → List OpId) → ((p : OpId) → f p ≡ g p) → (since : Option OpId) (v : OpId) → to_seen f since v ≡ to_seen g since v
  seen_same f g same None v = refl
  seen_same f g same (Some p) v = ap (λ xs. joined xs p v) (same p)

  reader_same : (f g : OpId → List OpId) (s t : ℕ → Option OpId) → ((p : OpId) → f p ≡ g p) → ((m : ℕ) → s m ≡ t m) → (q : OpId) (found : Option OpId) → to_reader f s q found ≡ to_reader g t q found
  reader_same f g s t same since q None = refl
  reader_same f g s t same since q (Some v) =
      ap (λ x. to_seen f x v ++ q ∷ []) (since v.master) ∙ ap (λ xs. xs ++ q ∷ []) (seen_same f g same (t v.master) v)

  module _ (w : OpId) (writes : is_write board w ≡ true) where
    chain_same : (n : ℕ) (q : OpId) → chain_to n notes w q ≡ chains.chain_to n board w h q
    chain_same zero q = refl
    chain_same (suc n) q =
        let f : OpId → List OpId = λ p. chain_to n notes w p in
        let g : OpId → List OpId = λ p. chains.chain_to n board w h p in
        let s : ℕ → Option OpId = λ m. since_of notes w m in
        let t : ℕ → Option OpId = (aware_of board w h).since in
        ap (λ found. cond (same_op q w) (w ∷ []) (to_reader f s q found)) (shown_same w q writes)
        ∙ ap (λ xs. cond (same_op q w) (w ∷ []) xs) (reader_same f g s t (λ p. chain_same n p) (λ m. stands.since w m writes) q (chains.first_shown board w h q))

    chain_from_same : (r : OpId) → chain_from (length board.masters) notes w r (since_of notes w r.master) ≡ chains.chain_from board w h r ((aware_of board w h).since r.master)
    chain_from_same r =
        let n : ℕ = length board.masters in
        let P : Option OpId → Type 0 = λ found. chain_from n notes w r found ≡ chains.chain_from board w h r found in
        ap (λ found. chain_from n notes w r found) (stands.since w r.master writes)
        ∙ (elim ((aware_of board w h).since r.master) as P [ None ↦ refl | Some q ↦ ap (λ xs. joined xs q r) (chain_same n q) ])

  -- what is found is a write
  found_writes : (test : Landing → Bool) (xs : List Landing) (w : OpId) → AllByRecursion (IsOfWrite board) xs → op_in (find test xs) ≡ Some w → is_write board w ≡ true
  found_writes test [] w all is = cc
  found_writes test (x ∷ xs) w all is =
      let P : Bool → Type 0 = λ b. op_in (cond b (Some x) (find test xs)) ≡ Some w → is_write board w ≡ true in
      (elim (test x) as P [
        | true ↦ λ f. let same : x.op ≡ w = cc in subst (λ p. is_write board p ≡ true) same all.0
        | false ↦ λ f. found_writes test xs w all.1 f
      ]) is

  finding_same : (r : OpId) (reading : WordReading) → Front reading.before h → (found : Option OpId) → audit.last_known board h r reading ≡ found → finding_of (length board.masters) notes r (reading_as board reading) found ≡ audit.finding_of board h r reading found
  finding_same r reading front None is = refl
  finding_same r reading front (Some w) is =
      let list : List Landing = landed board reading.before reading.word in
      let writes : is_write board w ≡ true = found_writes (is_known_by board h r) (reverse list) w (Each-reverse (IsOfWrite board) list (writes_before reading front)) is in
      let built : List OpId → List Finding = λ chain. record { read = r; word = reading.word; value = reading.value; write = w; chain = chain } ∷ [] in
      ap built (chain_from_same w writes r)

  got_same : (r : OpId) → findings_by (length board.masters) notes r (got_in notes r) ≡ audit.findings_by board h r (got board h r)
  got_same r =
      let n : ℕ = length board.masters in
      let P : Option WordReading → Type 0 = λ found. got board h r ≡ found → findings_by n notes r (option_map (reading_as board) found) ≡ audit.findings_by board h r found in
      ap (λ found. findings_by n notes r found) (stands.gots r)
      ∙ (elim (got board h r) as P [
        | None ↦ λ _. refl
        | Some reading ↦ λ some.
            let front : Front reading.before h = got_front board h r reading some in
            ap (λ found. finding_of n notes r (reading_as board reading) found) (last_same r reading front)
            ∙ finding_same r reading front (audit.last_known board h r reading) refl
      ]) refl

  ended_same : (r : OpId) (outcome : Outcome) → findings_as (length board.masters) notes r (Rattle.history_model.specs.Knowledge.value_in outcome) ≡ audit.findings_as board h r outcome
  ended_same r (Value value) = got_same r
  ended_same r Written = refl
  ended_same r Aborted = refl
  ended_same r Nobody = refl

  event_same : (found : Option Ending) → findings_in (length board.masters) notes (option_map ended_of found) ≡ audit.findings_in board h found
  event_same None = refl
  event_same (Some ending) = ended_same ending.op ending.outcome

  -- what an event finds, by what was noted down up to and with it
  pub found_same : (e : Event) → findings_in (length board.masters) notes (end_in e) ≡ audit.findings_in board h (ended e)
  found_same e = event_same (ended e)
