-- What is noted stands for one event more, and what was told stays told.
use Rattle.std.proofs.Common.{◌≡◌, ◌<◌, ◌≤◌, ℕ, ◌^◌, max, Bool, true, false, ◌||◌, cond, length, map, List, [], ◌∷◌, ◌++◌, Option, Some, None, is_some, refl, sym, ap, subst, ◌∙◌, arith, length-append, append-nil, take, get_or, reverse, ◌+◌}
use Rattle.std.specs.List.{AllByRecursion}
use Rattle.std.proofs.lemmas.List.{map-append, take-append-le, take_more, reverse-append, length-reverse, length-take-le}
use Rattle.list_facts.specs.Lists.{greatest}
use Rattle.list_facts.proofs.EachLemmas.{Each-weaker}
use Rattle.pci_command.specs.declared.op_id.OpId.{OpId}
use Rattle.board_model.specs.declared.board.Board.{Board}
use Rattle.history_model.specs.declared.event.Event.{Event}
use Rattle.history_model.specs.Words.{Landing, through, landed, brought}
use Rattle.history_model.specs.Knowledge.{is_land_of, has_landed}
use Rattle.history_model.specs.Runs.{history_of}
use Rattle.board_model.specs.declared.word.Word.{Word}
use Rattle.audit_clocks.specs.Rows.{number, own}
use Rattle.audit_clocks.specs.Tables.{value_of, numbers_of, writes_in, Lands, dword}
use Rattle.audit_landings.specs.declared.told.Told.{Told}
use Rattle.audit_landings.specs.Hits.{op_of_landing, few_of, count_of, event_hits, or_place, whole_at, Landed, Parted}
use Rattle.audit_landings.specs.Told.{told_by, ToldOf, IsTold, ToldsFor}
use Rattle.audit_landings.specs.Notes.{LandingNotes, no_landings, AreLandings, Happened, SameLandings}
use Rattle.audit_landings.proofs.HitLemmas.{event_hit}

-- Who landed whole.

or_some : (a b : Option ℕ) → is_some (or_place a b) ≡ (is_some b || is_some a)
or_some None None = refl
or_some None (Some n) = refl
or_some (Some m) None = refl
or_some (Some m) (Some n) = refl

-- who landed whole has its place among the events
pub whole_has : (h : List Event) (o : OpId) → is_some (whole_at h o) ≡ has_landed h o
whole_has [] o = refl
whole_has (e ∷ h) o =
    let P : Bool → Type 0 = λ b. is_some (cond b (Some (length h)) None) ≡ b in
    or_some (whole_at h o) (cond (is_land_of o e) (Some (length h)) None)
    ∙ ap (λ b. b || is_some (whole_at h o)) (elim (is_land_of o e) as P [ true ↦ refl | false ↦ refl ])
    ∙ ap (λ b. is_land_of o e || b) (whole_has h o)

still_there : (a b : Option ℕ) → is_some a ≡ true → is_some (or_place a b) ≡ true
still_there None b is = cc
still_there (Some n) b is = refl

-- What was told stays told.

greatest_each : (f g : OpId → ℕ) (xs : List OpId) → AllByRecursion (λ o. f o ≡ g o) xs → greatest f xs ≡ greatest g xs
greatest_each f g [] alike = refl
greatest_each f g (x ∷ xs) alike = ap (λ n. max n (greatest f xs)) (alike.0) ∙ ap (λ n. max (g x) n) (greatest_each f g xs alike.1)

-- where what was looked at tells the same of each author, and stays landed whole, and more landed behind it
told_on : (masters : ℕ) (whole whole_new : List (OpId × ℕ)) (starts starts_new : List (OpId × List ℕ)) (writes more : List OpId) (told : Told) → IsTold masters whole starts writes told
    → ((o : OpId) → is_some (value_of o whole) ≡ true → is_some (value_of o whole_new) ≡ true)
    → ((o : OpId) (author : ℕ) → author < masters → is_some (value_of o whole) ≡ true → told_by whole starts author o ≡ told_by whole_new starts_new author o)
    → IsTold masters whole_new starts_new (writes ++ more) told
told_on masters whole whole_new starts starts_new writes more told old there same =
    let was : ToldOf whole starts writes told = old.stands in
    record {
      authors = old.authors;
      stands = record {
        within = (let within = was.within in let longer = length-append writes more in omega (arith, within, longer));
        joined = was.joined;
        landed = Each-weaker (λ o. is_some (value_of o whole) ≡ true) (λ o. is_some (value_of o whole_new) ≡ true) there was.joined was.landed;
        each = λ author below.
            let inside : author < masters = subst (λ n. author < n) old.authors below in
            was.each author below
            ∙ greatest_each (told_by whole starts author) (told_by whole_new starts_new author) was.joined
            (Each-weaker (λ o. is_some (value_of o whole) ≡ true) (λ o. told_by whole starts author o ≡ told_by whole_new starts_new author o) (λ o is. same o author inside is) was.joined was.landed);
        all = λ f. ap (λ xs. greatest f xs) (take-append-le told.count writes more was.within) ∙ was.all f;
      };
    }

-- it goes over to a table with the same numbers of what landed whole
pub tolds_over : (masters : ℕ) (whole : List (OpId × ℕ)) (starts starts_new : List (OpId × List ℕ)) (landed : List (Word × List OpId)) (tolds : List (Word × Told)) → ToldsFor masters whole starts landed tolds
    → ((o : OpId) (author : ℕ) → author < masters → is_some (value_of o whole) ≡ true → number (numbers_of o starts_new) author ≡ number (numbers_of o starts) author)
    → ToldsFor masters whole starts_new landed tolds
tolds_over masters whole starts starts_new landed tolds stand same =
    record {
      each = λ word told found.
          let on = told_on masters whole whole starts starts_new (writes_in word landed) [] told (stand.each word told found) (λ o is. is) (λ o author below is. ap (λ n. cond (is_some (value_of o whole)) (max n (own o author)) 0) (sym (same o author below is))) in
          subst (λ xs. IsTold masters whole starts_new xs told) (append-nil (writes_in word landed)) on;
    }

-- and over one event more
tolds_kept : (e : Event) (index masters : ℕ) (whole whole_new : List (OpId × ℕ)) (starts : List (OpId × List ℕ)) (landed landed_new : List (Word × List OpId)) (more : Word → List OpId) (tolds : List (Word × Told))
    → Lands landed landed_new more → Landed e index whole whole_new → ToldsFor masters whole starts landed tolds → ToldsFor masters whole_new starts landed_new tolds
tolds_kept e index masters whole whole_new starts landed landed_new more tolds lands lands_whole stand =
    let there : (o : OpId) → is_some (value_of o whole) ≡ true → is_some (value_of o whole_new) ≡ true =
    λ o is. ap is_some (lands_whole.each o) ∙ still_there (value_of o whole) (cond (is_land_of o e) (Some index) None) is in
    record {
      each = λ word told found.
          subst (λ xs. IsTold masters whole_new starts xs told) (sym (lands.each word))
          (told_on masters whole whole_new starts starts (writes_in word landed) (more word) told (stand.each word told found) there
          (λ o author below is. ap (λ b. cond b (max (number (numbers_of o starts) author) (own o author)) 0) (is ∙ sym (there o is))));
    }

-- before the first event
pub tolds_first : (masters : ℕ) (starts : List (OpId × List ℕ)) → ToldsFor masters [] starts [] []
tolds_first masters starts = record { each = λ word told found. cc }

-- What is noted stands.

pub landings_first : (board : Board) → AreLandings board [] no_landings
landings_first board = record { gone = λ o. refl; few = λ o. omega arith; landed = λ word. refl; whole = λ o. refl }

-- for one event more
landings_next : (board : Board) (h : List Event) (e : Event) (index : ℕ) (old new : LandingNotes) → index < 2 ^ 64 → length h ≡ index → AreLandings board h old
    → Lands old.landed new.landed (event_hits board old.gone e) → Landed e index old.whole new.whole → Parted e old.gone new.gone → AreLandings board (e ∷ h) new
landings_next board h e index old new within counted stands lands lands_whole parted =
    let few : (o : OpId) → count_of o old.gone ≤ 2 ^ 100 = λ o. let at_most = stands.few o in let same = stands.gone o in omega (arith, at_most, same, within, counted) in
    let exact : (o : OpId) → few_of o old.gone ≡ through h o = λ o. let at_most = few o in let same = stands.gone o in omega (arith, at_most, same) in
    record {
      gone = λ o. let next = parted.each o (few o) in let same = stands.gone o in omega (arith, next, same);
      few = λ o. let small = parted.small o in let before = stands.few o in omega (arith, small, before);
      landed = λ word.
          lands.each word
          ∙ ap (λ xs. xs ++ event_hits board old.gone e word) (stands.landed word)
          ∙ ap (λ xs. map op_of_landing (landed board h (dword word)) ++ xs) (event_hit word board h old.gone e exact)
          ∙ sym (map-append op_of_landing (landed board h (dword word)) (brought board h (dword word) e));
      whole = λ o.
          lands_whole.each o
          ∙ ap (λ found. or_place found (cond (is_land_of o e) (Some index) None)) (stands.whole o)
          ∙ ap (λ n. or_place (whole_at h o) (cond (is_land_of o e) (Some n) None)) (sym counted);
    }

pub happened : (board : Board) (index : ℕ) (e : Event) (old new : LandingNotes) → index < 2 ^ 64 → Lands old.landed new.landed (event_hits board old.gone e) → Landed e index old.whole new.whole → Parted e old.gone new.gone
    → new.tolds ≡ old.tolds → Happened board index e old new
happened board index e old new within lands lands_whole parted same =
    record {
      stands = λ h counted stands. landings_next board h e index old new within counted stands lands lands_whole parted;
      told = λ masters starts stand.
          subst (ToldsFor masters new.whole starts new.landed) (sym same)
          (tolds_kept e index masters old.whole new.whole starts old.landed new.landed (event_hits board old.gone e) old.tolds lands lands_whole stand);
    }

-- the same landings stand for the same events
pub same_stand : (board : Board) (h : List Event) (old new : LandingNotes) → SameLandings old new → AreLandings board h old → AreLandings board h new
same_stand board h old new same stands =
    record {
      gone = λ o. ap (λ entries. count_of o entries) same.gone ∙ stands.gone o;
      few = stands.few;
      landed = λ word. ap (λ entries. writes_in word entries) same.landed ∙ stands.landed word;
      whole = λ o. ap (λ entries. value_of o entries) same.whole ∙ stands.whole o;
    }

-- What landed in a dword tells.

greatest_map : (f : OpId → ℕ) (xs : List Landing) → greatest f (map op_of_landing xs) ≡ greatest (λ (l : Landing). f l.op) xs
greatest_map f [] = refl
greatest_map f (x ∷ xs) = ap (λ n. max (f x.op) n) (greatest_map f xs)

greatest_same : (f g : Landing → ℕ) → ((l : Landing) → f l ≡ g l) → (xs : List Landing) → greatest f xs ≡ greatest g xs
greatest_same f g same [] = refl
greatest_same f g same (x ∷ xs) = ap (λ n. max n (greatest f xs)) (same x) ∙ ap (λ n. max (g x) n) (greatest_same f g same xs)

-- with the numbers of those that landed whole
pub word_told : (board : Board) (h : List Event) (notes : LandingNotes) → AreLandings board h notes → (starts : List (OpId × List ℕ)) (start : OpId → ℕ) (author : ℕ)
    → ((o : OpId) → has_landed h o ≡ true → number (numbers_of o starts) author ≡ start o) → (word : Word)
    → greatest (told_by notes.whole starts author) (writes_in word notes.landed) ≡ greatest (λ (l : Landing). cond (has_landed h l.op) (max (start l.op) (own l.op author)) 0) (landed board h (dword word))
word_told board h notes stands starts start author same word =
    let tells : OpId → ℕ = told_by notes.whole starts author in
    let list : List Landing = landed board h (dword word) in
    ap (λ ops. greatest tells ops) (stands.landed word)
    ∙ greatest_map tells list
    ∙ greatest_same (λ (l : Landing). tells l.op) (λ (l : Landing). cond (has_landed h l.op) (max (start l.op) (own l.op author)) 0) (λ l. tells_as l.op) list
  where
    tells_as : (o : OpId) → told_by notes.whole starts author o ≡ cond (has_landed h o) (max (start o) (own o author)) 0
    tells_as o =
        let n : ℕ = number (numbers_of o starts) author in
        let P : Bool → Type 0 = λ b. has_landed h o ≡ b → cond b (max n (own o author)) 0 ≡ cond b (max (start o) (own o author)) 0 in
        ap (λ found. cond (is_some found) (max n (own o author)) 0) (stands.whole o)
        ∙ ap (λ b. cond b (max n (own o author)) 0) (whole_has h o)
        ∙ (elim (has_landed h o) as P [ true ↦ λ is. ap (λ m. max m (own o author)) (same o is) | false ↦ λ _. refl ]) refl

-- the writes that landed whole, after one event more
pub whole_more : (events : List Event) (i : ℕ) (d : Event) (old new : List (OpId × ℕ)) → i < length events → Landed (get_or events i d) i old new
    → ((o : OpId) → value_of o old ≡ whole_at (history_of (take i events)) o) → (o : OpId) → value_of o new ≡ whole_at (history_of (take (i + 1) events)) o
whole_more events i d old new within lands so_far o =
    let e : Event = get_or events i d in
    let h : List Event = history_of (take i events) in
    let more : history_of (take (i + 1) events) ≡ e ∷ h = ap (λ (xs : List Event). reverse xs) (take_more events i d within) ∙ reverse-append (take i events) (e ∷ []) in
    let many : i ≡ length h = sym (length-reverse (take i events) ∙ (length-take-le i events (omega (arith, within)))) in
    lands.each o
    ∙ ap (λ found. or_place found (cond (is_land_of o e) (Some i) None)) (so_far o)
    ∙ ap (λ n. or_place (whole_at h o) (cond (is_land_of o e) (Some n) None)) many
    ∙ ap (λ g. whole_at g o) (sym more)
