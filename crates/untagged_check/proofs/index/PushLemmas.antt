-- The search among the writes of a dword, after one more.
use Rattle.std.proofs.Common.{◌≡◌, ℕ, suc, ◌-◌, ◌<◌, ◌≤◌, max, Bool, true, false, not, ◌&&◌, ◌||◌, ◌==◌, cond, eqb-true, nat_lt, List, [], ◌∷◌, ◌++◌, length, slice_get, set, Option, Some, None, refl, sym, ap, subst, ◌∙◌, arith}
use Rattle.std.specs.List.{find, list_any}
use Rattle.std.specs.Option.{option_or}
use Rattle.std.proofs.lemmas.Bool.Decides.{nat_tests}
use Rattle.list_facts.proofs.FindLemmas.{find-append_found, find-append_none}
use Rattle.pci_command.specs.declared.op_id.OpId.{OpId}
use Rattle.board_model.specs.Ways.{Dword}
use Rattle.audit_clocks.specs.Rows.{number}
use Rattle.board_model.specs.declared.word.Word.{Word}
use Rattle.audit_clocks.specs.Tables.{dword}
use Rattle.safe_model.specs.Raisers.{same_dword}
use Rattle.untagged_check.specs.declared.index.entry.Entry.{Entry}
use Rattle.untagged_check.specs.declared.index.entry.Write.{Write}
use Rattle.untagged_check.specs.index.Pending.{reaches_in}
use Rattle.untagged_check.specs.index.Entries.{Listing, is_late, reached, first_of, first_in, landed_in, last_of, longer, alone, pushed_at, pushed}
use Rattle.untagged_check.specs.index.Kept.{written}

-- The first of two.

pub or_assoc : (a b c : Option OpId) → option_or (option_or a b) c ≡ option_or a (option_or b c)
or_assoc None b c = refl
or_assoc (Some o) b c = refl

pub or_nothing : (a : Option OpId) → option_or a None ≡ a
or_nothing None = refl
or_nothing (Some o) = refl

-- the operation where it passes
abbrev pub one_if : Bool → OpId → Option OpId
one_if b o = cond b (Some o) None

or_again : (a c : Bool) (o : OpId) → option_or (one_if c o) (one_if (a && c) o) ≡ one_if c o
or_again a true o = refl
or_again true false o = refl
or_again false false o = refl

pub first_in-append : (events : ℕ) (numbers : List ℕ) (xs ys : List Listing) → first_in events numbers (xs ++ ys) ≡ option_or (first_in events numbers xs) (first_in events numbers ys)
first_in-append events numbers [] ys = refl
first_in-append events numbers (x ∷ xs) ys =
    ap (option_or (first_of events (number numbers x.master) x)) (first_in-append events numbers xs ys)
    ∙ sym (or_assoc (first_of events (number numbers x.master) x) (first_in events numbers xs) (first_in events numbers ys))

-- The last of a list.

last_cons : {X : Type 0} (x y : X) (ys : List X) → last_of (x ∷ (y ∷ ys)) ≡ last_of (y ∷ ys)
last_cons x y ys =
    let here : length (x ∷ (y ∷ ys)) - 1 ≡ suc (length ys) = omega arith in
    let there : length (y ∷ ys) - 1 ≡ length ys = omega arith in
    ap (slice_get (x ∷ (y ∷ ys))) here ∙ sym (ap (slice_get (y ∷ ys)) there)

set_cons : {X : Type 0} (x y z : X) (ys : List X) → set (x ∷ (y ∷ ys)) (length (x ∷ (y ∷ ys)) - 1) z ≡ x ∷ set (y ∷ ys) (length (y ∷ ys) - 1) z
set_cons x y z ys =
    let here : length (x ∷ (y ∷ ys)) - 1 ≡ suc (length ys) = omega arith in
    let there : length (y ∷ ys) - 1 ≡ length ys = omega arith in
    ap (λ n. set (x ∷ (y ∷ ys)) n z) here ∙ sym (ap (λ n. x ∷ set (y ∷ ys) n z) there)

-- a list and its last, which may be replaced
pub record EndsWith {X : Type 0} (xs : List X) (last : X) : Type 0 where
  pub front : List X
  pub is : xs ≡ front ++ last ∷ []
  pub replaced : (x : X) → set xs (length xs - 1) x ≡ front ++ x ∷ []

ends_from : {X : Type 0} (x : X) (xs : List X) (last : X) → last_of (x ∷ xs) ≡ Some last → EndsWith (x ∷ xs) last
ends_from x [] last is = let one : x ≡ last = cc in record { front = []; is = ap (λ y. y ∷ []) one; replaced = λ y. refl }
ends_from x (y ∷ ys) last is =
    let rest : EndsWith (y ∷ ys) last = ends_from y ys last (sym (last_cons x y ys) ∙ is) in
    record { front = x ∷ rest.front; is = ap (λ zs. x ∷ zs) rest.is; replaced = λ z. set_cons x y z ys ∙ ap (λ zs. x ∷ zs) (rest.replaced z) }

ends_with : {X : Type 0} (xs : List X) (last : X) → last_of xs ≡ Some last → EndsWith xs last
ends_with [] last is = cc
ends_with (x ∷ xs) last is = ends_from x xs last is

-- The entries of one master.

-- none stands behind the place
abbrev pub UpToIndex : ℕ → List Entry → Type 0
UpToIndex index [] = Unit {0}
UpToIndex index (e ∷ es) = (e.index ≤ index) × UpToIndex index es

pub index_append : (index : ℕ) (es : List Entry) (e : Entry) → UpToIndex index es → e.index ≤ index → UpToIndex index (es ++ e ∷ [])
index_append index [] e up below = (below, tt)
index_append index (f ∷ es) e up below = (up.0, index_append index es e up.1 below)

found_before : (events index : ℕ) (es : List Entry) (e : Entry) → UpToIndex index es → find (is_late events) es ≡ Some e → e.index ≤ index
found_before events index [] e up is = cc
found_before events index (f ∷ es) e up is =
    let P : Bool → Type 0 = λ b. cond b (Some f) (find (is_late events) es) ≡ Some e → e.index ≤ index in
    (elim (is_late events f) as P [
      | true ↦ λ same. let one : f ≡ e = cc in subst (λ (x : Entry). x.index ≤ index) one up.0
      | false ↦ λ later. found_before events index es e up.1 later
    ]) is

-- where none is late, the last is not
last_early : (events : ℕ) (e : Entry) (es : List Entry) → find (is_late events) (e ∷ es) ≡ None → nat_lt (landed_in (last_of (e ∷ es))) events ≡ true
last_early events e [] none =
    let P : Bool → Type 0 = λ b. (let found : Option Entry = cond (not b) (Some e) None in found ≡ None) → b ≡ true in
    (elim (nat_lt e.landed events) as P [ true ↦ λ _. refl | false ↦ λ some. cc ]) none
last_early events e (f ∷ es) none =
    let P : Bool → Type 0 = λ b. cond b (Some e) (find (is_late events) (f ∷ es)) ≡ None → nat_lt (landed_in (last_of (f ∷ es))) events ≡ true in
    ap (λ (found : Option Entry). nat_lt (landed_in found) events) (last_cons e f es) ∙ (elim (is_late events e) as P [ true ↦ λ some. cc | false ↦ λ later. last_early events f es later ]) none

greatest_is : (events landed before : ℕ) → nat_lt before events ≡ true → nat_lt (max landed before) events ≡ nat_lt landed events
greatest_is events landed before early =
    let below : before < events = grind (arith, nat_tests) in
    grind (arith, nat_tests)

none_late : (events landed : ℕ) (es : List Entry) → find (is_late events) es ≡ None → nat_lt (max landed (landed_in (last_of es))) events ≡ nat_lt landed events
none_late events landed [] none = let same : max landed 0 ≡ landed = omega arith in ap (λ n. nat_lt n events) same
none_late events landed (e ∷ es) none = greatest_is events landed (landed_in (last_of (e ∷ es))) (last_early events e es none)

-- one entry, and whether it is late and reached
entry_alone : (master count index landed : ℕ) (b : Bool) → (let e : Entry = record { index = index; landed = landed } in reached master count (cond (not b) (Some e) None)) ≡ one_if (not b && nat_lt index count) (record { master = master; index = index; attempt = 0 })
entry_alone master count index landed true = refl
entry_alone master count index landed false = refl

-- an entry that is found and not reached
not_reached : (master count index : ℕ) (b : Bool) (e : Entry) → e.index ≤ index → reached master count (Some e) ≡ option_or (reached master count (Some e)) (one_if (b && nat_lt index count) (record { master = master; index = index; attempt = 0 }))
not_reached master count index b e behind =
    let o : OpId = record { master = master; index = index; attempt = 0 } in
    let p : OpId = record { master = master; index = e.index; attempt = 0 } in
    let P : Bool → Type 0 = λ c. nat_lt e.index count ≡ c → one_if c p ≡ option_or (one_if c p) (one_if (b && nat_lt index count) o) in
    (elim (nat_lt e.index count) as P [
      | true ↦ λ _. refl
      | false ↦ λ fails.
          let beyond : nat_lt index count ≡ false = grind (arith, nat_tests) in
          let none : (b && nat_lt index count) ≡ false = ap (λ c. b && c) beyond ∙ and_false b in
          sym (ap (λ c. one_if c o) none)
    ]) refl
  where
    and_false : (b : Bool) → (b && false) ≡ false
    and_false true = refl
    and_false false = refl

pub entries_more : (events count master index landed : ℕ) (es : List Entry) → UpToIndex index es
    → reached master count (find (is_late events) (es ++ record { index = index; landed = max landed (landed_in (last_of es)) } ∷ []))
    ≡ option_or (reached master count (find (is_late events) es)) (one_if (not (nat_lt landed events) && nat_lt index count) (record { master = master; index = index; attempt = 0 }))
entries_more events count master index landed es up =
    let e : Entry = record { index = index; landed = max landed (landed_in (last_of es)) } in
    let o : OpId = record { master = master; index = index; attempt = 0 } in
    let P : Option Entry → Type 0 = λ found. find (is_late events) es ≡ found → reached master count (find (is_late events) (es ++ e ∷ [])) ≡ option_or (reached master count found) (one_if (not (nat_lt landed events) && nat_lt index count) o) in
    (elim (find (is_late events) es) as P [
      | None ↦ λ none.
          ap (reached master count) (find-append_none (is_late events) es (e ∷ []) none)
          ∙ (entry_alone master count index (max landed (landed_in (last_of es))) (nat_lt (max landed (landed_in (last_of es))) events)
          ∙ ap (λ b. one_if (not b && nat_lt index count) o) (none_late events landed es none))
      | Some f ↦ λ some.
          ap (reached master count) (find-append_found (is_late events) es (e ∷ []) f some) ∙ not_reached master count index (not (nat_lt landed events)) f (found_before events index es f up some)
    ]) refl

-- The lists of all masters.

-- none stands behind this operation
pub record ListingUpTo (master index : ℕ) (listing : Listing) : Type 0 where
  pub masters : listing.master ≤ master
  pub entries : listing.master ≡ master → UpToIndex index listing.entries

abbrev pub UpTo : ℕ → ℕ → List Listing → Type 0
UpTo master index [] = Unit {0}
UpTo master index (listing ∷ listings) = ListingUpTo master index listing × UpTo master index listings

up_to_both : (master index : ℕ) (xs ys : List Listing) → UpTo master index xs → UpTo master index ys → UpTo master index (xs ++ ys)
up_to_both master index [] ys first second = second
up_to_both master index (x ∷ xs) ys first second = (first.0, up_to_both master index xs ys first.1 second)

up_to_front : (master index : ℕ) (xs : List Listing) (x : Listing) → UpTo master index (xs ++ x ∷ []) → UpTo master index xs
up_to_front master index [] x up = tt
up_to_front master index (y ∷ xs) x up = (up.0, up_to_front master index xs x up.1)

up_to_last : (master index : ℕ) (xs : List Listing) (x : Listing) → UpTo master index (xs ++ x ∷ []) → ListingUpTo master index x
up_to_last master index [] x up = up.0
up_to_last master index (y ∷ xs) x up = up_to_last master index xs x up.1

module _ (master index landed : ℕ) where
  abbrev pub op : OpId
  op = record { master = master; index = index; attempt = 0 }

  abbrev pub write : Write
  write = record { op = op; landed = landed }

  -- it is late and reached
  abbrev pub counts : ℕ → List ℕ → Bool
  counts events numbers = not (nat_lt landed events) && reaches_in numbers op

  up_to_alone : ListingUpTo master index (alone write)
  up_to_alone = record { masters = omega arith; entries = λ _. (omega arith, tt) }

  up_to_longer : (listing : Listing) → listing.master ≡ master → ListingUpTo master index listing → ListingUpTo master index (longer write listing)
  up_to_longer listing same up =
      record { masters = up.masters; entries = λ _. index_append index listing.entries (record { index = index; landed = max landed (landed_in (last_of listing.entries)) }) (up.entries same) (omega arith) }

  alone_more : (events : ℕ) (numbers : List ℕ) (listings : List Listing) → first_in events numbers (listings ++ alone write ∷ []) ≡ option_or (first_in events numbers listings) (one_if (counts events numbers) op)
  alone_more events numbers listings =
      first_in-append events numbers listings (alone write ∷ [])
      ∙ ap (option_or (first_in events numbers listings)) (or_nothing (first_of events (number numbers master) (alone write)) ∙ entry_alone master (number numbers master) index landed (nat_lt landed events))

  longer_more : (events : ℕ) (numbers : List ℕ) (front : List Listing) (last : Listing) → last.master ≡ master → ListingUpTo master index last
      → first_in events numbers (front ++ longer write last ∷ []) ≡ option_or (first_in events numbers (front ++ last ∷ [])) (one_if (counts events numbers) op)
  longer_more events numbers front last same up =
      let was : Option OpId = first_of events (number numbers last.master) last in
      let more : first_of events (number numbers last.master) (longer write last) ≡ option_or was (one_if (counts events numbers) op) =
      entries_more events (number numbers last.master) last.master index landed last.entries (up.entries same)
      ∙ ap (λ m. option_or was (one_if (not (nat_lt landed events) && nat_lt index (number numbers m)) (record { master = m; index = index; attempt = 0 }))) same in
      first_in-append events numbers front (longer write last ∷ [])
      ∙ (ap (option_or (first_in events numbers front)) (or_nothing (first_of events (number numbers last.master) (longer write last)) ∙ more)
      ∙ (sym (or_assoc (first_in events numbers front) was (one_if (counts events numbers) op))
      ∙ ap (λ found. option_or found (one_if (counts events numbers) op)) (sym (first_in-append events numbers front (last ∷ []) ∙ ap (option_or (first_in events numbers front)) (or_nothing was)))))

  -- a write was pushed: the search finds it where it found nothing before, and it counts
  pub record Pushes (listings next : List Listing) : Type 0 where
    pub up : UpTo master index next
    pub first : (events : ℕ) (numbers : List ℕ) → first_in events numbers next ≡ option_or (first_in events numbers listings) (one_if (counts events numbers) op)

  pushes_alone : (listings : List Listing) → UpTo master index listings → Pushes listings (listings ++ alone write ∷ [])
  pushes_alone listings up = record { up = up_to_both master index listings (alone write ∷ []) up (up_to_alone, tt); first = λ events numbers. alone_more events numbers listings }

  pushes_longer : (listings : List Listing) (last : Listing) → last_of listings ≡ Some last → last.master ≡ master → UpTo master index listings → Pushes listings (set listings (length listings - 1) (longer write last))
  pushes_longer listings last is same up =
      let ends : EndsWith listings last = ends_with listings last is in
      let up_whole : UpTo master index (ends.front ++ last ∷ []) = subst (UpTo master index) ends.is up in
      let up_one : ListingUpTo master index last = up_to_last master index ends.front last up_whole in
      let next : set listings (length listings - 1) (longer write last) ≡ ends.front ++ longer write last ∷ [] = ends.replaced (longer write last) in
      record {
        up = subst (UpTo master index) (sym next) (up_to_both master index ends.front (longer write last ∷ []) (up_to_front master index ends.front last up_whole) (up_to_longer last same up_one, tt));
        first = λ events numbers.
            ap (first_in events numbers) next ∙ longer_more events numbers ends.front last same up_one
            ∙ ap (λ xs. option_or (first_in events numbers xs) (one_if (counts events numbers) op)) (sym ends.is);
      }

  pub pushes : (listings : List Listing) → UpTo master index listings → Pushes listings (pushed write listings)
  pushes listings up =
      let P : Option Listing → Type 0 = λ last. last_of listings ≡ last → Pushes listings (pushed_at write listings last) in
      (elim (last_of listings) as P [
        | None ↦ λ _. pushes_alone listings up
        | Some last ↦ λ is.
            let Q : Bool → Type 0 = λ b. (last.master == master) ≡ b → Pushes listings (cond b (set listings (length listings - 1) (longer write last)) (listings ++ alone write ∷ [])) in
            (elim (last.master == master) as Q [
              | true ↦ λ same. pushes_longer listings last is (eqb-true last.master master same) up
              | false ↦ λ _. pushes_alone listings up
            ]) refl
      ]) refl

  -- the same of the dwords of a write
  pub record Wrote (named : Bool) (listings next : List Listing) : Type 0 where
    pub up : UpTo master index next
    pub first : (events : ℕ) (numbers : List ℕ) → first_in events numbers next ≡ option_or (first_in events numbers listings) (one_if (named && counts events numbers) op)

  pub wrote : (word : Word) (ds : List Dword) (listings : List Listing) → UpTo master index listings → Wrote (list_any (same_dword (dword word)) ds) listings (written word write ds listings)
  wrote word [] listings up = record { up = up; first = λ events numbers. sym (or_nothing (first_in events numbers listings)) }
  wrote word (d ∷ ds) listings up =
      let rest : Bool = list_any (same_dword (dword word)) ds in
      let P : Bool → Type 0 = λ b. Wrote (b || rest) listings (written word write ds (cond b (pushed write listings) listings)) in
      elim (same_dword (dword word) d) as P [
        | true ↦
            (let here : Pushes listings (pushed write listings) = pushes listings up in
            let later : Wrote rest (pushed write listings) (written word write ds (pushed write listings)) = wrote word ds (pushed write listings) here.up in
            record {
              up = later.up;
              first = λ events numbers.
                  later.first events numbers
                  ∙ (ap (λ found. option_or found (one_if (rest && counts events numbers) op)) (here.first events numbers)
                  ∙ (or_assoc (first_in events numbers listings) (one_if (counts events numbers) op) (one_if (rest && counts events numbers) op)
                  ∙ ap (option_or (first_in events numbers listings)) (or_again rest (counts events numbers) op)));
            })
        | false ↦ wrote word ds listings up
      ]
