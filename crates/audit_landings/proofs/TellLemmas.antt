-- What the writes tell that landed in a dword, one after the other, and what is kept of it.
use Rattle.std.proofs.Common.{◌≡◌, ◌<◌, ℕ, max, Bool, true, false, not, cond, List, [], ◌∷◌, ◌++◌, length, take, drop, filter, Option, Some, None, is_some, refl, sym, ap, subst, ◌∙◌, arith, append_assoc, append-nil}
use Rattle.std.specs.List.{AllByRecursion}
use Rattle.std.proofs.lemmas.List.{length-replicate, get_or-replicate, take-append-drop, take_all}
use Rattle.list_facts.specs.Lists.{greatest}
use Rattle.list_facts.proofs.EachLemmas.{Each-append}
use Rattle.pci_command.specs.declared.op_id.OpId.{OpId}
use Rattle.board_model.specs.declared.word.Word.{Word}
use Rattle.audit_clocks.specs.Rows.{number, Raises}
use Rattle.audit_clocks.specs.Tables.{value_of, writes_in, same_word, found_in, TakesWord, PutsWord}
use Rattle.audit_clocks.proofs.TableLemmas.{same_word_true}
use Rattle.audit_landings.specs.declared.told.Told.{Told}
use Rattle.audit_landings.specs.Told.{told_by, is_waiting, Tells, ToldOf, IsTold, ToldsFor, ToldFrom}

-- The greatest of parts of a list.

max_assoc : (a b c : ℕ) → max (max a b) c ≡ max a (max b c)
max_assoc a b c = omega arith

greatest-append : (f : OpId → ℕ) (xs ys : List OpId) → greatest f (xs ++ ys) ≡ max (greatest f xs) (greatest f ys)
greatest-append f [] ys = zero_max (greatest f ys)
  where
    zero_max : (n : ℕ) → n ≡ max 0 n
    zero_max n = omega arith
greatest-append f (x ∷ xs) ys = ap (λ n. max (f x) n) (greatest-append f xs ys) ∙ sym (max_assoc (f x) (greatest f xs) (greatest f ys))

swap_max : (a b c : ℕ) → max a (max b c) ≡ max b (max a c)
swap_max a b c = omega arith

module _ (whole : List (OpId × ℕ)) where
  abbrev pub is_there : OpId → Bool
  is_there o = is_some (value_of o whole)

  -- those that landed whole, and those that wait
  greatest_parts : (f : OpId → ℕ) (xs : List OpId) → greatest f xs ≡ max (greatest f (filter is_there xs)) (greatest f (filter (is_waiting whole) xs))
  greatest_parts f [] = refl
  greatest_parts f (x ∷ xs) =
      let a : ℕ = greatest f (filter is_there xs) in
      let b : ℕ = greatest f (filter (is_waiting whole) xs) in
      let P : Bool → Type 0 = λ t. max (f x) (greatest f xs) ≡ max (greatest f (cond t (x ∷ filter is_there xs) (filter is_there xs))) (greatest f (cond (not t) (x ∷ filter (is_waiting whole) xs) (filter (is_waiting whole) xs))) in
      elim (is_there x) as P [
        | true ↦ ap (λ n. max (f x) n) (greatest_parts f xs) ∙ sym (max_assoc (f x) a b)
        | false ↦ ap (λ n. max (f x) n) (greatest_parts f xs) ∙ swap_max (f x) a b
      ]

  waits_tell_nothing : (starts : List (OpId × List ℕ)) (author : ℕ) (xs : List OpId) → greatest (told_by whole starts author) (filter (is_waiting whole) xs) ≡ 0
  waits_tell_nothing starts author [] = refl
  waits_tell_nothing starts author (x ∷ xs) =
      let old = waits_tell_nothing starts author xs in
      let rest : List OpId = filter (is_waiting whole) xs in
      let P : Bool → Type 0 = λ t. is_there x ≡ t → greatest (told_by whole starts author) (cond (not t) (x ∷ rest) rest) ≡ 0 in
      (elim (is_there x) as P [
        | true ↦ λ _. old
        | false ↦ λ absent. let none : told_by whole starts author x ≡ 0 = rw absent refl in omega (arith, none, old)
      ]) refl

  there_tell : (starts : List (OpId × List ℕ)) (author : ℕ) (xs : List OpId) → greatest (told_by whole starts author) (filter is_there xs) ≡ greatest (told_by whole starts author) xs
  there_tell starts author xs =
      let parts = greatest_parts (told_by whole starts author) xs in
      let none = waits_tell_nothing starts author xs in
      omega (arith, parts, none)

  all_there : (xs : List OpId) → AllByRecursion (λ o. is_some (value_of o whole) ≡ true) (filter is_there xs)
  all_there [] = tt
  all_there (x ∷ xs) =
      let P : Bool → Type 0 = λ t. is_there x ≡ t → AllByRecursion (λ o. is_some (value_of o whole) ≡ true) (cond t (x ∷ filter is_there xs) (filter is_there xs)) in
      (elim (is_there x) as P [ true ↦ λ there. (there, all_there xs) | false ↦ λ _. all_there xs ]) refl

-- One write after the other.

-- with what those to come tell it is what all tell, and with those of them that wait it is all that wait
pub record Telling (whole : List (OpId × ℕ)) (starts : List (OpId × List ℕ)) (all rest : List OpId) (old now : List ℕ) (waits_old waits : List OpId) : Type 0 where
  pub authors : length now ≡ length old
  pub each : (author : ℕ) → author < length old → max (number now author) (greatest (told_by whole starts author) rest) ≡ max (number old author) (greatest (told_by whole starts author) all)
  pub waiting : waits ++ filter (is_waiting whole) rest ≡ waits_old ++ filter (is_waiting whole) all

pub telling_none : (whole : List (OpId × ℕ)) (starts : List (OpId × List ℕ)) (all : List OpId) (old : List ℕ) (waits : List OpId) → Telling whole starts all all old old waits waits
telling_none whole starts all old waits = record { authors = refl; each = λ author below. refl; waiting = refl }

pub telling_next : (whole : List (OpId × ℕ)) (starts : List (OpId × List ℕ)) (all before rest : List OpId) (op : OpId) (old now next : List ℕ) (waits_old waits waits_next : List OpId) → Telling whole starts all before old now waits_old waits → before ≡ op ∷ rest
    → Raises now next (λ author. told_by whole starts author op) → waits_next ≡ waits ++ cond (is_waiting whole op) (op ∷ []) [] → Telling whole starts all rest old next waits_old waits_next
telling_next whole starts all before rest op old now next waits_old waits waits_next telling is raises pushed =
    record {
      authors = raises.authors ∙ telling.authors;
      each = λ author below.
          let g : ℕ = greatest (told_by whole starts author) rest in
          ap (λ n. max n g) (raises.each author (subst (λ n. author < n) (sym telling.authors) below)) ∙ max_assoc (number now author) (told_by whole starts author op) g
          ∙ ap (λ xs. max (number now author) (greatest (told_by whole starts author) xs)) (sym is) ∙ telling.each author below;
      waiting =
          ap (λ xs. xs ++ filter (is_waiting whole) rest) pushed
          ∙ append_assoc waits (cond (is_waiting whole op) (op ∷ []) []) (filter (is_waiting whole) rest)
          ∙ ap (λ xs. waits ++ xs) (one (is_waiting whole op))
          ∙ ap (λ xs. waits ++ filter (is_waiting whole) xs) (sym is)
          ∙ telling.waiting;
    }
  where
    one : (t : Bool) → cond t (op ∷ []) [] ++ filter (is_waiting whole) rest ≡ cond t (op ∷ filter (is_waiting whole) rest) (filter (is_waiting whole) rest)
    one true = refl
    one false = refl

pub telling_raises : (whole : List (OpId × ℕ)) (starts : List (OpId × List ℕ)) (all rest : List OpId) (old now : List ℕ) (waits_old waits : List OpId) → Telling whole starts all rest old now waits_old waits → rest ≡ []
    → Raises old now (λ author. greatest (told_by whole starts author) all)
telling_raises whole starts all rest old now waits_old waits telling is =
    record {
      authors = telling.authors;
      each = λ author below. max_zero (number now author) ∙ ap (λ xs. max (number now author) (greatest (told_by whole starts author) xs)) (sym is) ∙ telling.each author below;
    }
  where
    max_zero : (n : ℕ) → n ≡ max n 0
    max_zero n = omega arith

pub telling_waits : (whole : List (OpId × ℕ)) (starts : List (OpId × List ℕ)) (all rest : List OpId) (old now : List ℕ) (waits_old waits : List OpId) → Telling whole starts all rest old now waits_old waits → rest ≡ []
    → waits ≡ waits_old ++ filter (is_waiting whole) all
telling_waits whole starts all rest old now waits_old waits telling is =
    sym (append-nil waits) ∙ ap (λ xs. waits ++ filter (is_waiting whole) xs) (sym is) ∙ telling.waiting

-- none so far, one more, and all
pub ruleset of_writes = (telling_none, telling_next, telling_raises, telling_waits)

-- What is kept of a dword.

module _ (whole : List (OpId × ℕ)) (starts : List (OpId × List ℕ)) (writes : List OpId) (old : Told) (stands : ToldOf whole starts writes old) (mid new : List ℕ) (waits_mid waits : List OpId)
    (first : Raises old.numbers mid (λ author. greatest (told_by whole starts author) old.waiting.items)) (first_waits : waits_mid ≡ [] ++ filter (is_waiting whole) old.waiting.items)
    (second : Raises mid new (λ author. greatest (told_by whole starts author) (drop old.count writes))) (second_waits : waits ≡ waits_mid ++ filter (is_waiting whole) (drop old.count writes)) where
  abbrev looked : List OpId
  looked = old.waiting.items

  abbrev fresh : List OpId
  fresh = drop old.count writes

  abbrev joined : List OpId
  joined = stands.joined ++ (filter (is_there whole) looked ++ filter (is_there whole) fresh)

  waits_are : waits ≡ filter (is_waiting whole) looked ++ filter (is_waiting whole) fresh
  waits_are = second_waits ∙ ap (λ xs. xs ++ filter (is_waiting whole) fresh) first_waits

  joined_is : (f : OpId → ℕ) → greatest f joined ≡ max (greatest f stands.joined) (max (greatest f (filter (is_there whole) looked)) (greatest f (filter (is_there whole) fresh)))
  joined_is f =
      greatest-append f stands.joined (filter (is_there whole) looked ++ filter (is_there whole) fresh)
      ∙ ap (λ n. max (greatest f stands.joined) n) (greatest-append f (filter (is_there whole) looked) (filter (is_there whole) fresh))

  all_are : (f : OpId → ℕ) → greatest f writes ≡ max (greatest f joined) (greatest f waits)
  all_are f =
      let split : greatest f writes ≡ max (greatest f (take old.count writes)) (greatest f fresh) = ap (λ xs. greatest f xs) (sym (take-append-drop old.count writes)) ∙ greatest-append f (take old.count writes) fresh in
      let front : greatest f (take old.count writes) ≡ max (greatest f stands.joined) (greatest f looked) = stands.all f in
      let waiting : greatest f waits ≡ max (greatest f (filter (is_waiting whole) looked)) (greatest f (filter (is_waiting whole) fresh)) =
      ap (λ xs. greatest f xs) waits_are ∙ greatest-append f (filter (is_waiting whole) looked) (filter (is_waiting whole) fresh) in
      let of_looked = greatest_parts whole f looked in
      let of_fresh = greatest_parts whole f fresh in
      let of_joined = joined_is f in
      six (greatest f stands.joined) (greatest f (filter (is_there whole) looked)) (greatest f (filter (is_waiting whole) looked)) (greatest f (filter (is_there whole) fresh)) (greatest f (filter (is_waiting whole) fresh))
      (greatest f looked) (greatest f fresh) (greatest f (take old.count writes)) (greatest f writes) (greatest f joined) (greatest f waits) of_looked of_fresh front split of_joined waiting
    where
      six : (j lt lw nt nw l n front all joined waits : ℕ) → l ≡ max lt lw → n ≡ max nt nw → front ≡ max j l → all ≡ max front n → joined ≡ max j (max lt nt) → waits ≡ max lw nw → all ≡ max joined waits
      six j lt lw nt nw l n front all joined waits a b c d e f =
          d ∙ rw (c, a, b, e, f) (shuffle j lt lw nt nw)
        where
          shuffle : (j lt lw nt nw : ℕ) → max (max j (max lt lw)) (max nt nw) ≡ max (max j (max lt nt)) (max lw nw)
          shuffle j lt lw nt nw = omega arith

  joined_there : AllByRecursion (λ o. is_some (value_of o whole) ≡ true) joined
  joined_there =
      Each-append (λ o. is_some (value_of o whole) ≡ true) stands.joined (filter (is_there whole) looked ++ filter (is_there whole) fresh) stands.landed
      (Each-append (λ o. is_some (value_of o whole) ≡ true) (filter (is_there whole) looked) (filter (is_there whole) fresh) (all_there whole looked) (all_there whole fresh))

  same_length : length new ≡ length old.numbers
  same_length = second.authors ∙ first.authors

  numbers_are : (author : ℕ) → author < length new → number new author ≡ greatest (told_by whole starts author) joined
  numbers_are author below =
      let f : OpId → ℕ = told_by whole starts author in
      let in_old : author < length old.numbers = subst (λ n. author < n) same_length below in
      let in_mid : author < length mid = subst (λ n. author < n) second.authors below in
      let last : number new author ≡ max (number mid author) (greatest f fresh) = second.each author in_mid in
      let before : number mid author ≡ max (number old.numbers author) (greatest f looked) = first.each author in_old in
      let kept : number old.numbers author ≡ greatest f stands.joined = stands.each author in_old in
      let of_looked : greatest f (filter (is_there whole) looked) ≡ greatest f looked = there_tell whole starts author looked in
      let of_fresh : greatest f (filter (is_there whole) fresh) ≡ greatest f fresh = there_tell whole starts author fresh in
      let of_joined = joined_is f in
      let joined_tell : greatest f joined ≡ max (greatest f stands.joined) (max (greatest f looked) (greatest f fresh)) =
      of_joined ∙ ap (λ n. max (greatest f stands.joined) (max n (greatest f (filter (is_there whole) fresh)))) of_looked ∙ ap (λ n. max (greatest f stands.joined) (max (greatest f looked) n)) of_fresh in
      last ∙ ap (λ n. max n (greatest f fresh)) (before ∙ ap (λ n. max n (greatest f looked)) kept) ∙ max_assoc (greatest f stands.joined) (greatest f looked) (greatest f fresh) ∙ sym joined_tell

  pub further_stands : (next : Told) → next.count ≡ length writes → next.numbers ≡ new → next.waiting.items ≡ waits → ToldOf whole starts writes next
  further_stands next count numbers waiting =
      record {
        within = omega (arith, count);
        joined = joined;
        landed = joined_there;
        each = λ author below. ap (λ xs. number xs author) numbers ∙ numbers_are author (subst (λ xs. author < length xs) numbers below);
        all = λ f. ap (λ xs. greatest f xs) (ap (λ n. take n writes) count ∙ take_all (length writes) writes (omega arith)) ∙ all_are f ∙ ap (λ xs. max (greatest f joined) (greatest f xs)) (sym waiting);
      }

  pub further_tells : (numbers : List ℕ) → numbers ≡ new → Tells (length old.numbers) whole starts writes numbers
  further_tells numbers is =
      record {
        authors = ap (λ (xs : List ℕ). length xs) is ∙ same_length;
        each = λ author below.
            let f : OpId → ℕ = told_by whole starts author in
            let none : greatest f waits ≡ 0 =
            ap (λ xs. greatest f xs) waits_are ∙ greatest-append f (filter (is_waiting whole) looked) (filter (is_waiting whole) fresh)
            ∙ rw (waits_tell_nothing whole starts author looked, waits_tell_nothing whole starts author fresh) refl in
            let all = all_are f in
            let here : number new author ≡ greatest f joined = numbers_are author (subst (λ n. author < n) (sym same_length) below) in
            let same : greatest f joined ≡ greatest f writes = omega (arith, all, none) in
            ap (λ xs. number xs author) is ∙ here ∙ same;
      }

-- those that waited are looked at again, and then the new ones
pub record Further (whole : List (OpId × ℕ)) (starts : List (OpId × List ℕ)) (writes : List OpId) (old next : Told) : Type 0 where
  pub stands : ToldOf whole starts writes next
  pub tells : Tells (length old.numbers) whole starts writes next.numbers

pub told_next : (whole : List (OpId × ℕ)) (starts : List (OpId × List ℕ)) (writes : List OpId) (old : Told) → ToldOf whole starts writes old
    → (mid new : List ℕ) (none waits_mid waits waited unseen : List OpId) → none ≡ [] → waited ≡ old.waiting.items → unseen ≡ drop old.count writes
    → Raises old.numbers mid (λ author. greatest (told_by whole starts author) waited) → waits_mid ≡ none ++ filter (is_waiting whole) waited
    → Raises mid new (λ author. greatest (told_by whole starts author) unseen) → waits ≡ waits_mid ++ filter (is_waiting whole) unseen
    → (next : Told) → next.count ≡ length writes → next.numbers ≡ new → next.waiting.items ≡ waits → Further whole starts writes old next
told_next whole starts writes old stands mid new none waits_mid waits waited unseen none_is waited_are unseen_are first first_waits second second_waits next count numbers waiting =
    let first_at : Raises old.numbers mid (λ author. greatest (told_by whole starts author) old.waiting.items) = subst (λ xs. Raises old.numbers mid (λ author. greatest (told_by whole starts author) xs)) waited_are first in
    let second_at : Raises mid new (λ author. greatest (told_by whole starts author) (drop old.count writes)) = subst (λ xs. Raises mid new (λ author. greatest (told_by whole starts author) xs)) unseen_are second in
    let first_left : waits_mid ≡ [] ++ filter (is_waiting whole) old.waiting.items = first_waits ∙ ap (λ xs. xs ++ filter (is_waiting whole) waited) none_is ∙ ap (λ xs. [] ++ filter (is_waiting whole) xs) waited_are in
    let second_left : waits ≡ waits_mid ++ filter (is_waiting whole) (drop old.count writes) = second_waits ∙ ap (λ xs. waits_mid ++ filter (is_waiting whole) xs) unseen_are in
    record {
      stands = further_stands whole starts writes old stands mid new waits_mid waits first_at first_left second_at second_left next count numbers waiting;
      tells = further_tells whole starts writes old stands mid new waits_mid waits first_at first_left second_at second_left next.numbers numbers;
    }

-- what is kept of the dword stands, and nothing stands for none
pub found_stands : (masters : ℕ) (whole : List (OpId × ℕ)) (starts : List (OpId × List ℕ)) (landed : List (Word × List OpId)) (tolds : List (Word × Told)) (word : Word) (found : Option Told) (told : Told)
    → ToldsFor masters whole starts landed tolds → found ≡ found_in word tolds → ToldFrom masters found told → IsTold masters whole starts (writes_in word landed) told
found_stands masters whole starts landed tolds word (Some old) told stand found from = subst (IsTold masters whole starts (writes_in word landed)) (sym from) (stand.each word old (sym found))
found_stands masters whole starts landed tolds word None told stand found from =
    let none : ℕ → ℕ = λ author. 0 in
    record {
      authors = ap (λ (xs : List ℕ). length xs) from.numbers ∙ length-replicate masters 0;
      stands = record {
        within = omega (arith, from.count);
        joined = [];
        landed = tt;
        each = λ author below.
            let inside : author < masters = subst (λ n. author < n) (ap (λ (xs : List ℕ). length xs) from.numbers ∙ length-replicate masters 0) below in
            ap (λ xs. number xs author) from.numbers ∙ get_or-replicate masters author 0 0 inside;
        all = λ f. ap (λ n. greatest f (take n (writes_in word landed))) from.count ∙ ap (λ xs. max 0 (greatest f xs)) (sym from.waiting);
      };
    }

-- what is put back stands beside the others
pub put_stands : (masters : ℕ) (whole : List (OpId × ℕ)) (starts : List (OpId × List ℕ)) (landed : List (Word × List OpId)) (old mid new : List (Word × Told)) (word : Word) (told : Told)
    → ToldsFor masters whole starts landed old → TakesWord word old mid → PutsWord word told mid new → IsTold masters whole starts (writes_in word landed) told → ToldsFor masters whole starts landed new
put_stands masters whole starts landed old mid new word told stand takes puts is_told =
    record { each = λ q other is. put q other is }
  where
    put : (q : Word) (other : Told) → found_in q new ≡ Some other → IsTold masters whole starts (writes_in q landed) other
    put q other is =
        let P : Bool → Type 0 = λ b. same_word word q ≡ b → cond b (Some told) (cond b None (found_in q old)) ≡ Some other → IsTold masters whole starts (writes_in q landed) other in
        let found : cond (same_word word q) (Some told) (cond (same_word word q) None (found_in q old)) ≡ Some other = ap (λ f. cond (same_word word q) (Some told) f) (sym (takes.each q)) ∙ sym (puts.each q) ∙ is in
        (elim (same_word word q) as P [
          | true ↦ λ same e.
              let one : word ≡ q = same_word_true word q same in
              let this : told ≡ other = cc in
              subst (λ w. IsTold masters whole starts (writes_in w landed) other) one (subst (IsTold masters whole starts (writes_in word landed)) this is_told)
          | false ↦ λ _ e. stand.each q other e
        ]) refl found

pub tells_same : (masters other : ℕ) (whole : List (OpId × ℕ)) (starts : List (OpId × List ℕ)) (writes landed : List OpId) (told numbers : List ℕ) → Tells masters whole starts writes told → masters ≡ other → writes ≡ landed → numbers ≡ told → Tells other whole starts landed numbers
tells_same masters other whole starts writes landed told numbers tells masters_are writes_are numbers_are =
    subst (λ m. Tells m whole starts landed numbers) masters_are (subst (λ xs. Tells masters whole starts xs numbers) writes_are (subst (Tells masters whole starts writes) (sym numbers_are) tells))
