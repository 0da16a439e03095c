-- A read that is safe returns its value in every run in which it ends.
use Rattle.std.proofs.Common.{◌≡◌, ◌≢◌, ℕ, Bool, true, false, ◌&&◌, ◌||◌, ◌==◌, eqb, eqb-true, List, [], ◌∷◌, Option, Some, None, is_some, Contains, refl, sym, ap, subst, ◌∙◌, arith, inl, inr, ⊎_elim}
use Rattle.std.specs.List.{list_any, AllByRecursion}
use Rattle.std.proofs.lemmas.Bool.Decides.{nat_tests}
use Rattle.pci_command.specs.declared.phases.Phase.{Phase}
use Rattle.pci_command.specs.declared.op_id.OpId.{OpId}
use Rattle.pci_command.specs.Same.{same_op}
use Rattle.board_model.specs.declared.board.Board.{Board}
use Rattle.board_model.specs.Ways.{Dword}
use Rattle.board_model.specs.Valid.{IsValid}
use Rattle.history_model.specs.declared.event.Event.{Event}
use Rattle.history_model.specs.Words.{Landing, landed, opens_as, merged, value_of}
use Rattle.history_model.specs.Knowledge.{Reading, given_value, has_ended, got, is_landing_of, words_named, Told}
use Rattle.history_model.specs.Runs.{Run}
use Rattle.std.proofs.lemmas.Bool.{and_parts, or_left, or_right}
use Rattle.std.proofs.Math.Bool.{or-false}
use Rattle.list_facts.proofs.EachLemmas.{Each-weaker}
use Rattle.history_model.proofs.facts.RequestLemmas.{same_op_true, same_op_self}
use Rattle.law_fresh.proofs.reads.Laws.{always_got}
use Rattle.law_fresh.proofs.Laws.{Fresh-run}
use Rattle.law_delivered.proofs.Laws.{named_lands}
use Rattle.law_delivered.proofs.FlagLemmas.{IsOne}
use Rattle.law_delivered.proofs.left.Laws.{ReadAt, read_at, returned_held, read_word}
use Rattle.law_safe.specs.writes.InOrder.{NoneBehind}
use Rattle.safe_model.specs.Raisers.{phases_to}
use Rattle.safe_model.specs.Clocks.{Table, IsConsistent, IsBefore, LandsNoMore}
use Rattle.safe_model.specs.Safe.{IsMember, Settles, IsSettled, IsSafe}
use Rattle.law_safe.proofs.before.WrittenLemmas.{Written, written}
use Rattle.law_safe.proofs.before.OrderLemmas.{Sound}
use Rattle.law_safe.proofs.before.BeforeLemmas.{read_told, read_after}
use Rattle.law_safe.proofs.before.LastLemmas.{names_word, none_behind}
use Rattle.law_safe.proofs.before.SoundLemmas.{Sound-run}
use Rattle.law_safe.proofs.safe.FoldLemmas.{OneOf, Has, Apart, AllApart, folds}

-- Words and data phases.

-- a landing of one data phase is that data phase
one_phase : (phase other : Phase) → IsOne phase (other ∷ []) → phase ≡ other
one_phase phase other one =
    let built : ℕ → ℕ → Phase = λ value enables. record { value = value; enables = enables } in
    let test : Phase → Bool = λ (q : Phase). q.value == phase.value && q.enables == phase.enables in
    let values : eqb phase.value phase.value ≡ true = grind (arith, nat_tests) in
    let enables : eqb phase.enables phase.enables ≡ true = grind (arith, nat_tests) in
    let self : test phase ≡ true = rw (values, enables) refl in
    let passes : test other ≡ true = sym (or-false (test other)) ∙ one test self in
    let parts = and_parts (other.value == phase.value) (other.enables == phase.enables) passes in
    sym (ap (λ v. built v other.enables) (eqb-true other.value phase.value parts.0) ∙ ap (built phase.value) (eqb-true other.enables phase.enables parts.1))

any_each : (xs : List Landing) → AllByRecursion (λ (x : Landing). (test : Landing → Bool) → test x ≡ true → list_any test xs ≡ true) xs
any_each [] = tt
any_each (x ∷ xs) =
    let P : Landing → Type 0 = λ y. (test : Landing → Bool) → test y ≡ true → list_any test xs ≡ true in
    let Q : Landing → Type 0 = λ y. (test : Landing → Bool) → test y ≡ true → list_any test (x ∷ xs) ≡ true in
    (λ test passes. or_left (test x) (list_any test xs) passes, Each-weaker P Q (λ y within test passes. or_right (test x) (list_any test xs) (within test passes)) xs (any_each xs))

module _ (board : Board) (valid : IsValid board) (table : Table) (consistent : IsConsistent board table) (r : OpId) (value : ℕ) (safe : IsSafe board table r value) (h : List Event) (run : Run board h) (reading : Reading) (is_got : got board h r ≡ Some reading) where
  abbrev word : Dword
  word = safe.word

  abbrev before : List Event
  before = reading.before

  abbrev landings : List Landing
  landings = landed board before word

  at : ReadAt board h r reading
  at = read_at board h r reading valid run is_got

  run_b : Run board before
  run_b = at.run.1

  sound : Sound board table h
  sound = Sound-run board valid table consistent h run

  sound_b : Sound board table before
  sound_b = Sound-run board valid table consistent before run_b

  is_word : reading.word ≡ word
  is_word = read_word board h r reading word [] valid at safe.has_word

  abbrev Member : Landing → Type 0
  Member = IsMember board table word r

  some_phase : (m : Landing) → Member m → phases_to board word m.op ≢ []
  some_phase m member none = let e : m.phase ∷ [] ≡ [] = sym member.brings ∙ none in cc

  names_it : (m : Landing) → Member m → Contains (words_named board m.op) word
  names_it m member = names_word board word m.op member.writes (some_phase m member)

  -- each member has landed before the reading
  has : (m : Landing) → Member m → Has landings m
  has m member =
      let told : Told board h m.op r = read_told board valid m.op member.writes table consistent h r reading run sound is_got member.before in
      let named : Contains (words_named board m.op) reading.word = subst (Contains (words_named board m.op)) (sym is_word) (names_it m member) in
      let whole = (Fresh-run board h valid run).informed m.op r reading told is_got named in
      named_lands board before m.op word valid run_b member.writes (names_it m member) whole

  -- each landing is a member
  among : (members : List Landing) → AllByRecursion Member members → (l : Landing) → Written board word l → list_any (is_landing_of l.op) members ≡ true → OneOf members l
  among [] each l one some = cc
  among (m ∷ members) each l one some =
      let P : Bool → Type 0 = λ b. same_op m.op l.op ≡ b → (b || list_any (is_landing_of l.op) members) ≡ true → OneOf (m ∷ members) l in
      (elim (same_op m.op l.op) as P [
        | true ↦ λ same _.
            let built : OpId → Phase → Landing = λ op phase. record { op = op; phase = phase } in
            let ops : m.op ≡ l.op = same_op_true m.op l.op same in
            let brings : phases_to board word l.op ≡ m.phase ∷ [] = subst (λ o. phases_to board word o ≡ m.phase ∷ []) ops each.0.brings in
            let is_one : IsOne l.phase (m.phase ∷ []) = subst (IsOne l.phase) brings one.is_one in
            let phases : l.phase ≡ m.phase = one_phase l.phase m.phase is_one in
            inl (ap (λ o. built o l.phase) (sym ops) ∙ ap (built m.op) phases)
        | false ↦ λ _ later. inr (among members each.1 l one later)
      ]) refl some

  member_of : (l : Landing) → Written board word l → list_any (is_landing_of l.op) landings ≡ true → OneOf safe.members l
  member_of l one lands =
      let some : phases_to board word l.op ≢ [] = λ none. (
      let F : List Phase → Type 0 = λ ps. list_any (λ (q : Phase). true) ps ≡ true in
      let here : F [] = subst F none (one.is_one (λ (q : Phase). true) refl) in
      cc) in
      ⊎_elim {C = OneOf safe.members l}
      (λ (known : list_any (is_landing_of l.op) safe.members ≡ true). among safe.members safe.are_members l one known)
      (λ (later : IsBefore board table r l.op).
      let none : list_any (is_landing_of l.op) (landed board before reading.word) ≡ false = read_after board valid table consistent h l.op r reading run sound safe.reads_once is_got later in
      let none_here : list_any (is_landing_of l.op) landings ≡ false = subst (λ d. list_any (is_landing_of l.op) (landed board before d) ≡ false) is_word none in
      let e : true ≡ false = sym lands ∙ none_here in
      cc)
      (safe.others l.op one.writes some)

  all_members : (ls : List Landing) → AllByRecursion (Written board word) ls → AllByRecursion (λ (x : Landing). (test : Landing → Bool) → test x ≡ true → list_any test landings ≡ true) ls → AllByRecursion (OneOf safe.members) ls
  all_members [] each within = tt
  all_members (l ∷ ls) each within = (member_of l each.0 (within.0 (is_landing_of l.op) (same_op_self l.op)), all_members ls each.1 within.1)

  -- the members settle before one another
  no_more : (a b : Landing) → Member a → Member b → same_op b.op a.op ≡ false → LandsNoMore board table a.op b.op → NoneBehind a.op b.op false landings
  no_more a b a_member b_member other it = none_behind board valid table consistent before run_b sound_b word a.op b.op a_member.writes (names_it a a_member) b_member.writes (has b b_member) other it

  apart_one : (a b : Landing) → Member a → Member b → Settles board table a.op b.op → Apart landings a b
  apart_one a b a_member b_member settles = (settles.0, no_more a b a_member b_member settles.0 settles.1)

  apart_each : (a : Landing) → Member a → (rest : List Landing) → AllByRecursion Member rest → AllByRecursion (λ (other : Landing). Settles board table a.op other.op) rest → AllByRecursion (Apart landings a) rest
  apart_each a a_member [] each settled = tt
  apart_each a a_member (b ∷ rest) each settled = (apart_one a b a_member each.0 settled.0, apart_each a a_member rest each.1 settled.1)

  apart_all : (members : List Landing) → AllByRecursion Member members → IsSettled board table members → AllApart landings members
  apart_all [] each settled = tt
  apart_all (a ∷ members) each settled = (apart_each a each.0 members each.1 settled.0, apart_all members each.1 settled.1)

  -- so it returned what they leave
  returns : given_value h r ≡ Some value
  returns =
      let each = written board valid word before run_b in
      let ones = all_members landings each (any_each landings) in
      let some = Each-weaker Member (Has landings) has safe.members safe.are_members in
      let apart = apart_all safe.members safe.are_members safe.settled in
      let same : merged word (opens_as board word) landings ≡ merged word (opens_as board word) safe.members = folds word safe.members landings (opens_as board word) ones some apart in
      returned_held board h r reading valid run is_got ∙ ap (λ d. Some (value_of board before d)) is_word ∙ ap Some (same ∙ sym safe.is_value)

-- it read its word
pub safe_reads : (board : Board) (table : Table) (h : List Event) (r : OpId) (value : ℕ) → IsValid board → (safe : IsSafe board table r value) → Run board h → has_ended h r ≡ true
    → (reading : Reading) × (got board h r ≡ Some reading) × (reading.word ≡ safe.word)
safe_reads board table h r value valid safe run ended_it =
    let some_words : words_named board r ≢ [] = λ none. (let e : safe.word ∷ [] ≡ [] = sym safe.has_word ∙ none in cc) in
    let some : is_some (got board h r) ≡ true = always_got board h r valid run safe.reads_it some_words ended_it in
    let Goal : Type 0 = (reading : Reading) × (got board h r ≡ Some reading) × (reading.word ≡ safe.word) in
    let P : Option Reading → Type 0 = λ found. got board h r ≡ found → is_some found ≡ true → Goal in
    (elim (got board h r) as P [
      | None ↦ λ _ f. cc
      | Some reading ↦ λ is_got _. (reading, is_got, read_word board h r reading safe.word [] valid (read_at board h r reading valid run is_got) safe.has_word)
    ]) refl some

pub safe_returns : (board : Board) (table : Table) (h : List Event) (r : OpId) (value : ℕ) → IsValid board → IsConsistent board table → IsSafe board table r value → Run board h → has_ended h r ≡ true → given_value h r ≡ Some value
safe_returns board table h r value valid consistent safe run ended_it =
    let it = safe_reads board table h r value valid safe run ended_it in
    returns board valid table consistent r value safe h run it.0 it.1
