-- The tests of clocks are the relations.
use Rattle.std.proofs.Common.{◌≡◌, ◌≢◌, ℕ, ◌<◌, Bool, true, false, not, ◌&&◌, ◌||◌, ◌==◌, eqb, eqb-true, eq-eqb, cond, nat_lt, List, [], ◌∷◌, ◌++◌, refl, sym, ap, subst, ◌∙◌, arith, ◌⊎◌, inl, inr, ⊎_elim}
use Rattle.std.specs.List.{filter, list_all, list_any}
use Rattle.std.proofs.lemmas.Bool.{and_parts, or_left, or_right, ltb-true}
use Rattle.std.proofs.lemmas.Bool.Decides.{nat_tests}
use Rattle.pci_command.specs.declared.command.Space.{Space}
use Rattle.pci_command.specs.declared.command.Space.TheVariants.{Mem, Io, Cfg}
use Rattle.pci_command.specs.declared.phases.Phase.{Phase}
use Rattle.pci_command.specs.declared.op_id.OpId.{OpId}
use Rattle.pci_command.specs.Same.{same_op, same_space}
use Rattle.board_model.specs.declared.op.Want.{Want}
use Rattle.board_model.specs.declared.board.Board.{Board}
use Rattle.board_model.specs.Requests.{op_of}
use Rattle.board_model.specs.Ways.{Dword}
use Rattle.history_model.specs.Words.{opens_as}
use Rattle.history_model.specs.Knowledge.{is_write, words_named}
use Rattle.law_lanes.specs.order.Order.{is_posted_op}
use Rattle.history_model.proofs.facts.RequestLemmas.{same_op_true}
use Rattle.safe_model.specs.Ops.{ops_by}
use Rattle.safe_model.proofs.OpsLemmas.{write_listed}
use Rattle.safe_model.specs.Raisers.{same_dword, phases_for, phases_in, phases_to, is_met_by, is_whole, brings_met, is_plain, Raises, Firm}
use Rattle.safe_model.specs.Clocks.{Table, clock_of, IsBefore, behind, LandsNoMore, lands_once, stands_before, had_ended, WritesBefore, LeftOut, OpensOut}
use Rattle.safe_model.specs.largest.Tests.{is_before, lands_no_more, brings, writes_of, writes_before, Wish, raises, is_last, is_clean, is_firm, opens_out, is_left_out}
use Rattle.safe_model.proofs.WordLemmas.{same_dword_true}

-- Of lists and tests.

-- a test is so, or is not
pub either_way : (b : Bool) → (b ≡ true) ⊎ (b ≡ false)
either_way true = inl refl
either_way false = inr refl

pub not_both : (b : Bool) → b ≡ true → b ≡ false → (X : Type 0) → X
not_both b is none X = let e : true ≡ false = sym is ∙ none in cc

-- one that is listed and passes both tests
pub any_of : (kept test : OpId → Bool) (xs : List OpId) (w : OpId) → list_any (same_op w) xs ≡ true → kept w ≡ true → test w ≡ true → list_any test (filter kept xs) ≡ true
any_of kept test [] w among keeps passes = cc
any_of kept test (x ∷ xs) w among keeps passes =
    let P : Bool → Type 0 = λ b. same_op w x ≡ b → (b || list_any (same_op w) xs) ≡ true → list_any test (cond (kept x) (x ∷ filter kept xs) (filter kept xs)) ≡ true in
    let K : Bool → Type 0 = λ b. list_any test (filter kept xs) ≡ true → list_any test (cond b (x ∷ filter kept xs) (filter kept xs)) ≡ true in
    (elim (same_op w x) as P [
      | true ↦ λ same _.
          let one : w ≡ x = same_op_true w x same in
          let keeps_x : kept x ≡ true = subst (λ o. kept o ≡ true) one keeps in
          let passes_x : test x ≡ true = subst (λ o. test o ≡ true) one passes in
          let F : Bool → Type 0 = λ b. list_any test (cond b (x ∷ filter kept xs) (filter kept xs)) ≡ true in
          subst F (sym keeps_x) (or_left (test x) (list_any test (filter kept xs)) passes_x)
      | false ↦ λ _ later.
          (elim (kept x) as K [ true ↦ λ is. or_right (test x) (list_any test (filter kept xs)) is | false ↦ λ is. is ]) (any_of kept test xs w later keeps passes)
    ]) refl among

-- one that passes both tests, where some does
pub any_from : (kept test : OpId → Bool) (xs : List OpId) → list_any test (filter kept xs) ≡ true → (w : OpId) × (kept w ≡ true) × (test w ≡ true)
any_from kept test [] some = cc
any_from kept test (x ∷ xs) some =
    let Found : Type 0 = (w : OpId) × (kept w ≡ true) × (test w ≡ true) in
    let K : Bool → Type 0 = λ b. kept x ≡ b → list_any test (cond b (x ∷ filter kept xs) (filter kept xs)) ≡ true → Found in
    let T : Bool → Type 0 = λ b. test x ≡ b → (b || list_any test (filter kept xs)) ≡ true → kept x ≡ true → Found in
    (elim (kept x) as K [
      | true ↦ λ keeps found.
          (elim (test x) as T [
            | true ↦ λ passes _ keeps_x. (x, keeps_x, passes)
            | false ↦ λ _ later _. any_from kept test xs later
          ]) refl found keeps
      | false ↦ λ _ found. any_from kept test xs found
    ]) refl some

-- what each that is kept passes
pub all_from : (kept test : OpId → Bool) (xs : List OpId) → ((w : OpId) → kept w ≡ true → test w ≡ true) → list_all test (filter kept xs) ≡ true
all_from kept test [] each = refl
all_from kept test (x ∷ xs) each =
    let K : Bool → Type 0 = λ b. kept x ≡ b → list_all test (cond b (x ∷ filter kept xs) (filter kept xs)) ≡ true in
    let later : list_all test (filter kept xs) ≡ true = all_from kept test xs each in
    (elim (kept x) as K [
      | true ↦ λ keeps. let passes : test x ≡ true = each x keeps in rw (passes, later) refl
      | false ↦ λ _. later
    ]) refl

pub all_of : (kept test : OpId → Bool) (xs : List OpId) (w : OpId) → list_all test (filter kept xs) ≡ true → list_any (same_op w) xs ≡ true → kept w ≡ true → test w ≡ true
all_of kept test [] w each among keeps = cc
all_of kept test (x ∷ xs) w each among keeps =
    let K : Bool → Type 0 = λ b. kept x ≡ b → list_all test (cond b (x ∷ filter kept xs) (filter kept xs)) ≡ true → (kept x ≡ true → test x ≡ true) × (list_all test (filter kept xs) ≡ true) in
    let parts : (kept x ≡ true → test x ≡ true) × (list_all test (filter kept xs) ≡ true) = (elim (kept x) as K [
      | true ↦ λ _ both. let two = and_parts (test x) (list_all test (filter kept xs)) both in (λ _. two.0, two.1)
      | false ↦ λ none both. (λ is. not_both (kept x) is none (test x ≡ true), both)
    ]) refl each in
    let P : Bool → Type 0 = λ b. same_op w x ≡ b → (b || list_any (same_op w) xs) ≡ true → test w ≡ true in
    (elim (same_op w x) as P [
      | true ↦ λ same _.
          let one : w ≡ x = same_op_true w x same in
          subst (λ o. test o ≡ true) (sym one) (parts.0 (subst (λ o. kept o ≡ true) one keeps))
      | false ↦ λ _ later. all_of kept test xs w parts.1 later keeps
    ]) refl among

pub any_true : {X : Type 0} (xs : List X) → xs ≢ [] → list_any (λ (x : X). true) xs ≡ true
any_true [] some = absurd (some refl)
any_true (x ∷ xs) some = refl

pub some_true : {X : Type 0} (xs : List X) → list_any (λ (x : X). true) xs ≡ true → xs ≢ []
some_true [] is none = cc
some_true (x ∷ xs) is none = cc

pub not_true : (b : Bool) → b ≡ false → not b ≡ true
not_true b none = rw none refl

pub not_false : (b : Bool) → not b ≡ true → b ≡ false
not_false true is = cc
not_false false is = refl

-- The writes of a word.

module _ (board : Board) (word : Dword) where
  -- what brings a word a data phase writes
  pub brings_writes : (w : OpId) → brings board word w ≡ true → is_write board w ≡ true
  brings_writes w is =
      let P : Bool → Type 0 = λ b. list_any (λ (phase : Phase). true) (cond b (phases_for word (words_named board w) (phases_in (op_of board w))) []) ≡ true → b ≡ true in
      (elim (is_write board w) as P [ true ↦ λ _. refl | false ↦ λ e. cc ]) is

  pub brings_some : (w : OpId) → brings board word w ≡ true → phases_to board word w ≢ []
  brings_some w is = some_true (phases_to board word w) is

  pub some_brings : (w : OpId) → phases_to board word w ≢ [] → brings board word w ≡ true
  some_brings w some = any_true (phases_to board word w) some

  -- it is among the operations of the board
  pub brings_listed : (w : OpId) → brings board word w ≡ true → list_any (same_op w) (ops_by 0 board.masters) ≡ true
  brings_listed w is = write_listed board w (brings_writes w is)

  -- so a write of the word that passes a test makes some pass, and where some passes there is one
  pub some_write : (test : OpId → Bool) (w : OpId) → brings board word w ≡ true → test w ≡ true → list_any test (writes_of board word) ≡ true
  some_write test w is passes = any_of (brings board word) test (ops_by 0 board.masters) w (brings_listed w is) is passes

  pub write_some : (test : OpId → Bool) → list_any test (writes_of board word) ≡ true → (w : OpId) × (brings board word w ≡ true) × (test w ≡ true)
  write_some test some = any_from (brings board word) test (ops_by 0 board.masters) some

  -- and all pass where each write of the word does
  pub all_writes : (test : OpId → Bool) → ((w : OpId) → brings board word w ≡ true → test w ≡ true) → list_all test (writes_of board word) ≡ true
  all_writes test each = all_from (brings board word) test (ops_by 0 board.masters) each

  pub each_write : (test : OpId → Bool) (w : OpId) → list_all test (writes_of board word) ≡ true → brings board word w ≡ true → test w ≡ true
  each_write test w each is = all_of (brings board word) test (ops_by 0 board.masters) w each (brings_listed w is) is

-- of two tests in a row
pub any_both : (kept test : OpId → Bool) (xs : List OpId) → list_any test (filter kept xs) ≡ list_any (λ x. kept x && test x) xs
any_both kept test [] = refl
any_both kept test (x ∷ xs) =
    let K : Bool → Type 0 = λ b. list_any test (cond b (x ∷ filter kept xs) (filter kept xs)) ≡ ((b && test x) || list_any (λ y. kept y && test y) xs) in
    elim (kept x) as K [ true ↦ ap (λ t. test x || t) (any_both kept test xs) | false ↦ any_both kept test xs ]

-- The order of operations.

module _ (board : Board) (table : Table) where
  -- the test of what comes before is the relation
  pub before_is : (p q : OpId) → is_before board table p q ≡ true → IsBefore board table p q
  before_is p q is = ltb-true p.index (clock_of board table q p.master) is

  pub is_before_so : (p q : OpId) → IsBefore board table p q → is_before board table p q ≡ true
  is_before_so p q is = let below : p.index < clock_of board table q p.master = is in grind (arith, nat_tests)

  -- that of what lands no more
  pub no_more_is : (a b : OpId) → lands_no_more board table a b ≡ true → LandsNoMore board table a b
  no_more_is a b is =
      let posted : Bool = is_posted_op board a && is_before board table a b in
      let stands : Bool = a.master == b.master && nat_lt a.index b.index in
      let ends : Bool = is_before board table (behind a) b in
      let P : Bool → Type 0 = λ t. posted ≡ t → (t || (stands || ends)) ≡ true → LandsNoMore board table a b in
      let Q : Bool → Type 0 = λ t. stands ≡ t → (t || ends) ≡ true → LandsNoMore board table a b in
      (elim posted as P [
        | true ↦ λ both _. let two = and_parts (is_posted_op board a) (is_before board table a b) both in lands_once two.0 (before_is a b two.1)
        | false ↦ λ _ later.
            (elim stands as Q [
              | true ↦ λ both _. let two = and_parts (a.master == b.master) (nat_lt a.index b.index) both in stands_before (eqb-true a.master b.master two.0) (ltb-true a.index b.index two.1)
              | false ↦ λ _ last. had_ended (before_is (behind a) b last)
            ]) refl later
      ]) refl is

  pub is_no_more : (a b : OpId) → LandsNoMore board table a b → lands_no_more board table a b ≡ true
  is_no_more a b (lands_once posted is) =
      let first : is_before board table a b ≡ true = is_before_so a b is in
      rw (posted, first) refl
  is_no_more a b (stands_before masters below) =
      let first : eqb a.master b.master ≡ true = eq-eqb a.master b.master masters in
      let second : nat_lt a.index b.index ≡ true = grind (arith, nat_tests) in
      or_right (is_posted_op board a && is_before board table a b) ((a.master == b.master && nat_lt a.index b.index) || is_before board table (behind a) b) (rw (first, second) refl)
  is_no_more a b (had_ended is) =
      or_right (is_posted_op board a && is_before board table a b) ((a.master == b.master && nat_lt a.index b.index) || is_before board table (behind a) b)
      (or_right (a.master == b.master && nat_lt a.index b.index) (is_before board table (behind a) b) (is_before_so (behind a) b is))

  -- that of the writes of a word before an operation
  pub before_some : (test : OpId → Bool) (word : Dword) (p x : OpId) → WritesBefore board table p word x → test x ≡ true → list_any test (writes_before board table word p) ≡ true
  before_some test word p x is passes =
      let before : is_before board table x p ≡ true = is_before_so x p is.before in
      let both : (is_before board table x p && test x) ≡ true = rw (before, passes) refl in
      any_both (λ y. is_before board table y p) test (writes_of board word) ∙ some_write board word (λ y. is_before board table y p && test y) x (some_brings board word x is.brings) both

  pub some_before : (test : OpId → Bool) (word : Dword) (p : OpId) → list_any test (writes_before board table word p) ≡ true → (x : OpId) × WritesBefore board table p word x × (test x ≡ true)
  some_before test word p some =
      let found = write_some board word (λ y. is_before board table y p && test y) (sym (any_both (λ y. is_before board table y p) test (writes_of board word)) ∙ some) in
      let two = and_parts (is_before board table found.0 p) (test found.0) found.2 in
      (found.0, record { writes = brings_writes board word found.0 found.1; brings = brings_some board word found.0 found.1; before = before_is found.0 p two.0 }, two.1)

  -- that of what is left out
  pub left_is : (p : OpId) (word : Dword) (f : OpId) → is_left_out board table p word f ≡ true → LeftOut board table p word f
  left_is p word f is =
      let found = some_before (λ x. not (same_op x f) && lands_no_more board table f x) word p is in
      let two = and_parts (not (same_op found.0 f)) (lands_no_more board table f found.0) found.2 in
      record { x = found.0; earlier = found.1; other = not_false (same_op found.0 f) two.0; no_more = no_more_is f found.0 two.1 }

  pub is_left : (p : OpId) (word : Dword) (f : OpId) → LeftOut board table p word f → is_left_out board table p word f ≡ true
  is_left p word f is =
      let other : same_op is.x f ≡ false = is.other in
      let no_more : lands_no_more board table f is.x ≡ true = is_no_more f is.x is.no_more in
      let both : (not (same_op is.x f) && lands_no_more board table f is.x) ≡ true = rw (other, no_more) refl in
      before_some (λ x. not (same_op x f) && lands_no_more board table f x) word p is.x is.earlier both

  -- that of what the word opens as
  pub opens_is : (p : OpId) (wish : Wish) → opens_out board table p wish ≡ true → OpensOut board table p wish.want wish.word
  opens_is p wish is =
      let met : Bool = is_met_by wish.want (opens_as board wish.word) in
      let P : Bool → Type 0 = λ b. met ≡ b → (not b || list_any (λ (x : OpId). true) (writes_before board table wish.word p)) ≡ true → OpensOut board table p wish.want wish.word in
      (elim met as P [
        | true ↦ λ _ some. let found = some_before (λ (x : OpId). true) wish.word p some in inr (found.0, found.1)
        | false ↦ λ none _. inl none
      ]) refl is

  pub is_opens : (p : OpId) (wish : Wish) → OpensOut board table p wish.want wish.word → opens_out board table p wish ≡ true
  is_opens p wish is =
      let met : Bool = is_met_by wish.want (opens_as board wish.word) in
      let some : Bool = list_any (λ (x : OpId). true) (writes_before board table wish.word p) in
      ⊎_elim {C = opens_out board table p wish ≡ true}
      (λ (none : met ≡ false). or_left (not met) some (not_true met none))
      (λ (found : (x : OpId) × WritesBefore board table p wish.word x). or_right (not met) some (before_some (λ (x : OpId). true) wish.word p found.0 found.1 refl))
      is

-- Which polls are firm.

same_space_self : (a : Space) → same_space a a ≡ true
same_space_self Mem = refl
same_space_self Io = refl
same_space_self Cfg = refl

same_dword_self : (a : Dword) → same_dword a a ≡ true
same_dword_self a =
    let targets : eqb a.target a.target ≡ true = eq-eqb a.target a.target refl in
    let spaces : same_space a.space a.space ≡ true = same_space_self a.space in
    let addresses : eqb a.address a.address ≡ true = eq-eqb a.address a.address refl in
    rw (targets, spaces, addresses) refl

last_is : (word : Dword) (words : List Dword) → is_last word words ≡ true → (earlier : List Dword) × (words ≡ earlier ++ word ∷ [])
last_is word [] is = cc
last_is word (first ∷ []) is = ([], ap (λ w. w ∷ []) (same_dword_true first word is))
last_is word (first ∷ second ∷ rest) is = let found = last_is word (second ∷ rest) is in (first ∷ found.0, ap (λ ws. first ∷ ws) found.1)

last_behind : (word : Dword) (earlier : List Dword) → is_last word (earlier ++ word ∷ []) ≡ true
last_behind word [] = same_dword_self word
last_behind word (first ∷ []) = same_dword_self word
last_behind word (first ∷ second ∷ rest) = last_behind word (second ∷ rest)

is_last_so : (word : Dword) (words : List Dword) → ((earlier : List Dword) × (words ≡ earlier ++ word ∷ [])) → is_last word words ≡ true
is_last_so word words found = subst (λ ws. is_last word ws ≡ true) (sym found.1) (last_behind word found.0)

none_whole : (mask : ℕ) (phases : List Phase) → list_any (λ (phase : Phase). true) phases ≡ false → list_all (is_whole mask) phases ≡ true
none_whole mask [] none = refl
none_whole mask (phase ∷ phases) none = cc

none_met : (want : Want) (phases : List Phase) → list_any (brings_met want) phases ≡ true → list_any (λ (phase : Phase). true) phases ≡ true
none_met want [] some = cc
none_met want (phase ∷ phases) some = refl

module _ (board : Board) (wish : Wish) where
  -- what raises brings the word something
  pub raises_brings : (f : OpId) → Raises board wish.want wish.word f → brings board wish.word f ≡ true
  raises_brings f raises_it = none_met wish.want (phases_to board wish.word f) raises_it

  -- the test of firm polls is the relation, where the poll has the word
  pub firm_is : (p : OpId) → words_named board p ≡ wish.word ∷ [] → is_firm board wish ≡ true → Firm board p wish.want wish.word
  firm_is p has_word is =
      let two = and_parts (is_plain wish.word.space) (list_all (is_clean board wish) (writes_of board wish.word)) is in
      let clean : (f : OpId) → brings board wish.word f ≡ true → is_clean board wish f ≡ true = λ f brings_it. each_write board wish.word (is_clean board wish) f two.1 brings_it in
      let halves : (f : OpId) → brings board wish.word f ≡ true → (list_all (is_whole wish.want.mask) (phases_to board wish.word f) ≡ true) × ((not (raises board wish f) || is_last wish.word (words_named board f)) ≡ true) =
      λ f brings_it. and_parts (list_all (is_whole wish.want.mask) (phases_to board wish.word f)) (not (raises board wish f) || is_last wish.word (words_named board f)) (clean f brings_it) in
      record {
        has_word = has_word;
        plain = two.0;
        whole = λ f. ⊎_elim {C = list_all (is_whole wish.want.mask) (phases_to board wish.word f) ≡ true}
            (λ (brings_it : brings board wish.word f ≡ true). (halves f brings_it).0)
            (λ (none : brings board wish.word f ≡ false). none_whole wish.want.mask (phases_to board wish.word f) none)
            (either_way (brings board wish.word f));
        last = λ f raises_it.
            let G : Bool → Type 0 = λ b. (not b || is_last wish.word (words_named board f)) ≡ true in
            let last_it : is_last wish.word (words_named board f) ≡ true = subst G raises_it (halves f (raises_brings f raises_it)).1 in
            last_is wish.word (words_named board f) last_it;
      }

  pub is_firm_so : (p : OpId) → Firm board p wish.want wish.word → is_firm board wish ≡ true
  is_firm_so p firm =
      let plain : is_plain wish.word.space ≡ true = firm.plain in
      let clean : (f : OpId) → is_clean board wish f ≡ true = λ f.
      let whole : list_all (is_whole wish.want.mask) (phases_to board wish.word f) ≡ true = firm.whole f in
      let G : Bool → Type 0 = λ b. raises board wish f ≡ b → (not b || is_last wish.word (words_named board f)) ≡ true in
      let last : (not (raises board wish f) || is_last wish.word (words_named board f)) ≡ true = (elim (raises board wish f) as G [
        | true ↦ λ raises_it. is_last_so wish.word (words_named board f) (firm.last f raises_it)
        | false ↦ λ _. refl
      ]) refl in
      rw (whole, last) refl in
      let each : list_all (is_clean board wish) (writes_of board wish.word) ≡ true = all_writes board wish.word (is_clean board wish) (λ f _. clean f) in
      rw (plain, each) refl
