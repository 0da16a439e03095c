-- What is kept of polls and of writes is what the tests say of them.
use Rattle.std.proofs.Common.{◌≡◌, ℕ, ◌+◌, Bool, true, false, not, ◌&&◌, ◌||◌, ◌==◌, nat_lt, cond, List, [], ◌∷◌, map, Option, Some, None, refl, sym, ap, subst, ◌∙◌, arith}
use Rattle.std.specs.List.{filter, list_all, list_any, AllByRecursion}
use Rattle.std.proofs.lemmas.Bool.Decides.{nat_tests}
use Rattle.pci_command.specs.declared.op_id.OpId.{OpId}
use Rattle.pci_command.specs.Same.{same_op}
use Rattle.board_model.specs.declared.board.Board.{Board}
use Rattle.board_model.specs.declared.word.Word.{Word}
use Rattle.board_model.specs.Ways.{Dword}
use Rattle.history_model.specs.Words.{opens_as}
use Rattle.law_lanes.specs.order.Order.{is_posted_op}
use Rattle.safe_model.specs.Raisers.{phases_to, is_met_by, is_whole, is_plain, brings_met}
use Rattle.safe_model.specs.Clocks.{Table, greater, clock_of, clock_with}
use Rattle.safe_model.specs.largest.Tests.{is_before, is_reached, lands_no_more, writes_of, writes_before, Wish, wish_of, raises, is_clean, is_firm, is_told, is_left_out, raisers, least, program_of, known_by_all, told_to, most_known}
use Rattle.safe_model.proofs.largest.TestLemmas.{any_both}
use Rattle.audit_clocks.specs.Tables.{dword}
use Rattle.board_writes.specs.declared.polls.awaited.Awaited.{Awaited}
use Rattle.board_writes.specs.declared.writers.write.WordWrite.{WordWrite}
use Rattle.board_writes.specs.Rows.{ProgramRows, table_of, KeepsPolls}
use Rattle.board_writes.specs.Writes.{op_in, IsWordWrite, AreWrites, writes_at, ListsWrites}
use Rattle.board_writes.specs.Most.{IsMost}
use Rattle.board_writes.specs.Looks.{clock_in, clock_past, before_in, no_more_in, leaves_out, left_out_in, any_before, is_reached_in, known_to, most_in, TellAlike}
use Rattle.board_writes.specs.Polls.{PollFacts, wish_for, IsPoll, IsPollOrNone, is_raised, told_in, raisers_in, told_at, raisers_at, raised_in, raised_at, AreMost, raises_it, is_clean_write}
use Rattle.board_writes.proofs.KnownLemmas.{clock_looks, past_looks}

-- Of lists and tests.

and_true : (b : Bool) → (b && true) ≡ b
and_true true = refl
and_true false = refl

or_false : (b : Bool) → (b || false) ≡ b
or_false true = refl
or_false false = refl

any_agree : {X : Type 0} (f g : X → Bool) → ((x : X) → f x ≡ g x) → (xs : List X) → list_any f xs ≡ list_any g xs
any_agree f g alike [] = refl
any_agree f g alike (x ∷ xs) = let here = alike x in let later = any_agree f g alike xs in cc

-- of two filters in a row
filter_twice : (kept test : OpId → Bool) (xs : List OpId) → filter test (filter kept xs) ≡ filter (λ x. kept x && test x) xs
filter_twice kept test [] = refl
filter_twice kept test (x ∷ xs) =
    let K : Bool → Type 0 = λ b. filter test (cond b (x ∷ filter kept xs) (filter kept xs)) ≡ cond (b && test x) (x ∷ filter (λ y. kept y && test y) xs) (filter (λ y. kept y && test y) xs) in
    elim (kept x) as K [ true ↦ ap (λ ys. cond (test x) (x ∷ ys) ys) (filter_twice kept test xs) | false ↦ filter_twice kept test xs ]

-- a test of what is kept of each write, which is one of its operation
module _ (P : WordWrite → Type 0) (kept : WordWrite → Bool) (test : OpId → Bool) (agree : (w : WordWrite) → P w → kept w ≡ test w.op) where
  any_kept : (writes : List WordWrite) → AllByRecursion P writes → list_any kept writes ≡ list_any test (map op_in writes)
  any_kept [] each = refl
  any_kept (w ∷ writes) each = let here = agree w each.0 in let later = any_kept writes each.1 in cc

  all_kept : (writes : List WordWrite) → AllByRecursion P writes → list_all kept writes ≡ list_all test (map op_in writes)
  all_kept [] each = refl
  all_kept (w ∷ writes) each = let here = agree w each.0 in let later = all_kept writes each.1 in cc

  filter_kept : (writes : List WordWrite) → AllByRecursion P writes → map op_in (filter kept writes) ≡ filter test (map op_in writes)
  filter_kept [] each = refl
  filter_kept (w ∷ writes) each =
      let rest : List WordWrite = filter kept writes in
      let later : map op_in rest ≡ filter test (map op_in writes) = filter_kept writes each.1 in
      let K : Bool → Type 0 = λ b. map op_in (cond b (w ∷ rest) rest) ≡ cond b (w.op ∷ filter test (map op_in writes)) (filter test (map op_in writes)) in
      let both : map op_in (cond (kept w) (w ∷ rest) rest) ≡ cond (kept w) (w.op ∷ filter test (map op_in writes)) (filter test (map op_in writes)) =
      elim (kept w) as K [ true ↦ ap (λ os. w.op ∷ os) later | false ↦ later ] in
      both ∙ ap (λ b. cond b (w.op ∷ filter test (map op_in writes)) (filter test (map op_in writes))) (agree w each.0)

  each_kept : (writes : List WordWrite) → AllByRecursion P writes → AllByRecursion P (filter kept writes)
  each_kept [] each = tt
  each_kept (w ∷ writes) each =
      let later = each_kept writes each.1 in
      let K : Bool → Type 0 = λ b. AllByRecursion P (cond b (w ∷ filter kept writes) (filter kept writes)) in
      elim (kept w) as K [ true ↦ (each.0, later) | false ↦ later ]

-- some of the writes of a word
pub filter_writes : (board : Board) (word : Dword) (kept : WordWrite → Bool) (test : OpId → Bool) → ((w : WordWrite) → IsWordWrite board word w → kept w ≡ test w.op) → (ops : List OpId) (writes : List WordWrite)
    → AreWrites board word ops writes → AreWrites board word (filter test ops) (filter kept writes)
filter_writes board word kept test agree ops writes are =
    record {
      ops_are = filter_kept (IsWordWrite board word) kept test agree writes are.each ∙ ap (filter test) are.ops_are;
      each = each_kept (IsWordWrite board word) kept test agree writes are.each;
    }

-- What is kept of a poll.

module _ (board : Board) (awaited : Awaited) where
  abbrev word : Dword
  word = dword awaited.word

  abbrev wish : Wish
  wish = wish_for awaited

  raises_so : (w : WordWrite) → IsWordWrite board word w → raises_it awaited w ≡ raises board wish w.op
  raises_so w is =
      sym (or_false (raises_it awaited w)) ∙ sym (ap (list_any (brings_met awaited.want)) is.brings)

  clean_so : (w : WordWrite) → IsWordWrite board word w → is_clean_write awaited w ≡ is_clean board wish w.op
  clean_so w is =
      let whole : is_whole awaited.want.mask w.phase ≡ list_all (is_whole awaited.want.mask) (phases_to board word w.op) = sym (and_true (is_whole awaited.want.mask w.phase)) ∙ sym (ap (list_all (is_whole awaited.want.mask)) is.brings) in
      let met = raises_so w is in
      let last = is.last in
      ap (λ b. b && (not (raises_it awaited w) || w.last)) whole
      ∙ ap (λ b. list_all (is_whole awaited.want.mask) (phases_to board word w.op) && (not b || w.last)) met
      ∙ ap (λ b. list_all (is_whole awaited.want.mask) (phases_to board word w.op) && (not (raises board wish w.op) || b)) last

  pub firm_so : (writes : List WordWrite) → AreWrites board word (writes_of board word) writes → (is_plain awaited.word.space && list_all (is_clean_write awaited) writes) ≡ is_firm board wish
  firm_so writes are =
      ap (λ b. is_plain awaited.word.space && b) (all_kept (IsWordWrite board word) (is_clean_write awaited) (is_clean board wish) clean_so writes are.each ∙ ap (list_all (is_clean board wish)) are.ops_are)

  pub raising_so : (writes : List WordWrite) → AreWrites board word (writes_of board word) writes → AreWrites board word (filter (raises board wish) (writes_of board word)) (filter (raises_it awaited) writes)
  raising_so writes are = filter_writes board word (raises_it awaited) (raises board wish) raises_so (writes_of board word) writes are

-- all that is kept of one
pub poll_is : (board : Board) (p : OpId) (awaited : Awaited) (opens firm : Bool) (writes : List WordWrite) → wish_of board p ≡ Some (wish_for awaited) → AreWrites board (dword awaited.word) (writes_of board (dword awaited.word)) writes
    → opens ≡ is_met_by awaited.want (opens_as board (dword awaited.word)) → firm ≡ (is_plain awaited.word.space && list_all (is_clean_write awaited) writes)
    → IsPoll board p (record { awaited = awaited; opens = opens; firm = firm })
poll_is board p awaited opens firm writes waits are opens_is firm_is =
    record {
      waits = waits;
      opens = opens_is;
      firm = firm_is ∙ firm_so board awaited writes are;
    }

-- By the rows of a table.

module _ (board : Board) (rows : List ProgramRows) (keeps : KeepsPolls board rows) where
  abbrev table : Table
  table = table_of rows

  clock_so : (o : OpId) (other : ℕ) → clock_in rows o other ≡ clock_of board table o other
  clock_so o other = clock_looks board rows o other (clock_in rows o other) keeps refl

  past_so : (o : OpId) (other : ℕ) → clock_past rows o other ≡ clock_with board table o other
  past_so o other = past_looks board rows o other keeps

  pub before_so : (p q : OpId) → before_in rows p q ≡ is_before board table p q
  before_so p q = ap (nat_lt p.index) (clock_so q p.master)

  no_more_so : (w : WordWrite) (b : OpId) → w.posted ≡ is_posted_op board w.op → no_more_in rows w b ≡ lands_no_more board table w.op b
  no_more_so w b posted =
      let stands : Bool = w.op.master == b.master && nat_lt w.op.index b.index in
      ap (λ t. (t && before_in rows w.op b) || (stands || nat_lt (w.op.index + 1) (clock_in rows b w.op.master))) posted
      ∙ ap (λ t. (is_posted_op board w.op && t) || (stands || nat_lt (w.op.index + 1) (clock_in rows b w.op.master))) (before_so w.op b)
      ∙ ap (λ n. (is_posted_op board w.op && is_before board table w.op b) || (stands || nat_lt (w.op.index + 1) n)) (clock_so b w.op.master)

  module _ (word : Dword) (writes : List WordWrite) (are : AreWrites board word (writes_of board word) writes) (p : OpId) where
    left_so : (f : WordWrite) → IsWordWrite board word f → left_out_in rows p writes f ≡ is_left_out board table p word f.op
    left_so f is =
        let test : OpId → Bool = λ x. is_before board table x p && (not (same_op x f.op) && lands_no_more board table f.op x) in
        let agree : (x : WordWrite) → IsWordWrite board word x → leaves_out rows p f x ≡ test x.op = λ x _.
        ap (λ t. t && (not (same_op x.op f.op) && no_more_in rows f x.op)) (before_so x.op p)
        ∙ ap (λ t. is_before board table x.op p && (not (same_op x.op f.op) && t)) (no_more_so f x.op is.posted) in
        any_kept (IsWordWrite board word) (leaves_out rows p f) test agree writes are.each
        ∙ ap (list_any test) are.ops_are
        ∙ sym (any_both (λ x. is_before board table x p) (λ x. not (same_op x f.op) && lands_no_more board table f.op x) (writes_of board word))

    any_before_so : any_before rows p writes ≡ list_any (λ x. true) (writes_before board table word p)
    any_before_so =
        let before : OpId → Bool = λ x. is_before board table x p in
        any_kept (IsWordWrite board word) (λ x. before_in rows x.op p) before (λ x _. before_so x.op p) writes are.each
        ∙ ap (list_any before) are.ops_are
        ∙ any_agree before (λ x. before x && true) (λ x. sym (and_true (before x))) (writes_of board word)
        ∙ sym (any_both before (λ x. true) (writes_of board word))

  -- of a poll that is kept
  module _ (p : OpId) (poll : PollFacts) (is : IsPoll board p poll) (writes : List WordWrite) (are : AreWrites board (dword poll.awaited.word) (writes_of board (dword poll.awaited.word)) writes) where
    abbrev of_it : Dword
    of_it = dword poll.awaited.word

    abbrev waits_for : Wish
    waits_for = wish_for poll.awaited

    pub told_so : told_in rows p writes poll ≡ is_told board table p (wish_of board p)
    told_so =
        let opens : Bool = is_met_by poll.awaited.want (opens_as board of_it) in
        ap (λ t. t && (not poll.opens || any_before rows p writes)) is.firm
        ∙ ap (λ t. is_firm board waits_for && (not t || any_before rows p writes)) is.opens
        ∙ ap (λ t. is_firm board waits_for && (not opens || t)) (any_before_so of_it writes are p)
        ∙ sym (ap (is_told board table p) is.waits)

    pub raisers_so : AreWrites board of_it (raisers board table p waits_for) (raisers_in rows p writes poll)
    raisers_so =
        let stays : OpId → Bool = λ f. not (is_left_out board table p of_it f) in
        subst (λ os. AreWrites board of_it os (raisers_in rows p writes poll)) (filter_twice (raises board waits_for) stays (writes_of board of_it))
        (filter_writes board of_it (λ f. not (left_out_in rows p writes f)) stays (λ f so. ap not (left_so of_it writes are p f so)) (filter (raises board waits_for) (writes_of board of_it))
        (filter (raises_it poll.awaited) writes) (raising_so board poll.awaited writes are))

    pub raised_so : raised_in rows p writes poll ≡ is_raised board table p (wish_of board p)
    raised_so =
        let raising : OpId → Bool = raises board waits_for in
        let stays : OpId → Bool = λ f. not (is_left_out board table p of_it f) in
        let test : OpId → Bool = λ f. stays f && is_reached board table f in
        let agree : (f : WordWrite) → IsWordWrite board of_it f → (raises_it poll.awaited f && is_reached_in rows p writes f) ≡ (raising f.op && test f.op) = λ f so.
        ap (λ t. t && is_reached_in rows p writes f) (raises_so board poll.awaited f so)
        ∙ ap (λ t. raising f.op && (not t && not (before_in rows f.op f.op))) (left_so of_it writes are p f so)
        ∙ ap (λ t. raising f.op && (stays f.op && not t)) (before_so f.op f.op) in
        any_kept (IsWordWrite board of_it) (λ f. raises_it poll.awaited f && is_reached_in rows p writes f) (λ f. raising f && test f) agree writes are.each
        ∙ ap (list_any (λ f. raising f && test f)) are.ops_are
        ∙ sym (any_both raising test (writes_of board of_it))
        ∙ sym (any_both stays (is_reached board table) (filter raising (writes_of board of_it)))
        ∙ ap (list_any (is_reached board table)) (filter_twice raising stays (writes_of board of_it))
        ∙ sym (ap (is_raised board table p) is.waits)

  -- what raisers know
  least_so : (writes : List WordWrite) (most other : ℕ) → known_to rows writes most other ≡ least most (map (λ f. clock_with board table f other) (map op_in writes))
  least_so [] most other = refl
  least_so (w ∷ writes) most other =
      least_so writes (cond (nat_lt (clock_past rows w.op other) most) (clock_past rows w.op other) most) other
      ∙ ap (λ n. least (cond (nat_lt n most) n most) (map (λ f. clock_with board table f other) (map op_in writes))) (past_so w.op other)

  none_known : (numbers : List ℕ) → least 0 numbers ≡ 0
  none_known [] = refl
  none_known (n ∷ numbers) = let none : cond (nat_lt n 0) n 0 ≡ 0 = grind (arith, nat_tests) in ap (λ m. least m numbers) none ∙ none_known numbers

  -- of an operation that is kept, or is no poll with a word
  module _ (entries : List (Word × List WordWrite)) (lists : ListsWrites board entries) (p : OpId) where
    pub told_at_so : (found : Option PollFacts) → IsPollOrNone board p found → told_at rows p entries found ≡ is_told board table p (wish_of board p)
    told_at_so None none = sym (ap (is_told board table p) none)
    told_at_so (Some poll) is = told_so p poll is (writes_at poll.awaited.word entries) (lists.of_word poll.awaited.word)

    pub raised_at_so : (found : Option PollFacts) → IsPollOrNone board p found → raised_at rows p entries found ≡ is_raised board table p (wish_of board p)
    raised_at_so None none = sym (ap (is_raised board table p) none)
    raised_at_so (Some poll) is = raised_so p poll is (writes_at poll.awaited.word entries) (lists.of_word poll.awaited.word)

    -- by whether it is told
    told_to_so : (poll : PollFacts) → IsPoll board p poll → (other : ℕ)
        → known_to rows (raisers_at rows p entries (Some poll)) (cond (told_at rows p entries (Some poll)) (program_of board other) 0) other ≡ told_to board table p (wish_of board p) other
    told_to_so poll is other =
        let writes : List WordWrite = writes_at poll.awaited.word entries in
        let are = lists.of_word poll.awaited.word in
        let wish : Wish = wish_for poll.awaited in
        let told : Bool = told_in rows p writes poll in
        let all : List OpId = raisers board table p wish in
        let same : told ≡ is_told board table p (Some wish) = told_so p poll is writes are ∙ ap (is_told board table p) is.waits in
        let P : Bool → Type 0 = λ b. known_to rows (cond b (raisers_in rows p writes poll) []) (cond b (program_of board other) 0) other ≡ cond b (known_by_all board table all other) 0 in
        let here : known_to rows (cond told (raisers_in rows p writes poll) []) (cond told (program_of board other) 0) other ≡ cond told (known_by_all board table all other) 0 = elim told as P [
          | true ↦ least_so (raisers_in rows p writes poll) (program_of board other) other ∙ ap (λ os. least (program_of board other) (map (λ f. clock_with board table f other) os)) (raisers_so p poll is writes are).ops_are
          | false ↦ refl
        ] in
        here ∙ ap (λ b. cond b (known_by_all board table all other) 0) same ∙ sym (ap (λ found. told_to board table p found other) is.waits)

    most_so : (found : Option PollFacts) → IsPollOrNone board p found → (other : ℕ)
        → most_in rows p (raisers_at rows p entries found) (cond (told_at rows p entries found) (program_of board other) 0) other ≡ most_known board table p other
    most_so None none other =
        ap (λ n. greater n 0) (clock_so p other) ∙ sym (ap (λ found. greater (clock_of board table p other) (told_to board table p found other)) none)
    most_so (Some poll) is other =
        let n : ℕ = known_to rows (raisers_at rows p entries (Some poll)) (cond (told_at rows p entries (Some poll)) (program_of board other) 0) other in
        ap (λ m. greater m n) (clock_so p other) ∙ ap (greater (clock_of board table p other)) (told_to_so poll is other)

    pub is_most : (found : Option PollFacts) (told : Bool) (raising : List WordWrite) (numbers : List ℕ) → IsPollOrNone board p found → told ≡ told_at rows p entries found → TellAlike rows p raising (raisers_at rows p entries found)
        → AreMost board rows p told raising numbers → IsMost board table p numbers
    is_most found told raising numbers is told_is raising_is are =
        record {
          all = are.all;
          each = λ other within.
              are.each other within
              ∙ ap (λ b. most_in rows p raising (cond b (program_of board other) 0) other) told_is
              ∙ raising_is (cond (told_at rows p entries found) (program_of board other) 0) other
              ∙ most_so found is other;
        }
