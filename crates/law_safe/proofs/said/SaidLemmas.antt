-- What is said of an operation, by the largest table, is so in every run.
use Rattle.std.proofs.Common.{◌≡◌, ◌≢◌, ℕ, ◌<◌, Bool, true, false, not, ◌&&◌, cond, List, [], ◌∷◌, Option, Some, None, refl, sym, ap, subst, ◌∙◌, arith, slice_get, ◌⊎◌, inl, inr, ⊎_elim, nat_lt}
use Rattle.std.specs.List.{find, list_all, list_any, AllByRecursion}
use Rattle.std.specs.Option.{option_or}
use Rattle.std.proofs.lemmas.Bool.{and_parts}
use Rattle.std.proofs.lemmas.Bool.Decides.{nat_tests}
use Rattle.pci_command.specs.declared.command.Command.{Command}
use Rattle.pci_command.specs.declared.command.Command.TheVariants.{IoRead, IoWrite, MemRead, MemWrite, CfgRead as ConfigurationRead, CfgWrite as ConfigurationWrite, MemReadMultiple, MemReadLine, MemWriteInvalidate}
use Rattle.pci_command.specs.declared.command.Space.{Space}
use Rattle.pci_command.specs.declared.phases.Phase.{Phase}
use Rattle.pci_command.specs.declared.op_id.OpId.{OpId}
use Rattle.pci_command.specs.declared.op_id.Outcome.{Outcome}
use Rattle.pci_command.specs.Command.{plain_of, is_read}
use Rattle.pci_command.specs.Same.{same_op}
use Rattle.board_model.specs.declared.op.Want.{Want}
use Rattle.board_model.specs.declared.bridge.Place.{Place}
use Rattle.board_model.specs.declared.bridge.Place.TheVariants.{Target, Header, Lane, Nobody}
use Rattle.board_model.specs.declared.op.Op.{Op}
use Rattle.board_model.specs.declared.op.Op.TheVariants.{Read, Write, CfgRead, CfgWrite, Poll}
use Rattle.board_model.specs.declared.board.Board.{Board}
use Rattle.board_model.specs.Requests.{op_of, reads_in, tries_of}
use Rattle.board_model.specs.Ways.{Dword, dwords_from}
use Rattle.board_model.specs.Valid.{IsValid}
use Rattle.board_model.specs.WellFormed.{is_well_formed_op, is_well_formed_read, read_space}
use Rattle.board_model.proofs.Laws.{op_formed, op_there}
use Rattle.history_model.specs.declared.event.Event.{Event}
use Rattle.history_model.specs.Program.{ended, meets}
use Rattle.history_model.specs.Words.{opens_as}
use Rattle.history_model.specs.Knowledge.{Reading, got, given_value, words_on, words_named, is_landing_of, has_ended}
use Rattle.history_model.specs.Runs.{Run}
use Rattle.list_facts.proofs.EachLemmas.{Each-all, Each-weaker}
use Rattle.list_facts.proofs.FindLemmas.{find-none_any}
use Rattle.history_model.proofs.facts.RequestLemmas.{same_op_self}
use Rattle.safe_model.specs.Ops.{ops_by}
use Rattle.safe_model.specs.Raisers.{Raises, IsLastWord, is_met_by, is_plain, is_whole, phases_to, phases_in}
use Rattle.safe_model.specs.Clocks.{Table, is_poll, at_place, clock_of, IsBefore, WritesBefore, LeftOut, OpensOut, Awaits}
use Rattle.safe_model.specs.Safe.{IsSafe}
use Rattle.safe_model.specs.Vain.{IsVain}
use Rattle.safe_model.specs.largest.Tests.{is_before, is_reached, brings, writes_of, Wish, wish_of, raises, is_firm, opens_out, is_told, is_left_out, raisers}
use Rattle.safe_model.specs.largest.Largest.{IsLargest}
use Rattle.safe_model.specs.said.Said.{Said, safe, vain, loose, nowhere, said_nowhere, members, members_before, is_beside, is_open, first_beside, in_order, all_landings, left_by, said_beside, said_of_read, said_lost, owner_of, said_of_write, said_of_poll, said_as, said_of}
use Rattle.law_safe.proofs.safe.SafeLemmas.{safe_returns, safe_reads}
use Rattle.law_safe.proofs.vain.VainLemmas.{never_met}
use Rattle.safe_model.proofs.largest.TestLemmas.{either_way, not_both, any_of, any_both, some_write, brings_writes, brings_some, some_brings, before_is, left_is, opens_is, raises_brings, firm_is}
use Rattle.safe_model.proofs.largest.ConsistentLemmas.{has_wish}
use Rattle.safe_model.proofs.largest.RiseLemmas.{op_within, knows_all}
use Rattle.safe_model.proofs.said.ApartLemmas.{Distinct, filter_each, filter_distinct, ops_distinct, InRow, in_row}
use Rattle.law_safe.proofs.said.OrderedLemmas.{Earlier, Sorted, order_each, order_any, order_sorted, none_open, landings_members, landings_settled, landings_any}

-- An operation that is not reached comes before itself.

pub not_reached : (board : Board) (table : Table) (o : OpId) → is_reached board table o ≡ false → IsBefore board table o o
not_reached board table o none =
    let P : Bool → Type 0 = λ b. not b ≡ false → b ≡ true in
    before_is board table o o ((elim (is_before board table o o) as P [ true ↦ λ _. refl | false ↦ λ e. cc ]) none)

-- What is said of a read or a poll without a word.

pub nowhere_is : (place : Place) (said : Said) → said_nowhere place ≡ Some said → (aborted : Bool) × (said ≡ nowhere aborted)
nowhere_is (Target target) said e = let same : nowhere true ≡ said = cc in (true, sym same)
nowhere_is (Header bus) said e = cc
nowhere_is (Lane lane) said e = cc
nowhere_is Nobody said e = let same : nowhere false ≡ said = cc in (false, sym same)

pub nowhere_or_loose : (place : Place) (said : Said) → option_or (said_nowhere place) (Some loose) ≡ Some said → (said ≡ loose) ⊎ ((aborted : Bool) × (said ≡ nowhere aborted))
nowhere_or_loose (Target target) said e = let same : nowhere true ≡ said = cc in inr (true, sym same)
nowhere_or_loose (Header bus) said e = let same : loose ≡ said = cc in inl (sym same)
nowhere_or_loose (Lane lane) said e = let same : loose ≡ said = cc in inl (sym same)
nowhere_or_loose Nobody said e = let same : nowhere false ≡ said = cc in inr (false, sym same)

-- A read that is said to be safe.

-- a read, with its word, of which no write makes it unsafe
record SaidSafe (board : Board) (table : Table) (r : OpId) (word : Dword) (value : ℕ) : Type 0 where
  pub op : Op
  pub is_op : op_of board r ≡ Some op
  pub no_poll : is_poll (Some op) ≡ false
  pub read_it : is_well_formed_op op ≡ true → reads_in (Some op) ≡ true
  pub has_word : words_named board r ≡ word ∷ []
  pub none_beside : first_beside board table word r ≡ None
  pub is_value : value ≡ left_by board word (in_order board table (members_before board table word r))

read_reads : (command : Command) (address : ℕ) → is_well_formed_read address (read_space command) ≡ true → is_read (plain_of command) ≡ true
read_reads IoRead address formed = refl
read_reads IoWrite address formed = cc
read_reads MemRead address formed = refl
read_reads MemWrite address formed = cc
read_reads ConfigurationRead address formed = refl
read_reads ConfigurationWrite address formed = cc
read_reads MemReadMultiple address formed = refl
read_reads MemReadLine address formed = refl
read_reads MemWriteInvalidate address formed = cc

-- of words in a row for one data phase there is one at most
pub row_single : (phase : Phase) (word : Dword) (words : List Dword) → InRow (word ∷ words) (phase ∷ []) → words ≡ []
row_single phase word words row =
    ⊎_elim {C = words ≡ []}
    (λ (none : ◌≡◌ {A = List Dword} (word ∷ words) []). cc)
    (λ (some : (target : ℕ) × (space : Space) × (address : ℕ) × (◌≡◌ {A = List Dword} (word ∷ words) (dwords_from target space address (phase ∷ [])))).
    let built : Dword = record { target = some.0; space = some.1; address = some.2 } in
    let e : ◌≡◌ {A = List Dword} (word ∷ words) (built ∷ []) = some.3 in
    cc)
    row

module _ (board : Board) (table : Table) (r : OpId) where
  beside_safe : (here word : Dword) (value : ℕ) (found : Option OpId) → first_beside board table here r ≡ found → said_beside board table here r found ≡ safe word value
      → (here ≡ word) × (first_beside board table here r ≡ None) × (value ≡ left_by board here (in_order board table (members_before board table here r)))
  beside_safe here word value None is e =
      let words : here ≡ word = cc in
      let values : left_by board here (in_order board table (members_before board table here r)) ≡ value = cc in
      (words, is, sym values)
  beside_safe here word value (Some w) is e = cc

  read_safe : (op : Op) (phase : Phase) (word : Dword) (value : ℕ) → op_of board r ≡ Some op → phases_in (Some op) ≡ phase ∷ [] → is_poll (Some op) ≡ false → (is_well_formed_op op ≡ true → reads_in (Some op) ≡ true) → (words : List Dword) → words_named board r ≡ words
      → said_of_read board table r op words ≡ Some (safe word value) → SaidSafe board table r word value
  read_safe op phase word value is_op one no_poll read_it [] is e =
      let it = nowhere_is (owner_of board r op (slice_get board.masters r.master)) (safe word value) e in
      let no : safe word value ≡ nowhere it.0 = it.1 in
      cc
  read_safe op phase word value is_op one no_poll read_it (here ∷ words) is e =
      let same : said_beside board table here r (first_beside board table here r) ≡ safe word value = cc in
      let it = beside_safe here word value (first_beside board table here r) refl same in
      let phases : phases_in (op_of board r) ≡ phase ∷ [] = ap phases_in is_op ∙ one in
      let row : InRow (here ∷ words) (phase ∷ []) = subst (InRow (here ∷ words)) phases (subst (λ ws. InRow ws (phases_in (op_of board r))) is (in_row board r)) in
      let none : words ≡ [] = row_single phase here words row in
      let has_word : words_named board r ≡ word ∷ [] = is ∙ ap (λ ws. here ∷ ws) none ∙ ap (λ d. d ∷ []) it.0 in
      record {
        op = op;
        is_op = is_op;
        no_poll = no_poll;
        read_it = read_it;
        has_word = has_word;
        none_beside = subst (λ d. first_beside board table d r ≡ None) it.0 it.1;
        is_value = subst (λ d. value ≡ left_by board d (in_order board table (members_before board table d r))) it.0 it.2;
      }

  lost_none : (place : Place) (word : Dword) (value : ℕ) → said_lost place ≡ Some (safe word value) → (X : Type 0) → X
  lost_none (Target target) word value e X = cc
  lost_none (Header bus) word value e X = cc
  lost_none (Lane lane) word value e X = cc
  lost_none Nobody word value e X = cc

  write_none : (op : Op) (words : List Dword) (word : Dword) (value : ℕ) → said_of_write board r op words ≡ Some (safe word value) → (X : Type 0) → X
  write_none op [] word value e X = lost_none (owner_of board r op (slice_get board.masters r.master)) word value e X
  write_none op (here ∷ words) word value e X = cc

  poll_none : (op : Op) (wish : Option Wish) (word : Dword) (value : ℕ) → said_of_poll board table r op wish ≡ Some (safe word value) → (X : Type 0) → X
  poll_none op None word value e X =
      ⊎_elim {C = X}
      (λ (is : safe word value ≡ loose). cc)
      (λ (it : (aborted : Bool) × (safe word value ≡ nowhere aborted)). let no : safe word value ≡ nowhere it.0 = it.1 in cc)
      (nowhere_or_loose (owner_of board r op (slice_get board.masters r.master)) (safe word value) e)
  poll_none op (Some wish) word value e X =
      let some : Bool = list_any (is_reached board table) (raisers board table r wish) in
      let Q : Bool → Type 0 = λ b. cond b None (Some vain) ≡ Some (safe word value) → X in
      let P : Bool → Type 0 = λ b. cond b (cond some None (Some vain)) (Some loose) ≡ Some (safe word value) → X in
      (elim (is_told board table r (Some wish)) as P [
        | true ↦ elim some as Q [ true ↦ λ f. cc | false ↦ λ f. cc ]
        | false ↦ λ f. cc
      ]) e

  as_safe : (found : Option Op) → op_of board r ≡ found → (word : Dword) (value : ℕ) → said_as board table r found ≡ Some (safe word value) → SaidSafe board table r word value
  as_safe None is_op word value e = cc
  as_safe (Some (Read command address)) is_op word value e = read_safe (Read command address) (record { value = 0; enables = 15 }) word value is_op refl refl (λ formed. read_reads command address formed) (words_named board r) refl e
  as_safe (Some (Write command address phases)) is_op word value e = write_none (Write command address phases) (words_named board r) word value e (SaidSafe board table r word value)
  as_safe (Some (CfgRead bus device register)) is_op word value e = read_safe (CfgRead bus device register) (record { value = 0; enables = 15 }) word value is_op refl refl (λ _. refl) (words_named board r) refl e
  as_safe (Some (CfgWrite bus device register phase)) is_op word value e = write_none (CfgWrite bus device register phase) (words_named board r) word value e (SaidSafe board table r word value)
  as_safe (Some (Poll space address want tries)) is_op word value e = poll_none (Poll space address want tries) (wish_of board r) word value e (SaidSafe board table r word value)

  -- what something is said of is reached
  reached_said : (said : Said) → said_of board table r ≡ Some said → said_as board table r (op_of board r) ≡ Some said
  reached_said said e =
      let P : Bool → Type 0 = λ b. cond b (said_as board table r (op_of board r)) None ≡ Some said → said_as board table r (op_of board r) ≡ Some said in
      (elim (is_reached board table r) as P [ true ↦ λ f. f | false ↦ λ f. cc ]) e

-- What it returns.

option_or_none : (first second : Option OpId) → option_or first second ≡ None → (first ≡ None) × (second ≡ None)
option_or_none None second e = (refl, e)
option_or_none (Some w) second e = cc

module _ (board : Board) (valid : IsValid board) (table : Table) (is_largest : IsLargest board table) (r : OpId) (word : Dword) (value : ℕ) (said : SaidSafe board table r word value) where
  abbrev before : List OpId
  before = members_before board table word r

  nothing : (find (is_beside board table r) (members board table word) ≡ None) × (find (is_open board table before) before ≡ None)
  nothing = option_or_none (find (is_beside board table r) (members board table word)) (find (is_open board table before) before) said.none_beside

  distinct : Distinct before
  distinct = filter_distinct (λ w. is_before board table w r) (members board table word) (filter_distinct (is_reached board table) (writes_of board word) (filter_distinct (brings board word) (ops_by 0 board.masters) (ops_distinct 0 board.masters)))

  earlier : AllByRecursion (Earlier board table is_largest word r) before
  earlier =
      let All : OpId → Type 0 = λ w. Unit {0} in
      let Brings : OpId → Type 0 = λ w. (brings board word w ≡ true) × All w in
      let Reached : OpId → Type 0 = λ w. (is_reached board table w ≡ true) × Brings w in
      let Before : OpId → Type 0 = λ w. (is_before board table w r ≡ true) × Reached w in
      Each-weaker Before (Earlier board table is_largest word r)
      (λ w is. record { writes = brings_writes board word w is.1.1.0; brings = brings_some board word w is.1.1.0; before = before_is board table w r is.0 })
      before
      (filter_each Reached (λ w. is_before board table w r) (members board table word)
      (filter_each Brings (is_reached board table) (writes_of board word)
      (filter_each All (brings board word) (ops_by 0 board.masters) (Each-all All (λ w. tt) (ops_by 0 board.masters)))))

  abbrev ordered : List OpId
  ordered = in_order board table before

  earlier_ordered : AllByRecursion (Earlier board table is_largest word r) ordered
  earlier_ordered = order_each board table is_largest (Earlier board table is_largest word r) before earlier

  sorted : Sorted board table is_largest ordered
  sorted = order_sorted board table is_largest before (none_open board table is_largest before distinct nothing.1)

  -- the read comes before what is not reached
  after_read : (w : OpId) → is_reached board table w ≡ false → IsBefore board table r w
  after_read w none =
      let within = op_within board r said.op said.is_op in
      let all = knows_all board table is_largest w (not_reached board table w none) r.master in
      let below : r.index < clock_of board table w r.master = omega (arith, within, all) in
      below

  -- a write of the word is a member, or the read comes before it
  other : (w : OpId) → phases_to board word w ≢ [] → (list_any (is_landing_of w) (all_landings board word ordered) ≡ true) ⊎ IsBefore board table r w
  other w some =
      let Goal : Type 0 = (list_any (is_landing_of w) (all_landings board word ordered) ≡ true) ⊎ IsBefore board table r w in
      let brings_it : brings board word w ≡ true = some_brings board word w some in
      let self : same_op w w ≡ true = same_op_self w in
      ⊎_elim {C = Goal}
      (λ (reached : is_reached board table w ≡ true).
      let listed : list_any (same_op w) (writes_of board word) ≡ true = some_write board word (same_op w) w brings_it self in
      let member : list_any (same_op w) (members board table word) ≡ true = any_of (is_reached board table) (same_op w) (writes_of board word) w listed reached self in
      ⊎_elim {C = Goal}
      (λ (is : is_before board table w r ≡ true).
      let among : list_any (same_op w) before ≡ true = any_of (λ x. is_before board table x r) (same_op w) (members board table word) w member is self in
      inl (landings_any board table is_largest word r w ordered earlier_ordered (order_any board table is_largest (same_op w) before among)))
      (λ (none : is_before board table w r ≡ false).
      ⊎_elim {C = Goal}
      (λ (later : is_before board table r w ≡ true). inr (before_is board table r w later))
      (λ (none_too : is_before board table r w ≡ false).
      let beside : is_beside board table r w ≡ true = rw (none, none_too) refl in
      let both : (same_op w w && is_beside board table r w) ≡ true = rw (self, beside) refl in
      let no_beside : list_any (is_beside board table r) (members board table word) ≡ false = find-none_any (is_beside board table r) (members board table word) nothing.0 in
      let some_beside : list_any (is_beside board table r) (members board table word) ≡ true = any_of (is_reached board table) (is_beside board table r) (writes_of board word) w listed reached beside in
      not_both (list_any (is_beside board table r) (members board table word)) some_beside no_beside Goal)
      (either_way (is_before board table r w)))
      (either_way (is_before board table w r)))
      (λ (none : is_reached board table w ≡ false). inr (after_read w none))
      (either_way (is_reached board table w))

  is_safe : IsSafe board table r value
  is_safe =
      record {
        word = word;
        has_word = said.has_word;
        reads_once = ap is_poll said.is_op ∙ said.no_poll;
        reads_it = ap reads_in said.is_op ∙ said.read_it (op_formed board r said.op valid.well_formed said.is_op);
        members = all_landings board word ordered;
        are_members = landings_members board table is_largest word r ordered earlier_ordered;
        settled = landings_settled board table is_largest word r ordered earlier_ordered sorted;
        others = λ w _ some. other w some;
        is_value = said.is_value;
      }

pub said_is_safe : (board : Board) (table : Table) (r : OpId) (word : Dword) (value : ℕ) → IsValid board → IsLargest board table → said_of board table r ≡ Some (safe word value) → IsSafe board table r value
said_is_safe board table r word value valid is_largest said =
    is_safe board valid table is_largest r word value (as_safe board table r (op_of board r) refl word value (reached_said board table r (safe word value) said))

-- its word is the one that is told
said_word : (board : Board) (table : Table) (r : OpId) (word : Dword) (value : ℕ) (safe_here : IsSafe board table r value) → said_of board table r ≡ Some (safe word value) → safe_here.word ≡ word
said_word board table r word value safe_here said =
    let it : SaidSafe board table r word value = as_safe board table r (op_of board r) refl word value (reached_said board table r (safe word value) said) in
    let e : safe_here.word ∷ [] ≡ word ∷ [] = sym safe_here.has_word ∙ it.has_word in
    cc

pub said_returns : (board : Board) (table : Table) (h : List Event) (r : OpId) (word : Dword) (value : ℕ) → IsValid board → IsLargest board table → said_of board table r ≡ Some (safe word value) → Run board h → has_ended h r ≡ true
    → (reading : Reading) × (got board h r ≡ Some reading) × (reading.word ≡ word) × (given_value h r ≡ Some value)
said_returns board table h r word value valid is_largest said run ends =
    let safe_here : IsSafe board table r value = said_is_safe board table r word value valid is_largest said in
    let it = safe_reads board table h r value valid safe_here run ends in
    (it.0, it.1, it.2 ∙ said_word board table r word value safe_here said, safe_returns board table h r value valid is_largest.consistent safe_here run ends)

-- A poll that is said to be vain.

module _ (board : Board) (table : Table) (p : OpId) where
  -- it has a wish, by which it is told, and none of its raisers is reached
  abbrev SaidVain : Type 0
  SaidVain = (wish : Wish) × (wish_of board p ≡ Some wish) × ((is_firm board wish && opens_out board table p wish) ≡ true) × (list_any (is_reached board table) (raisers board table p wish) ≡ false)

  poll_vain : (op : Op) (found : Option Wish) → wish_of board p ≡ found → said_of_poll board table p op found ≡ Some vain → SaidVain
  poll_vain op None is e =
      ⊎_elim {C = SaidVain}
      (λ (no : vain ≡ loose). cc)
      (λ (it : (aborted : Bool) × (vain ≡ nowhere aborted)). let no : vain ≡ nowhere it.0 = it.1 in cc)
      (nowhere_or_loose (owner_of board p op (slice_get board.masters p.master)) vain e)
  poll_vain op (Some wish) is e =
      let some : Bool = list_any (is_reached board table) (raisers board table p wish) in
      let told : Bool = is_firm board wish && opens_out board table p wish in
      let Q : Bool → Type 0 = λ b. some ≡ b → cond b None (Some vain) ≡ Some vain → told ≡ true → SaidVain in
      let P : Bool → Type 0 = λ b. told ≡ b → cond b (cond some None (Some vain)) (Some loose) ≡ Some vain → SaidVain in
      (elim told as P [
        | true ↦ λ is_told_it f. (elim some as Q [ true ↦ λ _ g. cc | false ↦ λ none _ t. (wish, is, t, none) ]) refl f is_told_it
        | false ↦ λ _ f. cc
      ]) refl e

  beside_vain : (here : Dword) (found : Option OpId) → said_beside board table here p found ≡ vain → SaidVain
  beside_vain here None e = cc
  beside_vain here (Some w) e = cc

  read_vain : (op : Op) (words : List Dword) → said_of_read board table p op words ≡ Some vain → SaidVain
  read_vain op [] e =
      let it = nowhere_is (owner_of board p op (slice_get board.masters p.master)) vain e in
      let no : vain ≡ nowhere it.0 = it.1 in
      cc
  read_vain op (here ∷ words) e = let same : said_beside board table here p (first_beside board table here p) ≡ vain = cc in beside_vain here (first_beside board table here p) same

  lost_vain : (place : Place) → said_lost place ≡ Some vain → SaidVain
  lost_vain (Target target) e = cc
  lost_vain (Header bus) e = cc
  lost_vain (Lane lane) e = cc
  lost_vain Nobody e = cc

  write_vain : (op : Op) (words : List Dword) → said_of_write board p op words ≡ Some vain → SaidVain
  write_vain op [] e = lost_vain (owner_of board p op (slice_get board.masters p.master)) e
  write_vain op (here ∷ words) e = cc

  as_vain : (found : Option Op) → said_as board table p found ≡ Some vain → SaidVain
  as_vain None e = cc
  as_vain (Some (Read command address)) e = read_vain (Read command address) (words_named board p) e
  as_vain (Some (Write command address phases)) e = write_vain (Write command address phases) (words_named board p) e
  as_vain (Some (CfgRead bus device register)) e = read_vain (CfgRead bus device register) (words_named board p) e
  as_vain (Some (CfgWrite bus device register phase)) e = write_vain (CfgWrite bus device register phase) (words_named board p) e
  as_vain (Some (Poll space address want tries)) e = poll_vain (Poll space address want tries) (wish_of board p) refl e

  is_vain : SaidVain → (want : Want) × IsVain board table p want
  is_vain said =
      let wish : Wish = said.0 in
      let has = has_wish board p wish said.1 in
      let two = and_parts (is_firm board wish) (opens_out board table p wish) said.2 in
      let none : (f : OpId) → Raises board wish.want wish.word f → LeftOut board table p wish.word f ⊎ IsBefore board table f f = λ f raises_it.
      ⊎_elim {C = LeftOut board table p wish.word f ⊎ IsBefore board table f f}
      (λ (left : is_left_out board table p wish.word f ≡ true). inl (left_is board table p wish.word f left))
      (λ (stays : is_left_out board table p wish.word f ≡ false).
      ⊎_elim {C = LeftOut board table p wish.word f ⊎ IsBefore board table f f}
      (λ (reached : is_reached board table f ≡ true).
      let raises_so : raises board wish f ≡ true = raises_it in
      let kept : (raises board wish f && not (is_left_out board table p wish.word f)) ≡ true = rw (raises_so, stays) refl in
      let both : ((raises board wish f && not (is_left_out board table p wish.word f)) && is_reached board table f) ≡ true = rw (kept, reached) refl in
      let some : list_any (is_reached board table) (raisers board table p wish) ≡ true =
      any_both (λ g. raises board wish g && not (is_left_out board table p wish.word g)) (is_reached board table) (writes_of board wish.word)
      ∙ some_write board wish.word (λ g. (raises board wish g && not (is_left_out board table p wish.word g)) && is_reached board table g) f (raises_brings board wish f raises_it) both in
      not_both (list_any (is_reached board table) (raisers board table p wish)) some said.3 (LeftOut board table p wish.word f ⊎ IsBefore board table f f))
      (λ (unreached : is_reached board table f ≡ false). inr (not_reached board table f unreached))
      (either_way (is_reached board table f)))
      (either_way (is_left_out board table p wish.word f)) in (
        wish.want,
        record {
          awaits = has.awaits;
          word = wish.word;
          firm = firm_is board wish p has.has_word two.0;
          opens = opens_is board table p wish two.1;
          raisers = none;
        },
      )

-- A poll is one by each of its tries.

-- where a try is there the first one is
pub first_op : (board : Board) (p : OpId) (op : Op) → op_of board p ≡ Some op → op_of board (at_place p.master p.index) ≡ Some op
first_op board p op is =
    let there = op_there board p op is in
    let tried = there.tried in
    let some : nat_lt 0 (tries_of op) ≡ true = grind (arith, nat_tests) in
    let is_master : slice_get board.masters p.master ≡ Some there.master = there.is_master in
    let is_op : slice_get there.master.ops p.index ≡ Some op = there.is_op in
    rw (is_master, is_op, some) refl

-- and names the same words
pub first_words : (board : Board) (p : OpId) (op : Op) → op_of board p ≡ Some op → words_named board p ≡ words_named board (at_place p.master p.index)
first_words board p op is = ap (λ found. words_on board found (slice_get board.masters p.master)) (is ∙ sym (first_op board p op is))

module _ (board : Board) (table : Table) (p : OpId) (word : Dword) where
  first_before : (x : OpId) → WritesBefore board table (at_place p.master p.index) word x → WritesBefore board table p word x
  first_before x is = record { writes = is.writes; brings = is.brings; before = is.before }

  first_left : (f : OpId) → LeftOut board table (at_place p.master p.index) word f → LeftOut board table p word f
  first_left f is = record { x = is.x; earlier = first_before is.x is.earlier; other = is.other; no_more = is.no_more }

  first_vain : (want : Want) (op : Op) → op_of board p ≡ Some op → Awaits board p want → (is : IsVain board table (at_place p.master p.index) want) → is.word ≡ word → IsVain board table p want
  first_vain want op is_op awaits is here =
      let L : Dword → Type 0 = λ d. (f : OpId) → Raises board want d f → LeftOut board table (at_place p.master p.index) d f ⊎ IsBefore board table f f in
      let none : L word = subst L here is.raisers in
      let named : words_named board (at_place p.master p.index) ≡ word ∷ [] = is.firm.has_word ∙ ap (λ d. d ∷ []) here in
      record {
        awaits = awaits;
        word = word;
        firm = record {
          has_word = first_words board p op is_op ∙ named;
          plain = subst (λ d. is_plain d.space ≡ true) here is.firm.plain;
          whole = subst (λ d. (f : OpId) → list_all (is_whole want.mask) (phases_to board d f) ≡ true) here is.firm.whole;
          last = subst (λ d. (f : OpId) → Raises board want d f → IsLastWord board d f) here is.firm.last;
        };
        opens = ⊎_elim {C = OpensOut board table p want word}
            (λ (out : is_met_by want (opens_as board word) ≡ false). inl out)
            (λ (some : (x : OpId) × WritesBefore board table (at_place p.master p.index) word x). inr (some.0, first_before some.0 some.1))
            (subst (OpensOut board table (at_place p.master p.index) want) here is.opens);
        raisers = λ f raises_it. ⊎_elim {C = LeftOut board table p word f ⊎ IsBefore board table f f}
            (λ (left : LeftOut board table (at_place p.master p.index) word f). inl (first_left f left))
            (λ (unreached : IsBefore board table f f). inr unreached)
            (none f raises_it);
      }

same_awaits : (board : Board) (p : OpId) (found want : Want) → Awaits board p found → Awaits board p want → (X : Want → Type 0) → X found → X want
same_awaits board p found want it awaits X is =
    let e : ◌≡◌ {A = Option Op} (Some (Poll it.0 it.1 found it.2)) (Some (Poll awaits.0 awaits.1 want awaits.2)) = sym it.3 ∙ awaits.3 in
    let same : found ≡ want = cc in
    subst X same is

pub said_not_met : (board : Board) (table : Table) (e : Event) (h : List Event) (p : OpId) (want : Want) (outcome : Outcome) → IsValid board → IsLargest board table → said_of board table (at_place p.master p.index) ≡ Some vain → Awaits board p want → Run board (e ∷ h)
    → ended e ≡ Some (record { op = p; outcome = outcome }) → meets want outcome ≡ false
said_not_met board table e h p want outcome valid is_largest said awaits run ends =
    let first : OpId = at_place p.master p.index in
    let op : Op = Poll awaits.0 awaits.1 want awaits.2 in
    let first_awaits : Awaits board first want = (awaits.0, awaits.1, awaits.2, first_op board p op awaits.3) in
    let it = is_vain board table first (as_vain board table first (op_of board first) (reached_said board table first vain said)) in
    let is_first : IsVain board table first want = same_awaits board first it.0 want it.1.awaits first_awaits (IsVain board table first) it.1 in
    let is : IsVain board table p want = first_vain board table p is_first.word want op awaits.3 awaits is_first refl in
    never_met board valid table is_largest.consistent e h p want outcome is run ends
