-- What is kept of the writes of each word, one write after another.
use Rattle.std.proofs.Common.{◌≡◌, ℕ, zero, suc, ◌+◌, ◌<◌, ◌≤◌, Bool, true, false, ◌&&◌, ◌==◌, eqb, eqb-true, cond, List, [], ◌∷◌, ◌++◌, append_assoc, append-nil, length, drop, get_or, map, Option, Some, None, refl, sym, ap, subst, ◌∙◌, arith, ◌⊎◌, inl, inr, ⊎_elim}
use Rattle.std.proofs.Math.Seq.{drop-cons}
use Rattle.std.specs.List.{filter, list_any}
use Rattle.std.proofs.lemmas.Bool.{and_parts}
use Rattle.std.proofs.lemmas.Bool.Decides.{nat_tests}
use Rattle.std.proofs.lemmas.List.{map-append}
use Rattle.std.proofs.lemmas.Option.{slice_get-get_or}
use Rattle.list_facts.proofs.EachLemmas.{Each-append}
use Rattle.list_facts.proofs.TestLemmas.{list_all-get}
use Rattle.pci_command.specs.declared.command.Space.{Space}
use Rattle.pci_command.specs.declared.command.Space.TheVariants.{Mem, Io, Cfg}
use Rattle.pci_command.specs.declared.phases.Phase.{Phase}
use Rattle.pci_command.specs.declared.op_id.OpId.{OpId}
use Rattle.pci_command.specs.Same.{same_space}
use Rattle.board_model.specs.Limits.{most_ops}
use Rattle.board_model.specs.declared.op.Op.{Op}
use Rattle.board_model.specs.declared.agents.Master.{Master}
use Rattle.board_model.specs.declared.board.Board.{Board}
use Rattle.board_model.specs.declared.word.Word.{Word}
use Rattle.board_model.specs.Requests.{op_of}
use Rattle.board_model.specs.Ways.{Dword, dwords_from}
use Rattle.board_model.specs.WellFormed.{is_well_formed_master}
use Rattle.board_model.specs.Valid.{IsValid}
use Rattle.board_model.proofs.Laws.{Master-parts, WellFormed-parts}
use Rattle.history_model.specs.Knowledge.{is_write, words_named}
use Rattle.law_lanes.specs.order.Order.{is_posted_op}
use Rattle.safe_model.specs.Ops.{ops_from, ops_by}
use Rattle.safe_model.specs.Raisers.{same_dword, phases_for, phases_in, phases_to}
use Rattle.safe_model.specs.largest.Tests.{brings, writes_of, is_last}
use Rattle.safe_model.proofs.said.ApartLemmas.{InRow, in_row}
use Rattle.audit_clocks.specs.Tables.{list_in, same_word, found_in, TakesWord, PutsWord, dword}
use Rattle.audit_clocks.proofs.TableLemmas.{same_word_true}
use Rattle.board_writes.specs.declared.writers.write.WordWrite.{WordWrite}
use Rattle.board_writes.specs.Writes.{op_in, IsWordWrite, AreWrites, writes_at, ListsWrites, is_none_of, kept_for, kept_of, kept_by, Adds}

-- One write more.

spaces_back : (a b : Space) → same_space a b ≡ same_space b a
spaces_back Mem Mem = refl
spaces_back Mem Io = refl
spaces_back Mem Cfg = refl
spaces_back Io Mem = refl
spaces_back Io Io = refl
spaces_back Io Cfg = refl
spaces_back Cfg Mem = refl
spaces_back Cfg Io = refl
spaces_back Cfg Cfg = refl

numbers_back : (a b : ℕ) → (a == b) ≡ (b == a)
numbers_back a b = grind (arith, nat_tests)

same_back : (a b : Word) → same_word a b ≡ same_word b a
same_back a b = rw (numbers_back a.target b.target, spaces_back a.space b.space, numbers_back a.address b.address) refl

-- a list that was taken out, and put back with one write more
pub put_back : (word : Word) (write : WordWrite) (old mid new : List (Word × List WordWrite)) (found : Option (List WordWrite)) (list more : List WordWrite)
    → found ≡ found_in word old → list ≡ list_in found → more ≡ list ++ write ∷ [] → TakesWord word old mid → PutsWord word more mid new → Adds (λ q. cond (same_word word q) (write ∷ []) []) old new
put_back word write old mid new found list more found_is list_is more_is out back =
    record {
      each = λ q.
          let was : Option (List WordWrite) = found_in q old in
          let both : found_in q new ≡ cond (same_word word q) (Some more) (cond (same_word word q) None was) =
          back.each q ∙ ap (λ f. cond (same_word word q) (Some more) f) (out.each q) in
          let P : Bool → Type 0 = λ b. same_word word q ≡ b → list_in (cond b (Some more) (cond b None was)) ≡ list_in was ++ cond b (write ∷ []) [] in
          ap list_in both
          ∙ (elim (same_word word q) as P [
            | true ↦ λ same.
                let one : word ≡ q = same_word_true word q same in
                let found_q : found ≡ was = found_is ∙ ap (λ w. found_in w old) one in
                more_is ∙ ap (λ ws. ws ++ write ∷ []) (list_is ∙ ap list_in found_q)
            | false ↦ λ _. sym (append-nil (list_in was))
          ]) refl;
    }

-- Several.

-- with what is left each word gets all of these more than it had
pub record Behind (all rest : Word → List WordWrite) (old now : List (Word × List WordWrite)) : Type 0 where
  pub each : (word : Word) → writes_at word now ++ rest word ≡ writes_at word old ++ all word

pub none_yet : (all : Word → List WordWrite) (old : List (Word × List WordWrite)) → Behind all all old old
none_yet all old = record { each = λ word. refl }

pub some_more : (all before more rest : Word → List WordWrite) (old now next : List (Word × List WordWrite)) → ((word : Word) → before word ≡ more word ++ rest word) → Behind all before old now → Adds more now next → Behind all rest old next
some_more all before more rest old now next parts so_far adds =
    record {
      each = λ word.
          ap (λ ws. ws ++ rest word) (adds.each word)
          ∙ append_assoc (writes_at word now) (more word) (rest word)
          ∙ sym (ap (λ ws. writes_at word now ++ ws) (parts word))
          ∙ so_far.each word;
    }

pub all_over : (all rest : Word → List WordWrite) (old now : List (Word × List WordWrite)) → ((word : Word) → rest word ≡ []) → Behind all rest old now → Adds all old now
all_over all rest old now none so_far =
    record { each = λ word. sym (append-nil (writes_at word now)) ∙ sym (ap (λ ws. writes_at word now ++ ws) (none word)) ∙ so_far.each word }

-- Data phases.

not_none : (m : ℕ) → false ≡ eqb zero (suc m)
not_none m = grind (arith, nat_tests)

next_one : (n m : ℕ) → eqb n m ≡ eqb (suc n) (suc m)
next_one n m = grind (arith, nat_tests)

none_left : (phases : List Phase) (n : ℕ) → n ≤ length phases → is_none_of (drop n phases) ≡ eqb n (length phases)
none_left [] zero within = refl
none_left [] (suc n) within = absurd (omega (arith, within))
none_left (phase ∷ phases) zero within = not_none (length phases)
none_left (phase ∷ phases) (suc n) within = none_left phases n (omega (arith, within)) ∙ next_one n (length phases)

-- those from a place on are that there and the later ones
pub phase_parts : (o : OpId) (posted : Bool) (target : ℕ) (space : Space) (at : ℕ) (phases : List Phase) (i : ℕ) (phase : Phase) (last : Bool) (word : Word) → i < length phases → phase ≡ get_or phases i phase → last ≡ eqb (i + 1) (length phases)
    → kept_for o posted (dword word) (dwords_from target space at (drop i phases)) (drop i phases)
    ≡ cond (same_word (record { target = target; space = space; address = at }) word) (record { op = o; phase = phase; posted = posted; last = last } ∷ []) []
    ++ kept_for o posted (dword word) (dwords_from target space (at + 4) (drop (i + 1) phases)) (drop (i + 1) phases)
phase_parts o posted target space at phases i phase last word within is last_is =
    let rest : List Phase = drop (i + 1) phases in
    let here : Word = record { target = target; space = space; address = at } in
    let more : suc i ≡ i + 1 = omega arith in
    let parts : drop i phases ≡ phase ∷ rest = drop-cons phases i phase within ∙ ap (λ p. p ∷ drop (suc i) phases) (sym is) ∙ ap (λ n. phase ∷ drop n phases) more in
    let none : is_none_of rest ≡ last = none_left phases (i + 1) (omega (arith, within)) ∙ sym last_is in
    ap (λ ps. kept_for o posted (dword word) (dwords_from target space at ps) ps) parts
    ∙ ap (λ (b : Bool). cond (same_word here word) (record { op = o; phase = phase; posted = posted; last = b } ∷ []) [] ++ kept_for o posted (dword word) (dwords_from target space (at + 4) rest) rest) none

-- behind the last one there is none
pub phases_over : (o : OpId) (posted : Bool) (target : ℕ) (space : Space) (at : ℕ) (phases rest : List Phase) (word : Word) → rest ≡ [] → kept_for o posted (dword word) (dwords_from target space at rest) rest ≡ []
phases_over o posted target space at phases rest word none = ap (λ ps. kept_for o posted (dword word) (dwords_from target space at ps) ps) none

-- Operations.

pub kept_by-append : (board : Board) (word : Dword) (xs ys : List OpId) → kept_by board word (xs ++ ys) ≡ kept_by board word xs ++ kept_by board word ys
kept_by-append board word [] ys = refl
kept_by-append board word (o ∷ xs) ys =
    ap (λ ws. kept_of board word o ++ ws) (kept_by-append board word xs ys) ∙ sym (append_assoc (kept_of board word o) (kept_by board word xs) (kept_by board word ys))

pub op_parts : (board : Board) (master : ℕ) (ops : List Op) (i : ℕ) (op : Op) (word : Word) → i < length ops
    → kept_by board (dword word) (ops_from master i (drop i ops))
    ≡ kept_of board (dword word) (record { master = master; index = i; attempt = 0 }) ++ kept_by board (dword word) (ops_from master (i + 1) (drop (i + 1) ops))
op_parts board master ops i op word within =
    let o : OpId = record { master = master; index = i; attempt = 0 } in
    let more : suc i ≡ i + 1 = omega arith in
    ap (λ os. kept_by board (dword word) (ops_from master i os)) (drop-cons ops i op within)
    ∙ ap (λ n. kept_of board (dword word) o ++ kept_by board (dword word) (ops_from master (i + 1) (drop n ops))) more

pub master_parts : (board : Board) (masters : List Master) (i : ℕ) (m : Master) (word : Word) → i < length masters
    → kept_by board (dword word) (ops_by i (drop i masters))
    ≡ kept_by board (dword word) (ops_from i 0 (get_or masters i m).ops) ++ kept_by board (dword word) (ops_by (i + 1) (drop (i + 1) masters))
master_parts board masters i m word within =
    let more : suc i ≡ i + 1 = omega arith in
    let ops : List OpId = ops_from i 0 (get_or masters i m).ops in
    ap (λ ms. kept_by board (dword word) (ops_by i ms)) (drop-cons masters i m within)
    ∙ ap (λ n. kept_by board (dword word) (ops ++ ops_by (i + 1) (drop n masters))) more
    ∙ kept_by-append board (dword word) ops (ops_by (i + 1) (drop (i + 1) masters))

-- a program has at most 1,024 operations
pub few_at : (board : Board) (i : ℕ) (d : Master) → IsValid board → i < length board.masters → length (get_or board.masters i d).ops ≤ most_ops
few_at board i d valid within =
    let formed = list_all-get is_well_formed_master board.masters i (get_or board.masters i d) (WellFormed-parts board valid.well_formed).masters (slice_get-get_or board.masters i d within) in
    (Master-parts (get_or board.masters i d) formed).few

-- What is kept is so.

not_at : (target : ℕ) (space : Space) (at : ℕ) (word : Dword) → word.address < at → same_dword (record { target = target; space = space; address = at }) word ≡ false
not_at target space at word below =
    let d : Dword = record { target = target; space = space; address = at } in
    let P : Bool → Type 0 = λ b. same_dword d word ≡ b → b ≡ false in
    (elim (same_dword d word) as P [
      | true ↦ λ same.
          let two = and_parts (eqb target word.target && same_space space word.space) (eqb at word.address) same in
          let addresses : at ≡ word.address = eqb-true at word.address two.1 in
          absurd (omega (arith, below, addresses))
      | false ↦ λ _. refl
    ]) refl

module _ (o : OpId) (posted : Bool) (word : Dword) (target : ℕ) (space : Space) where
  -- of dwords behind the word none is the word
  record NoneAt (at : ℕ) (phases : List Phase) : Type 0 where
    phases_none : phases_for word (dwords_from target space at phases) phases ≡ []
    kept_none : kept_for o posted word (dwords_from target space at phases) phases ≡ []
    last_none : is_last word (dwords_from target space at phases) ≡ false

  none_behind : (at : ℕ) (phases : List Phase) → word.address < at → NoneAt at phases
  none_behind at [] below = record { phases_none = refl; kept_none = refl; last_none = refl }
  none_behind at (phase ∷ []) below =
      let other : same_dword (record { target = target; space = space; address = at }) word ≡ false = not_at target space at word below in
      record {
        phases_none = ap (λ b. cond b (phase ∷ []) [] ++ []) other;
        kept_none = ap (λ (b : Bool). cond b (record { op = o; phase = phase; posted = posted; last = true } ∷ []) [] ++ []) other;
        last_none = other;
      }
  none_behind at (phase ∷ second ∷ phases) below =
      let other : same_dword (record { target = target; space = space; address = at }) word ≡ false = not_at target space at word below in
      let later : NoneAt (at + 4) (second ∷ phases) = none_behind (at + 4) (second ∷ phases) (omega (arith, below)) in
      record {
        phases_none = ap (λ b. cond b (phase ∷ []) [] ++ phases_for word (dwords_from target space (at + 4) (second ∷ phases)) (second ∷ phases)) other ∙ later.phases_none;
        kept_none = ap (λ (b : Bool). cond b (record { op = o; phase = phase; posted = posted; last = false } ∷ []) [] ++ kept_for o posted word (dwords_from target space (at + 4) (second ∷ phases)) (second ∷ phases)) other ∙ later.kept_none;
        last_none = later.last_none;
      }

  last_here : (at : ℕ) (phase : Phase) (phases : List Phase) → same_dword (record { target = target; space = space; address = at }) word ≡ true → is_none_of phases ≡ is_last word (dwords_from target space at (phase ∷ phases))
  last_here at phase [] same = sym same
  last_here at phase (second ∷ phases) same =
      let two = and_parts (eqb target word.target && same_space space word.space) (eqb at word.address) same in
      let addresses : at ≡ word.address = eqb-true at word.address two.1 in
      sym (none_behind (at + 4) (second ∷ phases) (omega (arith, addresses))).last_none

  last_later : (at : ℕ) (phase : Phase) (phases : List Phase) → same_dword (record { target = target; space = space; address = at }) word ≡ false → is_last word (dwords_from target space (at + 4) phases) ≡ is_last word (dwords_from target space at (phase ∷ phases))
  last_later at phase [] other = sym other
  last_later at phase (second ∷ phases) other = refl

-- of a write's words and data phases none is for the word, or one, which is kept
abbrev KeepsOne : OpId → Bool → Dword → List Dword → List Phase → Type 0
KeepsOne o posted word words phases =
    ((phases_for word words phases ≡ []) × (kept_for o posted word words phases ≡ []))
    ⊎ ((phase : Phase) × (phases_for word words phases ≡ phase ∷ []) × (kept_for o posted word words phases ≡ record { op = o; phase = phase; posted = posted; last = is_last word words } ∷ []))

keeps_none : (o : OpId) (posted : Bool) (word : Dword) (phases : List Phase) → KeepsOne o posted word [] phases
keeps_none o posted word phases = inl (refl, refl)

keeps_from : (o : OpId) (posted : Bool) (word : Dword) (target : ℕ) (space : Space) (at : ℕ) (phases : List Phase) → KeepsOne o posted word (dwords_from target space at phases) phases
keeps_from o posted word target space at [] = inl (refl, refl)
keeps_from o posted word target space at (phase ∷ phases) =
    let d : Dword = record { target = target; space = space; address = at } in
    let ds : List Dword = dwords_from target space (at + 4) phases in
    let later : List Phase = phases_for word ds phases in
    let kept : List WordWrite = kept_for o posted word ds phases in
    let entry : Bool → WordWrite = λ last. record { op = o; phase = phase; posted = posted; last = last } in
    let P : Bool → Type 0 = λ b. same_dword d word ≡ b
    → ((cond b (phase ∷ []) [] ++ later ≡ []) × (cond b (entry (is_none_of phases) ∷ []) [] ++ kept ≡ []))
    ⊎ ((p : Phase) × (cond b (phase ∷ []) [] ++ later ≡ p ∷ []) × (cond b (entry (is_none_of phases) ∷ []) [] ++ kept ≡ record { op = o; phase = p; posted = posted; last = is_last word (d ∷ ds) } ∷ [])) in
    (elim (same_dword d word) as P [
      | true ↦ λ same.
          let two = and_parts (eqb target word.target && same_space space word.space) (eqb at word.address) same in
          let addresses : at ≡ word.address = eqb-true at word.address two.1 in
          let none = none_behind o posted word target space (at + 4) phases (omega (arith, addresses)) in
          inr (phase, ap (λ ps. phase ∷ ps) none.phases_none, ap (λ ws. entry (is_none_of phases) ∷ ws) none.kept_none ∙ ap (λ b. entry b ∷ []) (last_here o posted word target space at phase phases same))
      | false ↦ λ other.
          ⊎_elim {C = P false}
          (λ (none : (later ≡ []) × (kept ≡ [])). λ _. inl none)
          (λ (one : (p : Phase) × (later ≡ p ∷ []) × (kept ≡ record { op = o; phase = p; posted = posted; last = is_last word ds } ∷ [])).
          λ _. inr (one.0, one.1, one.2 ∙ ap (λ (b : Bool). record { op = o; phase = one.0; posted = posted; last = b } ∷ []) (last_later o posted word target space at phase phases other)))
          (keeps_from o posted word target space (at + 4) phases) other
    ]) refl

keeps_row : (o : OpId) (posted : Bool) (word : Dword) (words : List Dword) (phases : List Phase) → InRow words phases → KeepsOne o posted word words phases
keeps_row o posted word words phases row =
    ⊎_elim {C = KeepsOne o posted word words phases}
    (λ (none : words ≡ []). subst (λ ws. KeepsOne o posted word ws phases) (sym none) (keeps_none o posted word phases))
    (λ (some : (target : ℕ) × (space : Space) × (address : ℕ) × (words ≡ dwords_from target space address phases)). subst (λ ws. KeepsOne o posted word ws phases) (sym some.3) (keeps_from o posted word some.0 some.1 some.2 phases))
    row

-- of an operation nothing is kept, or one write of the word
module _ (board : Board) (word : Dword) where
  abbrev IsKept : OpId → List WordWrite → Type 0
  IsKept o kept = AreWrites board word (cond (brings board word o) (o ∷ []) []) kept

  is_kept_none : (o : OpId) → phases_to board word o ≡ [] → IsKept o []
  is_kept_none o none =
      let not_brought : brings board word o ≡ false = ap (λ ps. list_any (λ (phase : Phase). true) ps) none in
      record { ops_are = sym (ap (λ b. cond b (o ∷ []) []) not_brought); each = tt }

  is_kept_one : (o : OpId) (phase : Phase) → phases_to board word o ≡ phase ∷ [] → IsKept o (record { op = o; phase = phase; posted = is_posted_op board o; last = is_last word (words_named board o) } ∷ [])
  is_kept_one o phase one =
      let brought : brings board word o ≡ true = ap (λ ps. list_any (λ (phase : Phase). true) ps) one in
      record { ops_are = sym (ap (λ b. cond b (o ∷ []) []) brought); each = (record { brings = one; posted = refl; last = refl }, tt) }

  is_kept : (o : OpId) → IsKept o (kept_of board word o)
  is_kept o =
      let words : List Dword = words_named board o in
      let phases : List Phase = phases_in (op_of board o) in
      let posted : Bool = is_posted_op board o in
      let P : Bool → Type 0 = λ b. is_write board o ≡ b → IsKept o (cond b (kept_for o posted word words phases) []) in
      (elim (is_write board o) as P [
        | true ↦ λ writes.
            let all : phases_to board word o ≡ phases_for word words phases = ap (λ b. cond b (phases_for word words phases) []) writes in
            ⊎_elim {C = IsKept o (kept_for o posted word words phases)}
            (λ (none : (phases_for word words phases ≡ []) × (kept_for o posted word words phases ≡ [])). subst (IsKept o) (sym none.1) (is_kept_none o (all ∙ none.0)))
            (λ (one : (phase : Phase) × (phases_for word words phases ≡ phase ∷ []) × (kept_for o posted word words phases ≡ record { op = o; phase = phase; posted = posted; last = is_last word words } ∷ [])).
            subst (IsKept o) (sym one.2) (is_kept_one o one.0 (all ∙ one.1)))
            (keeps_row o posted word words phases (in_row board o))
        | false ↦ λ reads. is_kept_none o (ap (λ b. cond b (phases_for word words phases) []) reads)
      ]) refl

  -- of two lists of operations
  pub writes-append : (xs ys : List OpId) (here there : List WordWrite) → AreWrites board word xs here → AreWrites board word ys there → AreWrites board word (xs ++ ys) (here ++ there)
  writes-append xs ys here there first then =
      record { ops_are = map-append op_in here there ∙ ap (λ os. os ++ map op_in there) first.ops_are ∙ ap (λ os. xs ++ os) then.ops_are; each = Each-append (IsWordWrite board word) here there first.each then.each }

  pub are_kept : (ops : List OpId) → AreWrites board word (filter (brings board word) ops) (kept_by board word ops)
  are_kept [] = record { ops_are = refl; each = tt }
  are_kept (o ∷ ops) =
      let rest : List OpId = filter (brings board word) ops in
      let P : Bool → Type 0 = λ b. cond b (o ∷ []) [] ++ rest ≡ cond b (o ∷ rest) rest in
      let joined : cond (brings board word o) (o ∷ []) [] ++ rest ≡ cond (brings board word o) (o ∷ rest) rest = elim (brings board word o) as P [ true ↦ refl | false ↦ refl ] in
      subst (λ os. AreWrites board word os (kept_of board word o ++ kept_by board word ops)) joined
      (writes-append (cond (brings board word o) (o ∷ []) []) rest (kept_of board word o) (kept_by board word ops) (is_kept o) (are_kept ops))

-- all writes of a board were listed
pub lists_all : (board : Board) (old new : List (Word × List WordWrite)) → old ≡ [] → Adds (λ q. kept_by board (dword q) (ops_by 0 board.masters)) old new → ListsWrites board new
lists_all board old new none adds =
    record {
      of_word = λ word.
          let kept : List WordWrite = kept_by board (dword word) (ops_by 0 board.masters) in
          let is : writes_at word new ≡ kept = adds.each word ∙ ap (λ es. writes_at word es ++ kept) none in
          subst (AreWrites board (dword word) (writes_of board (dword word))) (sym is) (are_kept board (dword word) (ops_by 0 board.masters));
    }
