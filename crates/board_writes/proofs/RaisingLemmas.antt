-- The writes that raise what is waited for, listed apart, and how they are found.
use Rattle.std.proofs.Common.{◌≡◌, ℕ, zero, suc, ◌+◌, ◌<◌, ◌≤◌, Bool, true, false, ◌&&◌, ◌==◌, not, cond, eqb, eqb-true, List, [], ◌∷◌, ◌++◌, append_assoc, append-nil, length, drop, get_or, Option, Some, IfSome, refl, sym, ap, subst, ◌∙◌, arith}
use Rattle.std.specs.List.{filter, list_any}
use Rattle.std.specs.Map.{lookup}
use Rattle.std.proofs.Math.Seq.{drop-cons}
use Rattle.std.proofs.lemmas.Bool.{and_parts}
use Rattle.std.proofs.lemmas.List.{drop_all}
use mathlib.Core.Bool.{beq}
use Rattle.pci_command.specs.declared.op_id.OpId.{OpId}
use Rattle.history_model.specs.World.{same_direction}
use Rattle.board_model.specs.declared.op.Want.{Want}
use Rattle.board_model.specs.declared.word.Word.{Word}
use Rattle.audit_clocks.specs.Tables.{same_word}
use Rattle.audit_clocks.proofs.TableLemmas.{derived_word, derived_word_same, same_word_true, lookup_agree}
use Rattle.board_writes.specs.declared.polls.awaited.Awaited.{Awaited}
use Rattle.board_writes.specs.declared.writers.write.WordWrite.{WordWrite}
use Rattle.board_writes.specs.Rows.{ProgramRows}
use Rattle.board_writes.specs.Writes.{writes_at}
use Rattle.board_writes.specs.Stretches.{joined, AreAmong, from_first}
use Rattle.board_writes.specs.Looks.{left_out_in, is_reached_in}
use Rattle.board_writes.specs.Polls.{raises_it, staying}
use Rattle.board_writes.specs.Raising.{same_want, same_awaited, found_for, KeepsRaising, AreRaising}
use Rattle.board_writes.proofs.StretchLemmas.{filter_from}
use Rattle.board_writes.proofs.StayLemmas.{any_filter, among_filter}

-- Some of the writes, among them all that raise.

filter_twice : (test : WordWrite → Bool) (ws : List WordWrite) → filter test (filter test ws) ≡ filter test ws
filter_twice test [] = refl
filter_twice test (w ∷ ws) =
    let rest : List WordWrite = filter test ws in
    let P : Bool → Type 0 = λ b. test w ≡ b → filter test (cond b (w ∷ rest) rest) ≡ cond b (w ∷ rest) rest in
    (elim (test w) as P [
      | true ↦ λ pass. ap (λ b. cond b (w ∷ filter test rest) (filter test rest)) pass ∙ ap (λ vs. w ∷ vs) (filter_twice test ws)
      | false ↦ λ _. filter_twice test ws
    ]) refl

pub raising_all : (awaited : Awaited) (writes : List WordWrite) → AreRaising awaited writes writes
raising_all awaited writes = record { all = refl; among = λ test some. some }

pub raising_alone : (awaited : Awaited) (writes these : List WordWrite) → these ≡ filter (raises_it awaited) writes → AreRaising awaited writes these
raising_alone awaited writes these are =
    subst (AreRaising awaited writes) (sym are)
    (record { all = filter_twice (raises_it awaited) writes; among = among_filter writes writes (raises_it awaited) (λ test some. some) })

pub staying_same : (rows : List ProgramRows) (p : OpId) (awaited : Awaited) (writes these : List WordWrite) → AreRaising awaited writes these → staying rows p awaited writes these ≡ staying rows p awaited writes writes
staying_same rows p awaited writes these raising = ap (filter (λ f. not (left_out_in rows p writes f))) raising.all

pub reached_same : (rows : List ProgramRows) (p : OpId) (awaited : Awaited) (writes these : List WordWrite) → AreRaising awaited writes these
    → list_any (λ f. raises_it awaited f && is_reached_in rows p writes f) these ≡ list_any (λ f. raises_it awaited f && is_reached_in rows p writes f) writes
reached_same rows p awaited writes these raising =
    let reached : WordWrite → Bool = is_reached_in rows p writes in
    sym (any_filter (raises_it awaited) reached these) ∙ ap (list_any reached) raising.all ∙ any_filter (raises_it awaited) reached writes

-- the same where both stand as stretches
module _ (awaited : Awaited) (writes these : List WordWrite) (runs among : List (List WordWrite)) (runs_are : joined runs ≡ writes) (among_are : joined among ≡ these) (raising : AreRaising awaited writes these) where
  pub among_joined : AreAmong (joined runs) (joined among)
  among_joined = subst (λ ws. AreAmong ws (joined among)) (sym runs_are) (subst (AreAmong writes) (sym among_are) raising.among)

  pub staying_joined : (rows : List ProgramRows) (p : OpId) → staying rows p awaited (joined runs) (joined among) ≡ staying rows p awaited writes writes
  staying_joined rows p =
      ap (λ ws. staying rows p awaited ws (joined among)) runs_are ∙ ap (staying rows p awaited writes) among_are ∙ staying_same rows p awaited writes these raising

  pub reached_joined : (rows : List ProgramRows) (p : OpId)
      → list_any (λ f. raises_it awaited f && is_reached_in rows p (joined runs) f) (joined among) ≡ list_any (λ f. raises_it awaited f && is_reached_in rows p writes f) writes
  reached_joined rows p =
      ap (λ ws. list_any (λ f. raises_it awaited f && is_reached_in rows p ws f) (joined among)) runs_are
      ∙ ap (list_any (λ f. raises_it awaited f && is_reached_in rows p writes f)) among_are
      ∙ reached_same rows p awaited writes these raising

-- How they are found.

pub drop_twice : (i n : ℕ) (ws : List WordWrite) → drop (i + n) ws ≡ drop n (drop i ws)
drop_twice zero n ws = let same : 0 + n ≡ n = omega arith in ap (λ k. drop k ws) same
drop_twice (suc i) n [] = drop_all (suc i + n) [] (omega arith) ∙ sym (drop_all n [] (omega arith))
drop_twice (suc i) n (w ∷ ws) = let same : suc i + n ≡ suc (i + n) = omega arith in ap (λ k. drop k (w ∷ ws)) same ∙ drop_twice i n ws

filter_cons : (test : WordWrite → Bool) (w : WordWrite) (ws : List WordWrite) (b : Bool) → test w ≡ b → filter test (w ∷ ws) ≡ cond b (w ∷ []) [] ++ filter test ws
filter_cons test w ws true pass = ap (λ b. cond b (w ∷ filter test ws) (filter test ws)) pass
filter_cons test w ws false fail = ap (λ b. cond b (w ∷ filter test ws) (filter test ws)) fail

module _ (awaited : Awaited) (run old : List WordWrite) where
  -- with those behind the place they are all of the stretch
  pub record Found (place : ℕ) (found : List WordWrite) : Type 0 where
    pub within : place ≤ length run
    pub all : found ++ filter (raises_it awaited) (drop place run) ≡ old ++ filter (raises_it awaited) run

  pub found_none : (place : ℕ) → place ≤ length run → drop place run ≡ from_first (raises_it awaited) run → Found place old
  found_none place within is = record { within = within; all = ap (λ ws. old ++ ws) (ap (filter (raises_it awaited)) is ∙ filter_from (raises_it awaited) run) }

  pub found_on : (place next : ℕ) (w d : WordWrite) (found : List WordWrite) (b : Bool) → place < length run → w ≡ get_or run place d → raises_it awaited w ≡ b → next ≤ length run → drop next run ≡ from_first (raises_it awaited) (drop (place + 1) run) → Found place found
      → Found next (found ++ cond b (w ∷ []) [])
  found_on place next w d found b within is raises next_within next_is so_far =
      let test : WordWrite → Bool = raises_it awaited in
      let one : List WordWrite = cond b (w ∷ []) [] in
      let more : suc place ≡ place + 1 = omega arith in
      let behind : List WordWrite = drop (place + 1) run in
      let parts : drop place run ≡ w ∷ behind = drop-cons run place d within ∙ ap (λ v. v ∷ drop (suc place) run) (sym is) ∙ ap (λ n. w ∷ drop n run) more in
      let rest : filter test (drop next run) ≡ filter test behind = ap (filter test) next_is ∙ filter_from test behind in
      let here : filter test (drop place run) ≡ one ++ filter test behind = ap (filter test) parts ∙ filter_cons test w behind b raises in
      record {
        within = next_within;
        all = append_assoc found one (filter test (drop next run)) ∙ ap (λ ws. found ++ (one ++ ws)) rest ∙ ap (λ ws. found ++ ws) (sym here) ∙ so_far.all;
      }

  pub found_all : (place : ℕ) (found : List WordWrite) → length run ≤ place → Found place found → found ≡ old ++ filter (raises_it awaited) run
  found_all place found past so_far =
      sym (append-nil found) ∙ ap (λ ws. found ++ filter (raises_it awaited) ws) (sym (drop_all place run past)) ∙ so_far.all

-- What is listed.

abbrev pub derived_want : Want → Want → Bool
derived_want a b = eqb a.mask b.mask && (eqb a.wanted b.wanted && beq a.differs b.differs)

ways_round : (a b : Bool) → beq a b ≡ same_direction a b
ways_round true true = refl
ways_round true false = refl
ways_round false true = refl
ways_round false false = refl

ways_round_true : (a b : Bool) → same_direction a b ≡ true → a ≡ b
ways_round_true true true is = refl
ways_round_true true false is = cc
ways_round_true false true is = cc
ways_round_true false false is = refl

derived_want_same : (a b : Want) → derived_want a b ≡ same_want a b
derived_want_same a b = ap (λ t. eqb a.mask b.mask && (eqb a.wanted b.wanted && t)) (ways_round a.differs b.differs)

same_want_true : (a b : Want) → same_want a b ≡ true → a ≡ b
same_want_true a b is =
    let built : ℕ → ℕ → Bool → Want = λ mask wanted differs. record { mask = mask; wanted = wanted; differs = differs } in
    let parts = and_parts (a.mask == b.mask) (a.wanted == b.wanted && same_direction a.differs b.differs) is in
    let others = and_parts (a.wanted == b.wanted) (same_direction a.differs b.differs) parts.1 in
    ap (λ n. built n a.wanted a.differs) (eqb-true a.mask b.mask parts.0)
    ∙ ap (λ n. built b.mask n a.differs) (eqb-true a.wanted b.wanted others.0)
    ∙ ap (built b.mask b.wanted) (ways_round_true a.differs b.differs others.1)

abbrev pub derived_awaited : Awaited → Awaited → Bool
derived_awaited a b = derived_word a.word b.word && derived_want a.want b.want

derived_awaited_same : (a b : Awaited) → derived_awaited a b ≡ same_awaited a b
derived_awaited_same a b = ap (λ t. t && derived_want a.want b.want) (derived_word_same a.word b.word) ∙ ap (λ t. same_word a.word b.word && t) (derived_want_same a.want b.want)

same_awaited_true : (a b : Awaited) → same_awaited a b ≡ true → a ≡ b
same_awaited_true a b is =
    let built : Word → Want → Awaited = λ word want. record { word = word; want = want } in
    let parts = and_parts (same_word a.word b.word) (same_want a.want b.want) is in
    ap (λ w. built w a.want) (same_word_true a.word b.word parts.0) ∙ ap (built b.word) (same_want_true a.want b.want parts.1)

pub found_agrees : {V : Type 0} (awaited : Awaited) (lists : List (Awaited × V)) → lookup (derived_awaited awaited) lists ≡ lookup (same_awaited awaited) lists
found_agrees awaited lists = lookup_agree (derived_awaited awaited) (same_awaited awaited) (derived_awaited_same awaited) lists

pub keeps_put : (entries : List (Word × List WordWrite)) (awaited : Awaited) (these : List WordWrite) (old new : List (Awaited × List WordWrite)) → these ≡ filter (raises_it awaited) (writes_at awaited.word entries)
    → ((q : Awaited) → lookup (derived_awaited q) new ≡ cond (derived_awaited awaited q) (Some these) (lookup (derived_awaited q) old)) → KeepsRaising entries old → KeepsRaising entries new
keeps_put entries awaited these old new are puts keeps =
    record {
      of_awaited = λ q.
          let K : Option (List WordWrite) → Type 0 = λ found. IfSome found (λ list. list ≡ filter (raises_it q) (writes_at q.word entries)) in
          let both : found_for q new ≡ cond (same_awaited awaited q) (Some these) (found_for q old) =
          sym (found_agrees q new) ∙ puts q
          ∙ ap (λ b. cond b (Some these) (lookup (derived_awaited q) old)) (derived_awaited_same awaited q)
          ∙ ap (λ r. cond (same_awaited awaited q) (Some these) r) (found_agrees q old) in
          let P : Bool → Type 0 = λ b. same_awaited awaited q ≡ b → K (cond b (Some these) (found_for q old)) in
          subst K (sym both)
          ((elim (same_awaited awaited q) as P [
            | true ↦ λ same. subst (λ a. these ≡ filter (raises_it a) (writes_at a.word entries)) (same_awaited_true awaited q same) are
            | false ↦ λ _. keeps.of_awaited q
          ]) refl);
    }
