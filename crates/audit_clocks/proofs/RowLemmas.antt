-- Rows and numbers, one author after the other.
use Rattle.std.proofs.Common.{take_all, ◌≡◌, ◌≢◌, ◌<◌, ◌≤◌, ℕ, ◌+◌, ◌-◌, max, Bool, true, false, eqb, List, [], ◌∷◌, ◌++◌, length, replicate, take, get_or, refl, sym, ap, subst, ◌∙◌, arith}
use Rattle.std.proofs.lemmas.Bool.Decides.{nat_tests}
use Rattle.std.proofs.Math.ListN.{set}
use Rattle.std.proofs.lemmas.List.{get_or-set_same, get_or-set_other, length-set, replicate-append-replicate}
use Rattle.pci_command.specs.declared.op_id.OpId.{OpId}
use Rattle.audit_clocks.specs.Rows.{number, own, row, reached, Raises, Reaches}
use Rattle.audit_clocks.specs.Clocks.{known_at, Learns}

-- of the authors before one it is done, and of the others nothing is
pub record UpTo {X : Type 0} (d : X) (made : ℕ → X → X) (old now : List X) (place : ℕ) : Type 0 where
  pub authors : length now ≡ length old
  pub done : (author : ℕ) → author < place → author < length old → get_or now author d ≡ made author (get_or old author d)
  pub rest : (author : ℕ) → place ≤ author → get_or now author d ≡ get_or old author d

pub up_to_none : {X : Type 0} (d : X) (made : ℕ → X → X) (old : List X) → UpTo d made old old 0
up_to_none d made old = record { authors = refl; done = λ author below within. absurd (omega (arith, below)); rest = λ author at. refl }

pub up_to_next : {X : Type 0} (d : X) (made : ℕ → X → X) (old now : List X) (place : ℕ) (x : X) → place < length now → UpTo d made old now place → x ≡ made place (get_or now place d) → UpTo d made old (set now place x) (place + 1)
up_to_next {X} d made old now place x within so is =
    record {
      authors = length-set now place x ∙ so.authors;
      done = λ author below inside.
          let P : Bool → Type 0 = λ b. eqb author place ≡ b → get_or (set now place x) author d ≡ made author (get_or old author d) in
          (elim (eqb author place) as P [
            | true ↦ λ same.
                let e : author ≡ place = grind (arith, nat_tests) in
                subst (λ a. get_or (set now place x) a d ≡ made a (get_or old a d)) (sym e) (get_or-set_same now place x d within ∙ (is ∙ ap (λ y. made place y) (so.rest place (omega arith))))
            | false ↦ λ differ.
                let other : author ≢ place = grind (arith, nat_tests) in
                get_or-set_other now place author x d other ∙ so.done author (omega (arith, below, other)) inside
          ]) refl;
      rest = λ author at. get_or-set_other now place author x d (λ e. absurd (omega (arith, at, e))) ∙ so.rest author (omega (arith, at));
    }

-- Numbers.

abbrev pub raised_to : List ℕ → OpId → ℕ → ℕ → ℕ
raised_to start op author n = max n (max (number start author) (own op author))

pub record Raised (start : List ℕ) (op : OpId) (old now : List ℕ) (place : ℕ) : Type 0 where
  pub so : UpTo 0 (raised_to start op) old now place

pub raised_none : (start : List ℕ) (op : OpId) (old : List ℕ) → Raised start op old old 0
raised_none start op old = record { so = up_to_none 0 (raised_to start op) old }

pub raised_next : (start : List ℕ) (op : OpId) (old now next : List ℕ) (place : ℕ) → place < length now → Raised start op old now place → next ≡ set now place (max (number now place) (max (number start place) (own op place))) → Raised start op old next (place + 1)
raised_next start op old now next place within raised is =
    record { so = subst (λ xs. UpTo 0 (raised_to start op) old xs (place + 1)) (sym is) (up_to_next 0 (raised_to start op) old now place (raised_to start op place (number now place)) within raised.so refl) }

pub raised_all : (start : List ℕ) (op : OpId) (old now : List ℕ) (place : ℕ) → length old ≤ place → Raised start op old now place → Raises old now (λ author. max (number start author) (own op author))
raised_all start op old now place all raised =
    record { authors = raised.so.authors; each = λ author below. raised.so.done author (omega (arith, below, all)) below }

-- Rows.

abbrev pub learned_to : List ℕ → OpId → ℕ → List OpId → List OpId
learned_to told op author old = reached op (max (number told author) (own op author)) old

pub record Learned (told : List ℕ) (op : OpId) (old now : List (List OpId)) (place : ℕ) : Type 0 where
  pub so : UpTo [] (learned_to told op) old now place

pub reaches_none : (told : List ℕ) (op : OpId) (old : List (List OpId)) → Learned told op old old 0
reaches_none told op old = record { so = up_to_none [] (learned_to told op) old }

pub reaches_next : (told : List ℕ) (op : OpId) (old now next : List (List OpId)) (place : ℕ) → place < length now → Learned told op old now place → next ≡ set now place (reached op (max (number told place) (own op place)) (row now place)) → Learned told op old next (place + 1)
reaches_next told op old now next place within learned is =
    record { so = subst (λ xs. UpTo [] (learned_to told op) old xs (place + 1)) (sym is) (up_to_next [] (learned_to told op) old now place (learned_to told op place (row now place)) within learned.so refl) }

pub reaches_all : (told : List ℕ) (op : OpId) (old now : List (List OpId)) (place : ℕ) → length old ≤ place → Learned told op old now place → Reaches op old now (λ author. max (number told author) (own op author))
reaches_all told op old now place all learned =
    record { authors = learned.so.authors; each = λ author below. learned.so.done author (omega (arith, below, all)) below }

-- a row that is filled up
pub resized : (op : OpId) (count : ℕ) (old new : List OpId) → new ≡ take (max (length old) count) old ++ replicate (max (length old) count - length old) op → new ≡ reached op count old
resized op count old new is =
    let more : max (length old) count - length old ≡ count - length old = omega arith in
    is ∙ ap (λ n. take (max (length old) count) old ++ replicate n op) more ∙ ap (λ xs. xs ++ replicate (count - length old) op) (all_of old (max (length old) count) (omega arith))
  where
    all_of : (xs : List OpId) (n : ℕ) → length xs ≤ n → take n xs ≡ xs
    all_of xs n at_most = take_all n xs at_most

-- one more of the same
pub replicate_more : {X : Type 0} (n : ℕ) (x : X) (xs ys : List X) → xs ≡ replicate n x → ys ≡ xs ++ x ∷ [] → ys ≡ replicate (n + 1) x
replicate_more n x xs ys are is = is ∙ ap (λ zs. zs ++ x ∷ []) are ∙ replicate-append-replicate n 1 x

-- the master of an operation learns
pub learns_inside : (o : OpId) (told : List ℕ) (old new : List (List (List OpId))) (next : List (List OpId)) → o.master < length old → new ≡ set old o.master next
    → Reaches o (get_or old o.master []) next (λ author. max (number told author) (own o author)) → Learns o told old new
learns_inside o told old new next within is reaches =
    let there : known_at new o.master ≡ next = ap (λ xs. known_at xs o.master) is ∙ get_or-set_same old o.master next [] within in
    record {
      masters = ap (λ xs. length xs) is ∙ length-set old o.master next;
      others = λ master other.
          let apart : master ≢ o.master = grind (arith, nat_tests) in
          ap (λ xs. known_at xs master) is ∙ get_or-set_other old o.master master next [] apart;
      authors = ap (λ xs. length xs) there ∙ reaches.authors;
      known = λ author inside below. ap (λ xs. row xs author) there ∙ reaches.each author below;
    }

pub learns_outside : (o : OpId) (told : List ℕ) (old : List (List (List OpId))) → length old ≤ o.master → Learns o told old old
learns_outside o told old beyond =
    record {
      masters = refl;
      others = λ master other. refl;
      authors = refl;
      known = λ author inside below. absurd (omega (arith, inside, beyond));
    }
