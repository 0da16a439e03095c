-- The equality that is derived for operations and dwords is that of the definitions, and what a table has after a change.
use Rattle.std.proofs.Common.{◌≡◌, ℕ, Bool, true, false, ◌&&◌, ◌==◌, cond, eqb, eqb-true, List, [], ◌∷◌, ◌++◌, Option, None, Some, refl, sym, ap, ◌∙◌, append-nil}
use Rattle.std.proofs.lemmas.Bool.{and_parts}
use Rattle.std.specs.Map.{lookup}
use denote.Enum.Bare.{sameb}
use Rattle.pci_command.specs.contracts.command.Space.{the_type}
use Rattle.pci_command.specs.declared.command.Space.{Space}
use Rattle.pci_command.specs.declared.command.Space.TheVariants.{Mem, Io, Cfg}
use Rattle.pci_command.specs.declared.op_id.OpId.{OpId}
use Rattle.pci_command.specs.Same.{same_op, same_space}
use Rattle.board_model.specs.declared.word.Word.{Word}
use Rattle.audit_clocks.specs.Tables.{list_in, same_word, Lands, Puts, TakesWord, PutsWord}

abbrev pub derived_word : Word → Word → Bool
derived_word a b = eqb a.target b.target && (sameb the_type a.space b.space && eqb a.address b.address)

abbrev pub derived_op : OpId → OpId → Bool
derived_op a b = eqb a.master b.master && (eqb a.index b.index && eqb a.attempt b.attempt)

spaces : (a b : Space) → sameb the_type a b ≡ same_space a b
spaces Mem Mem = refl
spaces Mem Io = refl
spaces Mem Cfg = refl
spaces Io Mem = refl
spaces Io Io = refl
spaces Io Cfg = refl
spaces Cfg Mem = refl
spaces Cfg Io = refl
spaces Cfg Cfg = refl

and_assoc : (a b c : Bool) → (a && (b && c)) ≡ ((a && b) && c)
and_assoc true b c = refl
and_assoc false b c = refl

pub derived_word_same : (a b : Word) → derived_word a b ≡ same_word a b
derived_word_same a b =
    rw (spaces a.space b.space) (and_assoc (eqb a.target b.target) (same_space a.space b.space) (eqb a.address b.address))

pub derived_op_same : (a b : OpId) → derived_op a b ≡ same_op a b
derived_op_same a b = and_assoc (eqb a.master b.master) (eqb a.index b.index) (eqb a.attempt b.attempt)

pub lookup_agree : {K V : Type 0} (f g : K → Bool) → ((k : K) → f k ≡ g k) → (es : List (K × V)) → lookup f es ≡ lookup g es
lookup_agree f g same [] = refl
lookup_agree {K} {V} f g same (e ∷ es) =
    ap (λ (b : Bool). cond b (Some e.1) (lookup f es)) (same e.0) ∙ ap (λ (r : Option V). cond (g e.0) (Some e.1) r) (lookup_agree f g same es)

-- after a value was put
pub op_puts : {V : Type 0} (o : OpId) (value : V) (old new : List (OpId × V)) → ((q : OpId) → lookup (derived_op q) new ≡ cond (derived_op o q) (Some value) (lookup (derived_op q) old)) → Puts o value old new
op_puts {V} o value old new is =
    record {
      each = λ q.
          sym (lookup_agree (derived_op q) (same_op q) (derived_op_same q) new)
          ∙ is q
          ∙ ap (λ (b : Bool). cond b (Some value) (lookup (derived_op q) old)) (derived_op_same o q)
          ∙ ap (λ (r : Option V). cond (same_op o q) (Some value) r) (lookup_agree (derived_op q) (same_op q) (derived_op_same q) old);
    }

-- Dwords.

same_space_true : (a b : Space) → same_space a b ≡ true → a ≡ b
same_space_true Mem Mem is = refl
same_space_true Mem Io is = cc
same_space_true Mem Cfg is = cc
same_space_true Io Mem is = cc
same_space_true Io Io is = refl
same_space_true Io Cfg is = cc
same_space_true Cfg Mem is = cc
same_space_true Cfg Io is = cc
same_space_true Cfg Cfg is = refl

pub same_word_true : (a b : Word) → same_word a b ≡ true → a ≡ b
same_word_true a b is =
    let built : ℕ → Space → ℕ → Word = λ target space address. record { target = target; space = space; address = address } in
    let parts = and_parts (a.target == b.target && same_space a.space b.space) (a.address == b.address) is in
    let first = and_parts (a.target == b.target) (same_space a.space b.space) parts.0 in
    ap (λ n. built n a.space a.address) (eqb-true a.target b.target first.0)
    ∙ ap (λ s. built b.target s a.address) (same_space_true a.space b.space first.1)
    ∙ ap (built b.target b.space) (eqb-true a.address b.address parts.1)

-- a row that was taken out and put back with one more
pub lands_back : (word : Word) (op : OpId) (old mid new : List (Word × List OpId)) (found : Option (List OpId)) (row longer : List OpId)
    → found ≡ lookup (derived_word word) old → row ≡ list_in found → longer ≡ row ++ op ∷ []
    → ((q : Word) → lookup (derived_word q) mid ≡ cond (derived_word word q) None (lookup (derived_word q) old))
    → ((q : Word) → lookup (derived_word q) new ≡ cond (derived_word word q) (Some longer) (lookup (derived_word q) mid))
    → Lands old new (λ q. cond (same_word word q) (op ∷ []) [])
lands_back word op old mid new found row longer found_is row_is longer_is out back =
    record {
      each = λ q.
          let was : Option (List OpId) = lookup (same_word q) old in
          let agree_old : lookup (derived_word q) old ≡ was = lookup_agree (derived_word q) (same_word q) (derived_word_same q) old in
          let agree_new : lookup (derived_word q) new ≡ lookup (same_word q) new = lookup_agree (derived_word q) (same_word q) (derived_word_same q) new in
          let both : lookup (same_word q) new ≡ cond (same_word word q) (Some longer) (cond (same_word word q) None was) =
          sym agree_new ∙ back q
          ∙ ap (λ found. cond (derived_word word q) (Some longer) found) (out q)
          ∙ ap (λ found. cond (derived_word word q) (Some longer) (cond (derived_word word q) None found)) agree_old
          ∙ ap (λ b. cond b (Some longer) (cond b None was)) (derived_word_same word q) in
          let P : Bool → Type 0 = λ b. same_word word q ≡ b → list_in (cond b (Some longer) (cond b None was)) ≡ list_in was ++ cond b (op ∷ []) [] in
          ap list_in both
          ∙ (elim (same_word word q) as P [
            | true ↦ λ same.
                let one : word ≡ q = same_word_true word q same in
                let found_q : found ≡ was = found_is ∙ ap (λ w. lookup (derived_word w) old) one ∙ agree_old in
                longer_is ∙ ap (λ xs. xs ++ op ∷ []) (row_is ∙ ap list_in found_q)
            | false ↦ λ _. sym (append-nil (list_in was))
          ]) refl;
    }

-- after the value of a dword was taken, or put
word_agrees : {V : Type 0} (q : Word) (es : List (Word × V)) → lookup (derived_word q) es ≡ lookup (same_word q) es
word_agrees q es = lookup_agree (derived_word q) (same_word q) (derived_word_same q) es

pub word_takes : {V : Type 0} (word : Word) (old new : List (Word × V)) → ((q : Word) → lookup (derived_word q) new ≡ cond (derived_word word q) None (lookup (derived_word q) old)) → TakesWord word old new
word_takes {V} word old new is =
    record {
      each = λ q.
          sym (word_agrees q new) ∙ is q
          ∙ ap (λ (b : Bool). cond b None (lookup (derived_word q) old)) (derived_word_same word q)
          ∙ ap (λ (r : Option V). cond (same_word word q) None r) (word_agrees q old);
    }

pub word_puts : {V : Type 0} (word : Word) (value : V) (old new : List (Word × V)) → ((q : Word) → lookup (derived_word q) new ≡ cond (derived_word word q) (Some value) (lookup (derived_word q) old)) → PutsWord word value old new
word_puts {V} word value old new is =
    record {
      each = λ q.
          sym (word_agrees q new) ∙ is q
          ∙ ap (λ (b : Bool). cond b (Some value) (lookup (derived_word q) old)) (derived_word_same word q)
          ∙ ap (λ (r : Option V). cond (same_word word q) (Some value) r) (word_agrees q old);
    }
