-- What the words give to be read.
use Rattle.std.proofs.Common.{◌≡◌, ℕ, ◌<◌, ◌^◌, Bool, true, false, cond, List, [], ◌∷◌, length, append-nil, Option, Some, None, IsSome, find, codes, not, refl, sym, subst, ◌∙◌, ◌≤◌, arith}
use Rattle.std.specs.List.{list_all}
use Rattle.std.proofs.lemmas.Bool.{and_parts}
use Rattle.std.proofs.lemmas.Option.{none-some}
use Rattle.command_runs.specs.generate.Answers.{names_rounds}
use Rattle.command_runs.proofs.generate.ServedLemmas.{names_short}
use Rattle.program_status.specs.declared.status.Status.{Status}
use Rattle.program_words.specs.declared.Form.{Form}
use Rattle.program_words.specs.declared.Form.TheVariants as forms
use Rattle.program_words.specs.declared.TheConstants.{FORMS}
use Rattle.pcitree.specs.Words.{fits, is_of, is_number, form_of}
use Rattle.program_words.specs.Shapes.Shape.{Word, Rounds}
use Rattle.pcitree.specs.Given.{number_in, number_of, given_by, left_by, given, left, IsGiven, reads_file}
use Rattle.pcitree.specs.Answers.{limit_of, AnswersTo, Refuses}
use Rattle.pcitree.specs.Ends.{ReadsInput, AnswersInput}
use Rattle.pcitree.specs.Stops.{StopsAnswering}
use Rattle.pcitree.proofs.StopLemmas.{refused_answer}
use Rattle.program_words.specs.Shapes.{Shape, input_limit, parts_of}

pub find_passes : {X : Type 0} (test : X → Bool) (xs : List X) (x : X) → find test xs ≡ Some x → test x ≡ true
find_passes test [] x found = cc
find_passes test (y ∷ ys) x found =
    let P : Bool → Type 0 = λ b. test y ≡ b → cond b (Some y) (find test ys) ≡ Some x → test x ≡ true in
    (elim (test y) as P [
      | true ↦ λ e f. let same : y ≡ x = cc in subst (λ z. test z ≡ true) same e
      | false ↦ λ e f. find_passes test ys x f
    ]) refl found

-- a form that reads a file is given whatever that holds
pub given_file : (form : Form) (input : List ℕ) → reads_file form ≡ true → IsGiven form input
given_file forms.Generate input reads = absurd cc
given_file form input reads = tt

-- the words of `generate N`
rounds_given : (words : List (List ℕ)) (number : List ℕ) → is_of (parts_of forms.Generate) [] words ≡ true → number_of forms.Generate words ≡ Some number → names_rounds number ≡ true
rounds_given [] number are found = cc
rounds_given (word ∷ []) number are found = cc
rounds_given (word ∷ other ∷ words) number are found =
    let same : other ≡ number = cc in
    let parts = and_parts (fits (Word (codes "generate")) [] word) (is_of (Rounds ∷ []) word (other ∷ words)) are in
    let more = and_parts (names_rounds other) (is_of [] other words) parts.1 in
    subst (λ n. names_rounds n ≡ true) same more.0

-- a number among words of a form is given to it
pub given_number : (form : Form) (words : List (List ℕ)) (number : List ℕ) → is_of (parts_of form) [] words ≡ true → number_of form words ≡ Some number → IsGiven form number
given_number forms.Generate words number are found = rounds_given words number are found
given_number form words number are found = tt

-- the other forms have no number
no_numbers : (parts : List Shape) (words : List (List ℕ)) → list_all (λ part. not (is_number part)) parts ≡ true → number_in parts words ≡ None
no_numbers [] words all = refl
no_numbers (part ∷ parts) [] all = refl
no_numbers (part ∷ parts) (word ∷ words) all =
    let both = and_parts (not (is_number part)) (list_all (λ p. not (is_number p)) parts) all in
    let P : Bool → Type 0 = λ b. not b ≡ true → cond b (Some word) (number_in parts words) ≡ None in
    (elim (is_number part) as P [ true ↦ λ e. absurd cc | false ↦ λ e. no_numbers parts words both.1 ]) both.0

-- and a number is short
pub number_short : (form : Form) (words : List (List ℕ)) (number : List ℕ) → is_of (parts_of form) [] words ≡ true → number_of form words ≡ Some number → length number ≤ limit_of form
number_short forms.Generate words number are found = names_short number (rounds_given words number are found)
number_short form words number are found = absurd (none-some number (sym (no_numbers (parts_of form) words refl) ∙ found))

-- words of a form that has no number among them name a file
no_number : (words : List (List ℕ)) → is_of (parts_of forms.Generate) [] words ≡ true → number_of forms.Generate words ≡ None → ⊥
no_number [] are none = cc
no_number (word ∷ []) are none =
    let parts = and_parts (fits (Word (codes "generate")) [] word) false are in cc
no_number (word ∷ other ∷ words) are none = cc

pub reads_by : (form : Form) (words : List (List ℕ)) → is_of (parts_of form) [] words ≡ true → number_of form words ≡ None → reads_file form ≡ true
reads_by forms.Generate words are none = absurd (no_number words are none)
reads_by form words are none = refl

-- the words are of the form that is found
pub form_is_of : (words : List (List ℕ)) (form : Form) → form_of words ≡ Some form → is_of (parts_of form) [] words ≡ true
form_is_of words form found = find_passes (λ f. is_of (parts_of f) [] words) FORMS form found

-- what holds where one form has a number holds where the other has one: it is the same
pub same_form : (P : Type 0) (known : Option Form) (form other : Form) (words : List (List ℕ)) → known ≡ Some form → known ≡ Some other → (IsSome (number_of form words) → P) → IsSome (number_of other words) → P
same_form P known form other words is found holds some =
    let same : other ≡ form = cc in holds (subst (λ f. IsSome (number_of f words)) same some)

-- What a number gives, and what a source gives.

pub number_reads : (form : Form) (number : List ℕ) → length number ≤ limit_of form → ReadsInput form (Some number) (Some []) number
number_reads form number short = record { read = sym (append-nil number); at_end = refl; within = short }

pub number_answers : (form : Form) (words : List (List ℕ)) (number text : List ℕ) (ending : Status) → length number ≤ limit_of form → AnswersTo form words number text ending → AnswersInput form words (Some number) (Some []) text ending
number_answers form words number text ending short answers = record { input = number; reads = number_reads form number short; answers = answers }

-- What is answered, or refused, of a number among the words, and else of what the source holds.

pub number_answered : (form : Form) (words : List (List ℕ)) (held rest : Option (List ℕ)) (number text : List ℕ) (ending : Status) → is_of (parts_of form) [] words ≡ true → number_of form words ≡ Some number → AnswersTo form words number text ending
    → AnswersInput form words (given form words held) (left form words rest) text ending
number_answered form words held rest number text ending are found answers =
    subst (λ n. AnswersInput form words (given_by n held) (left_by n rest) text ending) (sym found) (number_answers form words number text ending (number_short form words number are found) answers)

pub number_refused : (form : Form) (words : List (List ℕ)) (held rest : Option (List ℕ)) (before now : ℕ) (number : List ℕ) (status : Status) → is_of (parts_of form) [] words ≡ true → number_of form words ≡ Some number → Refuses form words number status
    → StopsAnswering form words (given form words held) (left form words rest) before now status
number_refused form words held rest before now number status are found refuses =
    subst (λ n. StopsAnswering form words (given_by n held) (left_by n rest) before now status) (sym found)
    (refused_answer form words (Some number) (Some []) before now number status (number_reads form number (number_short form words number are found)) refuses)

pub file_answered : (form : Form) (words : List (List ℕ)) (held rest : Option (List ℕ)) (text : List ℕ) (ending : Status) → number_of form words ≡ None → AnswersInput form words held rest text ending → AnswersInput form words (given form words held) (left form words rest) text ending
file_answered form words held rest text ending none answers = subst (λ n. AnswersInput form words (given_by n held) (left_by n rest) text ending) (sym none) answers

pub file_refused : (form : Form) (words : List (List ℕ)) (held rest : Option (List ℕ)) (before now : ℕ) (status : Status) → number_of form words ≡ None → StopsAnswering form words held rest before now status
    → StopsAnswering form words (given form words held) (left form words rest) before now status
file_refused form words held rest before now status none stops = subst (λ n. StopsAnswering form words (given_by n held) (left_by n rest) before now status) (sym none) stops

pub short_enough : (form : Form) (words : List (List ℕ)) (number : List ℕ) → input_limit form < 2 ^ 31 → is_of (parts_of form) [] words ≡ true → number_of form words ≡ Some number → length number < 2 ^ 31
short_enough form words number small are found = let short = number_short form words number are found in omega (arith, small, short)

abbrev none_of : Option (List ℕ)
none_of = None

not_some : IsSome none_of → ⊥
not_some some = cc

pub none_has : (P : Type 0) (form : Form) (words : List (List ℕ)) → number_of form words ≡ None → IsSome (number_of form words) → P
none_has P form words none some = absurd (not_some (subst (λ (n : Option (List ℕ)). IsSome n) none some))
