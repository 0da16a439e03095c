-- A word more is kept.
use Rattle.std.proofs.Common.{◌≡◌, ℕ, Bool, true, false, ◌+◌, ◌<◌, length, List, [], ◌∷◌, ◌++◌, None, Some, refl, sym, ap, subst, ◌∙◌, arith, if◌then◌else◌, take, get_or}
use Rattle.std.specs.Prelude.{slice_get}
use Rattle.std.specs.List.{AllByRecursion}
use Rattle.std.proofs.lemmas.List.{length-append, take_more}
use Rattle.list_facts.proofs.EachLemmas.{Each-push, Each-weaker}
use Rattle.board_model.specs.declared.agents.Master.{Master}
use Rattle.circular_buffer.proofs.Places.{slice_get-append_left, slice_get-append_right}
use Rattle.board_model.specs.declared.board.Board.{Board}
use Rattle.history_model.specs.Words.{opens_as}
use Rattle.board_model.specs.declared.word.Word.{Word}
use Rattle.judge_state.specs.State.{WordPlaces}
use Rattle.judge_state.specs.Words.{same_word, place_at, dword, WordState, WordsKnown, StillThere, KnowsRead, KnowsProgram}
use Rattle.judge_state.proofs.WordLemmas.{word_same}

pub still_there : (places : WordPlaces) → StillThere places places
still_there places word there = there

slice_get-behind : (xs : List ℕ) (x : ℕ) → slice_get (xs ++ x ∷ []) (length xs) ≡ Some x
slice_get-behind xs x = slice_get-append_right xs (x ∷ []) (length xs) 0 (omega arith)

slice_get-before : (xs : List ℕ) (x place : ℕ) → place < length xs → slice_get (xs ++ x ∷ []) place ≡ slice_get xs place
slice_get-before xs x place within = slice_get-append_left xs (x ∷ []) place within

abbrev Put : WordPlaces → WordPlaces → Word → ℕ → Type 0
Put old new word place = (q : Word) → place_at new q ≡ (if same_word word q then Some place else place_at old q)

pub known_more : (board : Board) (k : WordState) (word : Word) (places : WordPlaces) (values : List ℕ) → WordsKnown board k → place_at k.places word ≡ None → Put k.places places word (length k.values)
    → values ≡ k.values ++ opens_as board (dword word) ∷ [] → WordsKnown board (record { places = places; values = values })
known_more board k word places values known absent put is =
    record {
      inside = λ q place at. by_same q place at (λ _ n. n < length values)
          (λ _. omega (arith, longer)) (λ old. omega (arith, longer, known.inside q place old));
      apart = λ a b place at too. apart a b place at too;
      opens = λ q place at. by_same q place at (λ r n. slice_get values n ≡ Some (opens_as board (dword r)))
          (λ same. subst (λ (r : Word). slice_get values (length k.values) ≡ Some (opens_as board (dword r))) same (rw is (slice_get-behind k.values (opens_as board (dword word)))))
          (λ old. rw is (slice_get-before k.values (opens_as board (dword word)) place (known.inside q place old) ∙ known.opens q place old));
    } where
      longer : length values ≡ length k.values + 1
      longer = ap (λ (vs : List ℕ). length vs) is ∙ length-append k.values (opens_as board (dword word) ∷ [])

      by_same : (q : Word) (place : ℕ) → place_at places q ≡ Some place → (P : Word → ℕ → Type 0) → (word ≡ q → P q (length k.values)) → (place_at k.places q ≡ Some place → P q place) → P q place
      by_same q place at P new old =
          let Q : Bool → Type 0 = λ b. same_word word q ≡ b → (if b then Some (length k.values) else place_at k.places q) ≡ Some place → P q place in
          (elim (same_word word q) as Q [
            | true ↦ λ same there. (let place_is : length k.values ≡ place = cc in subst (P q) place_is (new (word_same word q same)))
            | false ↦ λ _ there. old there
          ]) refl (sym (put q) ∙ at)

      apart : (a b : Word) (place : ℕ) → place_at places a ≡ Some place → place_at places b ≡ Some place → a ≡ b
      apart a b place at too =
          by_same a place at (λ r n. place_at places b ≡ Some n → r ≡ b)
          (λ new_a there. by_same b (length k.values) there (λ r _. a ≡ r) (λ new_b. sym new_a ∙ new_b) (λ old_b. absurd (omega (arith, known.inside b (length k.values) old_b))))
          (λ old_a there. by_same b place there (λ r n. n ≡ place → a ≡ r) (λ new_b place_is. absurd (omega (arith, known.inside a place old_a, place_is))) (λ old_b _. known.apart a b place old_a old_b) refl)
          too

-- the words of one program more are kept, and those of the programs before still are
pub programs_more : (board : Board) (old new : WordPlaces) (masters : List Master) (i : ℕ) (d : Master) → i < length masters → StillThere old new
    → AllByRecursion (KnowsProgram board old) (take i masters) → KnowsProgram board new (get_or masters i d) → AllByRecursion (KnowsProgram board new) (take (i + 1) masters)
programs_more board old new masters i d within stays known here =
    let each : (master : Master) → KnowsProgram board old master → KnowsProgram board new master =
    λ master knows. Each-weaker (KnowsRead board master.bus old) (KnowsRead board master.bus new) (λ op one target reads owner. stays _ (one target reads owner)) master.ops knows in
    rw (take_more masters i d within) (Each-push (KnowsProgram board new) (take i masters) (get_or masters i d) (Each-weaker (KnowsProgram board old) (KnowsProgram board new) each (take i masters) known) here)
