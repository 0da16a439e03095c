-- What each signal reads, in a list.
use Rattle.std.proofs.Common.{◌≡◌, ℕ, ◌+◌, ◌<◌, ◌≤◌, Bool, true, false, eqb, List, [], ◌∷◌, ◌++◌, length, Some, refl, sym, ap, subst, ◌∙◌, arith, slice_get, ◌⊎◌, inl, inr, zero, suc, eqb-true}
use Rattle.std.proofs.Math.ListN.{set}
use Rattle.std.proofs.lemmas.Bool.Decides.{nat_tests}
use Rattle.board_model.specs.declared.board.Board.{Board}
use Rattle.run_waves.specs.declared.reading.SignalReading.{SignalReading}
use Rattle.run_waves.specs.declared.signal.Signal.{Signal}
use Rattle.run_waves.specs.Shown.{Moment}
use Rattle.run_waves.specs.Scenes.{Reads, ReadsFrom, ReadsBelow}
use Rattle.run_waves.proofs.WatchLemmas.{set_here, set_other}

got_push : {X : Type 0} (xs : List X) (x y : X) (k : ℕ) → slice_get (xs ++ y ∷ []) k ≡ Some x → (slice_get xs k ≡ Some x) ⊎ ((k ≡ length xs) × (y ≡ x))
got_push [] x y zero is = inr (refl, cc)
got_push [] x y (suc k) is = cc
got_push (z ∷ xs) x y zero is = inl is
got_push {X} (z ∷ xs) x y (suc k) is =
    let G : Type 0 = (slice_get xs k ≡ Some x) ⊎ ((suc k ≡ suc (length xs)) × (y ≡ x)) in
    elim (got_push xs x y k is) as (λ _. G) [ inl before ↦ inl before | inr last ↦ inr (ap suc last.0, last.1) ]

-- one reading more
pub reads_push : (board : Board) (m : Moment) (signals : List Signal) (readings : List SignalReading) (r : SignalReading) (s : Signal) → ReadsFrom board m signals readings 0 → slice_get signals (length readings) ≡ Some s → Reads board m s r
    → ReadsFrom board m signals (readings ++ r ∷ []) 0
reads_push board m signals readings r s reads there here = λ k signal reading from is got.
    elim (got_push readings reading r k got) as (λ _. Reads board m signal reading) [
      | inl before ↦ reads k signal reading from is before
      | inr last ↦
          let one : Some s ≡ Some signal = sym there ∙ ap (slice_get signals) (sym last.0) ∙ is in
          let same : s ≡ signal = cc in
          let P : Signal → Type 0 = λ x. Reads board m x reading in
          let Q : SignalReading → Type 0 = λ x. Reads board m s x in
          subst P same (subst Q last.1 here)
    ]

-- one reading replaced
pub reads_more : (board : Board) (m : Moment) (signals : List Signal) (shown : List SignalReading) (n : ℕ) (r : SignalReading) (s : Signal) → n < length shown → ReadsBelow board m signals shown n → slice_get signals n ≡ Some s → Reads board m s r
    → ReadsBelow board m signals (set shown n r) (n + 1)
reads_more board m signals shown n r s within below there here = λ k signal reading less is got.
    let P : Bool → Type 0 = λ b. eqb n k ≡ b → Reads board m signal reading in
    (elim (eqb n k) as P [
      | true ↦ λ same.
          let one : n ≡ k = eqb-true n k same in
          let signals_same : Some s ≡ Some signal = sym there ∙ ap (slice_get signals) one ∙ is in
          let readings_same : Some r ≡ Some reading = sym (set_here shown n r within) ∙ ap (slice_get (set shown n r)) one ∙ got in
          let s_is : s ≡ signal = cc in
          let r_is : r ≡ reading = cc in
          let P : Signal → Type 0 = λ x. Reads board m x reading in
          let Q : SignalReading → Type 0 = λ x. Reads board m s x in
          subst P s_is (subst Q r_is here)
      | false ↦ λ differ.
          let before : k < n = grind (arith, nat_tests) in
          below k signal reading before is (sym (set_other shown n k r differ) ∙ got)
    ]) refl

-- one that is kept
pub reads_kept : (board : Board) (m : Moment) (signals : List Signal) (shown : List SignalReading) (n : ℕ) (r : SignalReading) (s : Signal) → ReadsBelow board m signals shown n → slice_get signals n ≡ Some s → slice_get shown n ≡ Some r
    → Reads board m s r → ReadsBelow board m signals shown (n + 1)
reads_kept board m signals shown n r s below there read here = λ k signal reading less is got.
    let P : Bool → Type 0 = λ b. eqb n k ≡ b → Reads board m signal reading in
    (elim (eqb n k) as P [
      | true ↦ λ same.
          let one : n ≡ k = eqb-true n k same in
          let signals_same : Some s ≡ Some signal = sym there ∙ ap (slice_get signals) one ∙ is in
          let readings_same : Some r ≡ Some reading = sym read ∙ ap (slice_get shown) one ∙ got in
          let s_is : s ≡ signal = cc in
          let r_is : r ≡ reading = cc in
          let P : Signal → Type 0 = λ x. Reads board m x reading in
          let Q : SignalReading → Type 0 = λ x. Reads board m s x in
          subst P s_is (subst Q r_is here)
      | false ↦ λ differ.
          let before : k < n = grind (arith, nat_tests) in
          below k signal reading before is got
    ]) refl

-- all of them
pub reads_all : (board : Board) (m : Moment) (signals : List Signal) (shown : List SignalReading) (n : ℕ) → length signals ≤ n → ReadsBelow board m signals shown n → ((k : ℕ) (signal : Signal) → slice_get signals k ≡ Some signal → k < length signals)
    → ReadsFrom board m signals shown 0
reads_all board m signals shown n all below within = λ k signal reading _ is got. below k signal reading (omega (arith, within k signal is)) is got
