-- The chain, one step at a time, as it is computed.
use Rattle.std.proofs.Common.{◌≡◌, ℕ, zero, suc, ◌-◌, ◌≤◌, true, false, ◌&&◌, ◌||◌, List, [], ◌∷◌, ◌++◌, Option, Some, None, refl, sym, ap, ◌∙◌, arith}
use Rattle.list_facts.proofs.FindLemmas.{find_agree}
use Rattle.pci_command.specs.declared.op_id.OpId.{OpId}
use Rattle.pci_command.specs.Same.{same_op}
use Rattle.board_model.specs.declared.board.Board.{Board}
use Rattle.history_model.specs.declared.event.Event.{Event}
use Rattle.history_model.specs.Words.{Landing, landed}
use Rattle.history_model.specs.Knowledge.{up_to_end, Reading, reading_in, reading_or, last_reading, has_landed}
use Rattle.law_fresh.specs.Aware.{Aware, is_behind, shows, aware_of}
use Rattle.history_model.proofs.facts.RequestLemmas.{same_op_true}
use Rattle.law_audit.specs.Chains.{op_in, shown_by, first_shown, joined, to_seen, to_reader, chain_to}
use Rattle.plain_audit.specs.Places.{shows_by, shown_after, last_shown, ArePlaces}

-- what the places show of a reading is what those who know show
shown_reading : (board : Board) (w : OpId) (aware : Aware) (since : List (Option OpId)) → ArePlaces aware since → (g : List Event) (o : OpId) → last_shown board w since g o ≡ shown_by board w aware (last_reading board o g)
shown_reading board w aware since places [] o = refl
shown_reading board w aware since places (e ∷ g) o =
    let older = shown_reading board w aware since places g o in
    let P : Option Reading → Type 0 = λ here. shown_after board w since (last_shown board w since g o) here ≡ shown_by board w aware (reading_or here (last_reading board o g)) in
    elim (reading_in board g o e) as P [
      | None ↦ older
      | Some reading ↦
          let h : List Event = reading.before in
          let alike : (l : Landing) → shows_by w since h l ≡ shows w aware h l = λ l. ap (λ found. has_landed h l.op && (same_op l.op w || is_behind found l.op)) (places.are l.op.master) in
          ap op_in (find_agree (shows_by w since h) (shows w aware h) alike (landed board h reading.word))
    ]

pub seen_first : (board : Board) (w : OpId) (h before : List Event) (since : List (Option OpId)) (o : OpId) (result : Option OpId) → ArePlaces (aware_of board w h) since → before ≡ up_to_end o h
    → result ≡ last_shown board w since before o → result ≡ first_shown board w h o
seen_first board w h before since o result places ends is =
    is ∙ ap (λ k. last_shown board w since k o) ends ∙ shown_reading board w (aware_of board w h) since places (up_to_end o h) o

module _ (board : Board) (w : OpId) (h : List Event) (q : OpId) where
  pub chain_own : (n : ℕ) → 1 ≤ n → same_op q w ≡ true → q ∷ [] ≡ chain_to n board w h q
  chain_own zero least same = absurd (omega (arith, least))
  chain_own (suc n) least same = rw same (ap (λ o. o ∷ []) (same_op_true q w same))

  -- a step to what it saw
  step : (n : ℕ) → same_op q w ≡ false → (found : Option OpId) → first_shown board w h q ≡ found → chain_to (suc n) board w h q ≡ to_reader (λ p. chain_to n board w h p) (aware_of board w h).since q found
  step n other found is = rw other (ap (λ f. to_reader (λ p. chain_to n board w h p) (aware_of board w h).since q f) is)

  pub chain_none : (n : ℕ) → 1 ≤ n → same_op q w ≡ false → first_shown board w h q ≡ None → q ∷ [] ≡ chain_to n board w h q
  chain_none zero least other none = absurd (omega (arith, least))
  chain_none (suc n) least other none = sym (step n other None none)

  chain_on : (n : ℕ) (v p : OpId) → 1 ≤ n → same_op q w ≡ false → first_shown board w h q ≡ Some v → (aware_of board w h).since v.master ≡ Some p
      → joined (chain_to (n - 1) board w h p) p v ++ q ∷ [] ≡ chain_to n board w h q
  chain_on zero v p least other some first = absurd (omega (arith, least))
  chain_on (suc n) v p least other some first =
      let less : suc n - 1 ≡ n = omega arith in
      ap (λ m. joined (chain_to m board w h p) p v ++ q ∷ []) less
      ∙ sym (step n other (Some v) some ∙ ap (λ found. to_seen (λ o. chain_to n board w h o) found v ++ q ∷ []) first)

  -- the list as it is made
  pub chain_made : (n : ℕ) (v p : OpId) → 1 ≤ n → same_op q w ≡ false → first_shown board w h q ≡ Some v → (aware_of board w h).since v.master ≡ Some p
      → (before longer made : List OpId) → before ≡ chain_to (n - 1) board w h p → longer ≡ joined before p v → made ≡ longer ++ q ∷ [] → made ≡ chain_to n board w h q
  chain_made n v p least other some first before longer made is_before is_longer is_made =
      is_made ∙ ap (λ xs. xs ++ q ∷ []) (is_longer ∙ ap (λ xs. joined xs p v) is_before) ∙ chain_on n v p least other some first
