-- What was noted down of a run, event by event.
use Rattle.std.proofs.Common.{◌≡◌, ℕ, ◌+◌, ◌<◌, ◌≤◌, ◌^◌, suc, Bool, take, drop, get_or, length, reverse, List, [], ◌∷◌, ◌++◌, is_some, sym, ap, subst, ◌∙◌, arith, append_assoc}
use Rattle.std.proofs.Math.Seq.{drop-cons}
use Rattle.pci_command.specs.declared.op_id.OpId.{OpId}
use Rattle.audit_clocks.specs.Tables.{value_of}
use Rattle.law_audit.specs.Audit.{Finding, findings}
use Rattle.draw_told.specs.declared.told.Span.{Span}
use Rattle.draw_told.specs.Told.{span_of, spans_in, spans_of, is_loud_in, is_loud, is_key_in, is_key}
use Rattle.std.proofs.lemmas.List.{length-reverse, length-take-le, take_more, take_all, reverse-append}
use Rattle.board_model.specs.declared.board.Board.{Board}
use Rattle.history_model.specs.declared.event.Event.{Event}
use Rattle.history_model.specs.Runs.{history_of}
use Rattle.draw_told.specs.Kept.{EndTables, EndsNext, TellsEnds, TouchTables, Touches, TellsTouches, TellsTold, key_at}
use Rattle.draw_told.proofs.EndLemmas.{ends_next}
use Rattle.draw_told.proofs.LandingLemmas.{touches_next}

turned : (events : List Event) (i : ℕ) (d : Event) → i < length events → history_of (take (i + 1) events) ≡ get_or events i d ∷ history_of (take i events)
turned events i d within = ap (λ (xs : List Event). reverse xs) (take_more events i d within) ∙ reverse-append (take i events) (get_or events i d ∷ [])

counted : (events : List Event) (i : ℕ) → i < length events → i + 1 ≡ suc (length (history_of (take i events)))
counted events i within = omega (arith, length-reverse (take i events), length-take-le i events (omega (arith, within)))

pub ends_more : (events : List Event) (i : ℕ) (d : Event) (old new : EndTables) → i < length events → TellsEnds (history_of (take i events)) old → EndsNext (i + 1) (get_or events i d) old new → TellsEnds (history_of (take (i + 1) events)) new
ends_more events i d old new within tells next =
    subst (λ h. TellsEnds h new) (sym (turned events i d within)) (ends_next (history_of (take i events)) (get_or events i d) (i + 1) old new (counted events i within) tells next)

pub touches_more : (board : Board) (events : List Event) (i : ℕ) (d : Event) (old new : TouchTables) → i < length events → length events < 2 ^ 31 → TellsTouches board (history_of (take i events)) old → Touches board (i + 1) (get_or events i d) old new
    → TellsTouches board (history_of (take (i + 1) events)) new
touches_more board events i d old new within few tells next =
    subst (λ h. TellsTouches board h new) (sym (turned events i d within))
    (touches_next board (history_of (take i events)) (get_or events i d) (i + 1) old new (omega (arith, within, few)) (counted events i within) tells next)

-- all events
pub ends_all : (events : List Event) (i : ℕ) (ends : EndTables) → length events ≤ i → TellsEnds (history_of (take i events)) ends → TellsEnds (history_of events) ends
ends_all events i ends past tells = subst (λ xs. TellsEnds (history_of xs) ends) (take_all i events past) tells

pub touches_all : (board : Board) (events : List Event) (i : ℕ) (touches : TouchTables) → length events ≤ i → TellsTouches board (history_of (take i events)) touches → TellsTouches board (history_of events) touches
touches_all board events i touches past tells = subst (λ xs. TellsTouches board (history_of xs) touches) (take_all i events past) tells

-- one line more
pub spans_more : (board : Board) (h : List Event) (found : List Finding) (i : ℕ) (d : Finding) (span : Span) (all next whole : List Span) → i < length found → all ++ spans_in board h (drop i found) ≡ whole → d ≡ get_or found i d
    → span ≡ span_of board h d → next ≡ all ++ span ∷ [] → next ++ spans_in board h (drop (i + 1) found) ≡ whole
spans_more board h found i d span all next whole within so there span_is next_is =
    let rest : List Span = spans_in board h (drop (i + 1) found) in
    let e : suc i ≡ i + 1 = omega arith in
    let split : spans_in board h (drop i found) ≡ span ∷ rest =
    ap (spans_in board h) (drop-cons found i d within) ∙ ap (λ (k : ℕ). spans_in board h (get_or found i d ∷ drop k found)) e ∙ ap (λ (f : Finding). span_of board h f ∷ rest) (sym there) ∙ ap (λ (s : Span). s ∷ rest) (sym span_is) in
    ap (λ (l : List Span). l ++ rest) next_is ∙ append_assoc all (span ∷ []) rest ∙ ap (λ (l : List Span). all ++ l) (sym split) ∙ so

-- all that the lines tell
pub told_all : (board : Board) (events : List Event) (found seen heard marked : List Finding) (spans given : List Span) (loud : List (OpId × Bool)) (keys : List Bool)
    → found ≡ findings board (history_of events) → seen ≡ found → heard ≡ found → marked ≡ found
    → spans ≡ spans_in board (history_of events) seen → ((o : OpId) → is_some (value_of o loud) ≡ is_loud_in heard o) → given ≡ spans
    → (given ≡ spans_in board (history_of events) marked → (n : ℕ) → 0 < n → n < length events + 1 → key_at keys n ≡ is_key_in board (history_of events) marked n)
    → TellsTold board events (record { found = found; spans = spans; loud = loud; keys = keys })
unfolding spans_of is_loud is_key
told_all board events found seen heard marked spans given loud keys found_is seen_is heard_is marked_is spans_is loud_is given_is keys_is =
    let h : List Event = history_of events in
    let given_all : given ≡ spans_in board h marked = given_is ∙ spans_is ∙ ap (spans_in board h) (seen_is ∙ sym marked_is) in
    record {
      found = found_is;
      spans = spans_is ∙ ap (spans_in board h) (seen_is ∙ found_is);
      loud = λ o. loud_is o ∙ ap (λ f. is_loud_in f o) (heard_is ∙ found_is);
      keys = λ n above within. keys_is given_all n above (omega (arith, within)) ∙ ap (λ f. is_key_in board h f n) (marked_is ∙ found_is);
    }
