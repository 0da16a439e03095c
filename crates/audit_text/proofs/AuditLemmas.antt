-- What was noted down and found so far, after one event more.
use Rattle.std.proofs.Common.{◌≡◌, ℕ, ◌+◌, ◌<◌, ◌≤◌, take, drop, get_or, length, reverse, List, [], ◌∷◌, ◌++◌, sym, ap, subst, ◌∙◌, arith}
use Rattle.std.proofs.lemmas.List.{length-reverse, length-take-le, take_more, take_all, reverse-append, take-append-drop}
use Rattle.board_model.specs.declared.board.Board.{Board}
use Rattle.history_model.specs.declared.event.Event.{Event}
use Rattle.history_model.specs.Runs.{Run, history_of}
use Rattle.history_model.specs.Program.{ended}
use Rattle.law_lanes.proofs.Laws.{Run-before}
use Rattle.law_audit.specs.Audit.{Finding, findings}
use Rattle.law_audit.specs.Audit as audit
use Rattle.board_model.specs.Valid.{IsValid}
use Rattle.audit_landings.specs.Told.{ToldsFor}
use Rattle.audit_landings.proofs.Laws.{tolds_first}
use Rattle.audit_text.specs.Notes.{Notes, no_notes, end_in, Happens}
use Rattle.audit_text.specs.Search.{Searchable}
use Rattle.audit_text.specs.Stands.{StandsFor}
use Rattle.audit_text.specs.Found.{findings_in}
use Rattle.audit_text.proofs.FoundLemmas.{found_same}
use Rattle.audit_text.proofs.StandsLemmas.{stands_first, stands_next}
use Rattle.audit_text.proofs.KeptLemmas.{tolds_next, can_search}

-- after so many events
pub record SoFar (board : Board) (h : List Event) (notes : Notes) (all : List Finding) : Type 0 where
  pub stands : StandsFor board h notes
  pub tolds : ToldsFor (length board.masters) notes.landings.whole notes.clocks.starts notes.landings.landed notes.landings.tolds
  pub found_is : all ≡ findings board h

pub so_far_none : (board : Board) (notes : Notes) (all : List Finding) → all ≡ [] → notes ≡ no_notes (length board.masters) → SoFar board [] notes all
so_far_none board notes all none is =
    record {
      stands = stands_first board notes is;
      tolds = subst (λ (n : Notes). ToldsFor (length board.masters) n.landings.whole n.clocks.starts n.landings.landed n.landings.tolds) (sym is) (tolds_first (length board.masters) []);
      found_is = none;
    }

step : (board : Board) (valid : IsValid board) (h : List Event) (e : Event) (notes next : Notes) (all longer : List Finding) (index : ℕ) → Run board (e ∷ h) → index ≡ length h → SoFar board h notes all
    → Happens board index e notes next
    → longer ≡ all ++ findings_in (length board.masters) next (end_in e)
    → SoFar board (e ∷ h) next longer
step board valid h e notes next all longer index run counted so happens longer_is =
    let stands : StandsFor board (e ∷ h) next = stands_next board valid h notes so.stands e index next run counted happens in
    let found : findings_in (length board.masters) next (end_in e) ≡ audit.findings_in board (e ∷ h) (ended e) = found_same board valid (e ∷ h) next run stands e in
    let new : List Finding = audit.findings_in board (e ∷ h) (ended e) in
    record {
      stands = stands;
      tolds = tolds_next board h e index notes next run so.stands stands happens;
      found_is =
          longer_is
          ∙ ap (λ xs. all ++ xs) found
          ∙ ap (λ xs. xs ++ new) so.found_is;
    }

-- the first events of a run are a run
first_run : (board : Board) (events : List Event) (i : ℕ) → Run board (history_of events) → Run board (history_of (take i events))
first_run board events i run =
    let turned : history_of events ≡ reverse (drop i events) ++ history_of (take i events) =
    ap (λ (xs : List Event). reverse xs) (sym (take-append-drop i events)) ∙ reverse-append (take i events) (drop i events) in
    Run-before board (reverse (drop i events)) (history_of (take i events)) (subst (Run board) turned run)

-- one event more of a trace
pub so_far_more : (board : Board) (valid : IsValid board) (events : List Event) (i : ℕ) (d : Event) (notes next : Notes) (all longer : List Finding) → Run board (history_of events) → i < length events
    → SoFar board (history_of (take i events)) notes all
    → Happens board i (get_or events i d) notes next
    → longer ≡ all ++ findings_in (length board.masters) next (end_in (get_or events i d))
    → SoFar board (history_of (take (i + 1) events)) next longer
so_far_more board valid events i d notes next all longer run within so happens longer_is =
    let e : Event = get_or events i d in
    let h : List Event = history_of (take i events) in
    let turned : history_of (take (i + 1) events) ≡ e ∷ h =
    ap (λ (xs : List Event). reverse xs) (take_more events i d within) ∙ reverse-append (take i events) (e ∷ []) in
    let run_e : Run board (e ∷ h) = subst (Run board) turned (first_run board events (i + 1) run) in
    let counted : i ≡ length h = sym (length-reverse (take i events) ∙ length-take-le i events (omega (arith, within))) in
    subst (λ g. SoFar board g next longer) (sym turned) (step board valid h e notes next all longer i run_e counted so happens longer_is)

-- all events
pub so_far_all : (board : Board) (events : List Event) (i : ℕ) (notes : Notes) (all : List Finding) → length events ≤ i → SoFar board (history_of (take i events)) notes all → all ≡ findings board (history_of events)
so_far_all board events i notes all past so = so.found_is ∙ ap (λ xs. findings board (history_of xs)) (take_all i events past)

-- and it can be searched
pub searchable_more : (board : Board) (valid : IsValid board) (events : List Event) (i : ℕ) (d : Event) (notes next : Notes) (all : List Finding) → Run board (history_of events) → i < length events
    → SoFar board (history_of (take i events)) notes all
    → Happens board i (get_or events i d) notes next
    → Searchable next
searchable_more board valid events i d notes next all run within so happens =
    let e : Event = get_or events i d in
    let h : List Event = history_of (take i events) in
    let turned : history_of (take (i + 1) events) ≡ e ∷ h =
    ap (λ (xs : List Event). reverse xs) (take_more events i d within) ∙ reverse-append (take i events) (e ∷ []) in
    let run_e : Run board (e ∷ h) = subst (Run board) turned (first_run board events (i + 1) run) in
    let counted : i ≡ length h = sym (length-reverse (take i events) ∙ length-take-le i events (omega (arith, within))) in
    can_search board valid (e ∷ h) next run_e (stands_next board valid h notes so.stands e i next run_e counted happens)
