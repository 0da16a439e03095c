-- Where a write landed in a dword, event by event.
use Rattle.std.proofs.Common.{◌≡◌, ℕ, zero, suc, ◌+◌, ◌*◌, ◌<◌, ◌≤◌, ◌^◌, Bool, true, false, cond, ◌&&◌, ◌||◌, nat_lt, List, [], ◌∷◌, ◌++◌, length, map, Option, Some, None, refl, sym, ap, ◌∙◌, arith}
use Rattle.std.specs.List.{list_any}
use Rattle.std.proofs.lemmas.List.Folds.{list_any-append}
use Rattle.pci_command.specs.declared.command.Space.{Space}
use Rattle.pci_command.specs.declared.op_id.OpId.{OpId}
use Rattle.pci_command.specs.declared.request.Request.{Request}
use Rattle.pci_command.specs.Command.{space_of}
use Rattle.pci_command.specs.Same.{same_op}
use Rattle.board_model.specs.declared.bridge.Place.{Place}
use Rattle.board_model.specs.declared.bridge.Place.TheVariants.{Target, Header, Lane, Nobody}
use Rattle.board_model.specs.declared.board.Board.{Board}
use Rattle.board_model.specs.Requests.{request_of}
use Rattle.board_model.specs.Ways.{address_in}
use Rattle.history_model.specs.declared.event.Step.{Step}
use Rattle.history_model.specs.declared.event.Event.{Event}
use Rattle.history_model.specs.declared.event.Event.TheVariants.{Act, Arrive}
use Rattle.history_model.specs.Words.{Landing, through, without, brings, brought}
use Rattle.history_model.specs.Knowledge.{is_landing_of}
use Rattle.board_model.specs.declared.word.Word.{Word}
use Rattle.audit_clocks.specs.Tables.{same_word, dword}
use Rattle.audit_landings.specs.Hits.{op_of_landing, few_of, count_of, hits, found_hits, place_hits, event_hits, lands}
use Rattle.audit_landings.proofs.Laws.{event_hit}
use Rattle.draw_told.specs.declared.touches.Touch.{Touch}
use Rattle.draw_told.specs.Told.{landing_event}
use Rattle.draw_told.specs.Kept.{TouchTables, Touches, TellsTouches, touches_in, touches_from, found_touches, place_touches, event_touches, last_before}

last_append : (word : Word) (m : ℕ) (xs ys : List Touch) (found : ℕ) → last_before word m (xs ++ ys) found ≡ last_before word m ys (last_before word m xs found)
last_append word m [] ys found = refl
last_append word m (x ∷ xs) ys found = last_append word m xs ys (cond (same_word x.word word && nat_lt x.event m) x.event found)

-- of these operations one is this
has : OpId → List OpId → Bool
has o ops = list_any (λ q. same_op q o) ops

none_of : (b : Bool) (n found : ℕ) → cond (b && false) n found ≡ found
none_of true n found = refl
none_of false n found = refl

one_more : (s b a t : Bool) (n found : ℕ) → t ≡ s → cond (s && b) n (cond (b && a) n found) ≡ cond (b && (a || t)) n found
one_more true true true t n found is = refl
one_more true true false t n found is = ap (λ x. cond x n found) (sym is)
one_more true false a t n found is = refl
one_more false true true t n found is = refl
one_more false true false t n found is = ap (λ x. cond x n found) (sym is)
one_more false false a t n found is = refl

is_one : (s : Bool) (p o : OpId) → same_op p o ≡ true → list_any (λ q. same_op q o) (cond s (p ∷ []) []) ≡ s
is_one true p o same = ap (λ b. b || false) same
is_one false p o same = refl

phases_last : (word : Word) (m n target : ℕ) (space : Space) (at k : ℕ) (p o : OpId) (found : ℕ) → same_op p o ≡ true
    → last_before word m (touches_from n target space at k) found ≡ cond (nat_lt n m && list_any (λ q. same_op q o) (hits word p target space at k)) n found
phases_last word m n target space at zero p o found same = sym (none_of (nat_lt n m) n found)
phases_last word m n target space at (suc k) p o found same =
    let w : Word = record { target = target; space = space; address = at + 4 * k } in
    let s : Bool = same_word w word in
    let b : Bool = nat_lt n m in
    let a : Bool = list_any (λ q. same_op q o) (hits word p target space at k) in
    let t : Bool = list_any (λ q. same_op q o) (cond s (p ∷ []) []) in
    last_append word m (touches_from n target space at k) (record { word = w; event = n } ∷ []) found
    ∙ ap (λ x. cond (s && b) n x) (phases_last word m n target space at k p o found same)
    ∙ one_more s b a t n found (is_one s p o same)
    ∙ ap (λ x. cond (b && x) n found) (sym (list_any-append (λ q. same_op q o) (hits word p target space at k) (cond s (p ∷ []) [])))

-- an event of another operation
is_other : (s : Bool) (p o : OpId) → same_op p o ≡ false → list_any (λ q. same_op q o) (cond s (p ∷ []) []) ≡ false
is_other true p o other = ap (λ b. b || false) other
is_other false p o other = refl

hits_other : (word : Word) (target : ℕ) (space : Space) (at k : ℕ) (p o : OpId) → same_op p o ≡ false → list_any (λ q. same_op q o) (hits word p target space at k) ≡ false
hits_other word target space at zero p o other = refl
hits_other word target space at (suc k) p o other =
    let s : Bool = same_word (record { target = target; space = space; address = at + 4 * k }) word in
    list_any-append (λ q. same_op q o) (hits word p target space at k) (cond s (p ∷ []) [])
    ∙ ap (λ x. x || list_any (λ q. same_op q o) (cond s (p ∷ []) [])) (hits_other word target space at k p o other)
    ∙ is_other s p o other

found_other : (word : Word) (gone : ℕ) (step : Step) (target : ℕ) (p o : OpId) (request : Option Request) → same_op p o ≡ false → list_any (λ q. same_op q o) (found_hits gone p step target request word) ≡ false
found_other word gone step target p o None other = refl
found_other word gone step target p o (Some request) other =
    hits_other word target (space_of request.command) (address_in (space_of request.command) (without gone request).address) (length (brings step (without gone request).phases)) p o other

place_other : (word : Word) (board : Board) (gone on : ℕ) (step : Step) (p o : OpId) (place : Place) → same_op p o ≡ false → list_any (λ q. same_op q o) (place_hits board gone on p step place word) ≡ false
place_other word board gone on step p o (Target target) other =
    elim (lands step) as (λ b. list_any (λ q. same_op q o) (cond b (found_hits gone p step target (request_of board p on) word) []) ≡ false) [
      | true ↦ found_other word gone step target p o (request_of board p on) other
      | false ↦ refl
    ]
place_other word board gone on step p o (Header bus) other = refl
place_other word board gone on step p o (Lane lane) other = refl
place_other word board gone on step p o Nobody other = refl

-- one of the operation
found_last : (word : Word) (m n gone : ℕ) (step : Step) (target : ℕ) (p o : OpId) (request : Option Request) (found : ℕ) → same_op p o ≡ true
    → last_before word m (found_touches n gone step target request) found ≡ cond (nat_lt n m && list_any (λ q. same_op q o) (found_hits gone p step target request word)) n found
found_last word m n gone step target p o None found same = sym (none_of (nat_lt n m) n found)
found_last word m n gone step target p o (Some request) found same =
    phases_last word m n target (space_of request.command) (address_in (space_of request.command) (without gone request).address) (length (brings step (without gone request).phases)) p o found same

place_last : (word : Word) (board : Board) (m n gone on : ℕ) (step : Step) (p o : OpId) (place : Place) (found : ℕ) → same_op p o ≡ true
    → last_before word m (place_touches board n gone on p step place) found ≡ cond (nat_lt n m && list_any (λ q. same_op q o) (place_hits board gone on p step place word)) n found
place_last word board m n gone on step p o (Target target) found same =
    elim (lands step) as (λ b. last_before word m (cond b (found_touches n gone step target (request_of board p on)) []) found
    ≡ cond (nat_lt n m && list_any (λ q. same_op q o) (cond b (found_hits gone p step target (request_of board p on) word) [])) n found) [
      | true ↦ found_last word m n gone step target p o (request_of board p on) found same
      | false ↦ sym (none_of (nat_lt n m) n found)
    ]
place_last word board m n gone on step p o (Header bus) found same = sym (none_of (nat_lt n m) n found)
place_last word board m n gone on step p o (Lane lane) found same = sym (none_of (nat_lt n m) n found)
place_last word board m n gone on step p o Nobody found same = sym (none_of (nat_lt n m) n found)

event_last : (word : Word) (board : Board) (m n : ℕ) (gone : List (OpId × ℕ)) (e : Event) (o : OpId) (found : ℕ)
    → last_before word m (event_touches board n gone e o) found ≡ cond (nat_lt n m && list_any (λ q. same_op q o) (event_hits board gone e word)) n found
event_last word board m n gone (Arrive lane mark) o found = sym (none_of (nat_lt n m) n found)
event_last word board m n gone (Act on by p step place) o found =
    (elim (same_op p o) as (λ b. same_op p o ≡ b → last_before word m (cond b (place_touches board n (few_of p gone) on p step place) []) found
    ≡ cond (nat_lt n m && list_any (λ q. same_op q o) (place_hits board (few_of p gone) on p step place word)) n found) [
      | true ↦ λ same. place_last word board m n (few_of p gone) on step p o place found same
      | false ↦ λ other. sym (none_of (nat_lt n m) n found) ∙ ap (λ x. cond (nat_lt n m && x) n found) (sym (place_other word board (few_of p gone) on step p o place other))
    ]) refl

ops_of : (o : OpId) (landings : List Landing) → list_any (λ q. same_op q o) (map op_of_landing landings) ≡ list_any (is_landing_of o) landings
ops_of o [] = refl
ops_of o (landing ∷ landings) = ap (λ b. same_op landing.op o || b) (ops_of o landings)

-- nothing happened
pub touches_first : (board : Board) → TellsTouches board [] (record { gone = []; writes = [] })
touches_first board = record { gone = λ o. refl; few = λ o. omega arith; landed = λ o word n. refl }

-- one event more
pub touches_next : (board : Board) (h : List Event) (e : Event) (n : ℕ) (old new : TouchTables) → n < 2 ^ 32 → n ≡ suc (length h) → TellsTouches board h old → Touches board n e old new → TellsTouches board (e ∷ h) new
touches_next board h e n old new within counted tells happens =
    let few : (o : OpId) → count_of o old.gone ≤ 2 ^ 100 = λ o. let at_most = tells.few o in let same = tells.gone o in omega (arith, at_most, same, within, counted) in
    let exact : (o : OpId) → few_of o old.gone ≡ through h o = λ o. let at_most = few o in let same = tells.gone o in omega (arith, at_most, same) in
    record {
      gone = λ o. let next = happens.gone.each o (few o) in let same = tells.gone o in omega (arith, next, same);
      few = λ o. let small = happens.gone.small o in let before = tells.few o in omega (arith, small, before);
      landed = λ o word m.
          let found : ℕ = landing_event board h m o (dword word) in
          let any : Bool = list_any (is_landing_of o) (brought board h (dword word) e) in
          ap (λ l. last_before word m l 0) (happens.writes.each o)
          ∙ last_append word m (touches_in o old.writes) (event_touches board n old.gone e o) 0
          ∙ ap (λ x. last_before word m (event_touches board n old.gone e o) x) (tells.landed o word m)
          ∙ event_last word board m n old.gone e o found
          ∙ ap (λ l. cond (nat_lt n m && list_any (λ q. same_op q o) l) n found) (event_hit word board h old.gone e exact)
          ∙ ap (λ x. cond (nat_lt n m && x) n found) (ops_of o (brought board h (dword word) e))
          ∙ ap (λ k. cond (nat_lt k m && any) k found) counted;
    }
